-- One token of the builder's loop, and what the whole loop tells of a text.
use Rattle.std.proofs.Common.{◌≡◌, ℕ, List, [], ◌∷◌, Bool, true, false, Option, Some, None, if◌then◌else◌, refl, sym, ap, ◌∙◌}
use Rattle.asl_grammar.specs.Token.{Spot}
use Rattle.asl_grammar.specs.Automaton.{Control}
use Rattle.asl_syntax.specs.Tree.{Item}
use Rattle.asl_syntax.specs.Limit.{Tally, is_over}
use Rattle.asl_syntax.specs.Tallied.{noted}
use Rattle.asl_syntax.specs.Built.{Stack, State, next}
use Rattle.asl_syntax.proofs.Tallying.{over_from}
use Rattle.asl_syntax.proofs.Whole.{built_with, built_from, whole_text, read_from}

-- from one token within the limits on
pub read_on : (y : Tally) (c : Control) (s : Stack) (x : Spot) (xs : List Spot) (bad : Option ℕ) → is_over y x.token ≡ false → read_from y c s (x ∷ xs) bad ≡ built_with (next c s x.token) (λ d r. read_from (noted y x.token) d r xs bad)
read_on y c s x xs bad h =
    ap (λ (b : Bool). if b then None else built_with (next c s x.token) (λ d r. read_from (noted y x.token) d r xs bad)) h

-- what is left builds the same
pub same_next : (y z : Tally) (c d : Control) (s r : Stack) (x : Spot) (all : Option (List Item)) (rest left : List Spot) (bad after : Option ℕ) → read_from y c s rest bad ≡ all → rest ≡ x ∷ left → bad ≡ after → is_over y x.token ≡ false → Some (record { control = d; stack = r }) ≡ next c s x.token → z ≡ noted y x.token → read_from z d r left after ≡ all
same_next y z c d s r x all rest left bad after h e b o n f =
    ap (λ (t : Tally). read_from t d r left after) f
    ∙ ap (λ (p : Option State). built_with p (λ g q. read_from (noted y x.token) g q left after)) n
    ∙ sym (read_on y c s x left after o)
    ∙ ap (λ (p : Option ℕ). read_from y c s (x ∷ left) p) (sym b)
    ∙ ap (λ (ss : List Spot). read_from y c s ss bad) (sym e)
    ∙ h

-- nothing is built where a token passes a limit
pub stopped_over : (y : Tally) (c : Control) (s : Stack) (x : Spot) (all : Option (List Item)) (rest left : List Spot) (bad : Option ℕ) → read_from y c s rest bad ≡ all → rest ≡ x ∷ left → is_over y x.token ≡ true → None ≡ all
stopped_over y c s x all rest left bad h e o =
    sym (ap (λ (b : Bool). if b then None else built_with (next c s x.token) (λ d r. read_from (noted y x.token) d r left bad)) o)
    ∙ ap (λ (ss : List Spot). read_from y c s ss bad) (sym e)
    ∙ h

-- nor where it may not stand
pub stopped_token : (y : Tally) (c : Control) (s : Stack) (x : Spot) (all : Option (List Item)) (rest left : List Spot) (bad : Option ℕ) → read_from y c s rest bad ≡ all → rest ≡ x ∷ left → is_over y x.token ≡ false → None ≡ next c s x.token → None ≡ all
stopped_token y c s x all rest left bad h e o n =
    ap (λ (p : Option State). built_with p (λ g q. read_from (noted y x.token) g q left bad)) n
    ∙ sym (read_on y c s x left bad o)
    ∙ ap (λ (ss : List Spot). read_from y c s ss bad) (sym e)
    ∙ h

-- after the last token
pub at_last : (y : Tally) (c : Control) (s : Stack) (all : Option (List Item)) (rest : List Spot) (bad after : Option ℕ) → read_from y c s rest bad ≡ all → rest ≡ [] → bad ≡ after → whole_text c s after ≡ all
at_last y c s all rest bad after h e b =
    ap (whole_text c s) (sym b) ∙ ap (λ (ss : List Spot). read_from y c s ss bad) (sym e) ∙ h

-- a text that is read keeps all that reading asks
pub record IsReadWhole (y : Tally) (c : Control) (s : Stack) (xs : List Spot) (bad : Option ℕ) (v : List Item) : Type 0 where
  pub tokens : bad ≡ None
  pub limits : over_from y xs ≡ None
  pub built : built_from c s xs ≡ Some v

at_end : (y : Tally) (c : Control) (s : Stack) (bad : Option ℕ) (v : List Item) → whole_text c s bad ≡ Some v → IsReadWhole y c s [] bad v
at_end y c s None v e = record { tokens = refl; limits = refl; built = e }
at_end y c s (Some at) v e = cc

-- after a token
abbrev Goes : Tally → Option State → List Spot → Option ℕ → List Item → Type 0
Goes y o xs bad v = (bad ≡ None) × ((over_from y xs ≡ None) × (built_with o (λ d r. built_from d r xs) ≡ Some v))

goes : (y : Tally) (o : Option State) (xs : List Spot) (bad : Option ℕ) (v : List Item) → ((d : Control) (r : Stack) → read_from y d r xs bad ≡ Some v → IsReadWhole y d r xs bad v) → built_with o (λ d r. read_from y d r xs bad) ≡ Some v → Goes y o xs bad v
goes y None xs bad v go e = cc
goes y (Some w) xs bad v go e =
    let h = go w.control w.stack e in
    (h.tokens, (h.limits, h.built))

with_token : (y : Tally) (c : Control) (s : Stack) (x : Spot) (xs : List Spot) (bad : Option ℕ) (v : List Item) (b : Bool) → is_over y x.token ≡ b → (built_with (next c s x.token) (λ d r. read_from (noted y x.token) d r xs bad) ≡ Some v → Goes (noted y x.token) (next c s x.token) xs bad v) → (if b then None else built_with (next c s x.token) (λ d r. read_from (noted y x.token) d r xs bad)) ≡ Some v → IsReadWhole y c s (x ∷ xs) bad v
with_token y c s x xs bad v true h go e = cc
with_token y c s x xs bad v false h go e =
    let g = go e in
    record {
      tokens = g.0;
      limits = ap (λ (b : Bool). if b then Some x.at else over_from (noted y x.token) xs) h ∙ g.1.0;
      built = g.1.1;
    }

pub read_whole : (xs : List Spot) (y : Tally) (c : Control) (s : Stack) (bad : Option ℕ) (v : List Item) → read_from y c s xs bad ≡ Some v → IsReadWhole y c s xs bad v
read_whole [] y c s bad v e = at_end y c s bad v e
read_whole (x ∷ xs) y c s bad v e =
    with_token y c s x xs bad v (is_over y x.token) refl
    (goes (noted y x.token) (next c s x.token) xs bad v (λ d r. read_whole xs (noted y x.token) d r bad v)) e

built_same : (o : Option State) (go on : Control → Stack → Option (List Item)) → ((d : Control) (r : Stack) → go d r ≡ on d r) → built_with o go ≡ built_with o on
built_same None go on h = refl
built_same (Some w) go on h = h w.control w.stack

none_over : (b : Bool) (at : ℕ) (o : Option ℕ) → (if b then Some at else o) ≡ None → (b ≡ false) × (o ≡ None)
none_over true at o e = cc
none_over false at o e = (refl, e)

-- tokens within the limits build the same, whether limits are looked at or not
pub read_built : (xs : List Spot) (y : Tally) (c : Control) (s : Stack) → over_from y xs ≡ None → read_from y c s xs None ≡ built_from c s xs
read_built [] y c s h = refl
read_built (x ∷ xs) y c s h =
    let k = none_over (is_over y x.token) x.at (over_from (noted y x.token) xs) h in
    read_on y c s x xs None k.0
    ∙ built_same (next c s x.token) (λ d r. read_from (noted y x.token) d r xs None) (λ d r. built_from d r xs) (λ d r. read_built xs (noted y x.token) d r k.1)
