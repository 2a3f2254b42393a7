-- A name that the tree declares twice is declared twice by the tokens, so the place of the second declaration is found.
use Rattle.std.proofs.Common.{◌≡◌, ◌⊎◌, ℕ, List, [], ◌∷◌, Bool, true, false, ◌||◌, if◌then◌else◌, inl, inr, Option, Some, refl, sym, ap, ◌∙◌}
use Rattle.std.specs.Option.{is_some}
use Rattle.std.proofs.lemmas.Bool.{false≢true, or_left, or_right}
use Rattle.asl_grammar.specs.Token.{Token, Fixed, Name, Number, Spot}
use Rattle.asl_grammar.specs.Grammar.{bare}
use Rattle.asl_syntax.specs.Tree.{Item}
use Rattle.asl_syntax.specs.Mentions.{Mention, DeclaresGlobal, DeclaresFunction, DeclaresParameter, AssignsLocal, UsesLocal, UsesGlobal, CallsFunction, mentions}
use Rattle.asl_syntax.specs.Rules.{Names, no_name, with_name, first_twice, twice}
use Rattle.asl_syntax.specs.Spelled.{Spells}
use Rattle.asl_diagnose_text.specs.declared.declared.Seen.{Seen}
use Rattle.asl_diagnose_text.specs.declared.declared.Declares.TheVariants.{Global, Function, Parameter}
use Rattle.asl_diagnose_text.specs.Places.{declares_after}
use Rattle.asl_diagnose_text.specs.SeenView.{seen_nothing, passed, again, is_twice}
use Rattle.asl_diagnose_text.proofs.DeclaringNames.{Told, told, said, all_said, tree_told}
use Rattle.asl_diagnose_text.proofs.RememberedNames.{Keeps, keeps_fixed, keeps_number, same_after, named_so, here, keeps_global, keeps_function, keeps_parameter, keeps_use}

-- what is owed of the rest of a text: a name that its mentions repeat is declared twice
abbrev Later : List ℕ → List Spot → Type 0
Later x ss =
    (ms : List Mention) (gs fs ps : Names) (s : Seen) → told s.next (bare ss) ≡ all_said ms → first_twice gs fs ps ms ≡ Some x → Keeps x gs fs ps s → is_twice x s ss ≡ true

-- a declaration: either it repeats the name, or a later one does
abbrev Repeats : List ℕ → List ℕ → ℕ → List Spot → Seen → Type 0
Repeats x y at ss s =
    (is_some (again x s (Name y)) || is_twice x (passed x s (record { token = Name y; at = at })) ss) ≡ true

later_name : (x y : List ℕ) (at : ℕ) (ss : List Spot) (s : Seen) → is_twice x (passed x s (record { token = Name y; at = at })) ss ≡ true → Repeats x y at ss s
later_name x y at ss s h =
    or_right (is_some (again x s (Name y))) (is_twice x (passed x s (record { token = Name y; at = at })) ss) h

this_name : (x y : List ℕ) (at : ℕ) (ss : List Spot) (s : Seen) → is_some (again x s (Name y)) ≡ true → Repeats x y at ss s
this_name x y at ss s h =
    or_left (is_some (again x s (Name y))) (is_twice x (passed x s (record { token = Name y; at = at })) ss) h

-- of a test, the name that is answered where it holds, and what is left to judge
tested : (b : Bool) (z x : List ℕ) (rest : Option (List ℕ)) → (if b then Some z else rest) ≡ Some x → ((b ≡ true) × (z ≡ x)) ⊎ (rest ≡ Some x)
tested true z x rest e = inl (refl, cc)
tested false z x rest e = inr e

repeats_name : (x y : List ℕ) (at : ℕ) (ss : List Spot) (m : Mention) (ms : List Mention) (gs fs ps : Names) (s : Seen) → Later x ss → said m ≡ record { what = s.next; name = y } → told (declares_after s.next (Name y)) (bare ss) ≡ all_said ms → first_twice gs fs ps (m ∷ ms) ≡ Some x → Keeps x gs fs ps s → Repeats x y at ss s
repeats_name x y at ss (DeclaresGlobal z) ms gs fs ps s later e t f k =
    let n : s.next ≡ Global = sym (ap (λ (u : Told). u.what) e) in
    let same : y ≡ z = sym (ap (λ (u : Told). u.name) e) in
    elim (tested (gs z) z x (first_twice (with_name z gs) fs ps ms) f) [
      | inl h ↦ this_name x y at ss s (here x y s Global (named_so y z x same h.1) n (k.globals (ap gs (sym h.1) ∙ h.0)))
      | inr h ↦ later_name x y at ss s (later ms (with_name z gs) fs ps (passed x s (record { token = Name y; at = at })) t h (keeps_global x y z gs fs ps s at n same k))
    ]
repeats_name x y at ss (DeclaresFunction z) ms gs fs ps s later e t f k =
    let n : s.next ≡ Function = sym (ap (λ (u : Told). u.what) e) in
    let same : y ≡ z = sym (ap (λ (u : Told). u.name) e) in
    elim (tested (fs z) z x (first_twice gs (with_name z fs) no_name ms) f) [
      | inl h ↦ this_name x y at ss s (here x y s Function (named_so y z x same h.1) n (k.functions (ap fs (sym h.1) ∙ h.0)))
      | inr h ↦ later_name x y at ss s (later ms gs (with_name z fs) no_name (passed x s (record { token = Name y; at = at })) t h (keeps_function x y z gs fs ps s at n same k))
    ]
repeats_name x y at ss (DeclaresParameter z) ms gs fs ps s later e t f k =
    let n : s.next ≡ Parameter = sym (ap (λ (u : Told). u.what) e) in
    let same : y ≡ z = sym (ap (λ (u : Told). u.name) e) in
    elim (tested (ps z) z x (first_twice gs fs (with_name z ps) ms) f) [
      | inl h ↦ this_name x y at ss s (here x y s Parameter (named_so y z x same h.1) n (k.parameters n (ap ps (sym h.1) ∙ h.0)))
      | inr h ↦ later_name x y at ss s (later ms gs fs (with_name z ps) (passed x s (record { token = Name y; at = at })) t h (keeps_parameter x y z gs fs ps s at n same k))
    ]
repeats_name x y at ss (AssignsLocal z) ms gs fs ps s later e t f k =
    later_name x y at ss s (later ms gs fs ps (passed x s (record { token = Name y; at = at })) t f (keeps_use x y gs fs ps s at (sym (ap (λ (u : Told). u.what) e)) k))
repeats_name x y at ss (UsesLocal z) ms gs fs ps s later e t f k =
    later_name x y at ss s (later ms gs fs ps (passed x s (record { token = Name y; at = at })) t f (keeps_use x y gs fs ps s at (sym (ap (λ (u : Told). u.what) e)) k))
repeats_name x y at ss (UsesGlobal z) ms gs fs ps s later e t f k =
    later_name x y at ss s (later ms gs fs ps (passed x s (record { token = Name y; at = at })) t f (keeps_use x y gs fs ps s at (sym (ap (λ (u : Told). u.what) e)) k))
repeats_name x y at ss (CallsFunction z c) ms gs fs ps s later e t f k =
    later_name x y at ss s (later ms gs fs ps (passed x s (record { token = Name y; at = at })) t f (keeps_use x y gs fs ps s at (sym (ap (λ (u : Told). u.what) e)) k))

repeats_at : (x : List ℕ) (t : Token) (at : ℕ) (ss : List Spot) (ms : List Mention) (gs fs ps : Names) (s : Seen) → Later x ss → told s.next (t ∷ bare ss) ≡ all_said ms → first_twice gs fs ps ms ≡ Some x → Keeps x gs fs ps s → (is_some (again x s t) || is_twice x (passed x s (record { token = t; at = at })) ss) ≡ true
repeats_at x (Fixed m) at ss ms gs fs ps s later e f k =
    later ms gs fs ps (passed x s (record { token = Fixed m; at = at })) e f (keeps_fixed x gs fs ps s m at k)
repeats_at x (Number n) at ss ms gs fs ps s later e f k =
    later ms gs fs ps (passed x s (record { token = Number n; at = at })) e f (keeps_number x gs fs ps s n at k (same_after s.next n))
repeats_at x (Name y) at ss [] gs fs ps s later e f k = absurd cc
repeats_at x (Name y) at ss (m ∷ ms) gs fs ps s later e f k =
    let first : said m ≡ record { what = s.next; name = y } = cc in
    let rest : told (declares_after s.next (Name y)) (bare ss) ≡ all_said ms = cc in
    repeats_name x y at ss m ms gs fs ps s later first rest f k

repeats : (x : List ℕ) (ss : List Spot) → Later x ss
repeats x [] [] gs fs ps s e f k = absurd cc
repeats x [] (m ∷ ms) gs fs ps s e f k = absurd cc
repeats x (t ∷ ss) ms gs fs ps s e f k =
    repeats_at x t.token t.at ss ms gs fs ps s (repeats x ss) e f k

pub repeated_there : (tree : List Item) (ss : List Spot) (x : List ℕ) → Spells tree (bare ss) → twice tree ≡ Some x → is_twice x seen_nothing ss ≡ true
repeated_there tree ss x h e =
    repeats x ss (mentions tree) no_name no_name no_name seen_nothing (tree_told tree (bare ss) h) e (record { globals = λ f. absurd (false≢true f); functions = λ f. absurd (false≢true f); parameters = λ n f. absurd (false≢true f) })
