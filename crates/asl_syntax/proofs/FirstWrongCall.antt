-- The place of a wrong call is that of the first.
use Rattle.std.proofs.Common.{◌≡◌, ◌⊎◌, inl, inr, ℕ, List, [], ◌∷◌, length, slice_get, Bool, true, false, Option, Some, None, if◌then◌else◌, refl, sym, ap, ◌∙◌}
use Rattle.std.proofs.lemmas.Bool.{false≢true}
use Rattle.asl_grammar.specs.Token.{Spot}
use Rattle.asl_grammar.specs.Grammar.{bare}
use Rattle.asl_syntax.specs.Tree.{Item}
use Rattle.asl_syntax.specs.Mentions.{Mention, DeclaresGlobal, DeclaresFunction, DeclaresParameter, AssignsLocal, UsesLocal, UsesGlobal, CallsFunction, mentions}
use Rattle.asl_syntax.specs.Rules.{Counts, twice, unknown, parameter_counts, is_wrong_call, wrong_call_from, wrong_call, name_places}
use Rattle.asl_syntax.specs.Spelled.{Spells}
use Rattle.asl_syntax.specs.FirstFault.{IsFirstWithout, IsRightCall, IsFirstWrongCall}
use Rattle.asl_syntax.proofs.Among.{Among}
use Rattle.asl_syntax.proofs.First.{first_here, first_later}
use Rattle.asl_syntax.proofs.Called.{arity_where, right_where}

told_here : (b : Bool) (own at : ℕ) (o : Option ℕ) → (if b then Some own else o) ≡ Some at → ((b ≡ true) × (own ≡ at)) ⊎ ((b ≡ false) × (o ≡ Some at))
told_here true own at o e = inl (refl, cc)
told_here false own at o e = inr (refl, e)

-- the first mention without a property that says that it is not wrong, and its place
abbrev Told : (Mention → Type 0) → List Mention → List ℕ → ℕ → Type 0
Told P ms places at =
    (m : Mention) × (k : IsFirstWithout P ms m) × (slice_get places (length k.before) ≡ Some at)

told : (counts : Counts) (P : Mention → Type 0) (ms : List Mention) (places : List ℕ) (at : ℕ) → ((m : Mention) → Among ms m → is_wrong_call counts m ≡ false → P m) → ((m : Mention) → P m → is_wrong_call counts m ≡ false)
    → wrong_call_from counts ms places ≡ Some at → Told P ms places at
told counts P [] places at to from e = absurd cc
told counts P (m ∷ ms) [] at to from e = absurd cc
told counts P (m ∷ ms) (p ∷ places) at to from e =
    elim (told_here (is_wrong_call counts m) p at (wrong_call_from counts ms places) e) [
      | inl k ↦ (m, first_here P m ms (λ h. false≢true (sym (from m h) ∙ k.0)), ap Some k.1)
      | inr k ↦ (let rest = told counts P ms places at (λ n there. to n (inr there)) from k.1 in (rest.0, first_later P m ms rest.0 (to m (inl refl) k.0) rest.1, rest.2))
    ]

right_to : (t : List Item) → unknown t ≡ None → (m : Mention) → Among (mentions t) m → is_wrong_call (parameter_counts t) m ≡ false → IsRightCall t m
right_to t known (DeclaresGlobal x) h e = tt
right_to t known (DeclaresFunction x) h e = tt
right_to t known (DeclaresParameter x) h e = tt
right_to t known (AssignsLocal x) h e = tt
right_to t known (UsesLocal x) h e = tt
right_to t known (UsesGlobal x) h e = tt
right_to t known (CallsFunction x n) h e = arity_where t known x n h e

right_from : (t : List Item) → twice t ≡ None → (m : Mention) → IsRightCall t m → is_wrong_call (parameter_counts t) m ≡ false
right_from t once (DeclaresGlobal x) h = refl
right_from t once (DeclaresFunction x) h = refl
right_from t once (DeclaresParameter x) h = refl
right_from t once (AssignsLocal x) h = refl
right_from t once (UsesLocal x) h = refl
right_from t once (UsesGlobal x) h = refl
right_from t once (CallsFunction x n) h = right_where t once x n h

pub wrong_call_first : (t : List Item) (ss : List Spot) (at : ℕ) → Spells t (bare ss) → twice t ≡ None → unknown t ≡ None → wrong_call t ss ≡ Some at → IsFirstWrongCall t ss at
wrong_call_first t ss at s once known e =
    let k = told (parameter_counts t) (IsRightCall t) (mentions t) (name_places ss) at (right_to t known) (right_from t once) e in
    record { mention = k.0; first = k.1; placed = k.2 }
