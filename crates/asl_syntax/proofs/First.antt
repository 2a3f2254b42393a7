-- The first element of a list of which a property does not hold.
use Rattle.std.proofs.Common.{List, [], ◌∷◌, refl, ap}
use Rattle.std.proofs.lemmas.List.Elements.{All-nil, All-from_recursion, recursion_from_All}
use Rattle.asl_syntax.specs.FirstFault.{IsFirstWithout}

abbrev pub first_here : {X : Type 0} (P : X → Type 0) (x : X) (xs : List X) → (P x → ⊥) → IsFirstWithout P (x ∷ xs) x
first_here P x xs h = record { before = []; behind = xs; split = refl; holds_before = All-nil P; not_here = h }

abbrev pub first_later : {X : Type 0} (P : X → Type 0) (y : X) (xs : List X) (x : X) → P y → IsFirstWithout P xs x → IsFirstWithout P (y ∷ xs) x
first_later P y xs x h k = record {
  before = y ∷ k.before;
  behind = k.behind;
  split = ap (λ l. y ∷ l) k.split;
  holds_before = All-from_recursion P (y ∷ k.before) (h, recursion_from_All P k.before k.holds_before);
  not_here = k.not_here;
}

-- a property that says the same
pub first_same : {X : Type 0} (P Q : X → Type 0) (xs : List X) (x : X) → ((y : X) → P y → Q y) → ((y : X) → Q y → P y) → IsFirstWithout P xs x → IsFirstWithout Q xs x
first_same P Q xs x to from k = record {
  before = k.before;
  behind = k.behind;
  split = k.split;
  holds_before = λ i d low. to _ (k.holds_before i d low);
  not_here = λ h. k.not_here (from x h);
}
