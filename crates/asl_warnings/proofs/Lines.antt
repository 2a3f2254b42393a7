-- What a loop makes of the elements of a list, from nothing on.
use Rattle.std.proofs.Common.{◌≡◌, List, [], ◌++◌, ap}
use Rattle.std.specs.List.{flat_map}
use Rattle.asl_class_text.proofs.Made.{Flat}

pub begun_flat : {A B : Type 0} (made : A → List B) (xs : List A) (now : List B) → now ≡ [] → Flat made xs 0 [] now
begun_flat {A} {B} made xs now is = record { all = ap (λ (l : List B). l ++ flat_map made xs) is }
