-- Machinery of the proofs, not of the promise: the bytes of names after references, as the names that definitions
-- speak of (docs/SOURCE.md).
use Rattle.std.specs.Prelude.{ℕ, List, map}
use Rattle.std.specs.Borrow.{Bor}

-- the names that the references point to
abbrev pub names_of : List (Bor (List ℕ)) → List (List ℕ)
names_of ns = map (λ (n : Bor (List ℕ)). n.now) ns
