-- A path that parts at one of its `*`.
use Rattle.std.specs.Prelude.{◌≡◌, List, ◌∷◌, ◌++◌}
use Rattle.asl_code.specs.declared.path.Op.{Op}
use Rattle.asl_code.specs.declared.path.Op.TheVariants.{Deref}

-- the path is a front, a `*` and a rest, and these two are such
abbrev pub PartsAtStar : List Op → (List Op → List Op → Type 0) → Type 0
PartsAtStar ops Such = (front : List Op) × (rest : List Op) × (ops ≡ front ++ Deref ∷ rest) × Such front rest
