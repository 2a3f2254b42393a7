-- The names that a map knows (docs/SOURCE.md, "The map").
use Rattle.std.specs.Prelude.{ℕ, List, Option, option_map, option_and_then, slice_get, Vec}
use Rattle.std.specs.declared.alloc.Global.{Global}
use Rattle.asl_map.specs.declared.map.Map.{Map}
use Rattle.asl_map.specs.declared.text_piece.Named.{Named}

-- the name of a function
abbrev pub function_name : Map → ℕ → Option (List ℕ)
function_name m function = option_map (λ (f : Named). f.name) (slice_get m.functions.items function)

-- the name of the local of a register
abbrev pub register_name : Map → ℕ → ℕ → Option (List ℕ)
register_name m function register =
    option_and_then (λ (names : Vec (List ℕ) Global). slice_get names.items register) (slice_get m.registers.items function)
