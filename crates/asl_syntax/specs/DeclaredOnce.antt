-- What it means that a program declares each name once
-- (docs/SOURCE.md, "Refusals"). The law names_are_declared_once ties it to `twice` of specs/Rules.
use Rattle.std.specs.Prelude.{List, map, bytes_eq}
use Rattle.std.specs.List.{All, IsDistinct}
use Rattle.asl_syntax.specs.Tree.{Function, Item, globals_of, functions_of}

-- no two globals have one name, no two functions, and no two parameters of one function
pub record AreDeclaredOnce (tree : List Item) : Type 0 where
  pub globals : IsDistinct bytes_eq (globals_of tree)
  pub functions : IsDistinct bytes_eq (map (λ (f : Function). f.name) (functions_of tree))
  pub parameters : All (λ (f : Function). IsDistinct bytes_eq f.parameters) (functions_of tree)
