-- What a call that reads a printed tree answers (docs/SOURCE.md, "Printing").
use Rattle.std.specs.Prelude.{◌≡◌, ℕ, ◌<◌, ◌≤◌, ◌⊎◌, List, length, Result, Ok, Err}
use Rattle.asl_syntax.specs.declared.ast.Ast as ast
use Rattle.asl_syntax.specs.declared.fault.SyntaxFault as code
use Rattle.asl_syntax.specs.declared.fault.SyntaxFault.TheVariants.{Limit, OutOfMemory}
use Rattle.asl_syntax.specs.AstView.{tree_of}
use Rattle.asl_syntax.specs.Tree.{Item}

-- the tree, if the text is not too long; else the first byte that is too many; or memory ran out
abbrev pub IsReadBack : List Item → List ℕ → Result ast.Ast code.SyntaxFault → Type 0
IsReadBack tree text (Ok a) = (tree_of a ≡ tree) × length text ≤ 1048576
IsReadBack tree text (Err e) = ((e ≡ Limit 1048576) × 1048576 < length text) ⊎ (e ≡ OutOfMemory)
