-- The tree of an `Ast` (src/ast.rt), which is that of a program of docs/SOURCE.md, "Grammar".
use Rattle.std.specs.Prelude.{List}
use Rattle.asl_syntax.specs.declared.ast.Ast as code
use Rattle.asl_syntax.specs.Tree.{Item}
use Rattle.asl_syntax.specs.View.{items_of}

-- its globals and functions in the order of the text
abbrev pub tree_of : code.Ast → List Item
tree_of a = items_of a.items
