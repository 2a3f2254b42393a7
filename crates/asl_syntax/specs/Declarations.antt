-- Machinery of the proofs, not of the promise: of the names of a program (specs/Mentions) those that items declare, the
-- globals, the functions and their parameters. The bodies of functions are left out.
use Rattle.std.specs.Prelude.{List, [], ◌∷◌, ◌++◌, map}
use Rattle.asl_syntax.specs.Tree.{Item, GlobalItem, FunctionItem}
use Rattle.asl_syntax.specs.Mentions.{Mention, DeclaresGlobal, DeclaresFunction, DeclaresParameter}

-- those of a global or a function
abbrev pub item_declarations : Item → List Mention
item_declarations (GlobalItem x) = DeclaresGlobal x ∷ []
item_declarations (FunctionItem f) = DeclaresFunction f.name ∷ map DeclaresParameter f.parameters

-- those of a program
abbrev pub declarations : List Item → List Mention
declarations [] = []
declarations (i ∷ is) = item_declarations i ++ declarations is
