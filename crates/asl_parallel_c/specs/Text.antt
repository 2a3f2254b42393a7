-- The C program of a program (docs/PARALLEL.md).
use Rattle.std.specs.Prelude.{ℕ, Bool, true, false, List, [], ◌∷◌, ◌++◌, length, codes}
use Rattle.asl_code.specs.declared.image.Image.{Image}
use Rattle.asl_parallel_c.specs.declared.options.Options.{Options}
use Rattle.asl_parallel_c.specs.Functions.{functions_from, prototypes_from}
use Rattle.asl_parallel_c.specs.Lists.{classes_text, lists_from, table_text}
use Rattle.asl_parallel_c.specs.Names.{callee}
use Rattle.asl_parallel_c.specs.Template.{filled}

-- the line that asks the runtime to look at each access, where it is wanted
abbrev pub checks_text : Bool → List ℕ
checks_text true = codes "#define ASLR_CHECKS\n"
checks_text false = []

-- the front of the text
abbrev pub front_text : Options → List ℕ
front_text options =
    codes "/* Printed by `asl c`: a program over asl_runtime.h. */\n#define ASLR_EMITTED\n" ++ (checks_text options.checks ++ codes "#include \"asl_runtime.h\"\n\n")

-- the program as a value
abbrev pub this_text : Image → Options → List ℕ
this_text image options =
    filled (codes "static const aslr_program aslr_this = {@, @, aslr_classes, aslr_lists, ") (image.classes ∷ length image.globals ∷ [])
    ++ (callee options image.start ++ codes "};\n\n")

-- the data of the program
abbrev pub data_text : Image → List ℕ
data_text image = classes_text image.globals ++ (lists_from 0 image.lists ++ table_text (length image.lists))

-- the end of the text: `main`, or, where C brings its own, the program's name
abbrev pub main_text : List ℕ
main_text =
    codes "#ifdef ASLR_NO_MAIN\nconst aslr_program *const aslr_printed = &aslr_this;\n#else\n"
    ++ codes "int main(int argc, char **argv) {\n  return aslr_main(&aslr_this, argc, argv);\n}\n#endif\n"

-- the whole text
abbrev pub c_text : Image → Options → List ℕ
c_text image options =
    front_text options
    ++ (data_text image
    ++ (prototypes_from options 0 image.functions
    ++ (codes "\n"
    ++ (this_text image options
    ++ (functions_from image options 0 image.functions 0 image.code
    ++ main_text)))))
