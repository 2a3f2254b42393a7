-- The text of functions.
use Rattle.std.specs.Prelude.{ℕ, zero, suc, ◌+◌, ◌-◌, List, [], ◌∷◌, ◌++◌, length, take, drop, Option, None, Some, codes}
use Rattle.asl_code.specs.declared.image.Function.{Function}
use Rattle.asl_code.specs.declared.image.Image.{Image}
use Rattle.asl_code.specs.declared.instr.Instr.{Instr}
use Rattle.asl_parallel_c.specs.declared.options.Options.{Options}
use Rattle.asl_parallel_c.specs.Instrs.{instr_text}
use Rattle.asl_parallel_c.specs.Names.{name_of, stand_in, comment, local_comment}
use Rattle.asl_parallel_c.specs.Template.{filled, repeated}

-- how a function begins: one with a name of its own in C may be that of another text, or be called by one
abbrev pub declared : Option (List ℕ) → ℕ → List ℕ
declared (Some name) number = codes "aslr_value " ++ (name ++ codes "(aslr_thread *t")
declared None number = filled (codes "static aslr_value aslr_f@(aslr_thread *t") (number ∷ [])

-- the parameters of a function
abbrev pub params_text : ℕ → List ℕ
params_text params = repeated (codes ", aslr_value r@") 0 params

-- the prototype of the function of this number
abbrev pub prototype_text : Options → ℕ → Function → List ℕ
prototype_text options number f = declared (name_of options number) number ++ (params_text f.params ++ codes ");\n")

-- the prototypes of functions, numbered from this number on
abbrev pub prototypes_from : Options → ℕ → List Function → List ℕ
prototypes_from options number [] = []
prototypes_from options number (f ∷ fs) = prototype_text options number f ++ prototypes_from options (number + 1) fs

-- the line of a local: the template with its register, and its name in the source
abbrev pub local_text : Options → ℕ → List ℕ → ℕ → List ℕ
local_text options number template register = filled template (register ∷ register ∷ []) ++ (local_comment options number register ++ codes "\n")

-- the lines of so many locals of the function of this number, from the first on
abbrev pub locals_from : Options → ℕ → List ℕ → ℕ → ℕ → List ℕ
locals_from options number template first zero = []
locals_from options number template first (suc count) = local_text options number template first ++ locals_from options number template (first + 1) count

-- the registers of the function of this number: its parameters are there, and all others begin as 0
abbrev pub registers_text : Options → ℕ → Function → List ℕ
registers_text options number f =
    locals_from options number (codes "  (void)r@;") 0 f.params ++ locals_from options number (codes "  aslr_value r@ = 0; (void)r@;") f.params (f.regs - f.params)

-- the head of the function of this number
abbrev pub head_text : Options → ℕ → Function → List ℕ
head_text options number f =
    declared (name_of options number) number
    ++ (params_text f.params ++ (codes ") {" ++ (comment options number ++ (codes "\n  (void)t;\n" ++ registers_text options number f))))

-- the line of the instruction at this place of the code: a label, and the instruction
abbrev pub line_text : Image → Options → ℕ → ℕ → Instr → List ℕ
line_text image options regs place i = filled (codes "L@: ") (place ∷ []) ++ instr_text image options regs i

-- the lines of instructions, of which the first is at this place
abbrev pub lines_from : Image → Options → ℕ → ℕ → List Instr → List ℕ
lines_from image options regs place [] = []
lines_from image options regs place (i ∷ is) = line_text image options regs place i ++ lines_from image options regs (place + 1) is

-- a text, where there is no name
abbrev pub unless_named : Option (List ℕ) → List ℕ → List ℕ
unless_named (Some name) text = []
unless_named None text = text

-- the function of this number, whose body begins at this place; nothing where a C function stands for it
abbrev pub function_text : Image → Options → ℕ → Function → ℕ → List Instr → List ℕ
function_text image options number f place body =
    unless_named (stand_in options number) (head_text options number f ++ (lines_from image options f.regs place body ++ codes "}\n\n"))

-- the functions, numbered from this number on: their bodies lie one after the other in this code, which begins at this place
abbrev pub functions_from : Image → Options → ℕ → List Function → ℕ → List Instr → List ℕ
functions_from image options number [] place code = []
functions_from image options number (f ∷ fs) place code =
    function_text image options number f place (take f.len code)
    ++ functions_from image options (number + 1) fs (place + length (take f.len code)) (drop f.len code)
