-- The text of each instruction: a line.
use Rattle.std.specs.Prelude.{ℕ, ℤ, List, [], ◌∷◌, ◌++◌, Option, None, Some, codes, slice_get}
use Rattle.std.specs.Fmt.{signed_decimal}
use Rattle.asl_code.specs.declared.image.Function.{Function}
use Rattle.asl_code.specs.declared.image.Image.{Image}
use Rattle.asl_code.specs.declared.instr.Instr.{Instr}
use Rattle.asl_code.specs.declared.instr.Instr.TheVariants as instr
use Rattle.asl_parallel_c.specs.declared.options.Options.{Options}
use Rattle.asl_parallel_c.specs.Names.{callee}
use Rattle.asl_parallel_c.specs.Template.{filled, repeated}

-- how many parameters it has, if it is there
abbrev pub params_in : Option Function → ℕ
params_in (Some f) = f.params
params_in None = 0

-- how many parameters the function has
abbrev pub params_of : List Function → ℕ → ℕ
params_of functions function = params_in (slice_get functions function)

-- an integer
abbrev pub integer_text : ℕ → ℤ → List ℕ
integer_text to value = filled (codes "r@ = aslr_int(") (to ∷ []) ++ (signed_decimal value ++ codes ");\n")

-- a call: its arguments are the registers from the first on, as many as the function has parameters
abbrev pub call_text : Image → Options → ℕ → ℕ → ℕ → List ℕ
call_text image options to first function =
    filled (codes "aslr_call(t); r@ = ") (to ∷ [])
    ++ (callee options function ++ (codes "(t" ++ (repeated (codes ", r@") first (params_of image.functions function) ++ codes "); aslr_return(t);\n")))

-- the entry of a section: it is handed all registers of its function
abbrev pub enter_text : ℕ → ℕ → List ℕ
enter_text regs list = filled (codes "{ aslr_enter(t, @, (const aslr_value[]){") (list ∷ []) ++ (repeated (codes "r@, ") 0 regs ++ codes "0}); }\n")

-- an instruction of a function that has so many registers
abbrev pub instr_text : Image → Options → ℕ → Instr → List ℕ
instr_text image options regs (instr.SetInt to value) = integer_text to value
instr_text image options regs (instr.SetNull to) = filled (codes "r@ = ASLR_NULL;\n") (to ∷ [])
instr_text image options regs (instr.Move to from) = filled (codes "r@ = r@;\n") (to ∷ from ∷ [])
instr_text image options regs (instr.Add to left right) = filled (codes "r@ = aslr_add(t, r@, r@);\n") (to ∷ left ∷ right ∷ [])
instr_text image options regs (instr.Subtract to left right) = filled (codes "r@ = aslr_sub(t, r@, r@);\n") (to ∷ left ∷ right ∷ [])
instr_text image options regs (instr.LessThan to left right) = filled (codes "r@ = aslr_lt(t, r@, r@);\n") (to ∷ left ∷ right ∷ [])
instr_text image options regs (instr.Equals to left right) = filled (codes "r@ = aslr_eq(t, r@, r@);\n") (to ∷ left ∷ right ∷ [])
instr_text image options regs (instr.GlobalAddress to global) = filled (codes "r@ = aslr_glob(t, @);\n") (to ∷ global ∷ [])
instr_text image options regs (instr.FieldAddress to from offset) = filled (codes "r@ = aslr_field(t, r@, @);\n") (to ∷ from ∷ offset ∷ [])
instr_text image options regs (instr.Load to address) = filled (codes "r@ = aslr_load(t, r@);\n") (to ∷ address ∷ [])
instr_text image options regs (instr.Store address from) = filled (codes "aslr_store(t, r@, r@);\n") (address ∷ from ∷ [])
instr_text image options regs (instr.New to cells class) = filled (codes "r@ = aslr_new(t, @, @);\n") (to ∷ cells ∷ class ∷ [])
instr_text image options regs (instr.Jump target) = filled (codes "goto L@;\n") (target ∷ [])
instr_text image options regs (instr.JumpIfZero test target) = filled (codes "if (aslr_jz(r@)) goto L@;\n") (test ∷ target ∷ [])
instr_text image options regs (instr.Call to first function) = call_text image options to first function
instr_text image options regs (instr.Return from) = filled (codes "return r@;\n") (from ∷ [])
instr_text image options regs (instr.Output from) = filled (codes "aslr_out(t, r@);\n") (from ∷ [])
instr_text image options regs (instr.Acquire list) = enter_text regs list
instr_text image options regs instr.Release = filled (codes "aslr_leave(t);\n") []
