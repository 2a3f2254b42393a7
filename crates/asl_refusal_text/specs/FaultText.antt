-- The names of faults, as a line of standard error has them (docs/CLI.md, "Refusals"). Numbers are in decimal digits.
use Rattle.std.specs.Prelude.{ℕ, List, [], ◌∷◌, ◌++◌, Option, None, Some, codes}
use Rattle.std.specs.Fmt.{decimal}
use Rattle.std.specs.List.{flat_map}
use Rattle.asl_code.specs.declared.fault.VerifyFault.{VerifyFault}
use Rattle.asl_code.specs.declared.fault.VerifyFault.TheVariants as verify
use Rattle.asl_code.specs.declared.value.Effect.{Effect}
use Rattle.asl_code.specs.declared.value.Effect.TheVariants as effect
use Rattle.asl_code.specs.declared.path.Op.{Op}
use Rattle.asl_code.specs.declared.path.Op.TheVariants as op
use Rattle.asl_code.specs.declared.lock.Base.{Base}
use Rattle.asl_code.specs.declared.lock.Base.TheVariants as base
use Rattle.asl_code.specs.declared.lock.Lock.{Lock}
use Rattle.asl_code.specs.declared.lock.Lock.TheVariants as lock
use Rattle.asl_code.specs.declared.instr.Instr.{Instr}
use Rattle.asl_code.specs.Operands.{operands}
use Rattle.asl_assembler.specs.Words.{Token, name_of}
use Rattle.asl_assembler.specs.Text.{instr_name, operand_tokens}
use Rattle.asl_assembler.specs.Canonical.{word_of}
use Rattle.asl_assembler.specs.declared.assembly.AsmFault.{AsmFault}
use Rattle.asl_assembler.specs.declared.assembly.AsmFault.TheVariants as asm
use Rattle.asl_loader.specs.declared.fault.LoadFault.{LoadFault}
use Rattle.asl_loader.specs.declared.fault.LoadFault.TheVariants as load
use Rattle.asl_syntax.specs.declared.fault.SyntaxFault.{SyntaxFault}
use Rattle.asl_syntax.specs.declared.fault.SyntaxFault.TheVariants as syntax
use Rattle.asl_backward_flow.specs.declared.region.Region.{Region}
use Rattle.asl_backward_flow.specs.declared.region.Region.TheVariants as region
use Rattle.asl_emitter.specs.declared.fault.InferFault.{InferFault}
use Rattle.asl_emitter.specs.declared.fault.InferFault.TheVariants as infer
use Rattle.asl_lower.specs.declared.fault.LowerFault.{LowerFault}
use Rattle.asl_lower.specs.declared.fault.LowerFault.TheVariants as lower
use Rattle.asl_points_to.specs.declared.fault.ClassesFault.{ClassesFault}
use Rattle.asl_points_to.specs.declared.fault.ClassesFault.TheVariants as classes
use Rattle.asl_map.specs.declared.fault.MapFault.{MapFault}
use Rattle.asl_map.specs.declared.fault.MapFault.TheVariants as map
use Rattle.asl_check.specs.declared.code_difference.CodeDifference.{CodeDifference}
use Rattle.asl_check.specs.declared.fault.CheckFault.{CheckFault}
use Rattle.asl_check.specs.declared.fault.CheckFault.TheVariants as check
use Rattle.asl_journal.specs.declared.fault.JournalFault.{JournalFault}
use Rattle.asl_journal.specs.declared.fault.JournalFault.TheVariants as journal
use Rattle.asl_journal.specs.declared.run_file.FileFault.{FileFault}
use Rattle.asl_journal.specs.declared.run_file.FileFault.TheVariants as file
use Rattle.asl_runner.specs.declared.fault.RunFault.{RunFault}
use Rattle.asl_runner.specs.declared.fault.RunFault.TheVariants as run

-- a name with a number, as `Line(3)`
abbrev pub numbered : List ℕ → ℕ → List ℕ
numbered name number = name ++ codes "(" ++ decimal number ++ codes ")"

-- a name with a text, as `Twice(x)`
abbrev pub around : List ℕ → List ℕ → List ℕ
around name text = name ++ codes "(" ++ text ++ codes ")"

-- a name with two numbers, as `AccessOutsideSection(0, 3)`
abbrev pub pair : List ℕ → ℕ → ℕ → List ℕ
pair name first second = name ++ codes "(" ++ decimal first ++ codes ", " ++ decimal second ++ codes ")"

-- of a rule that an image breaks
abbrev pub verify_text : VerifyFault → List ℕ
verify_text verify.Limit = codes "Limit"
verify_text verify.Table = codes "Table"
verify_text verify.NoEntry = codes "NoEntry"
verify_text verify.FunctionRange = codes "FunctionRange"
verify_text verify.FallsOut = codes "FallsOut"
verify_text (verify.Target pc) = numbered (codes "Target") pc
verify_text (verify.Register pc) = numbered (codes "Register") pc
verify_text (verify.Operand pc) = numbered (codes "Operand") pc
verify_text (verify.ListBase pc) = numbered (codes "ListBase") pc

-- of an assembly text
abbrev pub asm_text : AsmFault → List ℕ
asm_text (asm.Line number) = numbered (codes "Line") number
asm_text (asm.Verify cause) = around (codes "Verify") (verify_text cause)
asm_text asm.OutOfMemory = codes "OutOfMemory"

-- of the bytes of an image
abbrev pub load_text : LoadFault → List ℕ
load_text load.Magic = codes "Magic"
load_text load.Version = codes "Version"
load_text (load.Truncated size) = numbered (codes "Truncated") size
load_text (load.BadField at) = numbered (codes "BadField") at
load_text (load.Trailing at) = numbered (codes "Trailing") at
load_text (load.Verify cause) = around (codes "Verify") (verify_text cause)
load_text load.OutOfMemory = codes "OutOfMemory"

-- of a text that is not a source
abbrev pub syntax_text : SyntaxFault → List ℕ
syntax_text (syntax.NotAscii at) = numbered (codes "NotAscii") at
syntax_text (syntax.Token at) = numbered (codes "Token") at
syntax_text (syntax.Grammar at) = numbered (codes "Grammar") at
syntax_text (syntax.Limit at) = numbered (codes "Limit") at
syntax_text (syntax.Twice name) = around (codes "Twice") name
syntax_text (syntax.Unknown name) = around (codes "Unknown") name
syntax_text (syntax.Arity at) = numbered (codes "Arity") at
syntax_text syntax.NoMain = codes "NoMain"
syntax_text syntax.OutOfMemory = codes "OutOfMemory"

-- a region, as `Body(3)` or `Section(0)`
abbrev pub region_text : Region → List ℕ
region_text (region.Body function) = numbered (codes "Body") function
region_text (region.Section section) = numbered (codes "Section") section

-- of a source for which no program is inferred
abbrev pub infer_text : InferFault → List ℕ
infer_text (infer.Registers function) = numbered (codes "Registers") function
infer_text infer.CodeSize = codes "CodeSize"
infer_text (infer.AccessOutsideSection function pc) = pair (codes "AccessOutsideSection") function pc
infer_text infer.TooManyClasses = codes "TooManyClasses"
infer_text (infer.TooManyLocks r) = around (codes "TooManyLocks") (region_text r)
infer_text infer.OutOfMemory = codes "OutOfMemory"

-- of a source that has no code
abbrev pub lower_text : LowerFault → List ℕ
lower_text (lower.Registers function) = numbered (codes "Registers") function
lower_text lower.CodeSize = codes "CodeSize"
lower_text (lower.AccessOutsideSection function pc) = pair (codes "AccessOutsideSection") function pc
lower_text lower.OutOfMemory = codes "OutOfMemory"

-- of a source that has no classes
abbrev pub classes_text : ClassesFault → List ℕ
classes_text classes.TooManyClasses = codes "TooManyClasses"
classes_text classes.OutOfMemory = codes "OutOfMemory"

-- of a source that has no map
abbrev pub map_text : MapFault → List ℕ
map_text (map.Source cause) = syntax_text cause
map_text (map.Lower cause) = lower_text cause
map_text (map.Classes cause) = classes_text cause
map_text map.OutOfMemory = codes "OutOfMemory"

-- what a lock covers
abbrev pub effect_text : Effect → List ℕ
effect_text effect.Read = codes "read"
effect_text effect.Write = codes "write"

-- where an expression begins, as `r1` or `g0`
abbrev pub base_text : Base → List ℕ
base_text (base.Reg register) = codes "r" ++ decimal register
base_text (base.Global global) = codes "g" ++ decimal global

-- an operation of a path, after a space
abbrev pub op_text : Op → List ℕ
op_text op.Deref = codes " *"
op_text (op.Off offset) = codes " ." ++ decimal offset

-- the operations of a path
abbrev pub path_text : List Op → List ℕ
path_text [] = []
path_text (o ∷ os) = op_text o ++ path_text os

-- a lock as an assembly text has it, as `expr r1 .2 * write`
abbrev pub lock_text : Lock → List ℕ
lock_text (lock.Root e) = codes "root " ++ effect_text e
lock_text (lock.Class class e) = codes "class " ++ decimal class ++ codes " " ++ effect_text e
lock_text (lock.Expr expr e) = codes "expr " ++ base_text expr.base ++ path_text expr.path ++ codes " " ++ effect_text e

-- of a lock that a list lacks: the list's section, and the lock
abbrev pub lacking_text : List ℕ → ℕ → Lock → List ℕ
lacking_text name section l = name ++ codes "(" ++ decimal section ++ codes ", " ++ lock_text l ++ codes ")"

-- the operands of an instruction, of which the first stands after a space, and each other one after a comma
abbrev pub later_text : List Token → List ℕ
later_text [] = []
later_text (t ∷ ts) = codes ", " ++ (word_of t ++ later_text ts)

-- all operands, after a space where there are some
abbrev pub operands_text : List Token → List ℕ
operands_text [] = []
operands_text (t ∷ ts) = codes " " ++ (word_of t ++ later_text ts)

-- an instruction as an assembly text has it, as `load r2, r1`
abbrev pub instr_text : Instr → List ℕ
instr_text i = name_of (instr_name i) ++ operands_text (flat_map operand_tokens (operands i))

-- an instruction between backticks
abbrev pub marked_text : Instr → List ℕ
marked_text i = codes "`" ++ instr_text i ++ codes "`"

-- which function it is
abbrev pub function_text : ℕ → List ℕ
function_text function = codes ": function " ++ decimal function

-- what a source and a program have at a place where one of them has another instruction, or none
abbrev pub both_text : ℕ → Instr → Instr → List ℕ
both_text function own there =
    function_text function ++ codes " of the source has " ++ marked_text own ++ codes " there, and the program has " ++ marked_text there

-- what the source has at a place where the program has no instruction
abbrev pub source_alone_text : ℕ → Instr → List ℕ
source_alone_text function own =
    function_text function ++ codes " of the source has " ++ marked_text own ++ codes " there, and the program has none"

-- what the program has at a place where the source has no instruction
abbrev pub program_alone_text : ℕ → Instr → List ℕ
program_alone_text function there =
    function_text function ++ codes " of the program has " ++ marked_text there ++ codes " there, and the source has none"

-- so of each place: where neither of them has an instruction, the code is the same
abbrev pub difference_text : ℕ → Option Instr → Option Instr → List ℕ
difference_text function (Some own) (Some there) = both_text function own there
difference_text function (Some own) None = source_alone_text function own
difference_text function None (Some there) = program_alone_text function there
difference_text function None None = codes ": the code is the source's, and the version or a table is not"

-- of code that is another's
abbrev pub other_code_text : CodeDifference → List ℕ
other_code_text d = numbered (codes "OtherCode") d.pc ++ difference_text d.function d.source d.program

-- of lists of one's own
abbrev pub check_text : CheckFault → List ℕ
check_text (check.Infer cause) = infer_text cause
check_text (check.OtherCode d) = other_code_text d
check_text (check.Uncovered section l) = lacking_text (codes "Uncovered") section l
check_text (check.Unguarded section l) = lacking_text (codes "Unguarded") section l

-- its line on standard error, and the lines of several
abbrev pub check_line : CheckFault → List ℕ
check_line f = codes "asl: " ++ check_text f ++ codes "\n"

-- the lines of several refusals of one's own lists
abbrev pub check_lines : List CheckFault → List ℕ
check_lines = flat_map check_line

-- of a journal
abbrev pub journal_text : JournalFault → List ℕ
journal_text journal.JournalFull = codes "JournalFull"
journal_text journal.BadCount = codes "BadCount"
journal_text journal.BadThread = codes "BadThread"
journal_text (journal.Differs at) = numbered (codes "Differs") at
journal_text journal.Magic = codes "Magic"
journal_text journal.Version = codes "Version"
journal_text (journal.Truncated size) = numbered (codes "Truncated") size
journal_text (journal.BadField at) = numbered (codes "BadField") at
journal_text (journal.Trailing at) = numbered (codes "Trailing") at
journal_text journal.OutOfMemory = codes "OutOfMemory"

-- of a run file
abbrev pub file_text : FileFault → List ℕ
file_text (file.Truncated size) = numbered (codes "Truncated") size
file_text (file.Image cause) = around (codes "Image") (load_text cause)
file_text (file.Journal cause) = around (codes "Journal") (journal_text cause)
file_text file.OutOfMemory = codes "OutOfMemory"

-- of a run by workers
abbrev pub run_text : RunFault → List ℕ
run_text run.BadCount = codes "BadCount"
run_text (run.Receipt worker) = numbered (codes "Receipt") worker
run_text run.Spawn = codes "Spawn"
run_text run.OutOfMemory = codes "OutOfMemory"
