-- The names of refusals, as the program prints them, and the words that a refusal is told with first.
use Rattle.std.specs.Prelude.{ℕ, List, ◌++◌, codes}
use Rattle.std.specs.Fmt.{decimal}
use Rattle.asl_syntax.specs.declared.fault.SyntaxFault.{SyntaxFault}
use Rattle.asl_syntax.specs.declared.fault.SyntaxFault.TheVariants as syntax
use Rattle.asl_emitter.specs.declared.fault.InferFault.{InferFault}
use Rattle.asl_emitter.specs.declared.fault.InferFault.TheVariants as infer
use Rattle.asl_assembler.specs.declared.assembly.AsmFault.{AsmFault}
use Rattle.asl_assembler.specs.declared.assembly.AsmFault.TheVariants as asm
use Rattle.asl_code.specs.declared.fault.VerifyFault.{VerifyFault}
use Rattle.asl_code.specs.declared.fault.VerifyFault.TheVariants as verify
use Rattle.asl_diagnose.specs.declared.diagnosis.Refusal.{Refusal}
use Rattle.asl_diagnose.specs.declared.diagnosis.Refusal.TheVariants as refusal
use Rattle.asl_diagnose.specs.declared.diagnosis.Diagnosis.{Diagnosis}

-- of a text that is no program
abbrev pub syntax_name : SyntaxFault → List ℕ
syntax_name (syntax.NotAscii at) = codes "NotAscii"
syntax_name (syntax.Token at) = codes "Token"
syntax_name (syntax.Grammar at) = codes "Grammar"
syntax_name (syntax.Limit at) = codes "Limit"
syntax_name (syntax.Twice x) = codes "Twice"
syntax_name (syntax.Unknown x) = codes "Unknown"
syntax_name (syntax.Arity at) = codes "Arity"
syntax_name syntax.NoMain = codes "NoMain"
syntax_name syntax.OutOfMemory = codes "OutOfMemory"

-- of a program for which no lists are inferred
abbrev pub infer_name : InferFault → List ℕ
infer_name (infer.Registers function) = codes "Registers"
infer_name infer.CodeSize = codes "CodeSize"
infer_name (infer.AccessOutsideSection function pc) = codes "AccessOutsideSection"
infer_name infer.TooManyClasses = codes "TooManyClasses"
infer_name (infer.TooManyLocks r) = codes "TooManyLocks"
infer_name infer.OutOfMemory = codes "OutOfMemory"

-- of a rule that an image breaks
abbrev pub verify_name : VerifyFault → List ℕ
verify_name verify.Limit = codes "Verify(Limit)"
verify_name verify.Table = codes "Verify(Table)"
verify_name verify.NoEntry = codes "Verify(NoEntry)"
verify_name verify.FunctionRange = codes "Verify(FunctionRange)"
verify_name verify.FallsOut = codes "Verify(FallsOut)"
verify_name (verify.Target pc) = codes "Verify(Target)"
verify_name (verify.Register pc) = codes "Verify(Register)"
verify_name (verify.Operand pc) = codes "Verify(Operand)"
verify_name (verify.ListBase pc) = codes "Verify(ListBase)"

-- of an assembly text
abbrev pub asm_name : AsmFault → List ℕ
asm_name (asm.Line number) = codes "Line"
asm_name (asm.Verify cause) = verify_name cause
asm_name asm.OutOfMemory = codes "OutOfMemory"

-- of a refusal
abbrev pub refusal_name : Refusal → List ℕ
refusal_name (refusal.Syntax fault) = syntax_name fault
refusal_name (refusal.Infer fault) = infer_name fault
refusal_name (refusal.Asm fault) = asm_name fault

-- the line, the column and the name, as `8:13: Grammar: `
abbrev pub head_text : Diagnosis → List ℕ
head_text d = decimal d.line ++ codes ":" ++ decimal d.column ++ codes ": " ++ refusal_name d.refusal ++ codes ": "
