-- Machinery of the proofs, not of the promise: what the writers of src/ add to the text before, as parts of the
-- canonical text of specs/Canonical (docs/FORMATS.md, "Canonical text").
use Rattle.std.specs.Prelude.{◌≡◌, ℕ, List, ◌++◌, codes}
use Rattle.std.specs.List.{flat_map, AllByRecursion}
use Rattle.asl_code.specs.declared.instr.Instr.{Instr}
use Rattle.asl_code.specs.declared.lock.Base.{Base}
use Rattle.asl_code.specs.declared.lock.Lock.{Lock}
use Rattle.asl_code.specs.declared.path.Op.{Op}
use Rattle.asl_assembler.specs.declared.line.Line.{Line}
use Rattle.asl_assembler.specs.declared.line.Line.TheVariants as line
use Rattle.asl_assembler.specs.Text.{Body, base_token, op_token, function_lines, list_lines}
use Rattle.asl_assembler.specs.Canonical.{FitsField, FitsLine, word_of, line_text}

-- the new text is the old one with that of the thing, which fits
pub record Writes (X : Type 0) (Fits : X → Type 0) (text_of : X → List ℕ) (old new : List ℕ) (x : X) : Type 0 where
  pub fits : Fits x
  pub added : new ≡ old ++ text_of x

-- the same of several things, one after the other
pub record WritesEach (X : Type 0) (Fits : X → Type 0) (text_of : X → List ℕ) (old new : List ℕ) (xs : List X) : Type 0 where
  pub each : AllByRecursion Fits xs
  pub added : new ≡ old ++ flat_map text_of xs

-- the same of a line
abbrev pub WritesLine : List ℕ → List ℕ → Line → Type 0
WritesLine old new l = Writes Line FitsLine line_text old new l

-- the number of the base of an expression fits
abbrev pub FitsBaseWord : Base → Type 0
FitsBaseWord b = FitsField (base_token b)

-- how the base of an expression is written
abbrev pub base_text : Base → List ℕ
base_text b = word_of (base_token b)

-- the number of an operation of a path fits
abbrev pub FitsOpWord : Op → Type 0
FitsOpWord o = FitsField (op_token o)

-- how an operation of a path is written, after a space
abbrev pub op_text : Op → List ℕ
op_text o = codes " " ++ word_of (op_token o)

-- the number of the line of a global, its class, fits
abbrev pub FitsGlobalLine : ℕ → Type 0
FitsGlobalLine class = FitsLine (line.Global class)

-- how the line of a global is written
abbrev pub global_text : ℕ → List ℕ
global_text class = line_text (line.Global class)

-- the numbers of the line of an instruction fit
abbrev pub FitsInstrLine : Instr → Type 0
FitsInstrLine i = FitsLine (line.Instruction i)

-- how the line of an instruction is written
abbrev pub instr_text : Instr → List ℕ
instr_text i = line_text (line.Instruction i)

-- the numbers of the line of a lock, and its path, fit
abbrev pub FitsLockLine : Lock → Type 0
FitsLockLine l = FitsLine (line.Lock l)

-- how the line of a lock is written
abbrev pub lock_text : Lock → List ℕ
lock_text l = line_text (line.Lock l)

-- the lines of a function fit
abbrev pub FitsBodyLines : Body → Type 0
FitsBodyLines b = AllByRecursion FitsLine (function_lines b)

-- how the lines of a function are written
abbrev pub body_text : Body → List ℕ
body_text b = flat_map line_text (function_lines b)

-- the lines of a lock list fit
abbrev pub FitsListLines : List Lock → Type 0
FitsListLines locks = AllByRecursion FitsLine (list_lines locks)

-- how the lines of a lock list are written
abbrev pub list_text : List Lock → List ℕ
list_text locks = flat_map line_text (list_lines locks)
