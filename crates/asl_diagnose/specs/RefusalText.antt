-- The text that is told of an input: nothing where it is accepted, and else a text that begins with line, column and name, and shows the line.
use Rattle.std.specs.Prelude.{◌≡◌, ◌<◌, ◌⊎◌, ℕ, List, [], ◌++◌, Bool, true, false, Option, Some, None, length, map, take, drop, min, codes}
use Rattle.std.specs.List.{Contains}
use Rattle.asl_assembler.specs.Faults.{IsFault}
use Rattle.asl_assembler.specs.declared.assembly.AsmFault.TheVariants as asm
use Rattle.asl_grammar.specs.declared.token.Mark.TheVariants.{Semicolon}
use Rattle.asl_syntax.specs.declared.fault.SyntaxFault.TheVariants.{NotAscii}
use Rattle.asl_diagnose_text.specs.declared.kind.TokenKind.TheVariants.{Fixed}
use Rattle.asl_diagnose.specs.declared.diagnosis.Diagnosis.{Diagnosis}
use Rattle.asl_diagnose.specs.declared.diagnosis.Refusal.{Refusal}
use Rattle.asl_diagnose.specs.declared.diagnosis.Refusal.TheVariants.{Syntax}
use Rattle.asl_diagnose.specs.Diagnosed.{IsSourceDiagnosed, IsAssemblyDiagnosed, MayLackMemory}
use Rattle.asl_diagnose.specs.Names.{head_text}
use Rattle.asl_diagnose.specs.Bringing.{bringers_text}
use Rattle.asl_diagnose_text.specs.Listed.{expected_text}
use Rattle.asl_diagnose_text.specs.Position.{IsEndBefore, line_behind}
use Rattle.asl_diagnose_text.specs.Shown.{shown, AreLines, IsLetterText}

-- a line does not end: `;` may stand at the place, what stands there is on a later line than the token before it, and that one ends
-- here
pub record MissesEnd (input : List ℕ) (d : Diagnosis) (end : ℕ) : Type 0 where
  pub expected : Contains d.expected.items (Fixed Semicolon)
  pub more : d.at < length input
  pub before : IsEndBefore input d.at end
  pub above : line_behind (take end input) < line_behind (take d.at input)

-- the place that is shown: that of the refusal; of a line that does not end the place behind it
abbrev pub IsShownPlace : List ℕ → Diagnosis → ℕ → Type 0
IsShownPlace input d at =
    MissesEnd input d at ⊎ (((end : ℕ) → ¬ MissesEnd input d end) × (at ≡ min d.at (length input)))

-- the byte that is not ASCII, if that is the refusal
abbrev pub byte_at : Refusal → Option ℕ
byte_at (Syntax (NotAscii at)) = Some at
byte_at refusal = None

-- of such a byte the character that begins there is told
abbrev pub IsByteTold : List ℕ → Option ℕ → List ℕ → Type 0
IsByteTold input None letter = letter ≡ []
IsByteTold input (Some at) letter = IsLetterText (drop (min (length input) at) input) letter

-- the first line of the text has the line, the column and the name, and a sentence, before which stands what is told of a byte; then the
-- line round the place that is shown, and a caret below it; then the kinds of token with which a program continues, and the statements
-- that bring most of the locks, are told, if the diagnosis has some
pub record IsHeaded (input : List ℕ) (d : Diagnosis) (text : List ℕ) : Type 0 where
  pub sentence : List ℕ
  pub letter : List ℕ
  pub is_letter : IsByteTold input (byte_at d.refusal) letter
  pub place : ℕ
  pub is_place : IsShownPlace input d place
  pub lines : List ℕ
  pub are_lines : AreLines input place lines
  pub hints : List ℕ
  pub begins : text ≡ head_text d ++ (letter ++ (map shown sentence ++ (codes "\n" ++ (lines ++ (expected_text d.expected.items d.may_end ++ (bringers_text input d.bringers ++ hints))))))

-- the text of an answer
abbrev pub IsSpelled : List ℕ → Option Diagnosis → List ℕ → Type 0
IsSpelled input None text = text ≡ []
IsSpelled input (Some d) text = IsHeaded input d text

-- the answer for an assembly text, or for a source
abbrev pub IsAnswer : List ℕ → Bool → ℕ → Option Diagnosis → Type 0
IsAnswer input true k told = IsAssemblyDiagnosed input told
IsAnswer input false k told = IsSourceDiagnosed input k told

-- the text that is told of an input
pub record IsTold (input : List ℕ) (is_assembly : Bool) (k : ℕ) (text : List ℕ) : Type 0 where
  pub told : Option Diagnosis
  pub answer : IsAnswer input is_assembly k told
  pub spelled : IsSpelled input told text

-- where lack of memory may hide the answer: for an assembly text where all its lines are right, for a source where it has a tree, or is to
-- be told with what a program continues
abbrev pub MayLackFor : List ℕ → Bool → Type 0
MayLackFor input true = IsFault input asm.OutOfMemory
MayLackFor input false = MayLackMemory input

-- where lack of memory may hide the text that is told of an input: where it may hide the answer, or the input is refused, so that there is
-- a text to make
abbrev pub MayLackText : List ℕ → Bool → ℕ → Type 0
MayLackText input is_assembly k = MayLackFor input is_assembly ⊎ ((d : Diagnosis) × IsAnswer input is_assembly k (Some d))
