-- `debug`, `asm` and `dis` have at most one outcome each.
use Rattle.std.proofs.Common.{◌≡◌, ◌≢◌, ℕ, ◌<◌, List, [], All, Result, Ok, Err, MatchResult, refl, sym, ap, ◌∙◌, subst}
use Rattle.asl_code.specs.declared.image.Image.{Image}
use Rattle.asl_assembler.specs.declared.assembly.AsmFault.{AsmFault}
use Rattle.asl_assembler.specs.Faults as text
use Rattle.asl_assembler.specs.Canonical.{canonical_text}
use Rattle.asl_loader.specs.declared.fault.LoadFault.{LoadFault}
use Rattle.asl_loader.specs.Faults as bytes
use Rattle.asl_loader.specs.Bytes.{SpellsImage}
use Rattle.asl_journal.specs.declared.fault.JournalFault.{JournalFault}
use Rattle.asl_journal.specs.declared.fault.JournalFault.TheVariants as journal
use Rattle.asl_journal.specs.Journal.{Log, IsJournal}
use Rattle.asl_journal.specs.Replay.{IsReplayFault}
use Rattle.asl_journal.specs.declared.run_file.FileFault.{FileFault}
use Rattle.asl_journal.specs.RunFile.{IsFileOutcome}
use Rattle.asl_journal.proofs.RunFiles.{file_outcome_is_one}
use Rattle.asl_tool.specs.declared.input_program.ProgramFault.TheVariants as program
use Rattle.asl_tool.specs.declared.command_fault.CommandFault.{CommandFault}
use Rattle.asl_tool.specs.declared.command_fault.CommandFault.TheVariants as fault
use Rattle.asl_command_line.specs.declared.debug_word.DebugWord.{DebugWord}
use Rattle.asl_tool.specs.Debug.{IsDebugged, IsTalk, opened}
use Rattle.asl_tool.specs.Command.{IsAssembled, IsDisassembled, IsRefusedText, IsRefusedImage, IsRefusedReplay}
use Rattle.asl_tool.proofs.Talks.{talk_one}
use Rattle.asl_tool.specs.Outcome.{IsWantOfMemory}
use Rattle.asl_tool.proofs.OneProgram.{TextsAreOne, BytesAreOne, no_memory_image, no_memory_text}
use Rattle.asl_tool.proofs.OneRun.{no_memory_run, replay_one, ok_no_err, err_one, no_memory_file}

-- ---- `debug`

-- what a journal is to the words
abbrev DebugOutcome : Image → Log → List DebugWord → Result (List ℕ) JournalFault → Type 0
DebugOutcome image log words (Ok text) = IsJournal image log.threads log.events × IsTalk (opened image log) words text
DebugOutcome image log words (Err f) = IsReplayFault image log f × (f ≢ journal.OutOfMemory)

debug_one : (image : Image) (log : Log) (words : List DebugWord) (o p : Result (List ℕ) JournalFault) → DebugOutcome image log words o → DebugOutcome image log words p → o ≡ p
debug_one image log words (Ok a) (Ok b) x y = ap Ok (talk_one image log x.0 0 [] [] words a b (λ place. refl) x.1 y.1)
debug_one image log words (Ok a) (Err g) x y = absurd (let none = replay_one image log (Ok log) (Err g) (x.0, refl) y in ok_no_err log g none)
debug_one image log words (Err f) (Ok b) x y = absurd (let none = replay_one image log (Ok log) (Err f) (y.0, refl) x in ok_no_err log f none)
debug_one image log words (Err f) (Err g) x y = (let same = err_one f g (replay_one image log (Err f) (Err g) x y) in ap Err same)

abbrev from_debug : Result (List ℕ) JournalFault → Result (List ℕ) CommandFault
from_debug (Ok text) = Ok text
from_debug (Err f) = Err (fault.Journal f)

-- what a run file, or none, makes of the words
abbrev DebugForm : List DebugWord → Result (Image × Log) FileFault → Result (List ℕ) CommandFault → Type 0
DebugForm words (Ok run) o = (r : Result (List ℕ) JournalFault) × (o ≡ from_debug r) × DebugOutcome run.0 run.1 words r
DebugForm words (Err f) o = o ≡ Err (fault.File f)

abbrev HasDebugForm : List DebugWord → List ℕ → Result (List ℕ) CommandFault → Type 0
HasDebugForm words input o = (q : Result (Image × Log) FileFault) × IsFileOutcome input q × DebugForm words q o

debug_form_one : (words : List DebugWord) (q : Result (Image × Log) FileFault) (o p : Result (List ℕ) CommandFault) → DebugForm words q o → DebugForm words q p → o ≡ p
debug_form_one words (Ok run) o p x y = x.1 ∙ ap from_debug (debug_one run.0 run.1 words x.0 y.0 x.2 y.2) ∙ sym y.1
debug_form_one words (Err f) o p x y = x ∙ sym y

pub debug_is : (words : List DebugWord) (input : List ℕ) (o : Result (List ℕ) CommandFault) → MatchResult o (λ output. IsDebugged input words output) (λ f. IsRefusedReplay input f × (IsWantOfMemory f → ⊥)) → HasDebugForm words input o
debug_is words input (Ok output) x = (Ok (x.image, x.log), x.run, (Ok output, refl, (x.journal, x.talk)))
debug_is words input (Err (fault.File cause)) x = (Err cause, (x.0, no_memory_file cause x.1), refl)
debug_is words input (Err (fault.Journal cause)) x = (Ok (x.0.image, x.0.log), x.0.run, (Err cause, refl, (x.0.refused, no_memory_run cause x.1)))
debug_is words input (Err fault.OutOfMemory) x = absurd (x.1 tt)
debug_is words input (Err f) x = absurd x.0

pub debugs_one : (words : List DebugWord) (input : List ℕ) (o p : Result (List ℕ) CommandFault) → All (λ b. b < 256) input → HasDebugForm words input o → HasDebugForm words input p → o ≡ p
debugs_one words input o p all x y =
    let same : y.0 ≡ x.0 = file_outcome_is_one input y.0 x.0 all y.1 x.1 in
    debug_form_one words x.0 o p x.2 (subst (λ (q : Result (Image × Log) FileFault). DebugForm words q p) same y.2)

-- ---- `asm`

abbrev TextForm : Result Image AsmFault → Result (List ℕ) CommandFault → Type 0
TextForm (Ok image) o = (output : List ℕ) × (o ≡ Ok output) × SpellsImage image output
TextForm (Err f) o = o ≡ Err (fault.Program (program.Text f))

abbrev IsTextOutcome : List ℕ → Result (List ℕ) CommandFault → Type 0
IsTextOutcome input o = (r : Result Image AsmFault) × text.IsOutcome input r × TextForm r o

text_form_one : (r : Result Image AsmFault) (o p : Result (List ℕ) CommandFault) → TextForm r o → TextForm r p → o ≡ p
text_form_one (Ok image) o p x y = x.1 ∙ ap Ok (x.2.spelled ∙ sym y.2.spelled) ∙ sym y.1
text_form_one (Err f) o p x y = x ∙ sym y

pub text_is : (input : List ℕ) (o : Result (List ℕ) CommandFault) → MatchResult o (λ output. IsAssembled input output) (λ f. IsRefusedText input f × (IsWantOfMemory f → ⊥)) → IsTextOutcome input o
text_is input (Ok output) x = (Ok x.image, x.program, (output, refl, x.spelled))
text_is input (Err (fault.Program (program.Text cause))) x = (Err cause, (x.0, no_memory_text cause x.1), refl)
text_is input (Err fault.OutOfMemory) x = absurd (x.1 tt)
text_is input (Err f) x = absurd x.0

pub text_one : TextsAreOne → (input : List ℕ) (o p : Result (List ℕ) CommandFault) → IsTextOutcome input o → IsTextOutcome input p → o ≡ p
text_one texts input o p x y =
    let same : y.0 ≡ x.0 = texts input y.0 x.0 y.1 x.1 in
    text_form_one x.0 o p x.2 (subst (λ (r : Result Image AsmFault). TextForm r p) same y.2)

-- ---- `dis`

abbrev ImageForm : Result Image LoadFault → Result (List ℕ) CommandFault → Type 0
ImageForm (Ok image) o = o ≡ Ok (canonical_text image)
ImageForm (Err f) o = o ≡ Err (fault.Program (program.Image f))

abbrev IsImageOutcome : List ℕ → Result (List ℕ) CommandFault → Type 0
IsImageOutcome input o = (r : Result Image LoadFault) × bytes.IsOutcome input r × ImageForm r o

image_form_one : (r : Result Image LoadFault) (o p : Result (List ℕ) CommandFault) → ImageForm r o → ImageForm r p → o ≡ p
image_form_one (Ok image) o p x y = x ∙ sym y
image_form_one (Err f) o p x y = x ∙ sym y

pub image_is : (input : List ℕ) (o : Result (List ℕ) CommandFault) → MatchResult o (λ output. IsDisassembled input output) (λ f. IsRefusedImage input f × (IsWantOfMemory f → ⊥)) → IsImageOutcome input o
image_is input (Ok output) x = (Ok x.image, x.program, ap Ok x.canonical)
image_is input (Err (fault.Program (program.Image cause))) x = (Err cause, (x.0, no_memory_image cause x.1), refl)
image_is input (Err fault.OutOfMemory) x = absurd (x.1 tt)
image_is input (Err f) x = absurd x.0

pub image_one : BytesAreOne → (input : List ℕ) (o p : Result (List ℕ) CommandFault) → All (λ b. b < 256) input → IsImageOutcome input o → IsImageOutcome input p → o ≡ p
image_one bytes input o p all x y =
    let same : y.0 ≡ x.0 = bytes input y.0 x.0 all y.1 x.1 in
    image_form_one x.0 o p x.2 (subst (λ (r : Result Image LoadFault). ImageForm r p) same y.2)
