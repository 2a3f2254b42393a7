-- `step`, `replay` and `log` have at most one outcome each: a program and its journal settle it.
use Rattle.std.proofs.Common.{◌≡◌, ◌≢◌, ℕ, ◌<◌, List, arith, All, Bool, Result, Ok, Err, MatchResult, refl, sym, ap, ◌∙◌, subst}
use Rattle.asl_code.specs.declared.image.Image.{Image}
use Rattle.asl_journal.specs.declared.fault.JournalFault.{JournalFault}
use Rattle.asl_journal.specs.declared.fault.JournalFault.TheVariants as journal
use Rattle.asl_journal.specs.Journal.{Log, IsJournal}
use Rattle.asl_journal.specs.Replay.{IsReplayFault}
use Rattle.asl_journal.proofs.Differences.{one_difference, no_difference}
use Rattle.asl_journal.specs.declared.run_file.FileFault.{FileFault}
use Rattle.asl_journal.specs.declared.run_file.FileFault.TheVariants as file
use Rattle.asl_journal.specs.RunFile.{IsFileOutcome}
use Rattle.asl_journal.proofs.RunFiles.{file_outcome_is_one}
use Rattle.asl_tool.specs.declared.input_program.ProgramFault.{ProgramFault}
use Rattle.asl_tool.specs.declared.command_fault.CommandFault.{CommandFault}
use Rattle.asl_tool.specs.declared.command_fault.CommandFault.TheVariants as fault
use Rattle.asl_tool.specs.Step.{IsStepped, written}
use Rattle.asl_tool.specs.Log.{IsLogged, IsLogText}
use Rattle.asl_tool.specs.Replay.{IsTold, same_text}
use Rattle.asl_tool.specs.Command.{IsRefusedStep, IsRefusedReplay}
use Rattle.asl_tool.proofs.Records.{RunOutcome, run_one}
use Rattle.asl_tool.proofs.Traces.{log_text, is_log_text, only_log_text}
use Rattle.asl_tool.specs.Outcome.{IsWantOfMemory}
use Rattle.asl_tool.proofs.OneProgram.{TextsAreOne, BytesAreOne, ProgramOutcome, program_one}

-- ---- `step`

abbrev pub from_run : Bool → Image → Result Log JournalFault → Result (List ℕ) CommandFault
from_run record_it image (Ok log) = Ok (written record_it image log)
from_run record_it image (Err f) = Err (fault.Journal f)

pub no_memory_run : (f : JournalFault) → (IsWantOfMemory (fault.Journal f) → ⊥) → f ≢ journal.OutOfMemory
no_memory_run f tells e = tells (subst (λ (g : JournalFault). IsWantOfMemory (fault.Journal g)) (sym e) tt)

-- what a program, or none, makes of a run
abbrev StepForm : ℕ → List ℕ → Bool → Result Image ProgramFault → Result (List ℕ) CommandFault → Type 0
StepForm n schedule record_it (Ok image) o = (r : Result Log JournalFault) × (o ≡ from_run record_it image r) × RunOutcome image n schedule r
StepForm n schedule record_it (Err f) o = o ≡ Err (fault.Program f)

abbrev IsStepOutcome : ℕ → List ℕ → Bool → List ℕ → Result (List ℕ) CommandFault → Type 0
IsStepOutcome n schedule record_it input o = (q : Result Image ProgramFault) × ProgramOutcome input q × StepForm n schedule record_it q o

step_form_one : (n : ℕ) (schedule : List ℕ) (record_it : Bool) (q : Result Image ProgramFault) (o p : Result (List ℕ) CommandFault) → StepForm n schedule record_it q o → StepForm n schedule record_it q p → o ≡ p
step_form_one n schedule record_it (Ok image) o p x y = x.1 ∙ ap (from_run record_it image) (run_one image n schedule x.0 y.0 x.2 y.2) ∙ sym y.1
step_form_one n schedule record_it (Err f) o p x y = x ∙ sym y

pub step_one : TextsAreOne → BytesAreOne → (n : ℕ) (schedule : List ℕ) (record_it : Bool) (input : List ℕ) (o p : Result (List ℕ) CommandFault) → All (λ b. b < 256) input → IsStepOutcome n schedule record_it input o → IsStepOutcome n schedule record_it input p → o ≡ p
step_one texts bytes n schedule record_it input o p all x y =
    let same : y.0 ≡ x.0 = program_one texts bytes input y.0 x.0 all y.1 x.1 in
    step_form_one n schedule record_it x.0 o p x.2 (subst (λ (q : Result Image ProgramFault). StepForm n schedule record_it q p) same y.2)

pub step_is : (n : ℕ) (schedule : List ℕ) (record_it : Bool) (input : List ℕ) (o : Result (List ℕ) CommandFault) → MatchResult o (λ output. IsStepped input n schedule record_it output) (λ f. IsRefusedStep input n schedule f × (IsWantOfMemory f → ⊥)) → IsStepOutcome n schedule record_it input o
step_is n schedule record_it input (Ok output) x = (Ok x.image, x.program, (Ok x.log, ap Ok x.output_is, (x.legal, x.recorded)))
step_is n schedule record_it input (Err (fault.Program cause)) x = (Err cause, (x.0, x.1), refl)
step_is n schedule record_it input (Err (fault.Journal cause)) x = (Ok x.0.image, x.0.program, (Err cause, refl, (x.0.refused, no_memory_run cause x.1)))
step_is n schedule record_it input (Err fault.OutOfMemory) x = absurd (x.1 tt)
step_is n schedule record_it input (Err f) x = absurd x.0

-- ---- `replay` and `log`

-- what a journal is to replay
abbrev ReplayOutcome : Image → Log → Result Log JournalFault → Type 0
ReplayOutcome image log (Ok other) = IsJournal image log.threads log.events × (other ≡ log)
ReplayOutcome image log (Err f) = IsReplayFault image log f × (f ≢ journal.OutOfMemory)

pub replay_one : (image : Image) (log : Log) (o p : Result Log JournalFault) → ReplayOutcome image log o → ReplayOutcome image log p → o ≡ p
replay_one image log (Ok a) (Ok b) x y = ap Ok (x.1 ∙ sym y.1)
replay_one image log (Ok a) (Err journal.BadCount) x y = absurd (omega (arith, x.0.leads.counted.1, y.0))
replay_one image log (Ok a) (Err (journal.Differs i)) x y = absurd (no_difference image log.threads log.events i x.0 y.0.1)
replay_one image log (Ok a) (Err journal.OutOfMemory) x y = absurd (y.1 refl)
replay_one image log (Ok a) (Err g) x y = absurd y.0.1
replay_one image log (Err journal.BadCount) (Ok b) x y = absurd (omega (arith, y.0.leads.counted.1, x.0))
replay_one image log (Err journal.BadCount) (Err journal.BadCount) x y = refl
replay_one image log (Err journal.BadCount) (Err (journal.Differs j)) x y = absurd (omega (arith, x.0, y.0.0))
replay_one image log (Err journal.BadCount) (Err journal.OutOfMemory) x y = absurd (y.1 refl)
replay_one image log (Err journal.BadCount) (Err g) x y = absurd y.0.1
replay_one image log (Err (journal.Differs i)) (Ok b) x y = absurd (no_difference image log.threads log.events i y.0 x.0.1)
replay_one image log (Err (journal.Differs i)) (Err journal.BadCount) x y = absurd (omega (arith, y.0, x.0.0))
replay_one image log (Err (journal.Differs i)) (Err (journal.Differs j)) x y = ap (λ (k : ℕ). Err (journal.Differs k)) (one_difference image log.threads log.events i j x.0.1 y.0.1)
replay_one image log (Err (journal.Differs i)) (Err journal.OutOfMemory) x y = absurd (y.1 refl)
replay_one image log (Err (journal.Differs i)) (Err g) x y = absurd y.0.1
replay_one image log (Err journal.OutOfMemory) p x y = absurd (x.1 refl)
replay_one image log (Err f) p x y = absurd x.0.1

pub ok_no_err : (log : Log) (f : JournalFault) → ◌≡◌ {A = Result Log JournalFault} (Ok log) (Err f) → ⊥
ok_no_err log f e = cc

pub err_one : (f g : JournalFault) → ◌≡◌ {A = Result Log JournalFault} (Err f) (Err g) → f ≡ g
err_one f g e = cc

-- a text that is told of a program and a journal of it
abbrev pub TextOf : Type 0
TextOf = Image → Log → List ℕ

abbrev from_replay : TextOf → Image → Result Log JournalFault → Result (List ℕ) CommandFault
from_replay text_of image (Ok log) = Ok (text_of image log)
from_replay text_of image (Err f) = Err (fault.Journal f)

-- what a run file, or none, makes of replay
abbrev ReplayForm : TextOf → Result (Image × Log) FileFault → Result (List ℕ) CommandFault → Type 0
ReplayForm text_of (Ok run) o = (r : Result Log JournalFault) × (o ≡ from_replay text_of run.0 r) × ReplayOutcome run.0 run.1 r
ReplayForm text_of (Err f) o = o ≡ Err (fault.File f)

abbrev HasReplayForm : TextOf → List ℕ → Result (List ℕ) CommandFault → Type 0
HasReplayForm text_of input o = (q : Result (Image × Log) FileFault) × IsFileOutcome input q × ReplayForm text_of q o

replay_form_one : (text_of : TextOf) (q : Result (Image × Log) FileFault) (o p : Result (List ℕ) CommandFault) → ReplayForm text_of q o → ReplayForm text_of q p → o ≡ p
replay_form_one text_of (Ok run) o p x y = x.1 ∙ ap (from_replay text_of run.0) (replay_one run.0 run.1 x.0 y.0 x.2 y.2) ∙ sym y.1
replay_form_one text_of (Err f) o p x y = x ∙ sym y

pub no_memory_file : (f : FileFault) → (IsWantOfMemory (fault.File f) → ⊥) → f ≢ file.OutOfMemory
no_memory_file f tells e = tells (subst (λ (g : FileFault). IsWantOfMemory (fault.File g)) (sym e) tt)

pub replay_is : (text_of : TextOf) (input : List ℕ) (o : Result (List ℕ) CommandFault) → MatchResult o (λ output. IsTold text_of input output) (λ f. IsRefusedReplay input f × (IsWantOfMemory f → ⊥)) → HasReplayForm text_of input o
replay_is text_of input (Ok output) x = (Ok (x.image, x.log), x.run, (Ok x.log, ap Ok x.output_is, (x.journal, refl)))
replay_is text_of input (Err (fault.File cause)) x = (Err cause, (x.0, no_memory_file cause x.1), refl)
replay_is text_of input (Err (fault.Journal cause)) x = (Ok (x.0.image, x.0.log), x.0.run, (Err cause, refl, (x.0.refused, no_memory_run cause x.1)))
replay_is text_of input (Err fault.OutOfMemory) x = absurd (x.1 tt)
replay_is text_of input (Err f) x = absurd x.0

pub replays_one : (text_of : TextOf) (input : List ℕ) (o p : Result (List ℕ) CommandFault) → All (λ b. b < 256) input → HasReplayForm text_of input o → HasReplayForm text_of input p → o ≡ p
replays_one text_of input o p all x y =
    let same : y.0 ≡ x.0 = file_outcome_is_one input y.0 x.0 all y.1 x.1 in
    replay_form_one text_of x.0 o p x.2 (subst (λ (q : Result (Image × Log) FileFault). ReplayForm text_of q p) same y.2)

-- what `log` tells is the computed text
pub log_told : (trace : Bool) (input : List ℕ) (o : Result (List ℕ) CommandFault) → MatchResult o (λ output. IsLogged input trace output) (λ f. IsRefusedReplay input f × (IsWantOfMemory f → ⊥))
    → MatchResult o (λ output. IsTold (log_text trace) input output) (λ f. IsRefusedReplay input f × (IsWantOfMemory f → ⊥))
log_told trace input (Ok output) x = record { image = x.image; log = x.log; run = x.run; journal = x.journal; output_is = only_log_text trace x.image x.log output x.journal x.lines }
log_told trace input (Err f) x = x

-- and the other way round
pub told_log : (trace : Bool) (input : List ℕ) (o : Result (List ℕ) CommandFault) → MatchResult o (λ output. IsTold (log_text trace) input output) (λ f. IsRefusedReplay input f × (IsWantOfMemory f → ⊥))
    → MatchResult o (λ output. IsLogged input trace output) (λ f. IsRefusedReplay input f × (IsWantOfMemory f → ⊥))
told_log trace input (Ok output) x = record {
  image = x.image;
  log = x.log;
  run = x.run;
  journal = x.journal;
  lines = subst (λ (text : List ℕ). IsLogText trace x.image x.log text) (sym x.output_is) (is_log_text trace x.image x.log x.journal);
}
told_log trace input (Err f) x = x

abbrev pub same_of : TextOf
same_of image log = same_text log
