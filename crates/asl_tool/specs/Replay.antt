-- What the command `replay` answers (docs/JOURNAL.md, "Replay").
use Rattle.std.specs.Prelude.{◌≡◌, ℕ, List, [], ◌∷◌, ◌++◌, length, codes}
use Rattle.std.specs.Fmt.{decimal}
use Rattle.asl_code.specs.declared.image.Image.{Image}
use Rattle.asl_journal.specs.declared.fault.JournalFault.{JournalFault}
use Rattle.asl_journal.specs.Journal.{Log, IsJournal}
use Rattle.asl_journal.specs.Replay.{IsReplayFault}
use Rattle.asl_journal.specs.RunFile.{SpellsRun}

-- the line that says how many events came again
abbrev pub same_text : Log → List ℕ
same_text log = codes "same " ++ decimal (length log.events) ++ 10 ∷ []

-- the input is a run file whose journal is one of its program, and the output is this text of the two
pub record IsTold (text : Image → Log → List ℕ) (input output : List ℕ) : Type 0 where
  pub image : Image
  pub log : Log
  pub run : SpellsRun image log input
  pub journal : IsJournal image log.threads log.events
  pub output_is : output ≡ text image log

-- the output says how many events it has
abbrev pub IsReplayed : List ℕ → List ℕ → Type 0
IsReplayed input output = IsTold (λ image log. same_text log) input output

-- the input is a run file whose journal is none of its program: it has more threads than the program's version sets, or there
-- is a first event that differs; or memory was wanted
pub record HasRefusedReplay (input : List ℕ) (cause : JournalFault) : Type 0 where
  pub image : Image
  pub log : Log
  pub run : SpellsRun image log input
  pub refused : IsReplayFault image log cause
