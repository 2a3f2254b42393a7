-- What the command `log` answers (docs/JOURNAL.md, "Reading a run").
use Rattle.std.specs.Prelude.{◌≡◌, ℕ, Bool, true, false, List}
use Rattle.asl_code.specs.declared.image.Image.{Image}
use Rattle.asl_machine.specs.Run.{start_of}
use Rattle.asl_journal.specs.Journal.{Log, IsJournal}
use Rattle.asl_journal.specs.RunFile.{SpellsRun}
use Rattle.asl_tool.specs.Output.{event_lines, AreTraced}

-- the text is the lines of a journal of the program, without the places of its steps or with them
abbrev pub IsLogText : Bool → Image → Log → List ℕ → Type 0
IsLogText false image log text = text ≡ event_lines 0 log.events
IsLogText true image log text = AreTraced image (start_of image log.threads) 0 log.events text

-- the input is a run file whose journal is one of its program, and the output is its lines
pub record IsLogged (input : List ℕ) (trace : Bool) (output : List ℕ) : Type 0 where
  pub image : Image
  pub log : Log
  pub run : SpellsRun image log input
  pub journal : IsJournal image log.threads log.events
  pub lines : IsLogText trace image log output
