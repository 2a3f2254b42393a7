-- A machine whose steps are written down, kept without its program until it continues over the same program.
use Rattle.std.specs.Prelude.{ℕ, List}
use Rattle.asl_code.specs.declared.image.Image.{Image}
use Rattle.asl_machine.specs.Paused.{Rest, IsRestOf}
use Rattle.asl_journal.specs.declared.event.Event.{Event}
use Rattle.asl_journal.specs.Recorded.{Fits}

-- what is kept: what the machine leaves, its number of threads and what they did, and for how many events more there is capacity
pub record RecordedRest : Type 0 where
  pub machine : Rest
  pub count : ℕ
  pub events : List Event
  pub spare : ℕ

-- it is what is left of a machine of this program with its journal; who pauses one gets it, and who lets it continue gives it
pub record IsRecordedRestOf (image : Image) (rest : RecordedRest) : Type 0 where
  pub machine : IsRestOf image rest.machine
  pub journal : Fits (record { image = image; state = rest.machine.state }) rest.count rest.events
