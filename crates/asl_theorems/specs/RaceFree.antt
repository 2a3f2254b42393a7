-- Programs and journals without data races (docs/RACES.md).
use Rattle.std.specs.Prelude.{ℕ, List}
use Rattle.asl_code.specs.declared.image.Image.{Image}
use Rattle.asl_machine.specs.State.{State}
use Rattle.asl_journal.specs.declared.event.Event.{Event}
use Rattle.asl_atomicity.specs.Serial.{TakenStep}
use Rattle.asl_races.specs.Races.{AccessesOrEnters, HappensBefore, OrdersConflicts, IsRace, HasNoRace, HandsOverConflicts, HasAddress, MeetsAtEntry, PublishesObjects}
use Rattle.asl_races.specs.Tries.{AccessesOrTries, HappensBeforeWithTries, GrantsWithCare, MeetsInTry}
use Rattle.asl_theorems.specs.Journals.{AreSteps}

-- of the runs of a program with so many threads: none has a race; of two accesses in conflict the first happens before the second, and
-- between them the first thread gives back and the second is granted; objects are made before they are met; tries with care are in no race,
-- and are granted where the table grants
pub record IsRaceFree (image : Image) (count : ℕ) : Type 0 where
  pub races : HasNoRace image count (HappensBefore image) (AccessesOrEnters image)
  pub ordered : OrdersConflicts image count (HappensBefore image) (AccessesOrEnters image)
  pub handed : HandsOverConflicts image count (AccessesOrEnters image)
  pub addresses : PublishesObjects image count (HappensBefore image) HasAddress
  pub entries : PublishesObjects image count (HappensBefore image) (MeetsAtEntry image)
  pub tries : HasNoRace image count (HappensBeforeWithTries image) (AccessesOrTries image)
  pub met : PublishesObjects image count (HappensBeforeWithTries image) (MeetsInTry image)
  pub granted : GrantsWithCare image count

-- a journal is that of steps of which no two are a race
pub record IsRaceFreeJournal (image : Image) (count : ℕ) (events : List Event) (end : State) : Type 0 where
  pub steps : List TakenStep
  pub are : AreSteps image count events end steps
  pub races : (i j : ℕ) → ¬ (IsRace (HappensBefore image) (AccessesOrEnters image) steps i j)
