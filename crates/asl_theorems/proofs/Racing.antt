-- The entries of a compiled and of a checked program cover what their lists read, so its runs and its journals have no data race.
use Rattle.std.proofs.Common.{ℕ, List}
use Rattle.asl_code.specs.declared.image.Image.{Image}
use Rattle.asl_code.specs.Fits.{FitsImage}
use Rattle.asl_code.specs.Verified.{IsVerified}
use Rattle.asl_code.proofs.FitsLaws.{image_fits}
use Rattle.asl_syntax.specs.Tree.{Item}
use Rattle.asl_syntax.specs.Parsed.{Parses}
use Rattle.asl_machine.specs.State.{State}
use Rattle.asl_machine.specs.Run.{start_of}
use Rattle.asl_atomicity.specs.Serial.{IsGuarded}
use Rattle.asl_races.specs.Races.{AccessesOrEnters, HappensBefore}
use Rattle.asl_races.specs.Tries.{AccessesOrTries, HappensBeforeWithTries}
use Rattle.asl_races.proofs.Touching.{entries_keep}
use Rattle.asl_races.proofs.Ordering.{ordered_entries}
use Rattle.asl_races.proofs.Publishing.{published, published_entries}
use Rattle.asl_races.proofs.Handing.{hands_over, no_race}
use Rattle.asl_races.proofs.TriesAfter.{grants_with_care, published_tries}
use Rattle.asl_races.proofs.Tries.{ordered_tries}
use Rattle.asl_emitter.proofs.Sounding.{inferred_analysed}
use Rattle.asl_emitter.proofs.Guarding.{inferred_guarded}
use Rattle.asl_check.specs.Refused.{IsChecked}
use Rattle.asl_journal.specs.declared.event.Event.{Event}
use Rattle.asl_journal.specs.Journal.{LeadsTo}
use Rattle.asl_theorems.specs.Compiled.{Compiles}
use Rattle.asl_theorems.specs.RaceFree.{IsRaceFree, IsRaceFreeJournal}
use Rattle.asl_theorems.proofs.Programs.{its_kept, its_few, compiled_fits}
use Rattle.asl_theorems.proofs.Checked.{checked_guarded}
use Rattle.asl_theorems.proofs.Runs.{steps_of}

race_free : (image : Image) (count : ℕ) → FitsImage image → IsGuarded image count → IsRaceFree image count
race_free image count fits guarded = record {
  races = no_race image count (HappensBefore image) (AccessesOrEnters image) (ordered_entries image count fits guarded);
  ordered = ordered_entries image count fits guarded;
  handed = hands_over image count (AccessesOrEnters image) (entries_keep image) (ordered_entries image count fits guarded);
  addresses = published image count fits;
  entries = published_entries image count fits guarded;
  tries = no_race image count (HappensBeforeWithTries image) (AccessesOrTries image) (ordered_tries image count fits);
  met = published_tries image count fits;
  granted = grants_with_care image count fits guarded;
}

module _ (source : List ℕ) (k_limit : ℕ) (image : Image) (c : Compiles source k_limit image) where
  compiled_guarded : (count : ℕ) → IsGuarded image count
  compiled_guarded =
      let a = c.inferred.analysis in
      inferred_guarded a.program.lowering a.program.classes a.stores k_limit image
      (inferred_analysed a.program.lowering a.program.classes a.stores k_limit image (its_kept source k_limit image c) a.program.are_classes (its_few source k_limit image c) a.tells c.inferred.inferred) c.inferred.inferred

  pub compiled_race_free : (count : ℕ) → IsRaceFree image count
  compiled_race_free count = race_free image count (compiled_fits source k_limit image c) (compiled_guarded count)

pub checked_race_free : (source : List ℕ) (tree : List Item) (k_limit : ℕ) (image : Image) (count : ℕ) → Parses source tree → IsVerified image → IsChecked tree k_limit image → IsRaceFree image count
checked_race_free source tree k_limit image count parsed verified h = race_free image count (image_fits image verified) (checked_guarded source tree k_limit image parsed verified h count)

-- the journals of a program without races
pub race_free_journal : (image : Image) (count : ℕ) (events : List Event) (end : State) → IsRaceFree image count → LeadsTo image count events end → IsRaceFreeJournal image count events end
race_free_journal image count events end free leads =
    let found = steps_of image events (start_of image count) end leads.runs in
    record { steps = found.0; are = record { run = found.1; told = found.2 }; races = λ i j. free.races found.0 end i j found.1 }
