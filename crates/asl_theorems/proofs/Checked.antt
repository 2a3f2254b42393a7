-- What `check` accepts is analysed, safe and atomic: from the source's tree and the lists that are enough for it.
use Rattle.std.proofs.Common.{ℕ, List}
use Rattle.asl_code.specs.declared.image.Image.{Image}
use Rattle.asl_code.specs.Verified.{IsVerified}
use Rattle.asl_syntax.specs.Tree.{Item}
use Rattle.asl_syntax.specs.Parsed.{Parses}
use Rattle.asl_lower.specs.LegalLowering.{IsLegalLowering}
use Rattle.asl_backward_flow.specs.Needed.{Needed}
use Rattle.asl_soundness.specs.Safe.{NeverFaultsForLocks}
use Rattle.asl_soundness.proofs.Analysed.{IsAnalysed}
use Rattle.asl_soundness.proofs.NeededLaws.{needed_analysed}
use Rattle.asl_soundness.proofs.Soundness.{sound_program}
use Rattle.asl_atomicity.specs.Serial.{HasSerialRuns, IsGuarded}
use Rattle.asl_atomicity.specs.Renamed.{HasSerialRunsUpTo}
use Rattle.asl_emitter.specs.Inferred.{Analysis}
use Rattle.asl_check.specs.Refused.{IsChecked}
use Rattle.asl_check.proofs.Covering.{image_of}
use Rattle.asl_check.proofs.Guarding.{is_guarded, guarded_serial, guarded_serial_up_to}
use Rattle.asl_theorems.proofs.Programs.{is_kept}

module _ (source : List ℕ) (tree : List Item) (k_limit : ℕ) (image : Image) (parsed : Parses source tree) (verified : IsVerified image) (h : IsChecked tree k_limit image) where
  abbrev Its : Analysis tree
  Its = h.covered.of_tree.analysis

  its_legal : IsLegalLowering Its.program.lowering
  its_legal = is_kept source k_limit tree Its.program.lowering parsed h.covered.of_tree.accepted Its.program.lowers

  its_analysed : IsAnalysed Its.program.lowering Its.program.classes Its.stores k_limit (Needed Its.program.lowering Its.program.classes Its.stores k_limit) image
  its_analysed =
      needed_analysed Its.program.lowering Its.program.classes Its.stores k_limit image its_legal
      (image_of Its.program.lowering Its.program.classes image Its.program.are_classes verified h.covered.of_tree.code) (λ f x may. (Its.tells f x).1 may) h.covered.over

  pub checked_safe : NeverFaultsForLocks image
  checked_safe =
      sound_program Its.program.lowering Its.program.classes Its.stores k_limit (Needed Its.program.lowering Its.program.classes Its.stores k_limit) image its_analysed

  pub checked_guarded : (count : ℕ) → IsGuarded image count
  checked_guarded = is_guarded Its.program.lowering Its.program.classes Its.stores k_limit image its_analysed h.guarded

  pub checked_serial : (count : ℕ) → HasSerialRuns image count
  checked_serial = guarded_serial Its.program.lowering Its.program.classes Its.stores k_limit image its_analysed h.guarded

  pub checked_serial_up_to : (count : ℕ) → HasSerialRunsUpTo image count
  checked_serial_up_to = guarded_serial_up_to Its.program.lowering Its.program.classes Its.stores k_limit image its_analysed h.guarded
