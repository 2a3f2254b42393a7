-- What is known of a tree and a program, as the clauses of `check` say it.
use Rattle.std.proofs.Common.{ℕ, List, length}
use Rattle.asl_code.specs.declared.image.Image.{Image}
use Rattle.asl_syntax.specs.Tree.{Item}
use Rattle.asl_lower.specs.Lowered.{Lowered, IsLowering}
use Rattle.asl_points_to.specs.Classes.{Classed, AreClasses}
use Rattle.asl_backward_flow.specs.Needed.{RegionNeeds}
use Rattle.asl_backward_flow.specs.Flows.{IsFlow}
use Rattle.asl_emitter.specs.Inferred.{Analysis}
use Rattle.asl_emitter.specs.Refused.{IsAccepted}
use Rattle.asl_check.specs.declared.code_difference.CodeDifference.{CodeDifference}
use Rattle.asl_check.specs.declared.fault.CheckFault.{CheckFault}
use Rattle.asl_check.specs.declared.fault.CheckFault.TheVariants.{Infer, OtherCode, Uncovered, Unguarded}
use Rattle.asl_check.specs.Checked.{IsCodeOf, AreGuarded, IsOtherCode}
use Rattle.asl_check.specs.KnownLists.{AreCovered, IsUncovered, IsUnguarded}
use Rattle.asl_check.specs.Refused.{IsChecked, IsOther, IsRefusedLists}
use Rattle.asl_check.proofs.Covering.{stand_over, bare_lacking}

module _ (is : List Item) (l : Lowered) (c : Classed) (k_limit : ℕ) (parts : List RegionNeeds) (lowers : IsLowering is l) (are : AreClasses l c) (flow : IsFlow l c k_limit parts) (accepted : IsAccepted is k_limit) where
  abbrev analysis : Analysis is
  analysis = record { program = record { lowering = l; lowers = lowers; classes = c; are_classes = are }; stores = flow.stores; tells = flow.written }

  pub is_other : (image : Image) (d : CodeDifference) → IsOtherCode l c image d → IsOther is k_limit image d
  is_other image d other = record { accepted = accepted; analysis = analysis; other = other }

  pub is_checked : (image : Image) → IsCodeOf l c image → AreCovered l c parts image.lists (length l.sections) → AreGuarded l c image.lists (length l.sections) → IsChecked is k_limit image
  is_checked image code covered guarded =
      record {
        covered = record { of_tree = record { accepted = accepted; analysis = analysis; code = code }; over = stand_over l c flow.stores k_limit parts image flow.tells covered };
        guarded = guarded;
      }

  pub is_unguarded : (image : Image) → IsCodeOf l c image → AreCovered l c parts image.lists (length l.sections) → (fault : CheckFault) → IsUnguarded l c image.lists fault → IsRefusedLists is k_limit image fault
  is_unguarded image code covered (Unguarded section lock) h = record {
    covered = record { of_tree = record { accepted = accepted; analysis = analysis; code = code }; over = stand_over l c flow.stores k_limit parts image flow.tells covered };
    open_at = h;
  }
  is_unguarded image code covered (Uncovered section lock) h = absurd h
  is_unguarded image code covered (Infer fault) h = absurd h
  is_unguarded image code covered (OtherCode pc) h = absurd h

  pub is_uncovered : (image : Image) → IsCodeOf l c image → (fault : CheckFault) → IsUncovered l c parts image.lists fault → IsRefusedLists is k_limit image fault
  is_uncovered image code (Uncovered section lock) h = record {
    of_tree = record { accepted = accepted; analysis = analysis; code = code };
    lacking = bare_lacking l c flow.stores k_limit parts image.lists section lock flow.tells h;
  }
  is_uncovered image code (Unguarded section lock) h = absurd h
  is_uncovered image code (Infer fault) h = absurd h
  is_uncovered image code (OtherCode pc) h = absurd h
