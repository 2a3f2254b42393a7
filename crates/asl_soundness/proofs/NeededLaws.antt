-- The laws of the second and third pass, of the least closed family: the needed locks.
use Rattle.std.proofs.Common.{ℕ, Bool}
use Rattle.asl_code.specs.declared.image.Image.{Image}
use Rattle.asl_lower.specs.Lowered.{Lowered}
use Rattle.asl_lower.specs.LegalLowering.{IsLegalLowering}
use Rattle.asl_points_to.specs.Classes.{Classed}
use Rattle.asl_backward_flow.specs.Needed.{Needed}
use Rattle.asl_backward_flow.proofs.Leasts.{needed_closed}
use Rattle.asl_soundness.specs.Coded.{IsImageOf}
use Rattle.asl_soundness.specs.Safe.{ListsCover, TellsAllStores}
use Rattle.asl_soundness.proofs.Analysed.{IsAnalysed}
use Rattle.asl_soundness.proofs.Based.{needed_there}

-- a program whose lists cover the needed locks is analysed
pub needed_analysed : (l : Lowered) (c : Classed) (stores : ℕ → ℕ → Bool) (k_limit : ℕ) (image : Image) → IsLegalLowering l → IsImageOf l c image → TellsAllStores l c stores → ListsCover l c (Needed l c stores k_limit) image →
    IsAnalysed l c stores k_limit (Needed l c stores k_limit) image
needed_analysed l c stores k_limit image kept made told lists = record {
  kept = kept;
  made = made;
  closed = needed_closed l c stores k_limit;
  based = needed_there l c stores k_limit kept.layout made.legal;
  told = told;
  lists = lists;
}
