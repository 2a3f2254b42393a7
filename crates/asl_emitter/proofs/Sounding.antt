-- An inferred program never faults for a missing lock.
use Rattle.std.proofs.Common.{ℕ, suc, ◌≤◌, Bool}
use Rattle.asl_code.specs.declared.image.Image.{Image}
use Rattle.asl_lower.specs.Lowered.{Lowered}
use Rattle.asl_lower.specs.Regions.{Inside}
use Rattle.asl_lower.specs.LegalLowering.{IsLegalLowering}
use Rattle.asl_points_to.specs.Classes.{Classed, AreClasses}
use Rattle.asl_lock_expr.specs.ClassOf.{TellsStores}
use Rattle.asl_backward_flow.specs.Needed.{Needed}
use Rattle.asl_soundness.proofs.Analysed.{IsAnalysed}
use Rattle.asl_soundness.specs.Coded.{IsImageOf}
use Rattle.asl_soundness.specs.Safe.{ListsCover, NeverFaultsForLocks}
use Rattle.asl_soundness.proofs.Soundness.{sound_program}
use Rattle.asl_soundness.proofs.NeededLaws.{needed_analysed}
use Rattle.asl_emitter.specs.Inferred.{IsInferred}
use Rattle.asl_emitter.proofs.Covering.{fitted_covers}
use Rattle.asl_emitter.proofs.Needing.{needed_class}
use Rattle.asl_emitter.proofs.Verifying.{inferred_fits}

stand_over : (l : Lowered) (c : Classed) (stores : ℕ → ℕ → Bool) (k_limit : ℕ) (image : Image) → IsLegalLowering l → AreClasses l c → IsInferred l c stores k_limit image → ListsCover l c (Needed l c stores k_limit) image
stand_over l c stores k_limit image kept are m n s list a there at needed =
    fitted_covers c s.function 256 (Needed l c stores k_limit (Inside n) (suc s.acquire)) list (m.lists n s list there at) a needed
    (needed_class l c stores k_limit kept are n (suc s.acquire) s a there needed)

-- an inferred image is analysed: what is needed in it is a closed family, and its lists cover it
pub inferred_analysed : (l : Lowered) (c : Classed) (stores : ℕ → ℕ → Bool) (k_limit : ℕ) (image : Image) → IsLegalLowering l → AreClasses l c → c.count ≤ 1024 → TellsStores l c stores → IsInferred l c stores k_limit image → IsAnalysed l c stores k_limit (Needed l c stores k_limit) image
inferred_analysed l c stores k_limit image kept are few tells m =
    let made : IsImageOf l c image = record {
      fits = inferred_fits l c stores k_limit image kept are few m;
      version = m.version;
      legal = are.least.legal;
      functions = m.functions;
      start = m.start;
      globals = m.globals;
      code = m.code;
    } in
    needed_analysed l c stores k_limit image kept made (λ f x may. (tells f x).1 may) (stand_over l c stores k_limit image kept are m)

pub inferred_sound : (l : Lowered) (c : Classed) (stores : ℕ → ℕ → Bool) (k_limit : ℕ) (image : Image) → IsLegalLowering l → AreClasses l c → c.count ≤ 1024 → TellsStores l c stores → IsInferred l c stores k_limit image → NeverFaultsForLocks image
inferred_sound l c stores k_limit image kept are few tells m =
    sound_program l c stores k_limit (Needed l c stores k_limit) image (inferred_analysed l c stores k_limit image kept are few tells m)
