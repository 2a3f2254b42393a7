-- What soundness rests on, for any closed family of locks. The needed locks are
-- one, so the laws name these alone.
use Rattle.std.specs.Prelude.{ℕ, Bool}
use Rattle.asl_code.specs.declared.image.Image.{Image}
use Rattle.asl_code.specs.declared.lock.Lock.{Lock}
use Rattle.asl_lower.specs.Lowered.{Lowered}
use Rattle.asl_lower.specs.Regions.{Region}
use Rattle.asl_lower.specs.LegalLowering.{IsLegalLowering}
use Rattle.asl_points_to.specs.Classes.{Classed}
use Rattle.asl_backward_flow.specs.Closed.{Family, IsClosed}
use Rattle.asl_soundness.specs.Coded.{IsImageOf}
use Rattle.asl_soundness.specs.Protected.{LockThere}
use Rattle.asl_soundness.specs.Safe.{ListsCover, TellsAllStores}

-- the image of a lowering, with legal classes, whose lists cover a closed family of locks; each of these begins on a
-- register, or on a global that is there
pub record IsAnalysed (l : Lowered) (c : Classed) (stores : ℕ → ℕ → Bool) (k_limit : ℕ) (K : Family) (image : Image) : Type 0 where
  pub kept : IsLegalLowering l
  pub made : IsImageOf l c image
  pub closed : IsClosed l c stores k_limit K
  pub based : (r : Region) (pc : ℕ) (n : Lock) → K r pc n → LockThere c n
  pub told : TellsAllStores l c stores
  pub lists : ListsCover l c K image
