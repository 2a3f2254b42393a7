-- Machinery of the proofs, not of the promise: the fault for which statements are sought that bring most of the locks.
use Rattle.std.specs.Prelude.{◌≡◌}
use Rattle.asl_backward_flow.specs.declared.region.Region.{Region}
use Rattle.asl_emitter.specs.declared.fault.InferFault.{InferFault}
use Rattle.asl_emitter.specs.declared.fault.InferFault.TheVariants.{TooManyLocks}

-- the fault is that a region needs too many locks
abbrev pub IsCrowded : InferFault → Type 0
IsCrowded fault = (region : Region) × (fault ≡ TooManyLocks region)
