-- Machinery of the proofs, not of the promise: the faults of the steps, as faults of `infer` (src/fault.rt).
use Rattle.asl_lower.specs.declared.fault.LowerFault.{LowerFault}
use Rattle.asl_lower.specs.declared.fault.LowerFault.TheVariants as lower
use Rattle.asl_points_to.specs.declared.fault.ClassesFault.{ClassesFault}
use Rattle.asl_points_to.specs.declared.fault.ClassesFault.TheVariants as classes
use Rattle.asl_backward_flow.specs.declared.fault.FlowFault.{FlowFault}
use Rattle.asl_backward_flow.specs.declared.fault.FlowFault.TheVariants as flow
use Rattle.asl_emitter.specs.declared.fault.InferFault.{InferFault}
use Rattle.asl_emitter.specs.declared.fault.InferFault.TheVariants.{Registers, CodeSize, AccessOutsideSection, TooManyClasses, TooManyLocks, OutOfMemory}

-- why a source has no code, as a fault of `infer`
abbrev pub of_lower : LowerFault → InferFault
of_lower (lower.Registers function) = Registers function
of_lower lower.CodeSize = CodeSize
of_lower (lower.AccessOutsideSection function pc) = AccessOutsideSection function pc
of_lower lower.OutOfMemory = OutOfMemory

-- why its code has no classes, as a fault of `infer`
abbrev pub of_classes : ClassesFault → InferFault
of_classes classes.TooManyClasses = TooManyClasses
of_classes classes.OutOfMemory = OutOfMemory

-- why its needed locks are not found, as a fault of `infer`
abbrev pub of_flow : FlowFault → InferFault
of_flow (flow.TooManyLocks region) = TooManyLocks region
of_flow flow.OutOfMemory = OutOfMemory
