-- Which programs are refused, and why (docs/ANALYSIS.md, "The inferred image").
use Rattle.std.specs.Prelude.{ℕ, ◌<◌, ◌≤◌, List}
use Rattle.asl_syntax.specs.Tree.{Item}
use Rattle.asl_lower.specs.Refused.{HasRoom, HasAccessesInside, IsRefusedLowering as IsNotLowered}
use Rattle.asl_lower.specs.Regions.{Region}
use Rattle.asl_lower.specs.declared.fault.LowerFault.TheVariants as lower
use Rattle.asl_backward_flow.specs.Needed.{NeedsMany, region_of}
use Rattle.asl_emitter.specs.declared.fault.InferFault.{InferFault}
use Rattle.asl_emitter.specs.declared.fault.InferFault.TheVariants.{Registers, CodeSize, AccessOutsideSection, TooManyClasses, TooManyLocks, OutOfMemory}
use Rattle.asl_emitter.specs.Inferred.{ClassedProgram, Analysis}

-- the program is lowered: it has room, and its accesses are in sections
pub record IsLowered (is : List Item) : Type 0 where
  pub room : HasRoom is
  pub inside : HasAccessesInside is

-- it is lowered, and has more than 1,024 classes
pub record HasManyClasses (is : List Item) : Type 0 where
  pub lowered : IsLowered is
  pub program : ClassedProgram is
  pub many : 1024 < program.classes.count

-- it is lowered, has at most 1,024 classes, and the region needs more than 4,096 locks
pub record HasManyLocks (is : List Item) (k_limit : ℕ) (r : Region) : Type 0 where
  pub lowered : IsLowered is
  pub analysis : Analysis is
  pub few_classes : analysis.program.classes.count ≤ 1024
  pub many : NeedsMany analysis.program.lowering analysis.program.classes analysis.stores k_limit r

-- it is lowered, has at most 1,024 classes, and no region needs more than 4,096 locks
pub record IsAccepted (is : List Item) (k_limit : ℕ) : Type 0 where
  pub lowered : IsLowered is
  pub analysis : Analysis is
  pub few_classes : analysis.program.classes.count ≤ 1024
  pub few_locks : (r : Region) → ¬ NeedsMany analysis.program.lowering analysis.program.classes analysis.stores k_limit r

-- the program has this fault, and none that is listed before it; lack of memory hides no fault of the lowering, which needs no
-- memory to be judged
abbrev pub IsRefusedInference : List Item → ℕ → InferFault → Type 0
IsRefusedInference is k_limit (Registers function) = IsNotLowered is (lower.Registers function)
IsRefusedInference is k_limit CodeSize = IsNotLowered is lower.CodeSize
IsRefusedInference is k_limit (AccessOutsideSection function pc) = IsNotLowered is (lower.AccessOutsideSection function pc)
IsRefusedInference is k_limit TooManyClasses = HasManyClasses is
IsRefusedInference is k_limit (TooManyLocks region) = HasManyLocks is k_limit (region_of region)
IsRefusedInference is k_limit OutOfMemory = IsLowered is
