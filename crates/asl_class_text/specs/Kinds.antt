-- Of which kind the condition of a step is (docs/ANALYSIS.md, "Why one class").
use Rattle.std.specs.Prelude.{ℕ, List, Bool, true, false, ◌&&◌, ◌==◌, ◌+◌, nat_lt, if◌then◌else◌, Option, None, Some, slice_get}
use Rattle.std.specs.List.{list_any}
use Rattle.asl_code.specs.declared.image.Function as entry
use Rattle.asl_code.specs.declared.instr.Instr.{Instr}
use Rattle.asl_code.specs.declared.instr.Instr.TheVariants as instr
use Rattle.asl_class_reasons.specs.declared.place.Place.{Place}
use Rattle.asl_class_reasons.specs.declared.place.Place.TheVariants.{Register}
use Rattle.asl_class_reasons.specs.declared.place.Cause.{Cause}
use Rattle.asl_class_reasons.specs.declared.place.Cause.TheVariants.{Instruction, SameClass}
use Rattle.asl_class_reasons.specs.declared.place.Step.{Step}
use Rattle.asl_class_text.specs.declared.facts.Facts.{Facts}
use Rattle.asl_class_text.specs.declared.kinds.Kind.{Kind}
use Rattle.asl_class_text.specs.declared.kinds.Kind.TheVariants as kind
use Rattle.asl_class_text.specs.declared.told.ToldStep.{ToldStep}

-- how many parameters a function has
abbrev pub params_of : Option entry.Function → ℕ
params_of None = 0
params_of (Some f) = f.params

-- how many parameters the function of this number has, and 0 where there is none
abbrev pub parameters_of : Facts → ℕ → ℕ
parameters_of f function = params_of (slice_get f.lowering.functions function)

-- the step leads from the argument of a call to its parameter, of which the callee has so many: from the register `first`, and as
-- many more as the number of the parameter
abbrev pub leads_to_parameter : Place → Place → ℕ → ℕ → ℕ → Bool
leads_to_parameter (Register f r) (Register g p) first callee parameters = g == callee && nat_lt p parameters && r == first + p
leads_to_parameter from into first callee parameters = false

-- whether a step leads so from an argument of a call of the callee to its parameter
abbrev pub is_argument : Step → ℕ → ℕ → ℕ → Bool
is_argument s first callee parameters = leads_to_parameter s.from s.into first callee parameters

-- the kind of a step by a call of the callee: it passes an argument, and else it returns the result
abbrev pub call_kind : Facts → Step → ℕ → ℕ → Kind
call_kind f s first callee = if is_argument s first callee (parameters_of f callee) then kind.Passed else kind.Returned

-- the kind of a step by the instruction
abbrev pub kind_at : Facts → Instr → Step → Kind
kind_at f (instr.GlobalAddress a g) s = kind.Address
kind_at f (instr.New a n site) s = kind.Made
kind_at f (instr.FieldAddress a b d) s = kind.Field
kind_at f (instr.Load a b) s = kind.Loaded
kind_at f (instr.Store a b) s = kind.Stored
kind_at f (instr.Call a first callee) s = call_kind f s first callee
kind_at f i s = kind.Copied

-- the same, if there is an instruction; else that of a copy
abbrev pub kind_by : Facts → Option Instr → Step → Kind
kind_by f None s = kind.Copied
kind_by f (Some i) s = kind_at f i s

-- the kind of a step by the instruction at a pc
abbrev pub kind_of : Facts → ℕ → Step → Kind
kind_of f pc s = kind_by f (slice_get f.lowering.code pc) s

-- the places from which and to which a chain goes over a step
abbrev pub start_of : ToldStep → Place
start_of t = if t.back then t.step.into else t.step.from

-- the place to which a chain goes over a step
abbrev pub end_of : ToldStep → Place
end_of t = if t.back then t.step.from else t.step.into

-- whether steps of this kind pass an argument to a parameter
abbrev pub is_passing : Kind → Bool
is_passing kind.Passed = true
is_passing k = false

-- the step passes an argument to a parameter
abbrev pub is_passed_by : Facts → Cause → Step → Bool
is_passed_by f (Instruction pc) s = is_passing (kind_of f pc s)
is_passed_by f SameClass s = false

-- whether a step of a chain passes an argument to a parameter
abbrev pub is_passed : Facts → ToldStep → Bool
is_passed f t = is_passed_by f t.step.cause t.step

-- a step of the chain does
abbrev pub goes_through_parameters : Facts → List ToldStep → Bool
goes_through_parameters f ts = list_any (is_passed f) ts
