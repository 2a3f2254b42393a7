-- Why members share a class (docs/ANALYSIS.md, "Why one class"): places that point to classes, steps between them, each an
-- instance of a condition on legal classes, and chains of steps.
use Rattle.std.specs.Prelude.{◌≡◌, ◌<◌, ◌+◌, ◌⊎◌, ℕ, List, [], ◌∷◌, Option, Some, length, slice_get, take, option_and_then}
use Rattle.asl_code.specs.declared.image.Function as entry
use Rattle.asl_code.specs.declared.instr.Instr.{Instr}
use Rattle.asl_code.specs.declared.instr.Instr.TheVariants as instr
use Rattle.asl_lower.specs.Lowered.{Lowered}
use Rattle.asl_lower.specs.OpenSections.{InBody}
use Rattle.asl_points_to.specs.Classes.{Classed, to, inside, members, AreClasses, Share}
use Rattle.asl_class_reasons.specs.declared.place.Place.{Place}
use Rattle.asl_class_reasons.specs.declared.place.Place.TheVariants as place
use Rattle.asl_class_reasons.specs.declared.place.Cause.{Cause}
use Rattle.asl_class_reasons.specs.declared.place.Cause.TheVariants as cause
use Rattle.asl_class_reasons.specs.declared.place.Step.{Step}
use Rattle.asl_class_reasons.specs.declared.place.Link.{Link}
use Rattle.asl_class_reasons.specs.declared.straight.StraightChain.{StraightChain}

-- the class that a place points to
abbrev pub points : Classed → Place → Option ℕ
points c (place.Member m) = slice_get (members c) m
points c (place.Register f r) = to c f r
points c (place.Cells m) = option_and_then (inside c) (slice_get (members c) m)

-- the step leads from one place to another, either way
abbrev pub Leads : Step → Place → Place → Type 0
Leads s a b = ((s.from ≡ a) × (s.into ≡ b)) ⊎ ((s.into ≡ a) × (s.from ≡ b))

-- the links lead from one place to another, by steps of the list
abbrev pub IsChain : List Step → Place → List Link → Place → Type 0
IsChain steps a [] b = a ≡ b
IsChain steps a (k ∷ ks) b = (s : Step) × (slice_get steps k.step ≡ Some s) × Leads s a k.into × IsChain steps k.into ks b

-- a chain of such steps leads from one place to the other
abbrev pub Joined : List Step → Place → Place → Type 0
Joined steps a b = (ks : List Link) × IsChain steps a ks b

-- the program has this member
abbrev pub IsMember : Lowered → ℕ → Type 0
IsMember l m = m < l.globals + l.sites

-- the place points somewhere: a chain leads from it to a member
abbrev pub IsFilled : Lowered → List Step → Place → Type 0
IsFilled l steps a = (m : ℕ) × IsMember l m × Joined steps a (place.Member m)

-- the place points to the class of this member
abbrev pub PointsTo : Lowered → List Step → Place → ℕ → Type 0
PointsTo l steps a m = IsMember l m × Joined steps a (place.Member m)

-- what a call passes: an argument to a parameter, and what the callee returns to the register of the result
abbrev pub IsPassed : Lowered → ℕ → ℕ → ℕ → Place → Place → Type 0
IsPassed l f first callee from into =
    (function : entry.Function) × (n : ℕ) × (slice_get l.functions callee ≡ Some function) × (n < function.params) × (from ≡ place.Register f (first + n)) × (into ≡ place.Register callee n)

-- a `ret` of the callee returns the register `from`, and the call puts that into the register `a` of the function `f`, which is `into`
abbrev pub IsReturned : Lowered → ℕ → ℕ → ℕ → Place → Place → Type 0
IsReturned l f a callee from into =
    (pc : ℕ) × (r : ℕ) × InBody l callee pc × (slice_get l.code pc ≡ Some (instr.Return r)) × (from ≡ place.Register callee r) × (into ≡ place.Register f a)

-- the step from one place into another is what the classes owe to the instruction of the function `f`, where the steps of the
-- list have been made
abbrev pub IsOwed : Lowered → List Step → ℕ → Instr → Place → Place → Type 0
IsOwed l steps f (instr.Move a b) from into = (from ≡ place.Register f b) × (into ≡ place.Register f a)
IsOwed l steps f (instr.FieldAddress a b d) from into = (from ≡ place.Register f b) × (into ≡ place.Register f a)
IsOwed l steps f (instr.GlobalAddress a g) from into = (from ≡ place.Member g) × (g < l.globals) × (into ≡ place.Register f a)
IsOwed l steps f (instr.New a n s) from into = (from ≡ place.Member (l.globals + s)) × (s < l.sites) × (into ≡ place.Register f a)
IsOwed l steps f (instr.Load a b) from into =
    (m : ℕ) × (from ≡ place.Cells m) × (into ≡ place.Register f a) × PointsTo l steps (place.Register f b) m
IsOwed l steps f (instr.Store a b) from into =
    (m : ℕ) × (from ≡ place.Register f b) × (into ≡ place.Cells m) × PointsTo l steps (place.Register f a) m
IsOwed l steps f (instr.Call a first callee) from into =
    IsPassed l f first callee from into ⊎ IsReturned l f a callee from into
IsOwed l steps f i from into = ⊥

-- the step is due, by an instruction, or because its places are the cells of members that share a class
abbrev pub IsDue : Lowered → List Step → Cause → Place → Place → Type 0
IsDue l steps (cause.Instruction pc) from into =
    (f : ℕ) × (i : Instr) × InBody l f pc × (slice_get l.code pc ≡ Some i) × IsOwed l steps f i from into
IsDue l steps cause.SameClass from into =
    (m : ℕ) × (n : ℕ) × (from ≡ place.Cells m) × (into ≡ place.Cells n) × IsMember l m × IsMember l n × Joined steps (place.Member m) (place.Member n)

-- a step is reasoned by the steps of the list: the place from which it leads points somewhere, and it is due
pub record IsReasoned (l : Lowered) (steps : List Step) (s : Step) : Type 0 where
  pub filled : IsFilled l steps s.from
  pub due : IsDue l steps s.cause s.from s.into

-- each step of the list is reasoned by those before it
abbrev pub AreReasons : Lowered → List Step → Type 0
AreReasons l steps = (n : ℕ) (s : Step) → slice_get steps n ≡ Some s → IsReasoned l (take n steps) s

-- each step of the second list is reasoned by those of the first
abbrev pub AreReasonedBy : Lowered → List Step → List Step → Type 0
AreReasonedBy l steps more = (n : ℕ) (s : Step) → slice_get more n ≡ Some s → IsReasoned l steps s

-- what is found: for so many members and functions, the steps
pub record Found : Type 0 where
  pub members : ℕ
  pub functions : ℕ
  pub steps : List Step

-- all reasons: members that share a class of the program are joined
pub record AreAllReasons (l : Lowered) (steps : List Step) : Type 0 where
  pub reasons : AreReasons l steps
  pub all : (c : Classed) → AreClasses l c → (m n : ℕ) → Share c m n → Joined steps (place.Member m) (place.Member n)

-- the steps are reasons of the program, which has so many members and functions
pub record AreReasonsOf (l : Lowered) (f : Found) : Type 0 where
  pub members : f.members ≡ l.globals + l.sites
  pub functions : f.functions ≡ length l.functions
  pub reasons : AreReasons l f.steps

-- a chain that is no circle: each of its steps is reasoned by the first so many of the list, and these leave its ends apart
pub record IsStraight (l : Lowered) (steps : List Step) (from into : Place) (c : StraightChain) : Type 0 where
  pub apart : ¬ Joined (take c.before steps) from into
  pub reasoned : AreReasonedBy l (take c.before steps) c.steps.items
  pub chain : IsChain c.steps.items from c.links.items into
