-- How what a load or a store needs comes back to the start of a section, step by step (docs/ANALYSIS.md, "Needed locks").
use Rattle.std.specs.Prelude.{◌≡◌, ℕ, suc, Bool, List, [], length, Some, slice_get}
use Rattle.asl_code.specs.declared.image.Function as entry
use Rattle.asl_code.specs.declared.instr.Instr.{Instr}
use Rattle.asl_code.specs.declared.instr.Instr.TheVariants as instr
use Rattle.asl_code.specs.declared.lock.Base.TheVariants.{Reg}
use Rattle.asl_code.specs.declared.lock.Lock.{Lock}
use Rattle.asl_code.specs.declared.lock.Lock.TheVariants.{Root, Class, Expr}
use Rattle.asl_lower.specs.Lowered.{Lowered}
use Rattle.asl_lower.specs.OpenSections.{FlowsTo, start_of}
use Rattle.asl_lower.specs.Regions.{Region, Body, Inside, IsIn}
use Rattle.asl_points_to.specs.Classes.{Classed}
use Rattle.asl_lock_expr.specs.Links.{view, IsOne, link, settle, accesses, renamed, dereferenced}
use Rattle.asl_backward_flow.specs.Needed.{Needed, region_of}
use Rattle.asl_explain.specs.declared.explained_value.Step.{Step}
use Rattle.asl_explain.specs.declared.explained_value.Why.{Why}
use Rattle.asl_explain.specs.declared.explained_value.Why.TheVariants.{Accessed, Linked, Entered, Dereferenced}

-- what needs are read against: the program, its classes, whether a function may store to a class, and how long a path may be
pub record Read : Type 0 where
  pub lowered : Lowered
  pub classes : Classed
  pub stores : ℕ → ℕ → Bool
  pub k_limit : ℕ

-- the region needs the lock at the pc
abbrev pub Needs : Read → Region → ℕ → Lock → Type 0
Needs x r pc lock = Needed x.lowered x.classes x.stores x.k_limit r pc lock

-- the instruction at the pc of the region, of function `f`
pub record StandsAt (x : Read) (r : Region) (pc f : ℕ) (i : Instr) : Type 0 where
  pub inside : IsIn x.lowered r f pc
  pub stands : slice_get x.lowered.code pc ≡ Some i

-- the instruction at the pc leaves the lock as it is, perhaps besides others that it becomes, and control may continue at the next
pub record Keeps (x : Read) (r : Region) (lock : Lock) (pc next : ℕ) : Type 0 where
  pub function : ℕ
  pub instruction : Instr
  pub at : StandsAt x r pc function instruction
  pub goes_on : FlowsTo instruction pc next
  pub keeps : IsOne (link (view x.classes x.stores x.k_limit function) instruction lock) lock

-- control may come from the first pc to the second within the region, and each instruction on this way keeps the lock
pub data Stays (x : Read) (r : Region) (lock : Lock) (from : ℕ) : ℕ → Type 0 where
  Here : Stays x r lock from from
  Over : (pc next : ℕ) → Stays x r lock from pc → Keeps x r lock pc next → Stays x r lock from next

-- the step's instruction is a load or a store, which needs the step's lock itself, and the step names this reason
pub record IsAccess (x : Read) (s : Step) : Type 0 where
  pub why : s.why ≡ Accessed
  pub function : ℕ
  pub instruction : Instr
  pub at : StandsAt x (region_of s.region) s.pc function instruction
  pub accesses : IsOne (accesses (view x.classes x.stores x.k_limit function) instruction) s.lock

-- the lock of the step before is needed after the step's instruction, from where it stays as far as the step before, and becomes
-- the step's lock before it
pub record IsLink (x : Read) (before s : Step) : Type 0 where
  pub same : s.region ≡ before.region
  pub function : ℕ
  pub instruction : Instr
  pub at : StandsAt x (region_of s.region) s.pc function instruction
  pub next : ℕ
  pub goes_on : FlowsTo instruction s.pc next
  pub needed : Needs x (region_of s.region) next before.lock
  pub stays : Stays x (region_of s.region) before.lock next before.pc
  pub links : IsOne (link (view x.classes x.stores x.k_limit function) instruction before.lock) s.lock

-- the step's instruction is a call; the lock of the step before is needed at the callee's entry, from where it stays as far as the
-- step before, and becomes the step's lock at the call: registers are renamed, and what has too long a path becomes its class
pub record IsEntry (x : Read) (before s : Step) : Type 0 where
  pub function : ℕ
  pub to : ℕ
  pub first : ℕ
  pub callee : ℕ
  pub at : StandsAt x (region_of s.region) s.pc function (instr.Call to first callee)
  pub called : entry.Function
  pub in_table : slice_get x.lowered.functions callee ≡ Some called
  pub body : region_of before.region ≡ Body callee
  pub needed : Needs x (Body callee) (start_of x.lowered.functions callee) before.lock
  pub stays : Stays x (Body callee) before.lock (start_of x.lowered.functions callee) before.pc
  pub lock : Lock
  pub renames : IsOne (renamed first called.params before.lock) lock
  pub settles : IsOne (settle (view x.classes x.stores x.k_limit function) lock) s.lock

-- the lock of the step before is needed at the step's pc, from where it stays as far as the step before, and evaluating it reads
-- the cell of the step's lock
pub record IsFront (x : Read) (before s : Step) : Type 0 where
  pub same : s.region ≡ before.region
  pub needed : Needs x (region_of s.region) s.pc before.lock
  pub stays : Stays x (region_of s.region) before.lock s.pc before.pc
  pub reads : IsOne (dereferenced before.lock) s.lock

-- the step's lock is needed for the reason that the step names, because that of the step before is
abbrev pub FollowsBy : Why → Read → Step → Step → Type 0
FollowsBy Accessed x before s = ⊥
FollowsBy Linked x before s = IsLink x before s
FollowsBy Entered x before s = IsEntry x before s
FollowsBy Dereferenced x before s = IsFront x before s

-- the step `s` follows from the step before it for the reason that it names
abbrev pub Follows : Read → Step → Step → Type 0
Follows x before s = FollowsBy s.why x before s

-- the region of each step needs its lock at its pc; the first is a load or a store that needs its lock itself; each other
-- follows from the one before it
pub record AreSteps (x : Read) (steps : List Step) : Type 0 where
  pub begins : (s : Step) → slice_get steps 0 ≡ Some s → IsAccess x s
  pub follows : (n : ℕ) (before s : Step) → slice_get steps n ≡ Some before → slice_get steps (suc n) ≡ Some s → Follows x before s

-- the last step is one of the region, and has the lock, which stays from the pc as far as this step
pub record EndsAt (x : Read) (r : Region) (from : ℕ) (lock : Lock) (steps : List Step) : Type 0 where
  pub number : ℕ
  pub last : suc number ≡ length steps
  pub step : Step
  pub at : slice_get steps number ≡ Some step
  pub region : region_of step.region ≡ r
  pub holds : step.lock ≡ lock
  pub stays : Stays x r lock from step.pc

-- the steps are a chain from an access to a lock of the region at a pc: they tell one way from there to the access
pub record IsChain (x : Read) (r : Region) (from : ℕ) (lock : Lock) (steps : List Step) : Type 0 where
  pub path : AreSteps x steps
  pub ends : EndsAt x r from lock steps

-- the lock begins on the register
abbrev pub IsOn : ℕ → Lock → Type 0
IsOn register (Expr e effect) = e.base ≡ Reg register
IsOn register (Class class effect) = ⊥
IsOn register (Root effect) = ⊥

-- the section needs the lock after the `new` at the pc, which sets the register on which the lock begins; the object is new there,
-- so the lock becomes none before the `new`
pub record IsDropped (x : Read) (section pc : ℕ) (lock : Lock) : Type 0 where
  pub function : ℕ
  pub to : ℕ
  pub cells : ℕ
  pub site : ℕ
  pub at : StandsAt x (Inside section) pc function (instr.New to cells site)
  pub needed : Needs x (Inside section) (suc pc) lock
  pub begins : IsOn to lock
  pub none : link (view x.classes x.stores x.k_limit function) (instr.New to cells site) lock ≡ []
