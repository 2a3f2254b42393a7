-- Machinery of the proofs, not of the promise: what locks at the entries of bodies become at the calls (src/call_needs.rt, src/entered.rt).
use Rattle.std.specs.Prelude.{◌≡◌, ℕ, Bool, List, Some, slice_get}
use Rattle.asl_code.specs.declared.instr.Instr.{Instr}
use Rattle.asl_code.specs.declared.instr.Instr.TheVariants as instr
use Rattle.asl_code.specs.declared.lock.Lock.{Lock}
use Rattle.asl_lane_sets.specs.NumberSet.{IsIn}
use Rattle.asl_lower.specs.Lowered.{Lowered}
use Rattle.asl_backward_flow.specs.declared.entered.Entered.{Entered}
use Rattle.asl_backward_flow.specs.Found.{Table, locks_of, IsNamed}
use Rattle.asl_backward_flow.specs.Follows.{Read, IsAtPoint, IsEntered, WithFronts}

-- what such a lock at the entry of the callee becomes at the call at the pc
abbrev pub IsEnteredOf : Read → ℕ → ℕ → (Lock → Type 0) → Lock → Type 0
IsEnteredOf r part pc Such = WithFronts (λ n. (l : Lock) × Such l × IsEntered r part pc l n)

-- the lock is needed at the call at the pc, at the entry of whose callee such a lock is needed
abbrev pub IsCalledAtOf : Read → ℕ → (Lock → Type 0) → ℕ → ℕ → Lock → Type 0
IsCalledAtOf r pc Such p q m = (q ≡ pc) × IsAtPoint r p q × IsEnteredOf r p q Such m

-- both are calls of one function, with its arguments in the same registers
abbrev pub AreSameCall : Instr → Instr → Type 0
AreSameCall i j = (to other first g : ℕ) × (i ≡ instr.Call to first g) × (j ≡ instr.Call other first g)

-- such calls stand at both pcs
abbrev pub IsSameCall : Lowered → ℕ → ℕ → Type 0
IsSameCall l pc other = (i j : Instr) × (slice_get l.code pc ≡ Some i) × (slice_get l.code other ≡ Some j) × AreSameCall i j

-- at the place is what was found for the region at such a call
abbrev pub IsFoundAt : Lowered → ℕ → ℕ → List Entered → ℕ → Type 0
IsFoundAt l part pc known place = (e : Entered) × (slice_get known place ≡ Some e) × (e.part ≡ part) × IsSameCall l e.pc pc

-- the numbers of the region are those of what such locks become at the call at the pc
pub record IsEnteredAt (r : Read) (t : Table) (Such : Lock → Type 0) (part pc : ℕ) (numbers : List Bool) : Type 0 where
  pub named : (n : ℕ) → IsIn numbers n → (m : Lock) × (slice_get (locks_of t part) n ≡ Some m)
  pub only : (m : Lock) → IsNamed (locks_of t part) numbers m → IsEnteredOf r part pc Such m
  pub all : (m : Lock) → IsEnteredOf r part pc Such m → IsNamed (locks_of t part) numbers m

-- of each of these, its numbers are those of what such locks become at the call at its pc, in its region
abbrev pub AreEntered : Read → Table → (Lock → Type 0) → List Entered → Type 0
AreEntered r t Such known = (k : ℕ) (e : Entered) → slice_get known k ≡ Some e → IsEnteredAt r t Such e.part e.pc e.numbers
