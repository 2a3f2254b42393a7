-- Machinery of the proofs, not of the promise: which locks of a region an instruction may concern (src/masks.rt).
use Rattle.std.specs.Prelude.{◌≡◌, ◌<◌, ◌⊎◌, ℕ, Bool, List, Some, length, slice_get}
use Rattle.asl_code.specs.declared.instr.Instr.{Instr}
use Rattle.asl_code.specs.declared.lock.Lock.{Lock}
use Rattle.asl_lane_sets.specs.NumberSet.{IsIn}
use Rattle.asl_lock_expr.specs.declared.touch.Touch.{Touch}
use Rattle.asl_lock_expr.specs.Links.{LinkContext}
use Rattle.asl_lock_expr.specs.Touches.{IsClear, Stays}
use Rattle.asl_backward_flow.specs.declared.span.Span.{Span}
use Rattle.asl_backward_flow.specs.declared.masks.Mask.{Mask}
use Rattle.asl_backward_flow.specs.Found.{Table, locks_of}
use Rattle.asl_backward_flow.specs.Follows.{Read, seen, StaysAt}

-- each number below the mask's is that of a lock, which is one of the mask or is not concerned
abbrev pub IsMask : LinkContext → List Lock → Mask → Type 0
IsMask v locks x = (n : ℕ) → n < x.below → (m : Lock) × (slice_get locks n ≡ Some m) × (IsIn x.touched n ⊎ IsClear v x.touch m)

-- each of these is such a mask of the locks
abbrev pub AreMasks : LinkContext → List Lock → List Mask → Type 0
AreMasks v locks masks = (k : ℕ) (x : Mask) → slice_get masks k ≡ Some x → IsMask v locks x

-- at the place is the mask of what is touched
abbrev pub IsMaskOf : Touch → List Mask → ℕ → Type 0
IsMaskOf touch masks place = (x : Mask) × (slice_get masks place ≡ Some x) × (x.touch ≡ touch)

-- the locks whose numbers are none of the set are not concerned by what is touched
abbrev pub LeavesClear : LinkContext → Touch → List Lock → List Bool → Type 0
LeavesClear v touch locks touched = (n : ℕ) (m : Lock) → ¬ IsIn touched n → slice_get locks n ≡ Some m → IsClear v touch m

-- they stay over the instruction
abbrev pub LeavesStaying : LinkContext → Instr → List Lock → List Bool → Type 0
LeavesStaying v i locks touched = (n : ℕ) (m : Lock) → ¬ IsIn touched n → slice_get locks n ≡ Some m → Stays v i m

-- at the place is a mask that has each lock that what is touched concerns
abbrev pub IsMaskIn : LinkContext → Touch → List Lock → List Mask → ℕ → Type 0
IsMaskIn v touch locks masks place = (x : Mask) × (slice_get masks place ≡ Some x) × LeavesClear v touch locks x.touched

-- the masks of each region
pub record AreAllMasks (r : Read) (t : Table) (all : List (List Mask)) : Type 0 where
  pub count : length all ≡ length r.spans
  pub each : (part : ℕ) (s : Span) (masks : List Mask) → slice_get r.spans part ≡ Some s → slice_get all part ≡ Some masks → AreMasks (seen r s.function) (locks_of t part) masks

-- the locks of the region whose numbers are none of the set stay over the instruction at the pc
abbrev pub LeavesStayingAt : Read → Table → ℕ → ℕ → List Bool → Type 0
LeavesStayingAt r t part pc touched = (n : ℕ) (m : Lock) → ¬ IsIn touched n → slice_get (locks_of t part) n ≡ Some m → StaysAt r part pc m
