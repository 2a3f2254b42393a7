-- Machinery of the proofs, not of the promise: the jumps to each pc, the calls of each function, and the regions that have
-- each call (src/graph.rt).
use Rattle.std.specs.Prelude.{◌≡◌, ◌≢◌, ◌+◌, ◌<◌, ◌≤◌, ℕ, Bool, true, false, List, Option, Some, None, slice_get}
use Rattle.asl_code.specs.declared.instr.Instr.{Instr}
use Rattle.asl_code.specs.declared.instr.Instr.TheVariants as instr
use Rattle.asl_lower.specs.Lowered.{Lowered}
use Rattle.asl_lower.specs.OpenSections.{CallsAt, FlowsTo}
use Rattle.asl_backward_flow.specs.declared.span.Span.{Span}
use Rattle.asl_backward_flow.specs.Found.{IsAt, list_at}

-- the region of this number has the pc
abbrev pub HasPc : List Span → ℕ → ℕ → Type 0
HasPc spans pc part = (s : Span) × (slice_get spans part ≡ Some s) × (s.first ≤ pc) × (pc < s.end)

-- control continues from the pc to another
abbrev pub IsEdge : Lowered → ℕ → ℕ → Type 0
IsEdge l to pc = (i : Instr) × (slice_get l.code pc ≡ Some i) × FlowsTo i pc to

-- control continues from the pc to another that is not the next
abbrev pub IsJump : Lowered → ℕ → ℕ → Type 0
IsJump l to pc = IsEdge l to pc × (to ≢ pc + 1)

-- whether control may continue from an instruction to the next, and where it may jump to
abbrev pub goes_to_next : Instr → Bool
goes_to_next (instr.Jump target) = false
goes_to_next (instr.Return from) = false
goes_to_next i = true

-- the pc to which an instruction may jump, if it is a jump
abbrev pub jump_target : Instr → Option ℕ
jump_target (instr.Jump target) = Some target
jump_target (instr.JumpIfZero test target) = Some target
jump_target i = None

-- the function is called at the pc
abbrev pub IsCall : Lowered → ℕ → ℕ → Type 0
IsCall l callee pc = CallsAt l pc callee

-- the region of this number has the pc, at which a function is called
abbrev pub HasCall : Lowered → List Span → ℕ → ℕ → Type 0
HasCall l spans pc part = HasPc spans pc part × ((callee : ℕ) × IsCall l callee pc)

-- each region ends within so many pcs
abbrev pub EndWithin : List Span → ℕ → Type 0
EndWithin spans count = (part : ℕ) (s : Span) → slice_get spans part ≡ Some s → s.end ≤ count

-- the rows have the pcs below a number that are related to their own number
pub record HasRows (rows : List (List ℕ)) (related : ℕ → ℕ → Type 0) (below : ℕ) : Type 0 where
  pub only : (n pc : ℕ) → IsAt (list_at rows n) pc → (pc < below) × related n pc
  pub all : (n pc : ℕ) → pc < below → related n pc → IsAt (list_at rows n) pc

-- the rows have the pcs below one that are related to their own number, and that one as far as it was added
pub record HasSome (rows : List (List ℕ)) (related : ℕ → ℕ → Type 0) (pc : ℕ) (added : List ℕ) : Type 0 where
  pub only : (n x : ℕ) → IsAt (list_at rows n) x → (x < pc + 1) × related n x
  pub below : (n x : ℕ) → x < pc → related n x → IsAt (list_at rows n) x
  pub here : (n : ℕ) → IsAt added n → IsAt (list_at rows n) pc
