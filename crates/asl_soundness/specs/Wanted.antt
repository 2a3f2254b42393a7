-- What a family of locks wants of the state of a run: the locks of each frame are protected (docs/SOUNDNESS.md, "Second pass:
-- one function" and "Third pass: calls").
use Rattle.std.specs.Prelude.{◌≡◌, ℕ, suc, Bool, List, [], ◌∷◌, Some, slice_get}
use Rattle.asl_code.specs.declared.value.Value.{Value}
use Rattle.asl_code.specs.declared.instr.Instr.TheVariants as instr
use Rattle.asl_code.specs.declared.lock.Lock.{Lock}
use Rattle.asl_lower.specs.Lowered.{Lowered}
use Rattle.asl_lower.specs.Regions.{Region}
use Rattle.asl_points_to.specs.Classes.{Classed}
use Rattle.asl_lock_expr.specs.Links.{view, IsOne, link}
use Rattle.asl_backward_flow.specs.Closed.{Family}
use Rattle.asl_machine.specs.State.{Object, Frame}
use Rattle.asl_machine.specs.Cover.{Cover}
use Rattle.asl_soundness.specs.Nested.{region_of}
use Rattle.asl_soundness.specs.Protected.{Protected}

-- each lock of a set is protected
abbrev pub AreProtected : Cover → ℕ → List Object → List Value → (Lock → Type 0) → Type 0
AreProtected k t objects regs Wanted = (n : Lock) → Wanted n → Protected k t objects regs n

-- the lock is one that the call, after which the frame waits, leaves of what the family has after it
pub record IsLeft (l : Lowered) (c : Classed) (stores : ℕ → ℕ → Bool) (k_limit : ℕ) (K : Family) (f : Frame) (r : Region) (n : Lock) : Type 0 where
  pub call : ℕ
  pub to : ℕ
  pub first : ℕ
  pub callee : ℕ
  pub behind : Lock
  pub waits : f.pc ≡ suc call
  pub calls : slice_get l.code call ≡ Some (instr.Call to first callee)
  pub wanted : K r f.pc behind
  pub left : IsOne (link (view c stores k_limit f.function) (instr.Call to first callee) behind) n

-- in the region of the top frame: all that the family has where the frame stands
abbrev pub TopHas : Lowered → Family → Cover → ℕ → List Object → Frame → List Frame → Type 0
TopHas l K k t objects f below =
    (r : Region) → region_of l f below ≡ Some r → AreProtected k t objects f.regs (K r f.pc)

-- in the region of each frame that waits: all that its call leaves
abbrev pub WaitingHave : Lowered → Classed → (ℕ → ℕ → Bool) → ℕ → Family → Cover → ℕ → List Object → List Frame → Type 0
WaitingHave l c stores k_limit K k t objects [] = Unit {0}
WaitingHave l c stores k_limit K k t objects (f ∷ below) =
    ((r : Region) → region_of l f below ≡ Some r → AreProtected k t objects f.regs (IsLeft l c stores k_limit K f r))
    × WaitingHave l c stores k_limit K k t objects below
