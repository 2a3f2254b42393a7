-- The laws of the first pass, for whoever has a `Lowering`.
use Rattle.std.proofs.Common.{◌≡◌, ℕ, ◌<◌, Some, IsTrue, slice_get}
use Rattle.asl_code.specs.declared.image.Image.{Image}
use Rattle.asl_code.specs.declared.instr.Instr.{Instr}
use Rattle.asl_lower.specs.Lowered.{Lowered}
use Rattle.asl_lower.specs.OpenSections.{is_access}
use Rattle.asl_lower.specs.LegalLowering.{IsLegalLowering}
use Rattle.asl_points_to.specs.Classes.{Classed}
use Rattle.asl_machine.specs.State.{Activity, State, activity_at}
use Rattle.asl_machine.specs.Run.{IsReached}
use Rattle.asl_soundness.specs.Coded.{IsImageOf}
use Rattle.asl_soundness.proofs.Standing.{body_of}
use Rattle.asl_soundness.proofs.Nesting.{access_inside}
use Rattle.asl_soundness.proofs.Structure.{IsStructured, reached_structured}

pub kept_structured : (l : Lowered) (c : Classed) (image : Image) (count : ℕ) (s : State) → IsLegalLowering l → IsImageOf l c image → IsReached image count s → IsStructured l c image s
kept_structured l c image count s kept made r = reached_structured l c image made kept.layout count s r

-- who stands at an access is in a section
pub access_in_section : (l : Lowered) (c : Classed) (image : Image) (s : State) (t : ℕ) (a : Activity) (i : Instr) → IsLegalLowering l → IsImageOf l c image → IsStructured l c image s →
    activity_at s.threads t ≡ Some a → slice_get l.code a.top.pc ≡ Some i → IsTrue (is_access i) → 0 < a.depth
access_in_section l c image s t a i kept made h is at access =
    let placed = h.sound.formed.placed t a is in
    access_inside l kept.layout.nested a (h.nested t a is) kept.inside i (body_of l c image made a.top.function a.top.pc placed.function placed.lies) at access
