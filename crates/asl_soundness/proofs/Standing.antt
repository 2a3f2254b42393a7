-- The image and the lowering of which it is: bodies, and instructions at their places.
use Rattle.std.proofs.Common.{◌≡◌, ℕ, ◌+◌, ◌<◌, ◌≤◌, Option, Some, None, length, List, slice_get, refl, ap, sym, ◌∙◌, subst}
use Rattle.std.specs.Prelude.{option_map}
use Rattle.std.proofs.lemmas.Option.{slice_get-map, same_Some}
use Rattle.asl_code.specs.declared.image.Function.{Function}
use Rattle.asl_code.specs.declared.image.Image.{Image}
use Rattle.asl_code.specs.declared.instr.Instr.{Instr}
use Rattle.asl_code.specs.declared.instr.Instr.TheVariants as instr
use Rattle.asl_code.specs.Fits.{LiesIn}
use Rattle.asl_code.specs.declared.value.Value.TheVariants.{Addr}
use Rattle.asl_lower.specs.Lowered.{Lowered}
use Rattle.asl_lower.specs.OpenSections.{InBody, start_of}
use Rattle.asl_points_to.specs.Classes.{Classed}
use Rattle.asl_machine.specs.State.{State, class_of}
use Rattle.asl_machine.specs.Access.{Points}
use Rattle.asl_machine.specs.WellFormed.{IsSuspended, SatisfiesInvariant}
use Rattle.asl_machine.proofs.WellFormedHeaps.{global_points}
use Rattle.asl_machine.specs.State.{Frame, Object}
use Rattle.asl_soundness.specs.Coded.{classed, IsImageOf}

-- where the image has a call, so has the lowering
pub classed_call : (c : Classed) (i : Instr) (a first g : ℕ) → classed c i ≡ instr.Call a first g → i ≡ instr.Call a first g
classed_call c (instr.New x n s) a first g e = cc
classed_call c i a first g e = e

module _ (l : Lowered) (c : Classed) (image : Image) (made : IsImageOf l c image) where
  -- a place in a body of the image is one in that body of the lowering
  pub body_of : (n pc : ℕ) (f : Function) → LiesIn image n pc f → InBody l n pc
  body_of n pc f lies = record {
    function = f;
    in_table = ap (λ fs. slice_get fs n) (sym made.functions) ∙ lies.function;
    start = subst (λ fs. start_of fs n ≤ pc) made.functions lies.low;
    before_end = subst (λ fs. pc < start_of fs n + f.len) made.functions lies.high;
  }

  -- the lowering's instruction at a place of the image's code
  pub lowered_at : (pc : ℕ) (j : Instr) → slice_get image.code pc ≡ Some j → (i : Instr) × (slice_get l.code pc ≡ Some i) × (classed c i ≡ j)
  lowered_at pc j e =
      let mapped : option_map (classed c) (slice_get l.code pc) ≡ Some j = sym (slice_get-map (classed c) l.code pc) ∙ ap (λ xs. slice_get xs pc) (sym made.code) ∙ e in
      elim (slice_get l.code pc) as (λ o. slice_get l.code pc ≡ o → option_map (classed c) o ≡ Some j → (i : Instr) × (slice_get l.code pc ≡ Some i) × (classed c i ≡ j)) [
        | None ↦ λ is f. cc
        | Some i ↦ λ is f. (i, is, same_Some (classed c i) j f)
      ] refl mapped

  -- the call after which a frame waits stands in the lowering too
  pub call_at : (objects : List Object) (above : ℕ) (result : Option ℕ) (f : Frame) → (u : IsSuspended image objects above result f) → slice_get l.code u.call ≡ Some (instr.Call u.to u.first above)
  call_at objects above result f u =
      let i = lowered_at u.call (instr.Call u.to u.first above) u.calls in
      i.1 ∙ ap (λ j. Some j) (classed_call c i.0 u.to u.first above i.2)

  -- the globals' objects are there and of the globals' classes
  pub globals_agree : (s : State) → SatisfiesInvariant image s → (g x : ℕ) → slice_get c.globals g ≡ Some x → class_of s.objects g ≡ Some x
  globals_agree s sound g x e = (sound.formed.objects.globals g x (ap (λ xs. slice_get xs g) made.globals ∙ e)).0

  pub globals_point : (s : State) → SatisfiesInvariant image s → (g : ℕ) → g < length c.globals → Points s.objects (Addr g 0)
  globals_point s sound g lt = global_points image s.objects g sound.formed.objects (subst (λ xs. g < length xs) (sym made.globals) lt)
