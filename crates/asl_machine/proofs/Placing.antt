-- Where a thread stands after its instruction: a thread that is placed is placed after it goes on, jumps, sets a register, calls
-- and returns. Each step needs this of the thread that takes it.
use Rattle.std.proofs.Common.{◌≡◌, ℕ, ◌+◌, ◌-◌, ◌<◌, ◌≤◌, ◌⊎◌, ◌++◌, zero, suc, pos, replicate, take, drop, length-append, false, List, [], ◌∷◌, Option, Some, length, slice_get, refl, ap, sym, ◌∙◌, subst, inl, inr, arith, length-set}
use Rattle.std.specs.Prelude.{unwrap_or}
use Rattle.std.proofs.lemmas.List.{length-replicate, length-drop, length-take-le}
use Rattle.asl_code.proofs.Told.{slice_get-drop}
use Rattle.asl_code.specs.declared.image.Image.{Image}
use Rattle.asl_code.specs.declared.image.Function.{Function}
use Rattle.asl_code.specs.declared.instr.Instr.{Instr}
use Rattle.asl_code.specs.declared.instr.Instr.TheVariants as instr
use Rattle.asl_code.specs.declared.value.Value.{Value}
use Rattle.asl_code.specs.declared.value.Value.TheVariants.{Int}
use Rattle.asl_code.specs.Fits.{FitsImage, LiesIn}
use Rattle.asl_code.specs.Verified.{is_end}
use Rattle.asl_machine.specs.State.{Object, Frame, Activity}
use Rattle.asl_machine.specs.Access.{Points, AllPoint}
use Rattle.asl_machine.specs.Step.{placed_at, advanced, advanced_with, going_on, called, returned}
use Rattle.asl_machine.specs.WellFormed.{IsPlaced, IsSuspended, AreSuspended}
use Rattle.asl_machine.specs.Calls.{function_of, first_registers, values_from, with_result}
use Rattle.asl_machine.proofs.Lists.{get_either, replicated}

-- after an instruction that ends no function the next place lies in the same body
pub next_place : (image : Image) (objects : List Object) (a : Activity) (p : IsPlaced image objects a) (i : Instr) → FitsImage image → slice_get image.code a.top.pc ≡ Some i → is_end i ≡ false →
    LiesIn image a.top.function (a.top.pc + 1) p.function
next_place image objects a p i fits at goes = fits.goes_on a.top.function a.top.pc p.function i p.lies at goes

-- a thread that continues at a place of its body, in so many sections
pub placed_jumped : (image : Image) (objects : List Object) (a : Activity) (depth target : ℕ) (p : IsPlaced image objects a) → LiesIn image a.top.function target p.function → depth ≤ 255 →
    IsPlaced image objects (going_on a depth (placed_at target a.top))
placed_jumped image objects a depth target p lies small =
    record { function = p.function; lies = lies; registers = p.registers; points = p.points; depth = small; below = p.below; few = p.few }

-- a thread that continues at the next place
pub placed_advanced : (image : Image) (objects : List Object) (a : Activity) (depth : ℕ) (p : IsPlaced image objects a) → LiesIn image a.top.function (a.top.pc + 1) p.function → depth ≤ 255 →
    IsPlaced image objects (going_on a depth (advanced a.top))
placed_advanced image objects a depth p lies small = placed_jumped image objects a depth (a.top.pc + 1) p lies small

-- a thread that continues at the next place with a value in a register
pub placed_with : (image : Image) (objects : List Object) (a : Activity) (to : ℕ) (v : Value) (p : IsPlaced image objects a) → LiesIn image a.top.function (a.top.pc + 1) p.function → Points objects v →
    IsPlaced image objects (going_on a a.depth (advanced_with to v a.top))
placed_with image objects a to v p lies points =
    record {
      function = p.function;
      lies = lies;
      registers = length-set a.top.regs to v ∙ p.registers;
      points = λ r w e. elim (get_either a.top.regs to r v w e) [ inl is ↦ subst (Points objects) (sym is) points | inr old ↦ p.points r w old ];
      depth = p.depth;
      below = p.below;
      few = p.few;
    }

-- ---- calls and returns

-- what is read of a list filled up with z is of the list, or z
filled : (xs : List Value) (m r : ℕ) (z v : Value) → slice_get (xs ++ replicate m z) r ≡ Some v → (slice_get xs r ≡ Some v) ⊎ (v ≡ z)
filled [] m r z v e = inr (replicated m r z v e)
filled (x ∷ xs) m zero z v e = inl e
filled (x ∷ xs) m (suc r) z v e = filled xs m r z v e

-- what is read of the first k is read of the list
taken_from : {X : Type 0} (k : ℕ) (xs : List X) (r : ℕ) (v : X) → slice_get (take k xs) r ≡ Some v → slice_get xs r ≡ Some v
taken_from zero xs r v e = cc
taken_from (suc k) [] r v e = cc
taken_from (suc k) (x ∷ xs) zero v e = e
taken_from (suc k) (x ∷ xs) (suc r) v e = taken_from k xs r v e

-- the arguments point to cells that are there, as the registers do
values_point : (objects : List Object) (regs : List Value) (first count : ℕ) → AllPoint objects regs → AllPoint objects (values_from regs first count)
values_point objects regs first count p r v e = p (first + r) v (sym (slice_get-drop first regs r) ∙ taken_from count (drop first regs) r v e)

-- so do the first registers of the callee
first_points : (objects : List Object) (arguments : List Value) (count : ℕ) → AllPoint objects arguments → AllPoint objects (first_registers arguments count)
first_points objects arguments count p r v e =
    elim (filled arguments (count - length arguments) r (Int (pos 0)) v e) [ inl own ↦ p r v own | inr is ↦ subst (Points objects) (sym is) tt ]

length-values : (regs : List Value) (first count : ℕ) → first + count ≤ length regs → length (values_from regs first count) ≡ count
length-values regs first count le = let l = length-drop first regs in length-take-le count (drop first regs) (omega arith)

length-first : (arguments : List Value) (count : ℕ) → length arguments ≤ count → length (first_registers arguments count) ≡ count
length-first arguments count le =
    let l = length-append arguments (replicate (count - length arguments) (Int (pos 0))) in
    let k = length-replicate (count - length arguments) (Int (pos 0)) in
    omega arith

-- a function that is there
pub function_is : (image : Image) (n : ℕ) (f : Function) → slice_get image.functions n ≡ Some f → function_of image n ≡ f
function_is image n f e = ap (λ o. unwrap_or o (record { params = 0; regs = 0; len = 0 })) e

-- a call puts the callee's frame on top, and the caller waits below
pub placed_called : (image : Image) (objects : List Object) (a : Activity) (to first n : ℕ) (callee : Function) (p : IsPlaced image objects a) → FitsImage image → slice_get image.code a.top.pc ≡ Some (instr.Call to first n) →
    slice_get image.functions n ≡ Some callee → first + callee.params ≤ p.function.regs → LiesIn image a.top.function (a.top.pc + 1) p.function → suc (length a.below) < 256 → IsPlaced image objects (called image a to first n)
placed_called image objects a to first n callee p fits at there enough next room =
    let is = function_is image n callee there in
    let params : (function_of image n).params ≡ callee.params = ap (λ (f : Function). f.params) is in
    let regs : (function_of image n).regs ≡ callee.regs = ap (λ (f : Function). f.regs) is in
    let good = fits.function_fits n callee there in
    let some = good.some in
    let fewer = good.params in
    let own = p.registers in
    let arguments = values_from a.top.regs first (function_of image n).params in
    let count : length arguments ≡ (function_of image n).params = length-values a.top.regs first (function_of image n).params (omega arith) in
    record {
      function = callee;
      lies = record { function = there; low = omega arith; high = omega arith };
      registers = length-first arguments (function_of image n).regs (omega arith) ∙ regs;
      points = first_points objects arguments (function_of image n).regs (values_point objects a.top.regs first (function_of image n).params p.points);
      depth = p.depth;
      below = (
        record {
          function = p.function;
          call = a.top.pc;
          to = to;
          first = first;
          inside = p.lies;
          calls = at;
          awaits = refl;
          behind = refl;
          lies = next;
          registers = p.registers;
          points = p.points;
        },
        p.below,
      );
      few = room;
    }

-- the register that awaits a value is there
pub awaited_there : (image : Image) (objects : List Object) (above : ℕ) (result : Option ℕ) (f : Frame) → FitsImage image → (u : IsSuspended image objects above result f) → u.to < length f.regs
awaited_there image objects above result f fits u =
    let fit = fits.instr_fits f.function u.call u.function (instr.Call u.to u.first above) u.inside u.calls in
    let count = u.registers in
    omega (arith, fit.0)

-- a return gives the value to the frame below
pub placed_returned : (image : Image) (objects : List Object) (a : Activity) (above : ℕ) (result : Option ℕ) (f : Frame) (fs : List Frame) (v : Value) → a.depth ≤ 255 → suc (length fs) < 256 → Points objects v →
    AreSuspended image objects above result (f ∷ fs) → IsPlaced image objects (returned a (with_result result v f) fs)
placed_returned image objects a above result f fs v small room points h =
    let u = h.0 in
    subst (λ r. IsPlaced image objects (returned a (with_result r v f) fs)) (sym u.awaits)
    (record {
      function = u.function;
      lies = u.lies;
      registers = length-set f.regs u.to v ∙ u.registers;
      points = λ r w e. elim (get_either f.regs u.to r v w e) [ inl is ↦ subst (Points objects) (sym is) points | inr old ↦ u.points r w old ];
      depth = small;
      below = h.1;
      few = omega arith;
    })
