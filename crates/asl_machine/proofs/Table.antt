-- The computed step is a line of the table, at each state that a verified program reaches. So the machine does only what the table
-- allows.
use Rattle.std.proofs.Common.{◌≡◌, ℕ, ◌<◌, ◌≤◌, ◌==◌, [], Some, length, slice_get, refl, ap, sym, subst, inl, inr, arith}
use Rattle.std.specs.Prelude.{unwrap_or}
use Rattle.std.proofs.lemmas.Option.{slice_get_cases}
use Rattle.asl_code.specs.declared.image.Image.{Image}
use Rattle.asl_code.specs.declared.instr.Instr.{Instr}
use Rattle.asl_code.specs.declared.instr.Instr.TheVariants as instr
use Rattle.asl_code.specs.Fits.{FitsInstr}
use Rattle.asl_lock_forest.specs.Holding.{can_grant}
use Rattle.asl_machine.specs.State.{Activity, Thread, Running, Done, Failed, State}
use Rattle.asl_machine.specs.Request.{locks_of, request_of}
use Rattle.asl_machine.specs.Step.{StepOf, Step}
use Rattle.asl_machine.specs.StepFunction.{added, subtracted, compared, left_by, left_at, step_at, step_of, register_of}
use Rattle.asl_machine.specs.WellFormed.{SatisfiesInvariant}
use Rattle.asl_lock_forest.proofs.Grantable.{can_grant-tells, CanGrant-tested}
use Rattle.asl_machine.proofs.Following.{Here}
use Rattle.asl_machine.proofs.InstrGroups.{here_place}
use Rattle.asl_machine.proofs.Invariant.{here_of, instr_here, after_same}
use Rattle.asl_machine.proofs.Readiness.{awaited_below}
use Rattle.asl_machine.proofs.ValueLines.{IsLine, at_of, read_there, computed_line, below_line, equal_line, jump_line, load_line, field_line, make_line, store_line}
use Rattle.asl_machine.proofs.ControlLines.{return_line, call_line, release_line, acquire_lines}

-- each instruction's line, one by one
line_there : (image : Image) (s : State) (t : ℕ) (a : Activity) (h : Here image s t a) → slice_get s.threads t ≡ Some (Running a) → (i : Instr) →
    FitsInstr image a.top.function h.placed.function i → IsLine (at_of image s t a) i (left_by image (here_place s t a) i)
line_there image s t a h here (instr.SetInt to number) fits = refl
line_there image s t a h here (instr.SetNull to) fits = refl
line_there image s t a h here (instr.Move to from) fits =
    let count = h.placed.registers in
    (register_of a.top from, read_there a from (omega (arith, fits.1.0)), refl)
line_there image s t a h here (instr.Add to left right) fits =
    let count = h.placed.registers in
    computed_line (at_of image s t a) (instr.Add to left right) added to left right (λ x y p q. (x, y, p, q, refl)) (λ n k. k)
    (register_of a.top left) (register_of a.top right)
    (read_there a left (omega (arith, fits.1.0))) (read_there a right (omega (arith, fits.1.1.0)))
line_there image s t a h here (instr.Subtract to left right) fits =
    let count = h.placed.registers in
    computed_line (at_of image s t a) (instr.Subtract to left right) subtracted to left right (λ x y p q. (x, y, p, q, refl)) (λ n k. k)
    (register_of a.top left) (register_of a.top right)
    (read_there a left (omega (arith, fits.1.0))) (read_there a right (omega (arith, fits.1.1.0)))
line_there image s t a h here (instr.LessThan to left right) fits =
    let count = h.placed.registers in
    computed_line (at_of image s t a) (instr.LessThan to left right) compared to left right (below_line (at_of image s t a) to left right) (λ n k. k)
    (register_of a.top left) (register_of a.top right)
    (read_there a left (omega (arith, fits.1.0))) (read_there a right (omega (arith, fits.1.1.0)))
line_there image s t a h here (instr.Equals to left right) fits =
    let count = h.placed.registers in
    equal_line (at_of image s t a) to left right (register_of a.top left) (register_of a.top right)
    (read_there a left (omega (arith, fits.1.0))) (read_there a right (omega (arith, fits.1.1.0)))
line_there image s t a h here (instr.GlobalAddress to global) fits = refl
line_there image s t a h here (instr.FieldAddress to from places) fits =
    let count = h.placed.registers in
    let read = read_there a from (omega (arith, fits.1.0)) in
    field_line (at_of image s t a) to from places (register_of a.top from) read (h.placed.points from (register_of a.top from) read)
line_there image s t a h here (instr.New to cells class) fits = make_line (at_of image s t a) to cells class h.sound.formed.objects.few
line_there image s t a h here (instr.Load to address) fits =
    let count = h.placed.registers in
    let read = read_there a address (omega (arith, fits.1.0)) in
    load_line (at_of image s t a) to address (register_of a.top address) read (h.placed.points address (register_of a.top address) read)
line_there image s t a h here (instr.Store address from) fits =
    let count = h.placed.registers in
    store_line (at_of image s t a) address from (register_of a.top address) (register_of a.top from)
    (read_there a address (omega (arith, fits.0))) (read_there a from (omega (arith, fits.1.0)))
line_there image s t a h here (instr.Jump target) fits = refl
line_there image s t a h here (instr.JumpIfZero test target) fits =
    let count = h.placed.registers in
    jump_line (at_of image s t a) test target (register_of a.top test) (read_there a test (omega (arith, fits.0)))
line_there image s t a h here (instr.Output from) fits =
    let count = h.placed.registers in
    (read_there a from (omega (arith, fits.0)), refl)
line_there image s t a h here (instr.Call to first function) fits = call_line (at_of image s t a) to first function fits.1.0.0 fits.1.0.1 h.placed.few
line_there image s t a h here (instr.Return from) fits =
    let count = h.placed.registers in
    return_line (at_of image s t a) from (register_of a.top from) a.below refl (awaited_below image s.objects a.top.function a.top.result a.below h.sound.fits h.placed.below)
    (read_there a from (omega (arith, fits.0)))
line_there image s t a h here (instr.Acquire list) fits =
    let request = request_of s.objects a.top.regs (locks_of image list) in
    let free = can_grant s.holding t request in
    acquire_lines (at_of image s t a) list request (a.depth == 0) (a.depth == 255) free refl refl h.placed.depth
    (λ none. record { locks = fits.0.0; outside = none; listed = fits.0.1; is = ap (λ o. request_of s.objects a.top.regs (unwrap_or o [])) fits.0.1 })
    (λ e. can_grant-tells s.holding t request e)
    (λ e g. let yes = CanGrant-tested s.holding t request g in cc)
    here
line_there image s t a h here instr.Release fits = release_line (at_of image s t a)

-- the computed step of what stands at the thread's number is a step
pub step_there : (image : Image) (s : State) (t : ℕ) (thread : Thread) → SatisfiesInvariant image s → slice_get s.threads t ≡ Some thread →
    StepOf image s t (Some thread) (step_at image s t (Some thread)).reply (step_at image s t (Some thread)).state
step_there image s t (Running a) sound e =
    let h = here_of image s t a sound e in
    let found = instr_here image s.objects a h.placed sound.fits in
    let l : IsLine (at_of image s t a) found.0 (left_at image (here_place s t a) (slice_get image.code a.top.pc)) =
    subst (λ o. IsLine (at_of image s t a) found.0 (left_at image (here_place s t a) o)) (sym found.1) (line_there image s t a h e found.0 found.2) in
    (found.0, found.1, l)
step_there image s t (Done v) sound e = (refl, after_same s t (Done v) e)
step_there image s t (Failed f) sound e = (refl, after_same s t (Failed f) e)

-- the computed step is a step
pub step_is : (image : Image) (s : State) (t : ℕ) → SatisfiesInvariant image s → t < length s.threads → Step image s t (step_of image s t).reply (step_of image s t).state
step_is image s t sound lt =
    elim (slice_get_cases s.threads t).1 [
      | inl found ↦ subst (λ o. StepOf image s t o (step_at image s t o).reply (step_at image s t o).state) (sym found.2) (step_there image s t found.0 sound found.2)
      | inr past ↦ let le : length s.threads ≤ t = past.0 in absurd (omega arith)
    ]
