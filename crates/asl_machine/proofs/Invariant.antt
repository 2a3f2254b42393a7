-- Each step keeps what holds of every reached state: what the instruction that a thread is at leaves may follow.
use Rattle.std.proofs.Common.{◌≡◌, ℕ, ◌+◌, ◌<◌, ◌≤◌, List, [], Some, None, Ok, length, slice_get, refl, ap, sym, subst, inl, inr, arith, All}
use Rattle.std.specs.Prelude.{int_lt, option_and_then, unwrap_or}
use Rattle.std.proofs.lemmas.Option.{slice_get_cases, slice_get_within}
use Rattle.asl_code.specs.declared.image.Image.{Image}
use Rattle.asl_code.specs.declared.image.Function.{Function}
use Rattle.asl_code.specs.declared.instr.Instr.{Instr}
use Rattle.asl_code.specs.declared.instr.Instr.TheVariants as instr
use Rattle.asl_code.specs.declared.lock.Lock.{Lock}
use Rattle.asl_code.specs.declared.lock.Lock.TheVariants as lock
use Rattle.asl_code.specs.declared.value.Value.TheVariants.{Int, Null, Addr}
use Rattle.asl_code.specs.declared.value.Effect.TheVariants.{Read, Write}
use Rattle.asl_code.specs.Fits.{FitsImage, FitsInstr, FitsLock, HasLock}
use Rattle.asl_code.proofs.BodyPlaces.{lies_within}
use Rattle.asl_machine.specs.State.{Object, Activity, Thread, Running, Done, Failed, State, activity_of, activity_at}
use Rattle.asl_machine.specs.Access.{Points, AllPoint}
use Rattle.asl_machine.specs.Request.{LockOfClass, locks_of}
use Rattle.asl_machine.specs.Step.{after, is_zero}
use Rattle.asl_machine.specs.StepFunction.{computed, added, subtracted, compared, truth, same_value, address_moved, loaded, accessed_by, left_by, left_at, turn_by, turn_of, step_at, step_of, register_of}
use Rattle.asl_machine.specs.WellFormed.{IsPlaced, SatisfiesInvariant}
use Rattle.asl_machine.proofs.Lists.{set_same}
use Rattle.asl_machine.proofs.WellFormedHeaps.{moved_points, global_points}
use Rattle.asl_machine.proofs.Following.{sound_after, Here}
use Rattle.asl_machine.proofs.Placing.{next_place}
use Rattle.asl_machine.proofs.InstrGroups.{here_place, Follows, follows_set, computed_points, truth_points, found_points, loaded_points, follows_store, follows_make, follows_jump, follows_show, either_lies, follows_call, follows_return, follows_leave, follows_enter}

-- a lock that fits names a class that there is
lock_class : (image : Image) (f : Function) (l : Lock) → FitsLock image f l → LockOfClass image.classes l
lock_class image f (lock.Root effect) h = tt
lock_class image f (lock.Class class effect) h = h
lock_class image f (lock.Expr expr effect) h = tt

pub locks_fit : (image : Image) (f : Function) (list : ℕ) (locks : List Lock) → slice_get image.lists list ≡ Some locks → All (FitsLock image f) locks → All (LockOfClass image.classes) (locks_of image list)
locks_fit image f list locks e fit =
    subst (All (LockOfClass image.classes)) (sym (ap (λ o. unwrap_or o []) e)) (λ k d lt. lock_class image f _ (fit k d lt))

-- and so does what a register holds
register_points : (objects : List Object) (a : Activity) (r : ℕ) → AllPoint objects a.top.regs → Points objects (register_of a.top r)
register_points objects a r p = found_points objects (slice_get a.top.regs r) (λ v e. p r v e)

-- what the instruction that a thread is at leaves may follow
follows_instr : (image : Image) (s : State) (t : ℕ) (a : Activity) (h : Here image s t a) (i : Instr) → slice_get image.code a.top.pc ≡ Some i →
    FitsInstr image a.top.function h.placed.function i → Follows image s t (left_by image (here_place s t a) i)
follows_instr image s t a h (instr.SetInt to number) at fits =
    follows_set image s t a h (next_place image s.objects a h.placed _ h.sound.fits at refl) to (Ok (Int number)) tt
follows_instr image s t a h (instr.SetNull to) at fits =
    follows_set image s t a h (next_place image s.objects a h.placed _ h.sound.fits at refl) to (Ok Null) tt
follows_instr image s t a h (instr.Move to from) at fits =
    follows_set image s t a h (next_place image s.objects a h.placed _ h.sound.fits at refl) to (Ok (register_of a.top from)) (register_points s.objects a from h.placed.points)
follows_instr image s t a h (instr.Add to left right) at fits =
    follows_set image s t a h (next_place image s.objects a h.placed _ h.sound.fits at refl) to (computed added (register_of a.top left) (register_of a.top right))
    (computed_points s.objects added (λ x y. tt) (register_of a.top left) (register_of a.top right))
follows_instr image s t a h (instr.Subtract to left right) at fits =
    follows_set image s t a h (next_place image s.objects a h.placed _ h.sound.fits at refl) to (computed subtracted (register_of a.top left) (register_of a.top right))
    (computed_points s.objects subtracted (λ x y. tt) (register_of a.top left) (register_of a.top right))
follows_instr image s t a h (instr.LessThan to left right) at fits =
    follows_set image s t a h (next_place image s.objects a h.placed _ h.sound.fits at refl) to (computed compared (register_of a.top left) (register_of a.top right))
    (computed_points s.objects compared (λ x y. truth_points s.objects (int_lt x y)) (register_of a.top left) (register_of a.top right))
follows_instr image s t a h (instr.Equals to left right) at fits =
    let same = same_value (register_of a.top left) (register_of a.top right) in
    follows_set image s t a h (next_place image s.objects a h.placed _ h.sound.fits at refl) to (Ok (truth same)) (truth_points s.objects same)
follows_instr image s t a h (instr.GlobalAddress to global) at fits =
    follows_set image s t a h (next_place image s.objects a h.placed _ h.sound.fits at refl) to (Ok (Addr global 0)) (global_points image s.objects global h.sound.formed.objects fits.1.0)
follows_instr image s t a h (instr.FieldAddress to from places) at fits =
    follows_set image s t a h (next_place image s.objects a h.placed _ h.sound.fits at refl) to (address_moved s.objects places (register_of a.top from))
    (moved_points s.objects places (register_of a.top from))
follows_instr image s t a h (instr.New to cells class) at fits =
    follows_make image s t a h (next_place image s.objects a h.placed _ h.sound.fits at refl) to cells class fits.1.1.0 fits.1.0
follows_instr image s t a h (instr.Load to address) at fits =
    let target = accessed_by (here_place s t a) Read address in
    follows_set image s t a h (next_place image s.objects a h.placed _ h.sound.fits at refl) to (loaded s.objects target) (loaded_points image s.objects target h.sound.formed.objects)
follows_instr image s t a h (instr.Store address from) at fits =
    follows_store image s t a h (next_place image s.objects a h.placed _ h.sound.fits at refl) (register_of a.top from) (accessed_by (here_place s t a) Write address)
    (register_points s.objects a from h.placed.points)
follows_instr image s t a h (instr.Jump target) at fits = follows_jump image s t a h target fits.0
follows_instr image s t a h (instr.JumpIfZero test target) at fits =
    let next = next_place image s.objects a h.placed _ h.sound.fits at refl in
    follows_jump image s t a h _
    (either_lies image a.top.function target (a.top.pc + 1) h.placed.function (is_zero (register_of a.top test)) fits.1.0 next)
follows_instr image s t a h (instr.Output from) at fits =
    follows_show image s t a h (next_place image s.objects a h.placed _ h.sound.fits at refl) (register_of a.top from)
follows_instr image s t a h (instr.Call to first function) at fits =
    follows_call image s t a h to first function fits.1.0.0 at fits.1.0.1 fits.1.0.2 (next_place image s.objects a h.placed _ h.sound.fits at refl)
follows_instr image s t a h (instr.Return from) at fits =
    follows_return image s t a h (register_of a.top from) (register_points s.objects a from h.placed.points)
follows_instr image s t a h (instr.Acquire list) at fits =
    follows_enter image s t a h (next_place image s.objects a h.placed _ h.sound.fits at refl) (locks_of image list) (locks_fit image h.placed.function list fits.0.0 fits.0.1 fits.0.2)
    (subst (All (HasLock image)) (sym (ap (λ o. unwrap_or o []) fits.0.1)) (h.sound.fits.list_fits list fits.0.0 fits.0.1))
follows_instr image s t a h instr.Release at fits = follows_leave image s t a h (next_place image s.objects a h.placed _ h.sound.fits at refl)

-- ---- the step

-- a state with a thread's own entry, and its own objects and holding, is itself
pub after_same : (s : State) (t : ℕ) (thread : Thread) → slice_get s.threads t ≡ Some thread → after s t thread s.objects s.holding ≡ s
after_same s t thread e = λ i. record { objects = s.objects; holding = s.holding; threads = set_same s.threads t thread e i }

-- the instruction that a placed thread is at is there, and fits its function
pub instr_here : (image : Image) (objects : List Object) (a : Activity) (p : IsPlaced image objects a) → FitsImage image →
    (i : Instr) × (slice_get image.code a.top.pc ≡ Some i) × FitsInstr image a.top.function p.function i
instr_here image objects a p fits =
    let inside : a.top.pc < length image.code = omega (arith, lies_within image a.top.function a.top.pc p.function p.lies, fits.total) in
    elim (slice_get_cases image.code a.top.pc).1 [
      | inl found ↦ (
        found.0,
        found.2,
        fits.instr_fits a.top.function a.top.pc p.function found.0 p.lies found.2,
      )
      | inr past ↦ let le : length image.code ≤ a.top.pc = past.0 in absurd (omega arith)
    ]

-- a running thread of a state that satisfies the invariant is placed there
pub here_of : (image : Image) (s : State) (t : ℕ) (a : Activity) → SatisfiesInvariant image s → slice_get s.threads t ≡ Some (Running a) → Here image s t a
here_of image s t a sound e =
    let at : activity_at s.threads t ≡ Some a = ap (option_and_then activity_of) e in
    record { sound = sound; there = slice_get_within s.threads t (Running a) e; is = at; placed = sound.formed.placed t a at }

-- what a thread's step leaves may follow
pub turn_follows : (image : Image) (s : State) (t : ℕ) (thread : Thread) → SatisfiesInvariant image s → slice_get s.threads t ≡ Some thread →
    let turn = turn_of image t thread s.objects s.holding in SatisfiesInvariant image (after s t turn.thread turn.objects turn.holding)
turn_follows image s t (Running a) sound e =
    let h = here_of image s t a sound e in
    let found = instr_here image s.objects a h.placed sound.fits in
    let l = left_by image (here_place s t a) found.0 in
    let m : Follows image s t l = follows_instr image s t a h found.0 found.1 found.2 in
    subst (λ o. let turn = turn_by t (left_at image (here_place s t a) o) in SatisfiesInvariant image (after s t turn.thread turn.objects turn.holding)) (sym found.1)
    (sound_after image s t (turn_by t l).thread (turn_by t l).objects (turn_by t l).holding sound h.there m)
turn_follows image s t (Done v) sound e = subst (SatisfiesInvariant image) (sym (after_same s t (Done v) e)) sound
turn_follows image s t (Failed f) sound e = subst (SatisfiesInvariant image) (sym (after_same s t (Failed f) e)) sound

-- a step keeps a state sound
pub step_sound : (image : Image) (s : State) (t : ℕ) → SatisfiesInvariant image s → SatisfiesInvariant image (step_of image s t).state
step_sound image s t sound =
    elim (slice_get s.threads t) as (λ o. slice_get s.threads t ≡ o → SatisfiesInvariant image (step_at image s t o).state) [
      | None ↦ λ e. sound
      | Some thread ↦ λ e. turn_follows image s t thread sound e
    ] refl
