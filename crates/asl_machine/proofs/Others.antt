-- What a step of one thread leaves as it was: the other threads, what they hold, and the objects' classes and sizes.
use Rattle.std.proofs.Common.{◌≡◌, ◌≢◌, ℕ, ◌==◌, ◌++◌, Bool, true, false, cond, List, [], ◌∷◌, Option, Some, None, Result, Ok, Err, length, slice_get, refl, ◌∙◌}
use Rattle.std.specs.Prelude.{option_map}
use Rattle.asl_code.specs.declared.image.Image.{Image}
use Rattle.asl_code.specs.declared.instr.Instr.{Instr}
use Rattle.asl_code.specs.declared.instr.Instr.TheVariants as instr
use Rattle.asl_code.specs.declared.value.Value.{Value}
use Rattle.asl_code.specs.declared.value.Cell.{Cell}
use Rattle.asl_code.specs.declared.value.Effect.TheVariants.{Write}
use Rattle.asl_lock_forest.specs.declared.node.Node.{Node}
use Rattle.asl_lock_forest.specs.Holding.{Holding, Request, can_grant, held, grant, release}
use Rattle.asl_lock_forest.proofs.Laws.{held_grant_other, held_release_other}
use Rattle.asl_machine.specs.declared.fate.Fate.{Fate}
use Rattle.asl_machine.specs.declared.fate.Fate.TheVariants as fate
use Rattle.asl_machine.specs.declared.fault.Fault.{Fault}
use Rattle.asl_machine.specs.State.{Object, Thread, Running, Done, Failed, State, written, new_object}
use Rattle.asl_machine.specs.Request.{request_of, locks_of}
use Rattle.asl_machine.specs.StepFunction.{Place, accessed_by, register_of, objects_stored, left_by, left_at, holding_after, turn_of, step_at, step_of}
use Rattle.asl_machine.proofs.Lists.{get_other}
use Rattle.asl_machine.proofs.WellFormedHeaps.{read_before}

-- ---- threads

-- a step of a thread leaves every other thread
pub step_leaves : (image : Image) (s : State) (t u : ℕ) → u ≢ t → slice_get (step_of image s t).state.threads u ≡ slice_get s.threads u
step_leaves image s t u apart =
    elim (slice_get s.threads t) as (λ o. slice_get (step_at image s t o).state.threads u ≡ slice_get s.threads u) [
      | None ↦ refl
      | Some thread ↦ get_other s.threads t u _ apart
    ]

-- ---- what they hold

acquired_other : (h : Holding) (t : ℕ) (request : Request) (outside free : Bool) (u : ℕ) (n : Node) → u ≢ t → held (cond outside (cond free (grant h t request) h) h) u n ≡ held h u n
acquired_other h t request true true u n apart = held_grant_other h t request u n apart
acquired_other h t request true false u n apart = refl
acquired_other h t request false free u n apart = refl

released_other : (h : Holding) (t : ℕ) (last : Bool) (u : ℕ) (n : Node) → u ≢ t → held (cond last (release h t) h) u n ≡ held h u n
released_other h t true u n apart = held_release_other h t u n apart
released_other h t false u n apart = refl

instr_other : (image : Image) (p : Place) (i : Instr) (u : ℕ) (n : Node) → u ≢ p.thread → held (left_by image p i).holding u n ≡ held p.holding u n
instr_other image p (instr.Acquire list) u n apart =
    let request = request_of p.objects p.activity.top.regs (locks_of image list) in
    acquired_other p.holding p.thread request (p.activity.depth == 0) (can_grant p.holding p.thread request) u n apart
instr_other image p instr.Release u n apart = released_other p.holding p.thread (p.activity.depth == 1) u n apart
instr_other image p i u n apart = refl

after_other : (f : Fate) (t : ℕ) (h : Holding) (u : ℕ) (n : Node) → u ≢ t → held (holding_after f t h) u n ≡ held h u n
after_other (fate.Fails f) t h u n apart = held_release_other h t u n apart
after_other f t h u n apart = refl

left_other : (image : Image) (p : Place) (o : Option Instr) (u : ℕ) (n : Node) → u ≢ p.thread → held (left_at image p o).holding u n ≡ held p.holding u n
left_other image p None u n apart = refl
left_other image p (Some i) u n apart = instr_other image p i u n apart

turn_other : (image : Image) (t : ℕ) (thread : Thread) (objects : List Object) (h : Holding) (u : ℕ) (n : Node) → u ≢ t → held (turn_of image t thread objects h).holding u n ≡ held h u n
turn_other image t (Running a) objects h u n apart =
    let p : Place = record { thread = t; activity = a; objects = objects; holding = h } in
    let l = left_at image p (slice_get image.code a.top.pc) in
    after_other l.fate t l.holding u n apart ∙ left_other image p (slice_get image.code a.top.pc) u n apart
turn_other image t (Done v) objects h u n apart = refl
turn_other image t (Failed f) objects h u n apart = refl

-- a step of a thread leaves what every other thread holds
pub step_leaves_held : (image : Image) (s : State) (t u : ℕ) (n : Node) → u ≢ t → held (step_of image s t).state.holding u n ≡ held s.holding u n
step_leaves_held image s t u n apart =
    elim (slice_get s.threads t) as (λ o. held (step_at image s t o).state.holding u n ≡ held s.holding u n) [
      | None ↦ refl
      | Some thread ↦ turn_other image t thread s.objects s.holding u n apart
    ]

-- ---- the objects

-- what is told of an object in a way that no store changes, as its class and its size
module _ {B : Type 0} (f : Object → B) (same : (objects : List Object) (c : Cell) (v : Value) (n : ℕ) → option_map f (slice_get (written objects c v) n) ≡ option_map f (slice_get objects n)) where
  stored_keeps : (objects : List Object) (v : Value) (target : Result Cell Fault) (n : ℕ) (b : B) → option_map f (slice_get objects n) ≡ Some b → option_map f (slice_get (objects_stored objects v target) n) ≡ Some b
  stored_keeps objects v (Ok c) n b e = same objects c v n ∙ e
  stored_keeps objects v (Err x) n b e = e

  made_keeps : (objects : List Object) (o : Object) (full : Bool) (n : ℕ) (b : B) → option_map f (slice_get objects n) ≡ Some b → option_map f (slice_get (cond full objects (objects ++ o ∷ [])) n) ≡ Some b
  made_keeps objects o true n b e = e
  made_keeps objects o false n b e = read_before f objects (o ∷ []) n b e

  instr_keeps : (image : Image) (p : Place) (i : Instr) (n : ℕ) (b : B) → option_map f (slice_get p.objects n) ≡ Some b → option_map f (slice_get (left_by image p i).objects n) ≡ Some b
  instr_keeps image p (instr.Store address from) n b e = stored_keeps p.objects (register_of p.activity.top from) (accessed_by p Write address) n b e
  instr_keeps image p (instr.New to cells class) n b e = made_keeps p.objects (new_object class cells) (length p.objects == 65536) n b e
  instr_keeps image p i n b e = e

  left_keeps : (image : Image) (p : Place) (o : Option Instr) (n : ℕ) (b : B) → option_map f (slice_get p.objects n) ≡ Some b → option_map f (slice_get (left_at image p o).objects n) ≡ Some b
  left_keeps image p None n b e = e
  left_keeps image p (Some i) n b e = instr_keeps image p i n b e

  turn_keeps : (image : Image) (t : ℕ) (thread : Thread) (objects : List Object) (h : Holding) (n : ℕ) (b : B) → option_map f (slice_get objects n) ≡ Some b →
      option_map f (slice_get (turn_of image t thread objects h).objects n) ≡ Some b
  turn_keeps image t (Running a) objects h n b e =
      left_keeps image (record { thread = t; activity = a; objects = objects; holding = h }) (slice_get image.code a.top.pc) n b e
  turn_keeps image t (Done v) objects h n b e = e
  turn_keeps image t (Failed x) objects h n b e = e

  -- a step leaves it of each object that is there
  pub step_keeps : (image : Image) (s : State) (t n : ℕ) (b : B) → option_map f (slice_get s.objects n) ≡ Some b → option_map f (slice_get (step_of image s t).state.objects n) ≡ Some b
  step_keeps image s t n b e =
      elim (slice_get s.threads t) as (λ o. option_map f (slice_get (step_at image s t o).state.objects n) ≡ Some b) [
        | None ↦ e
        | Some thread ↦ turn_keeps image t thread s.objects s.holding n b e
      ]
