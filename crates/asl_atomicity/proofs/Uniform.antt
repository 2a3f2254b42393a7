-- What a thread's step does to objects and holding does not depend on what other threads do to them.
use Rattle.std.proofs.Common.{◌≡◌, ℕ, zero, suc, ◌+◌, ◌==◌, Bool, true, false, List, [], Result, Ok, length, refl, ap, ◌∙◌, inl, inr, arith}
use Rattle.std.specs.Prelude.{if◌then◌else◌}
use Rattle.std.proofs.lemmas.Bool.Decides.{eqb_tells}
use Rattle.asl_code.specs.declared.image.Image.{Image}
use Rattle.asl_code.specs.declared.instr.Instr.{Instr}
use Rattle.asl_code.specs.declared.instr.Instr.TheVariants as instr
use Rattle.asl_code.specs.declared.value.Value.{Value}
use Rattle.asl_code.specs.declared.value.Cell.{Cell}
use Rattle.asl_code.specs.declared.value.Effect.{Effect}
use Rattle.asl_code.specs.declared.value.Effect.TheVariants.{Read, Write}
use Rattle.asl_lock_forest.specs.Holding.{Holding, Request, grant, can_grant}
use Rattle.asl_machine.specs.declared.fate.Fate.{Fate}
use Rattle.asl_machine.specs.declared.fate.Fate.TheVariants as fate
use Rattle.asl_machine.specs.declared.fault.Fault.{Fault}
use Rattle.asl_machine.specs.declared.fault.Fault.TheVariants as fault
use Rattle.asl_machine.specs.declared.reply.Reply.{Reply}
use Rattle.asl_machine.specs.State.{Object, Frame, Thread, Activity}
use Rattle.asl_machine.specs.Cover.{cover}
use Rattle.asl_machine.specs.Step.{having_made}
use Rattle.asl_machine.specs.Request.{request_of, locks_of}
use Rattle.asl_machine.specs.StepFunction.{Place, Left, activity_moved, register_of, address_moved, made_objects, accessed, loaded, objects_stored, holding_after, release_fate, holding_released, acquire_fate, holding_acquired, left_by, turn_by, set_left, store_left, make_left, acquire_left}

-- what a step does to the objects
pub data ObjectsEdit : Type 0 where
  Same : ObjectsEdit
  Stored : (value : Value) → (target : Result Cell Fault) → ObjectsEdit
  Made : (cells class : ℕ) → ObjectsEdit

abbrev pub put : ObjectsEdit → List Object → List Object
put Same objects = objects
put (Stored value target) objects = objects_stored objects value target
put (Made cells class) objects = made_objects objects cells class

-- what a step does to what its thread holds
pub data HoldingEdit : Type 0 where
  After : (f : Fate) → HoldingEdit
  Acquired : (depth : ℕ) → (free : Bool) → (request : Request) → HoldingEdit
  Released : (depth : ℕ) → HoldingEdit

abbrev pub edit : HoldingEdit → ℕ → Holding → Holding
edit (After f) t h = holding_after f t h
edit (Acquired depth free request) t h = holding_after (acquire_fate depth free) t (holding_acquired depth free t request h)
edit (Released depth) t h = holding_after (release_fate depth) t (holding_released depth t h)

abbrev pub place_at : ℕ → Activity → List Object → Holding → Place
place_at t a objects h = record { thread = t; activity = a; objects = objects; holding = h }

-- whether the instruction is a `new`
abbrev pub IsNew : Instr → Type 0
IsNew (instr.New to cells class) = Unit {0}
IsNew i = ⊥

-- what a thread at an instruction can see of a state is as in another one
pub record Unseen (image : Image) (t : ℕ) (a : Activity) (i : Instr) (objects : List Object) (h : Holding) (others : List Object) (g : Holding) : Type 0 where
  pub moved : (register places : ℕ) → address_moved others places (register_of a.top register) ≡ address_moved objects places (register_of a.top register)
  pub target : (register : ℕ) (effect : Effect) → accessed (cover g a.fresh) others t a.depth effect (register_of a.top register) ≡ accessed (cover h a.fresh) objects t a.depth effect (register_of a.top register)
  pub value : (register : ℕ) → loaded others (accessed (cover h a.fresh) objects t a.depth Read (register_of a.top register)) ≡ loaded objects (accessed (cover h a.fresh) objects t a.depth Read (register_of a.top register))
  pub number : IsNew i → length others ≡ length objects
  pub request : (list : ℕ) → i ≡ instr.Acquire list → a.depth ≡ 0 → request_of others a.top.regs (locks_of image list) ≡ request_of objects a.top.regs (locks_of image list)
  pub free : (list : ℕ) → i ≡ instr.Acquire list → a.depth ≡ 0 →
      can_grant g t (request_of objects a.top.regs (locks_of image list)) ≡ can_grant h t (request_of objects a.top.regs (locks_of image list))

-- what a step does, in each state that looks the same to its thread
pub record Uniform (image : Image) (t : ℕ) (a : Activity) (i : Instr) (objects : List Object) (h : Holding) : Type 0 where
  pub reply : Reply
  pub thread : Thread
  pub on_objects : ObjectsEdit
  pub on_holding : HoldingEdit
  pub does : (others : List Object) (g : Holding) → Unseen image t a i objects h others g →
      turn_by t (left_by image (place_at t a others g) i) ≡ record { reply = reply; thread = thread; objects = put on_objects others; holding = edit on_holding t g }
  pub wrote : (v : Value) (c : Cell) → on_objects ≡ Stored v (Ok c) → (register : ℕ) × (accessed (cover h a.fresh) objects t a.depth Write (register_of a.top register) ≡ Ok c)
  pub makes : (cells class : ℕ) → on_objects ≡ Made cells class → IsNew i
  pub enters : (d : ℕ) (f : Bool) (r : Request) → on_holding ≡ Acquired d f r → a.depth ≡ 0

alone : (image : Image) (t : ℕ) (a : Activity) (i : Instr) (objects : List Object) (h : Holding) (f : Fate) (after : Activity) →
    ((others : List Object) (g : Holding) → Unseen image t a i objects h others g → left_by image (place_at t a others g) i ≡ record { fate = f; activity = after; objects = others; holding = g }) → Uniform image t a i objects h
alone image t a i objects h f after is = record {
  reply = (turn_by t (record { fate = f; activity = after; objects = objects; holding = h })).reply;
  thread = (turn_by t (record { fate = f; activity = after; objects = objects; holding = h })).thread;
  on_objects = Same;
  on_holding = After f;
  does = λ others g s. ap (turn_by t) (is others g s);
  wrote = λ v c e. cc;
  makes = λ n c e. cc;
  enters = λ d f r e. cc;
}

quiet : (image : Image) (t : ℕ) (a : Activity) (i : Instr) (objects : List Object) (h : Holding) →
    ((others : List Object) (g : Holding) → left_by image (place_at t a others g) i ≡ record { fate = (left_by image (place_at t a objects h) i).fate; activity = (left_by image (place_at t a objects h) i).activity; objects = others; holding = g }) → Uniform image t a i objects h
quiet image t a i objects h is = alone image t a i objects h _ _ (λ others g s. is others g)

pub uniform : (image : Image) (t : ℕ) (a : Activity) (i : Instr) (objects : List Object) (h : Holding) → Uniform image t a i objects h
uniform image t a (instr.FieldAddress to from places) objects h =
    let l = set_left (place_at t a objects h) to (address_moved objects places (register_of a.top from)) in
    alone image t a (instr.FieldAddress to from places) objects h l.fate l.activity (λ others g s. ap (set_left (place_at t a others g) to) (s.moved from places))
uniform image t a (instr.Load to address) objects h =
    let l = set_left (place_at t a objects h) to (loaded objects (accessed (cover h a.fresh) objects t a.depth Read (register_of a.top address))) in
    alone image t a (instr.Load to address) objects h l.fate l.activity
    (λ others g s. ap (λ z. set_left (place_at t a others g) to (loaded others z)) (s.target address Read) ∙ ap (set_left (place_at t a others g) to) (s.value address))
uniform image t a (instr.Store address from) objects h =
    let target = accessed (cover h a.fresh) objects t a.depth Write (register_of a.top address) in
    let turn = turn_by t (store_left (place_at t a objects h) (register_of a.top from) target) in
    record {
      reply = turn.reply;
      thread = turn.thread;
      on_objects = Stored (register_of a.top from) target;
      on_holding = After (store_left (place_at t a objects h) (register_of a.top from) target).fate;
      does = λ others g s. ap (λ z. turn_by t (store_left (place_at t a others g) (register_of a.top from) z)) (s.target address Write);
      wrote = λ v c e. (address, cc);
      makes = λ n c e. cc;
      enters = λ d f r e. cc;
    }
uniform image t a (instr.New to cells class) objects h =
    let l = make_left image.version (place_at t a objects h) to cells class in
    record {
      reply = (turn_by t l).reply;
      thread = (turn_by t l).thread;
      on_objects = Made cells class;
      on_holding = After l.fate;
      does = λ others g s. ap (λ n. turn_by t (by_number image.version a t to cells class others g n)) (s.number tt);
      wrote = λ v c e. cc;
      makes = λ n c e. tt;
      enters = λ d f r e. cc;
    }
  where
    by_number : ℕ → Activity → ℕ → ℕ → ℕ → ℕ → List Object → Holding → ℕ → Left
    by_number version a t to cells class others g n =
        record { fate = if n == 65536 then fate.Fails fault.Full else fate.Continues; activity = if n == 65536 then a else having_made version a to n; objects = made_objects others cells class; holding = g }
uniform image t a (instr.Acquire list) objects h = entering a.depth a.top a.below a.fresh
  where
    entering : (d : ℕ) (top : Frame) (below : List Frame) (fresh : List ℕ) → Uniform image t (record { depth = d; top = top; below = below; fresh = fresh }) (instr.Acquire list) objects h
    entering zero top below fresh =
        let b : Activity = record { depth = zero; top = top; below = below; fresh = fresh } in
        let request = request_of objects top.regs (locks_of image list) in
        let free = can_grant h t request in
        let l = acquire_left (place_at t b objects h) free request in
        record {
          reply = (turn_by t l).reply;
          thread = (turn_by t l).thread;
          on_objects = Same;
          on_holding = Acquired 0 free request;
          does = λ others g s.
              ap (λ r. turn_by t (acquire_left (place_at t b others g) (can_grant g t r) r)) (s.request list refl refl)
              ∙ ap (λ f. turn_by t (acquire_left (place_at t b others g) f request)) (s.free list refl refl);
          wrote = λ v c e. cc;
          makes = λ n c e. cc;
          enters = λ d f r e. refl;
        }
    entering (suc d) top below fresh =
        let b : Activity = record { depth = suc d; top = top; below = below; fresh = fresh } in
        let l = by_test b false objects h true [] in
        let no : (suc d == 0) ≡ false = elim (eqb_tells (suc d) 0) [ inl same ↦ absurd (not_suc d same.1) | inr other ↦ other.0 ] in
        alone image t b (instr.Acquire list) objects h l.fate l.activity
        (λ others g s. ap (λ z. by_test b z others g (can_grant g t (request_of others top.regs (locks_of image list))) (request_of others top.regs (locks_of image list))) no)
      where
        not_suc : (d : ℕ) → suc d ≡ 0 → ⊥
        not_suc d e = omega arith

        by_test : Activity → Bool → List Object → Holding → Bool → Request → Left
        by_test b outside others g free request =
            let f : Fate = if outside then (if free then fate.Continues else fate.Waits) else if b.depth == 255 then fate.Fails fault.Deep else fate.Continues in
            record { fate = f; activity = activity_moved f (b.depth + 1) b; objects = others; holding = if outside then (if free then grant g t request else g) else g }
uniform image t a instr.Release objects h =
    let l = left_by image (place_at t a objects h) instr.Release in
    record {
      reply = (turn_by t l).reply;
      thread = (turn_by t l).thread;
      on_objects = Same;
      on_holding = Released a.depth;
      does = λ others g s. refl;
      wrote = λ v c e. cc;
      makes = λ n c e. cc;
      enters = λ d f r e. cc;
    }
uniform image t a (instr.SetInt to number) objects h = quiet image t a (instr.SetInt to number) objects h (λ others g. refl)
uniform image t a (instr.SetNull to) objects h = quiet image t a (instr.SetNull to) objects h (λ others g. refl)
uniform image t a (instr.Move to from) objects h = quiet image t a (instr.Move to from) objects h (λ others g. refl)
uniform image t a (instr.Add to left right) objects h = quiet image t a (instr.Add to left right) objects h (λ others g. refl)
uniform image t a (instr.Subtract to left right) objects h = quiet image t a (instr.Subtract to left right) objects h (λ others g. refl)
uniform image t a (instr.LessThan to left right) objects h = quiet image t a (instr.LessThan to left right) objects h (λ others g. refl)
uniform image t a (instr.Equals to left right) objects h = quiet image t a (instr.Equals to left right) objects h (λ others g. refl)
uniform image t a (instr.GlobalAddress to global) objects h = quiet image t a (instr.GlobalAddress to global) objects h (λ others g. refl)
uniform image t a (instr.Jump target) objects h = quiet image t a (instr.Jump target) objects h (λ others g. refl)
uniform image t a (instr.JumpIfZero test target) objects h = quiet image t a (instr.JumpIfZero test target) objects h (λ others g. refl)
uniform image t a (instr.Call to first function) objects h = quiet image t a (instr.Call to first function) objects h (λ others g. refl)
uniform image t a (instr.Return from) objects h = quiet image t a (instr.Return from) objects h (λ others g. refl)
uniform image t a (instr.Output from) objects h = quiet image t a (instr.Output from) objects h (λ others g. refl)
