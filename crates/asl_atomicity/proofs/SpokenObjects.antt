-- What becomes of a step speaks of objects that are there: its fate, its reply, and how its thread has ended.
use Rattle.std.proofs.Common.{ℕ, ℤ, ◌==◌, ◌<◌, ◌≤◌, Bool, true, false, List, [], ◌∷◌, Option, Some, None, Ok, Err, Result, length, arith}
use Rattle.std.specs.Prelude.{if◌then◌else◌}
use Rattle.asl_code.specs.declared.value.Value.{Value}
use Rattle.asl_code.specs.declared.value.Value.TheVariants.{Int, Null, Addr}
use Rattle.asl_code.specs.declared.value.Cell.{Cell}
use Rattle.asl_code.specs.declared.value.Effect.{Effect}
use Rattle.asl_code.specs.declared.value.Effect.TheVariants.{Read, Write}
use Rattle.asl_code.specs.declared.instr.Instr.{Instr}
use Rattle.asl_code.specs.declared.instr.Instr.TheVariants as instr
use Rattle.asl_code.specs.declared.image.Image.{Image}
use Rattle.asl_lock_forest.specs.Holding.{Holding}
use Rattle.asl_machine.specs.declared.fate.Fate.{Fate}
use Rattle.asl_machine.specs.declared.fate.Fate.TheVariants as fate
use Rattle.asl_machine.specs.declared.fault.Fault.{Fault}
use Rattle.asl_machine.specs.declared.fault.Fault.TheVariants as fault
use Rattle.asl_machine.specs.declared.reply.Reply.{Reply}
use Rattle.asl_machine.specs.declared.reply.Reply.TheVariants as reply
use Rattle.asl_machine.specs.State.{Object, Frame, Activity, Thread, Running, Done, Failed}
use Rattle.asl_machine.specs.Calls.{frame_count}
use Rattle.asl_machine.specs.Cover.{Cover, cover}
use Rattle.asl_machine.specs.Access.{Points}
use Rattle.asl_machine.specs.StepFunction.{register_of, fate_of, computed, added, subtracted, compared, address_or_bounds, address_moved, allowed_cell, accessed, loaded, fate_returned, acquire_fate, left_by, reply_of, thread_after}
use Rattle.asl_machine.specs.WellFormed.{IsPlaced}
use Rattle.asl_machine.proofs.WellFormedHeaps.{points_within}
use Rattle.asl_atomicity.proofs.Uniform.{place_at}
use Rattle.asl_atomicity.proofs.Unseen.{register_points}
use Rattle.asl_atomicity.proofs.Renamings.{ValueOf, FaultOf, ReplyOf}

-- a fate speaks of objects that are there
abbrev pub FateOf : ℕ → Fate → Type 0
FateOf count (fate.Shows v) = ValueOf count v
FateOf count (fate.Ends v) = ValueOf count v
FateOf count (fate.Fails w) = FaultOf count w
FateOf count w = Unit {0}

abbrev ResultOf : {T : Type 0} → ℕ → Result T Fault → Type 0
ResultOf count (Ok x) = Unit {0}
ResultOf count (Err w) = FaultOf count w

pub points_of : (objects : List Object) (v : Value) → Points objects v → ValueOf (length objects) v
points_of objects (Int n) points = tt
points_of objects Null points = tt
points_of objects (Addr o i) points = points_within objects o i points

result_fate : {T : Type 0} (count : ℕ) (r : Result T Fault) → ResultOf count r → FateOf count (fate_of r)
result_fate count (Ok x) of = tt
result_fate count (Err w) of = of

computed_of : (count : ℕ) (operation : ℤ → ℤ → Value) (x y : Value) → ResultOf count (computed operation x y)
computed_of count operation (Int m) (Int n) = tt
computed_of count operation (Int m) Null = tt
computed_of count operation (Int m) (Addr o i) = tt
computed_of count operation Null y = tt
computed_of count operation (Addr o i) y = tt

bounds_of : (count : ℕ) (o : Option Cell) → ResultOf count (address_or_bounds o)
bounds_of count None = tt
bounds_of count (Some c) = tt

moved_of : (count : ℕ) (objects : List Object) (places : ℕ) (v : Value) → ResultOf count (address_moved objects places v)
moved_of count objects places (Int n) = tt
moved_of count objects places Null = tt
moved_of count objects places (Addr o i) = bounds_of count _

allowed_of : (count : ℕ) (b : Bool) (effect : Effect) (c : Cell) → c.object < count → ResultOf count (allowed_cell b effect c)
allowed_of count true effect c lt = tt
allowed_of count false effect c lt = lt

accessed_of : (h : Cover) (objects : List Object) (t depth : ℕ) (effect : Effect) (v : Value) → Points objects v → ResultOf (length objects) (accessed h objects t depth effect v)
accessed_of h objects t depth effect (Int n) points = tt
accessed_of h objects t depth effect Null points = tt
accessed_of h objects t depth effect (Addr o i) points = allowed_of (length objects) _ effect _ (points_within objects o i points)

loaded_of : (count : ℕ) (objects : List Object) (r : Result Cell Fault) → ResultOf count r → ResultOf count (loaded objects r)
loaded_of count objects (Ok c) of = tt
loaded_of count objects (Err w) of = of

room_of : (count : ℕ) (w : Fault) (b : Bool) → FaultOf count w → FateOf count (if b then fate.Fails w else fate.Continues)
room_of count w true of = of
room_of count w false of = tt

returned_of : (count : ℕ) (a : Activity) (v : Value) (below : List Frame) → ValueOf count v → FateOf count (fate_returned a v below)
returned_of count a v [] of = by_test (a.depth == 0)
  where
    by_test : (b : Bool) → FateOf count (if b then fate.Ends v else fate.Fails fault.Open)
    by_test true = of
    by_test false = tt
returned_of count a v (caller ∷ others) of = tt

acquired_of : (count depth : ℕ) (free : Bool) → FateOf count (acquire_fate depth free)
acquired_of count depth free = by_tests (depth == 0) free (depth == 255)
  where
    by_tests : (b f d : Bool) → FateOf count (if b then (if f then fate.Continues else fate.Waits) else if d then fate.Fails fault.Deep else fate.Continues)
    by_tests true true d = tt
    by_tests true false d = tt
    by_tests false f true = tt
    by_tests false f false = tt

module _ (image : Image) (t : ℕ) (a : Activity) (objects : List Object) (h : Holding) (placed : IsPlaced image objects a) where
  points : (r : ℕ) → Points objects (register_of a.top r)
  points r = register_points objects a.top r placed.points

  pub left_of : (i : Instr) → FateOf (length objects) (left_by image (place_at t a objects h) i).fate
  left_of (instr.SetInt to number) = tt
  left_of (instr.SetNull to) = tt
  left_of (instr.Move to from) = tt
  left_of (instr.Add to left right) = result_fate (length objects) _ (computed_of (length objects) added (register_of a.top left) (register_of a.top right))
  left_of (instr.Subtract to left right) = result_fate (length objects) _ (computed_of (length objects) subtracted (register_of a.top left) (register_of a.top right))
  left_of (instr.LessThan to left right) = result_fate (length objects) _ (computed_of (length objects) compared (register_of a.top left) (register_of a.top right))
  left_of (instr.Equals to left right) = tt
  left_of (instr.GlobalAddress to global) = tt
  left_of (instr.FieldAddress to from places) = result_fate (length objects) _ (moved_of (length objects) objects places (register_of a.top from))
  left_of (instr.Load to address) = result_fate (length objects) _ (loaded_of (length objects) objects _ (accessed_of (cover h a.fresh) objects t a.depth Read (register_of a.top address) (points address)))
  left_of (instr.Store address from) = result_fate (length objects) _ (accessed_of (cover h a.fresh) objects t a.depth Write (register_of a.top address) (points address))
  left_of (instr.New to cells class) = room_of (length objects) fault.Full (length objects == 65536) tt
  left_of (instr.Jump target) = tt
  left_of (instr.JumpIfZero test target) = tt
  left_of (instr.Call to first function) = room_of (length objects) fault.Stack (frame_count a == 256) tt
  left_of (instr.Return from) = returned_of (length objects) a (register_of a.top from) a.below (points_of objects _ (points from))
  left_of (instr.Output from) = points_of objects _ (points from)
  left_of (instr.Acquire list) = acquired_of (length objects) a.depth _
  left_of instr.Release = room_of (length objects) fault.NoSection (a.depth == 0) tt

pub reply_fate : (count : ℕ) (w : Fate) → FateOf count w → ReplyOf count (reply_of w)
reply_fate count fate.Continues of = tt
reply_fate count (fate.Shows v) of = of
reply_fate count (fate.Ends v) of = tt
reply_fate count (fate.Fails w) of = of
reply_fate count fate.Waits of = tt

-- who has ended did so with objects that are there
abbrev pub EndedOf : ℕ → Thread → Type 0
EndedOf count (Running a) = Unit {0}
EndedOf count (Done v) = ValueOf count v
EndedOf count (Failed w) = FaultOf count w

pub ended_fate : (count : ℕ) (w : Fate) (a : Activity) → FateOf count w → EndedOf count (thread_after w a)
ended_fate count fate.Continues a of = tt
ended_fate count (fate.Shows v) a of = tt
ended_fate count (fate.Ends v) a of = of
ended_fate count (fate.Fails w) a of = of
ended_fate count fate.Waits a of = tt

more_value : (m n : ℕ) → m ≤ n → (v : Value) → ValueOf m v → ValueOf n v
more_value m n le (Int k) of = tt
more_value m n le Null of = tt
more_value m n le (Addr o i) of = omega (arith, le, of)

more_fault : (m n : ℕ) → m ≤ n → (w : Fault) → FaultOf m w → FaultOf n w
more_fault m n le (fault.Unprotected c e) of = (let lt : c.object < m = of in omega (arith, le, lt))
more_fault m n le fault.BadType of = tt
more_fault m n le fault.Null of = tt
more_fault m n le fault.Bounds of = tt
more_fault m n le fault.Full of = tt
more_fault m n le fault.Stack of = tt
more_fault m n le fault.Open of = tt
more_fault m n le fault.Deep of = tt
more_fault m n le fault.NoSection of = tt

pub more_reply : (m n : ℕ) → m ≤ n → (r : Reply) → ReplyOf m r → ReplyOf n r
more_reply m n le reply.Ran of = tt
more_reply m n le (reply.Out v) of = more_value m n le v of
more_reply m n le reply.Blocked of = tt
more_reply m n le reply.Ended of = tt
more_reply m n le (reply.Fault w) of = more_fault m n le w of

pub more_ended : (m n : ℕ) → m ≤ n → (x : Thread) → EndedOf m x → EndedOf n x
more_ended m n le (Running a) of = tt
more_ended m n le (Done v) of = more_value m n le v of
more_ended m n le (Failed w) of = more_fault m n le w of
