-- States whose integers fit 32 bits and whose objects have at most 255 cells, as the bytes of a journal need it; and that what
-- an instruction sets, writes or makes leaves them so.
use Rattle.std.proofs.Common.{◌≡◌, ◌⊎◌, ◌<◌, ◌-◌, ℕ, zero, suc, List, [], ◌∷◌, ◌++◌, Option, None, Some, length, take, drop, replicate, slice_get, slice_set, option_and_then, refl, sym, subst, inl, inr, arith}
use Rattle.std.specs.Prelude.{ℤ, pos, FitsSigned}
use Rattle.std.specs.Option.{option_map_or}
use Rattle.std.specs.Int.{w32, int_wrapping_add, int_wrapping_sub}
use Rattle.std.proofs.lemmas.Int.{SFits-int_wrap, wrapping_add_is, wrapping_sub_is, fits_signed_from_abs}
use Rattle.asl_code.specs.declared.value.Cell.{Cell}
use Rattle.asl_code.specs.declared.value.Value.{Value}
use Rattle.asl_code.specs.declared.value.Value.TheVariants.{Int, Null, Addr}
use Rattle.asl_lock_forest.specs.Holding.{Holding}
use Rattle.asl_machine.specs.declared.fault.Fault.{Fault}
use Rattle.asl_machine.specs.State.{Object, Frame, Activity, Thread, Running, Done, Failed, State, new_object, cell_at, with_cell, written}
use Rattle.asl_machine.specs.Calls.{first_registers}
use Rattle.asl_machine.specs.Step.{At, Reads, after, Sets, ContinuesAt, GoesTo, Fails}

abbrev pub IntFits : Value → Type 0
IntFits (Int n) = FitsSigned w32 n
IntFits Null = Unit {0}
IntFits (Addr object offset) = Unit {0}

abbrev pub AllFit : List Value → Type 0
AllFit vs = (k : ℕ) (v : Value) → slice_get vs k ≡ Some v → IntFits v

abbrev pub FramesFit : List Frame → Type 0
FramesFit [] = Unit {0}
FramesFit (f ∷ fs) = AllFit f.regs × FramesFit fs

pub record ActivityFits (a : Activity) : Type 0 where
  pub top : AllFit a.top.regs
  pub below : FramesFit a.below

abbrev pub ThreadFits : Thread → Type 0
ThreadFits (Running a) = ActivityFits a
ThreadFits (Done value) = Unit {0}
ThreadFits (Failed f) = Unit {0}

pub record ObjectFits (o : Object) : Type 0 where
  pub cells : AllFit o.cells
  pub few : length o.cells < 256

abbrev pub ObjectsFit : List Object → Type 0
ObjectsFit objects = (k : ℕ) (o : Object) → slice_get objects k ≡ Some o → ObjectFits o

pub record StateFits (s : State) : Type 0 where
  pub objects : ObjectsFit s.objects
  pub threads : (t : ℕ) (thread : Thread) → slice_get s.threads t ≡ Some thread → ThreadFits thread

-- ---- integers

pub small_fits : (n : ℕ) → n < 256 → IntFits (Int (pos n))
small_fits n lt = let low : n < 2147483648 = omega (arith, lt) in fits_signed_from_abs w32 (pos n) low

pub sum_fits : (x y : ℤ) → FitsSigned w32 x → FitsSigned w32 y → FitsSigned w32 (int_wrapping_add w32 x y)
sum_fits x y f g = subst (FitsSigned w32) (sym (wrapping_add_is w32 x y f g)) (SFits-int_wrap w32 _)

pub difference_fits : (x y : ℤ) → FitsSigned w32 x → FitsSigned w32 y → FitsSigned w32 (int_wrapping_sub w32 x y)
difference_fits x y f g = subst (FitsSigned w32) (sym (wrapping_sub_is w32 x y f g)) (SFits-int_wrap w32 _)

-- ---- lists

-- what a list has after one place is set is that, or was there
set_got : {X : Type 0} (xs : List X) (k j : ℕ) (v w : X) → slice_get (slice_set xs k v) j ≡ Some w → (v ≡ w) ⊎ (slice_get xs j ≡ Some w)
set_got [] k j v w h = inr h
set_got (x ∷ xs) zero zero v w h = inl (cc)
set_got (x ∷ xs) zero (suc j) v w h = inr h
set_got (x ∷ xs) (suc k) zero v w h = inr h
set_got (x ∷ xs) (suc k) (suc j) v w h = set_got xs k j v w h

pub set_fits : (vs : List Value) (k : ℕ) (v : Value) → AllFit vs → IntFits v → AllFit (slice_set vs k v)
set_fits vs k v all fits j w h = elim (set_got vs k j v w h) [ inl e ↦ subst IntFits e fits | inr old ↦ all j w old ]

append_fits : (vs ws : List Value) → AllFit vs → AllFit ws → AllFit (vs ++ ws)
append_fits [] ws p q k v h = q k v h
append_fits (x ∷ vs) ws p q zero v h = p zero v h
append_fits (x ∷ vs) ws p q (suc k) v h = append_fits vs ws (λ j w e. p (suc j) w e) q k v h

replicate_fits : (n : ℕ) (x : Value) → IntFits x → AllFit (replicate n x)
replicate_fits zero x fits k v h = absurd (cc)
replicate_fits (suc n) x fits zero v h = let e : x ≡ v = cc in subst IntFits e fits
replicate_fits (suc n) x fits (suc k) v h = replicate_fits n x fits k v h

length_replicated : (n : ℕ) (x : Value) → length (replicate n x) ≡ n
length_replicated zero x = refl
length_replicated (suc n) x = let r = length_replicated n x in omega (arith, r)

pub take_fits : (n : ℕ) (vs : List Value) → AllFit vs → AllFit (take n vs)
take_fits zero vs all k v h = absurd (cc)
take_fits (suc n) [] all k v h = absurd (cc)
take_fits (suc n) (x ∷ vs) all zero v h = all zero v h
take_fits (suc n) (x ∷ vs) all (suc k) v h = take_fits n vs (λ j w e. all (suc j) w e) k v h

pub drop_fits : (n : ℕ) (vs : List Value) → AllFit vs → AllFit (drop n vs)
drop_fits zero vs all k v h = all k v h
drop_fits (suc n) [] all k v h = absurd (cc)
drop_fits (suc n) (x ∷ vs) all k v h = drop_fits n vs (λ j w e. all (suc j) w e) k v h

pub first_fits : (arguments : List Value) (count : ℕ) → AllFit arguments → AllFit (first_registers arguments count)
first_fits arguments count all =
    append_fits arguments (replicate (count - length arguments) (Int (pos 0))) all (replicate_fits (count - length arguments) (Int (pos 0)) (small_fits 0 (omega arith)))

-- ---- states

pub thread_set : (s : State) (t : ℕ) (thread : Thread) (objects : List Object) (holding : Holding) → StateFits s → ObjectsFit objects → ThreadFits thread → StateFits (after s t thread objects holding)
thread_set s t thread objects holding v all fits = record {
  objects = all;
  threads = λ u other h. elim (set_got s.threads t u thread other h) [ inl e ↦ subst ThreadFits e fits | inr old ↦ v.threads u other old ];
}

module _ (at : At) (v : StateFits at.state) (a : ActivityFits at.activity) where
  -- what a line of the table makes of a state: a register is set, control goes on, goes elsewhere, or the thread fails
  pub set_state : (register : ℕ) (value : Value) (new : State) → IntFits value → Sets at register value new → StateFits new
  set_state register value new fits e =
      subst StateFits (sym e) (thread_set at.state at.thread _ at.state.objects at.state.holding v v.objects
      (record { top = set_fits at.activity.top.regs register value a.top fits; below = a.below }))

  pub on_state : (depth : ℕ) (objects : List Object) (holding : Holding) (new : State) → ObjectsFit objects → ContinuesAt at depth objects holding new → StateFits new
  on_state depth objects holding new all e =
      subst StateFits (sym e) (thread_set at.state at.thread _ objects holding v all (record { top = a.top; below = a.below }))

  pub to_state : (target : ℕ) (new : State) → GoesTo at target new → StateFits new
  to_state target new e =
      subst StateFits (sym e) (thread_set at.state at.thread _ at.state.objects at.state.holding v v.objects (record { top = a.top; below = a.below }))

  pub fail_state : (f : Fault) (new : State) → Fails at f new → StateFits new
  fail_state f new e = subst StateFits (sym e) (thread_set at.state at.thread (Failed f) at.state.objects _ v v.objects tt)

  read_fits : (register : ℕ) (value : Value) → Reads at register value → IntFits value
  read_fits register value h = a.top register value h

  pub cell_fits : (cell : Cell) (value : Value) → cell_at at.state.objects cell ≡ Some value → IntFits value
  cell_fits cell value h = by_object (slice_get at.state.objects cell.object) refl h
    where
      by_object : (o : Option Object) → slice_get at.state.objects cell.object ≡ o → option_and_then (λ (object : Object). slice_get object.cells cell.offset) o ≡ Some value → IntFits value
      by_object None e g = absurd (cc)
      by_object (Some object) e g = (v.objects cell.object object e).cells cell.offset value g

length_set : {X : Type 0} (xs : List X) (k : ℕ) (x : X) → length (slice_set xs k x) ≡ length xs
length_set [] k x = refl
length_set (y ∷ xs) zero x = refl
length_set (y ∷ xs) (suc k) x = let r = length_set xs k x in omega (arith, r)

pub written_fits : (objects : List Object) (cell : Cell) (value : Value) → ObjectsFit objects → IntFits value → ObjectsFit (written objects cell value)
written_fits objects cell value all fits = by_object (slice_get objects cell.object) refl
  where
    by_object : (o : Option Object) → slice_get objects cell.object ≡ o → ObjectsFit (option_map_or (λ (object : Object). slice_set objects cell.object (with_cell object cell.offset value)) o objects)
    by_object None e = all
    by_object (Some object) e = λ k other h. elim (set_got objects cell.object k (with_cell object cell.offset value) other h) [
      | inl same ↦ subst ObjectFits same (record {
        cells = set_fits object.cells cell.offset value (all cell.object object e).cells fits;
        few = (let long = length_set object.cells cell.offset value in let less = (all cell.object object e).few in omega (arith, long, less));
      })
      | inr old ↦ all k other old
    ]

pub made_fits : (objects : List Object) (cells class : ℕ) → cells < 256 → ObjectsFit objects → ObjectsFit (objects ++ new_object class cells ∷ [])
made_fits [] cells class lt all zero o h =
    let e : new_object class cells ≡ o = cc in
    subst ObjectFits e (record {
      cells = replicate_fits cells (Int (pos 0)) (small_fits 0 (omega arith));
      few = (let long = length_replicated cells (Int (pos 0)) in omega (arith, long, lt));
    })
made_fits [] cells class lt all (suc k) o h = absurd (cc)
made_fits (x ∷ objects) cells class lt all zero o h = all zero o h
made_fits (x ∷ objects) cells class lt all (suc k) o h = made_fits objects cells class lt (λ j p e. all (suc j) p e) k o h
