-- What agrees with classes: values, frames and cells, as registers are set, cells are written and objects are made.
use Rattle.std.proofs.Common.{◌≡◌, ℕ, pos, ◌<◌, ◌++◌, List, [], ◌∷◌, Option, Some, None, length, set, slice_get, refl, ap, sym, ◌∙◌, subst, inl, inr}
use Rattle.std.specs.Prelude.{option_and_then, option_map}
use Rattle.std.proofs.lemmas.Bool.Decides.{eqb_tells}
use Rattle.std.proofs.lemmas.Option.{same_Some}
use Rattle.asl_code.specs.declared.value.Value.{Value}
use Rattle.asl_code.specs.declared.value.Value.TheVariants.{Int, Null, Addr}
use Rattle.asl_code.specs.declared.value.Cell.{Cell}
use Rattle.asl_lock_forest.specs.Holding.{Holding}
use Rattle.asl_points_to.specs.Classes.{Classed, to, inside, Gives}
use Rattle.asl_lock_expr.specs.Agrees.{PointsTo}
use Rattle.asl_machine.specs.State.{Object, Frame, Activity, Thread, State, cell_at, class_of, written, new_object, activity_of}
use Rattle.asl_machine.specs.Step.{after}
use Rattle.asl_machine.proofs.Lists.{get_same, get_other, get_either, get_last, one_more, replicated}
use Rattle.asl_machine.proofs.Heaps.{class_of-written, stored_or_old}
use Rattle.asl_machine.proofs.WellFormedHeaps.{read_before}
use Rattle.asl_soundness.specs.Agrees.{FrameAgrees, FramesAgree, ThreadAgrees, CellsAgree, Agrees}

-- ---- values and frames

pub points_given : (classes : ℕ → Option ℕ) (from into : Option ℕ) (v : Value) → Gives from into → PointsTo classes from v → PointsTo classes into v
points_given classes from into (Int n) gives p = tt
points_given classes from into Null gives p = tt
points_given classes from into (Addr o i) gives p = (p.0, gives p.0 p.1, p.2)

-- the first objects keep their classes
abbrev pub Grows : List Object → List Object → Type 0
Grows objects new = (n x : ℕ) → class_of objects n ≡ Some x → class_of new n ≡ Some x

pub points_grown : (objects new : List Object) → Grows objects new → (class : Option ℕ) (v : Value) → PointsTo (class_of objects) class v → PointsTo (class_of new) class v
points_grown objects new grows class (Int n) p = tt
points_grown objects new grows class Null p = tt
points_grown objects new grows class (Addr o i) p = (p.0, p.1, grows o p.0 p.2)

pub frames_grown : (c : Classed) (objects new : List Object) → Grows objects new → (fs : List Frame) → FramesAgree c objects fs → FramesAgree c new fs
frames_grown c objects new grows [] p = tt
frames_grown c objects new grows (f ∷ fs) p = (λ r v e. points_grown objects new grows (to c f.function r) v (p.0 r v e), frames_grown c objects new grows fs p.1)

-- a register is set
pub frame_set : (c : Classed) (objects : List Object) (f : ℕ) (regs : List Value) (a : ℕ) (v : Value) → FrameAgrees c objects f regs → PointsTo (class_of objects) (to c f a) v → FrameAgrees c objects f (set regs a v)
frame_set c objects f regs a v p q r w e =
    elim (eqb_tells r a) [
      | inl same ↦
          elim (get_either regs a r v w e) [
            | inl is ↦ subst (λ x. PointsTo (class_of objects) (to c f x) w) (sym same.1) (subst (PointsTo (class_of objects) (to c f a)) (sym is) q)
            | inr old ↦ p r w old
          ]
      | inr other ↦ p r w (sym (get_other regs a r v other.1) ∙ e)
    ]

-- ---- states

-- a thread's step that changes objects so
pub agrees_after : (c : Classed) (s : State) (t : ℕ) (thread : Thread) (objects : List Object) (holding : Holding) → Agrees c s → t < length s.threads → CellsAgree c objects → Grows s.objects objects →
    ((b : Activity) → activity_of thread ≡ Some b → ThreadAgrees c objects b) → Agrees c (after s t thread objects holding)
agrees_after c s t thread objects holding agrees lt cells grows own = record {
  cells = cells;
  threads = λ u a e. elim (eqb_tells u t) [
    | inl same ↦
        let here : slice_get (set s.threads t thread) u ≡ Some thread = ap (slice_get (set s.threads t thread)) same.1 ∙ get_same s.threads t thread lt in
        own a (sym (ap (option_and_then activity_of) here) ∙ e)
    | inr other ↦
        frames_grown c s.objects objects grows (a.top ∷ a.below) (agrees.threads u a (sym (ap (option_and_then activity_of) (get_other s.threads t u thread other.1)) ∙ e))
  ];
}

-- a value is stored that points to where cells of the class do
pub stored_agrees : (c : Classed) (objects : List Object) (cell : Cell) (v : Value) (x : ℕ) → CellsAgree c objects → class_of objects cell.object ≡ Some x → PointsTo (class_of objects) (inside c x) v → CellsAgree c (written objects cell v)
stored_agrees c objects cell v x agrees of p k u y at class =
    let same = class_of-written objects cell v in
    let before : class_of objects k.object ≡ Some y = sym (same k.object) ∙ class in
    points_grown objects (written objects cell v) (λ n z e. same n ∙ e) (inside c y) u
    (elim (stored_or_old objects cell v k u at) [
      | inl is ↦
          let here : x ≡ y = same_Some x y (sym of ∙ ap (λ (q : Cell). class_of objects q.object) (sym is.0) ∙ before) in
          subst (PointsTo (class_of objects) (inside c y)) (sym is.1) (subst (λ z. PointsTo (class_of objects) (inside c z) v) here p)
      | inr old ↦ agrees k u y old before
    ])

-- an object is made
pub made_grows : (objects : List Object) (class n : ℕ) → Grows objects (objects ++ new_object class n ∷ [])
made_grows objects class n = read_before (λ (o : Object). o.class) objects (new_object class n ∷ [])

pub made_agrees : (c : Classed) (objects : List Object) (class n : ℕ) → CellsAgree c objects → CellsAgree c (objects ++ new_object class n ∷ [])
made_agrees c objects class n agrees k v y at of =
    let more = objects ++ new_object class n ∷ [] in
    elim (slice_get more k.object) as (λ o. slice_get more k.object ≡ o → option_and_then (λ (p : Object). slice_get p.cells k.offset) o ≡ Some v → PointsTo (class_of more) (inside c y) v) [
      | None ↦ λ is f. cc
      | Some p ↦ λ is f. elim (one_more objects (new_object class n) p k.object is) [
        | inl old ↦
            let before : cell_at objects k ≡ Some v = ap (option_and_then (λ (q : Object). slice_get q.cells k.offset)) old ∙ f in
            let was : class_of objects k.object ≡ Some y = ap (option_map (λ (q : Object). q.class)) old ∙ sym (ap (option_map (λ (q : Object). q.class)) is) ∙ of in
            points_grown objects more (made_grows objects class n) (inside c y) v (agrees k v y before was)
        | inr fresh ↦
            let zero_is : v ≡ Int (pos 0) = replicated n k.offset (Int (pos 0)) v (ap (λ (q : Object). slice_get q.cells k.offset) (sym fresh) ∙ f) in
            subst (PointsTo (class_of more) (inside c y)) (sym zero_is) tt
      ]
    ] refl at

-- its class
pub made_class : (objects : List Object) (class n : ℕ) → class_of (objects ++ new_object class n ∷ []) (length objects) ≡ Some class
made_class objects class n = ap (option_map (λ (o : Object). o.class)) (get_last objects (new_object class n))
