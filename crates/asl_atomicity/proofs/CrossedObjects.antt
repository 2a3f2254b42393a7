-- Two objects that are made one after the other, in the other order: each has the other's number, and all that was there before
-- stays as it is.
use Rattle.std.proofs.Common.{◌≡◌, ◌≢◌, ℕ, ◌+◌, ◌==◌, ◌<◌, ◌≤◌, ◌++◌, Bool, true, false, set, List, [], ◌∷◌, Option, Some, None, length, slice_get, unwrap_or, refl, ap, ap₂, sym, ◌∙◌, subst, inl, inr, arith}
use Rattle.std.specs.Prelude.{if◌then◌else◌, map as each, option_map, option_and_then, IsSome}
use Rattle.std.specs.FinMap as map
use Rattle.std.specs.Option.{option_map_or}
use Rattle.std.proofs.lemmas.Bool.{cases_lt}
use Rattle.std.proofs.lemmas.Bool.Decides.{eqb_tells}
use Rattle.std.proofs.lemmas.Option.{slice_get_past, slice_get_within}
use Rattle.std.proofs.lemmas.List.{length-append, map-set}
use Rattle.asl_code.specs.declared.image.Image.{Image}
use Rattle.asl_code.specs.declared.instr.Instr.TheVariants as instr
use Rattle.asl_code.specs.declared.value.Value.{Value}
use Rattle.asl_code.specs.declared.value.Value.TheVariants.{Addr}
use Rattle.asl_code.specs.declared.value.Cell.{Cell}
use Rattle.asl_mode_lanes.specs.declared.mode.Mode.{Mode}
use Rattle.asl_mode_lanes.specs.declared.mode.Mode.TheVariants.{NL}
use Rattle.asl_lock_forest.specs.declared.node.Node.{Node}
use Rattle.asl_lock_forest.specs.declared.node.Node.TheVariants.{Root, Class, Leaf}
use Rattle.asl_lock_forest.specs.Keys.{key}
use Rattle.asl_lock_forest.specs.Holding.{held}
use Rattle.asl_machine.specs.declared.fate.Fate.TheVariants as fate
use Rattle.asl_machine.specs.declared.fault.Fault.TheVariants as fault
use Rattle.asl_machine.specs.State.{Object, Frame, Activity, Thread, Running, Done, Failed, State, activity_of, new_object}
use Rattle.asl_machine.specs.Access.{Points}
use Rattle.asl_machine.specs.Cover.{is_fresh}
use Rattle.asl_machine.specs.Fresh.{AreApart}
use Rattle.asl_machine.specs.Step.{made_fresh, having_made}
use Rattle.asl_machine.specs.WellFormed.{SatisfiesInvariant, AreSuspended}
use Rattle.asl_machine.specs.StepFunction.{Stepped, turn_by, left_at, step_at, step_of}
use Rattle.asl_machine.proofs.Lists.{get_before, get_last, is_there}
use Rattle.asl_machine.proofs.Freshness.{fresh_got}
use Rattle.asl_atomicity.specs.Renamed.{Renaming, value_by, node_by, reply_by, object_by, frame_by, thread_by, IsRenamed, Keeps}
use Rattle.asl_atomicity.proofs.Commuting.{crossed, crossed_first, crossed_second, crossed_other, crossed_past, below_stays}
use Rattle.asl_atomicity.proofs.Uniform.{place_at}
use Rattle.asl_atomicity.proofs.Stores.{object_of}
use Rattle.asl_atomicity.proofs.Swaps.{of_turn}
use Rattle.asl_atomicity.proofs.Renaming.{made_fresh_by}
use Rattle.asl_atomicity.proofs.Renamings.{each_stays, value_stays, values_stay, fault_stays}
use Rattle.asl_atomicity.proofs.RenamedValues.{replicate_by}
use Rattle.asl_atomicity.proofs.SpokenObjects.{points_of}
use Rattle.asl_atomicity.proofs.Staying.{AllEnded}

-- two neighbouring steps in both orders: the same but for the numbers of what they make
pub record Crossed (image : Image) (s : State) (u t : ℕ) : Type 0 where
  pub renaming : Renaming
  pub keeps : Keeps renaming.new (length image.globals) (length (step_of image (step_of image s u).state t).state.objects)
  pub fixes : (n : ℕ) → n < length s.objects → renaming.new n ≡ n
  pub first : (step_of image s t).reply ≡ reply_by renaming.new (step_of image (step_of image s u).state t).reply
  pub other : (step_of image (step_of image s t).state u).reply ≡ reply_by renaming.new (step_of image s u).reply
  pub state : IsRenamed renaming.new (step_of image (step_of image s u).state t).state (step_of image (step_of image s t).state u).state

-- ---- a `new` with and without room

abbrev pub new_step : Image → State → ℕ → Activity → ℕ → ℕ → ℕ → Bool → Stepped
new_step image z x a to cells class full =
    of_turn z x (turn_by x (record {
      fate = if full then fate.Fails fault.Full else fate.Continues;
      activity = if full then a else having_made image.version a to (length z.objects);
      objects = if full then z.objects else z.objects ++ new_object class cells ∷ [];
      holding = z.holding;
    }))

pub steps_new : (image : Image) (z : State) (x : ℕ) (a : Activity) (to cells class : ℕ) → slice_get z.threads x ≡ Some (Running a) → slice_get image.code a.top.pc ≡ Some (instr.New to cells class) →
    step_of image z x ≡ new_step image z x a to cells class (length z.objects == 65536)
steps_new image z x a to cells class runs at =
    ap (step_at image z x) runs
    ∙ ap (λ o. of_turn z x (turn_by x (left_at image (place_at x a z.objects z.holding) o))) at

-- ---- objects

pub new_stays : (f : ℕ → ℕ) (class cells : ℕ) → object_by f (new_object class cells) ≡ new_object class cells
new_stays f class cells = ap (λ z. record { class = class; cells = z }) (replicate_by f cells)

module _ (xs : List Object) (y z : Object) where
  two_first : slice_get ((xs ++ y ∷ []) ++ z ∷ []) (length xs) ≡ Some y
  two_first = get_before (xs ++ y ∷ []) (z ∷ []) (length xs) y (get_last xs y)

  two_second : slice_get ((xs ++ y ∷ []) ++ z ∷ []) (length xs + 1) ≡ Some z
  two_second = ap (slice_get ((xs ++ y ∷ []) ++ z ∷ [])) (sym (length-append xs (y ∷ []))) ∙ get_last (xs ++ y ∷ []) z

  two_before : (k : ℕ) (q : Object) → slice_get xs k ≡ Some q → slice_get ((xs ++ y ∷ []) ++ z ∷ []) k ≡ Some q
  two_before k q e = get_before (xs ++ y ∷ []) (z ∷ []) k q (get_before xs (y ∷ []) k q e)

  pub two_length : length ((xs ++ y ∷ []) ++ z ∷ []) ≡ length xs + 1 + 1
  two_length = length-append (xs ++ y ∷ []) (z ∷ []) ∙ ap (λ n. n + 1) (length-append xs (y ∷ []))

  two_past : (k : ℕ) → length xs + 1 + 1 ≤ k → slice_get ((xs ++ y ∷ []) ++ z ∷ []) k ≡ None
  two_past k le = slice_get_past ((xs ++ y ∷ []) ++ z ∷ []) k (subst (λ n. n ≤ k) (sym two_length) le)

past_two : (n k : ℕ) → n ≤ k → k ≢ n → k ≢ n + 1 → n + 1 + 1 ≤ k
past_two n k le ne also = omega (arith, le, ne, also)

module _ (image : Image) (s : State) (sound : SatisfiesInvariant image s) (fr : AreApart image s) (ended : AllEnded s) where
  abbrev n : ℕ
  n = length s.objects

  abbrev f : ℕ → ℕ
  f = crossed n

  pub stays : (k : ℕ) → k < n → f k ≡ k
  stays k lt = below_stays n k lt

  object_stays : (k : ℕ) (q : Object) → slice_get s.objects k ≡ Some q → object_by f q ≡ q
  object_stays k q e =
      ap (λ z. record { class = q.class; cells = z })
      (values_stay f n stays q.cells (λ i v is. points_of s.objects v (sound.formed.objects.points (record { object = k; offset = i }) v (ap (option_and_then (λ (o : Object). slice_get o.cells i)) e ∙ is))))

  pub objects_cross : (fu ft : Object) → object_by f fu ≡ fu → object_by f ft ≡ ft → (k : ℕ) →
      slice_get ((s.objects ++ ft ∷ []) ++ fu ∷ []) (f k) ≡ option_map (object_by f) (slice_get ((s.objects ++ fu ∷ []) ++ ft ∷ []) k)
  objects_cross fu ft same also k = elim (eqb_tells k n) [
    | inl is ↦
        ap (λ z. slice_get ((s.objects ++ ft ∷ []) ++ fu ∷ []) (f z)) is.1
        ∙ ap (slice_get ((s.objects ++ ft ∷ []) ++ fu ∷ [])) (crossed_first n)
        ∙ two_second s.objects ft fu
        ∙ ap Some (sym same)
        ∙ sym (ap (λ z. option_map (object_by f) (slice_get ((s.objects ++ fu ∷ []) ++ ft ∷ []) z)) is.1 ∙ ap (option_map (object_by f)) (two_first s.objects fu ft))
    | inr apart ↦ elim (eqb_tells k (n + 1)) [
      | inl is ↦
          ap (slice_get ((s.objects ++ ft ∷ []) ++ fu ∷ [])) (crossed_second n k is.1)
          ∙ two_first s.objects ft fu
          ∙ ap Some (sym also)
          ∙ sym (ap (λ z. option_map (object_by f) (slice_get ((s.objects ++ fu ∷ []) ++ ft ∷ []) z)) is.1 ∙ ap (option_map (object_by f)) (two_second s.objects fu ft))
      | inr away ↦
          ap (slice_get ((s.objects ++ ft ∷ []) ++ fu ∷ [])) (crossed_other n k apart.1 away.1)
          ∙ elim (cases_lt k n) [
            | inl before ↦
                elim (slice_get s.objects k) as (λ o. slice_get s.objects k ≡ o → slice_get ((s.objects ++ ft ∷ []) ++ fu ∷ []) k ≡ option_map (object_by f) (slice_get ((s.objects ++ fu ∷ []) ++ ft ∷ []) k)) [
                  | None ↦ λ e. (let g : false ≡ true = subst IsSome e (is_there s.objects k before) in cc)
                  | Some q ↦ λ e.
                      two_before s.objects ft fu k q e
                      ∙ ap Some (sym (object_stays k q e))
                      ∙ sym (ap (option_map (object_by f)) (two_before s.objects fu ft k q e))
                ] refl
            | inr past ↦
                let beyond = past_two n k past apart.1 away.1 in
                two_past s.objects ft fu k beyond ∙ sym (ap (option_map (object_by f)) (two_past s.objects fu ft k beyond))
          ]
    ]
  ]

  -- ---- holdings

  never_held : (t : ℕ) (c : Cell) (class : ℕ) → n ≤ c.object → (m : Mode) → map.get s.holding (key t (Leaf c class)) ≡ Some m → ⊥
  never_held t c class past m e =
      let is : held s.holding t (Leaf c class) ≡ m = ap (λ o. unwrap_or o NL) e in
      let leaf = sound.there t (Leaf c class) (λ k. sound.lawful.named (key t (Leaf c class)) (e ∙ ap Some (sym is ∙ k))) in
      let p = object_of s.objects c leaf.there in
      let lt = slice_get_within s.objects c.object p.0 p.1 in omega (arith, lt, past)

  unheld : (t : ℕ) (c : Cell) (class : ℕ) → n ≤ c.object → map.get s.holding (key t (Leaf c class)) ≡ None
  unheld t c class past = by_option (map.get s.holding (key t (Leaf c class))) refl
    where
      by_option : (o : Option Mode) → map.get s.holding (key t (Leaf c class)) ≡ o → o ≡ None
      by_option None e = refl
      by_option (Some m) e = absurd (never_held t c class past m e)

  pub holding_cross : (t : ℕ) (node : Node) → map.get s.holding (key t (node_by f node)) ≡ map.get s.holding (key t node)
  holding_cross t Root = refl
  holding_cross t (Class class) = refl
  holding_cross t (Leaf c class) = elim (cases_lt c.object n) [
    | inl before ↦ ap (λ z. map.get s.holding (key t (Leaf (record { object = z; offset = c.offset }) class))) (stays c.object before)
    | inr past ↦ unheld t (record { object = f c.object; offset = c.offset }) class (crossed_past n c.object past) ∙ sym (unheld t c class past)
  ]

  -- ---- threads

  frame_stays : (x : Frame) → ((r : ℕ) (v : Value) → slice_get x.regs r ≡ Some v → Points s.objects v) → frame_by f x ≡ x
  frame_stays x points = ap (λ z. record { function = x.function; pc = x.pc; regs = z; result = x.result }) (values_stay f n stays x.regs (λ r v e. points_of s.objects v (points r v e)))

  frames_stay : (above : ℕ) (result : Option ℕ) (below : List Frame) → AreSuspended image s.objects above result below → each (frame_by f) below ≡ below
  frames_stay above result [] k = refl
  frames_stay above result (x ∷ xs) k = ap₂ {C = List Frame} (λ y ys. y ∷ ys) (frame_stays x k.0.points) (frames_stay x.function x.result xs k.1)

  activity_stays : (t : ℕ) (a : Activity) → slice_get s.threads t ≡ Some (Running a) → (each (value_by f) a.top.regs ≡ a.top.regs) × (each (frame_by f) a.below ≡ a.below) × (each f a.fresh ≡ a.fresh)
  activity_stays t a is =
      let placed = sound.formed.placed t a (ap (option_and_then activity_of) is) in (
        values_stay f n stays a.top.regs (λ r v e. points_of s.objects v (placed.points r v e)),
        frames_stay a.top.function a.top.result a.below placed.below,
        each_stays f a.fresh (λ k o e. stays o (fr.there t o (ap (λ z. is_fresh (option_map_or (λ (d : Activity). d.fresh) z []) o) (ap (option_and_then activity_of) is) ∙ fresh_got a.fresh k o e)).1),
      )

  pub thread_stays : (t : ℕ) (x : Thread) → slice_get s.threads t ≡ Some x → thread_by f x ≡ x
  thread_stays t (Running a) is =
      let k = activity_stays t a is in
      λ i. Running (record { depth = a.depth; top = record { function = a.top.function; pc = a.top.pc; regs = k.0 i; result = a.top.result }; below = k.1 i; fresh = k.2 i })
  thread_stays t (Done v) is = ap Done (value_stays f n stays v (ended t (Done v) is))
  thread_stays t (Failed w) is = ap Failed (fault_stays f n stays w (ended t (Failed w) is))

  pub made_stays : (t : ℕ) (a : Activity) (to k m : ℕ) → slice_get s.threads t ≡ Some (Running a) → f k ≡ m → thread_by f (Running (having_made image.version a to k)) ≡ Running (having_made image.version a to m)
  made_stays t a to k m is e =
      let stay = activity_stays t a is in
      let regs = map-set (value_by f) a.top.regs to (Addr k 0) ∙ ap₂ (λ regs z. set regs to (Addr z 0)) stay.0 e in
      let fresh = sym (made_fresh_by f image.version a.depth k a.fresh) ∙ ap₂ (λ z xs. made_fresh image.version a.depth z xs) e stay.2 in
      λ i. Running (record { depth = a.depth; top = record { function = a.top.function; pc = a.top.pc + 1; regs = regs i; result = a.top.result }; below = stay.1 i; fresh = fresh i })
