-- Two threads that make an object each, one inside a section: in the other order the objects have each other's number.
use Rattle.std.proofs.Common.{◌≡◌, ◌≢◌, ℕ, ◌==◌, ◌<◌, ◌≤◌, ◌++◌, Bool, true, false, set, List, [], ◌∷◌, Some, length, slice_get, refl, ap, ap₂, sym, ◌∙◌, subst, arith}
use Rattle.std.proofs.lemmas.List.{length-append, map-set}
use Rattle.asl_code.specs.declared.image.Image.{Image}
use Rattle.asl_code.specs.declared.instr.Instr.TheVariants as instr
use Rattle.asl_machine.specs.declared.fault.Fault.TheVariants as fault
use Rattle.asl_machine.specs.declared.reply.Reply.TheVariants as reply
use Rattle.asl_machine.specs.State.{Object, Activity, Thread, Running, Failed, State, new_object}
use Rattle.asl_machine.specs.Fresh.{AreApart}
use Rattle.asl_machine.specs.Step.{after, having_made}
use Rattle.asl_machine.specs.WellFormed.{SatisfiesInvariant}
use Rattle.asl_machine.specs.StepFunction.{Stepped, step_of}
use Rattle.asl_machine.proofs.Lists.{get_other}
use Rattle.asl_machine.proofs.WellFormedHeaps.{many_globals}
use Rattle.asl_atomicity.specs.Renamed.{reply_by, thread_by, IsRenamed, Keeps}
use Rattle.asl_atomicity.proofs.Commuting.{crossed, crossed_first, crossed_second, crossed_other, crossing, above_apart}
use Rattle.asl_atomicity.proofs.Stores.{set_set}
use Rattle.asl_atomicity.proofs.Renamings.{each_stays}
use Rattle.asl_atomicity.proofs.Staying.{AllEnded}
use Rattle.asl_atomicity.proofs.CrossedObjects.{Crossed, new_step, steps_new, new_stays, two_length, stays, objects_cross, holding_cross, thread_stays, made_stays}

module _ (image : Image) (s : State) (sound : SatisfiesInvariant image s) (fr : AreApart image s) (ended : AllEnded s) where
  abbrev n : ℕ
  n = length s.objects

  abbrev f : ℕ → ℕ
  f = crossed n

  -- ---- both steps, in both orders
  module _ (u t : ℕ) (apart : u ≢ t) (a b : Activity) (runs : slice_get s.threads t ≡ Some (Running a)) (also : slice_get s.threads u ≡ Some (Running b))
      (to cells class into others other : ℕ) (at : slice_get image.code a.top.pc ≡ Some (instr.New to cells class)) (there : slice_get image.code b.top.pc ≡ Some (instr.New into others other))
      (full : (step_of image (step_of image s u).state t).reply ≢ reply.Fault fault.Full) where
    abbrev fu : Object
    fu = new_object other others

    abbrev ft : Object
    ft = new_object class cells

    abbrev su : State
    su = after s u (Running (having_made image.version b into n)) (s.objects ++ fu ∷ []) s.holding

    abbrev st : State
    st = after s t (Running (having_made image.version a to n)) (s.objects ++ ft ∷ []) s.holding

    runs_there : (x : Thread) (objects : List Object) → slice_get (set s.threads u x) t ≡ Some (Running a)
    runs_there x objects = get_other s.threads u t x (λ e. apart (sym e)) ∙ runs

    -- there was capacity for both
    full_after : (z : State) → slice_get z.threads t ≡ Some (Running a) → (length z.objects == 65536) ≡ true → (step_of image z t).reply ≡ reply.Fault fault.Full
    full_after z is e = ap (λ (w : Stepped). w.reply) (steps_new image z t a to cells class is at) ∙ ap (λ b. (new_step image z t a to cells class b).reply) e

    room : (length s.objects == 65536) ≡ false
    room = by_test (length s.objects == 65536) refl
      where
        by_test : (b : Bool) → (length s.objects == 65536) ≡ b → b ≡ false
        by_test false e = refl
        by_test true e =
            let first = steps_new image s u b into others other also there ∙ ap (new_step image s u b into others other) e in
            let next : State = (new_step image s u b into others other true).state in
            absurd (full (ap (λ (w : Stepped). (step_of image w.state t).reply) first ∙ full_after next (get_other s.threads u t (Failed fault.Full) (λ k. apart (sym k)) ∙ runs) e))

    first_u : step_of image s u ≡ record { reply = reply.Ran; state = su }
    first_u = steps_new image s u b into others other also there ∙ ap (new_step image s u b into others other) room

    first_t : step_of image s t ≡ record { reply = reply.Ran; state = st }
    first_t = steps_new image s t a to cells class runs at ∙ ap (new_step image s t a to cells class) room

    then_runs : slice_get su.threads t ≡ Some (Running a)
    then_runs = get_other s.threads u t (Running (having_made image.version b into n)) (λ e. apart (sym e)) ∙ runs

    room_two : (length su.objects == 65536) ≡ false
    room_two = by_test (length su.objects == 65536) refl
      where
        by_test : (b : Bool) → (length su.objects == 65536) ≡ b → b ≡ false
        by_test false e = refl
        by_test true e = absurd (full (ap (λ (w : Stepped). (step_of image w.state t).reply) first_u ∙ full_after su then_runs e))

    same_length : length st.objects ≡ length su.objects
    same_length = length-append s.objects (ft ∷ []) ∙ sym (length-append s.objects (fu ∷ []))

    abbrev one : State
    one = after su t (Running (having_made image.version a to (length su.objects))) (su.objects ++ ft ∷ []) s.holding

    abbrev two : State
    two = after st u (Running (having_made image.version b into (length st.objects))) (st.objects ++ fu ∷ []) s.holding

    second_t : step_of image (step_of image s u).state t ≡ record { reply = reply.Ran; state = one }
    second_t =
        ap (λ (w : Stepped). step_of image w.state t) first_u
        ∙ steps_new image su t a to cells class then_runs at
        ∙ ap (new_step image su t a to cells class) room_two

    second_u : step_of image (step_of image s t).state u ≡ record { reply = reply.Ran; state = two }
    second_u =
        ap (λ (w : Stepped). step_of image w.state u) first_t
        ∙ steps_new image st u b into others other (get_other s.threads t u (Running (having_made image.version a to n)) apart ∙ also) there
        ∙ ap (new_step image st u b into others other) (ap (λ k. k == 65536) same_length ∙ room_two)

    crossed_states : IsRenamed f one two
    crossed_states = record {
      count = two_length s.objects ft fu ∙ sym (two_length s.objects fu ft);
      objects = objects_cross image s sound fr ended fu ft (new_stays f other others) (new_stays f class cells);
      holding = holding_cross image s sound fr ended;
      threads =
          let new_u : thread_by f (Running (having_made image.version b into n)) ≡ Running (having_made image.version b into (length st.objects)) = made_stays image s sound fr ended u b into n (length st.objects) also (crossed_first n ∙ sym (length-append s.objects (ft ∷ []))) in
          let new_t : thread_by f (Running (having_made image.version a to (length su.objects))) ≡ Running (having_made image.version a to n) = made_stays image s sound fr ended t a to (length su.objects) n runs (crossed_second n (length su.objects) (length-append s.objects (fu ∷ []))) in
          sym (
          map-set (thread_by f) (set s.threads u (Running (having_made image.version b into n))) t (Running (having_made image.version a to (length su.objects)))
          ∙ ap₂ (λ ts x. set ts t x) (map-set (thread_by f) s.threads u (Running (having_made image.version b into n))) new_t
          ∙ ap₂ (λ ts x. set (set ts u x) t (Running (having_made image.version a to n))) (each_stays (thread_by f) s.threads (thread_stays image s sound fr ended)) new_u
          ∙ set_set s.threads u t (Running (having_made image.version b into (length st.objects))) (Running (having_made image.version a to n)) apart
          );
    }

    crossed_keeps : Keeps f (length image.globals) (length one.objects)
    crossed_keeps = record {
      globals = λ k lt. stays image s sound fr ended k (less k (length image.globals) n lt (many_globals image s.objects sound.formed.objects));
      later = λ k past. (let beyond = above_apart n k (subst (λ z. z ≤ k) (two_length s.objects fu ft) past) in crossed_other n k beyond.0 beyond.1);
    }
      where
        less : (k m n : ℕ) → k < m → m ≤ n → k < n
        less k m n lt le = omega (arith, lt, le)

    pub both_make : Crossed image s u t
    both_make = record {
      renaming = crossing n;
      keeps = subst (λ (w : Stepped). Keeps f (length image.globals) (length w.state.objects)) (sym second_t) crossed_keeps;
      fixes = λ k lt. stays image s sound fr ended k lt;
      first = ap (λ (w : Stepped). w.reply) first_t ∙ sym (ap (λ (w : Stepped). reply_by f w.reply) second_t);
      other = ap (λ (w : Stepped). w.reply) second_u ∙ sym (ap (λ (w : Stepped). reply_by f w.reply) first_u);
      state =
          subst (λ (w : Stepped). IsRenamed f w.state (step_of image (step_of image s t).state u).state) (sym second_t)
          (subst (λ (w : Stepped). IsRenamed f one w.state) (sym second_u) crossed_states);
    }
