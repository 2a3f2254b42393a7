-- Runs have serial ones up to the numbers of the objects that sections make.
use Rattle.std.proofs.Common.{◌≡◌, ◌≢◌, ℕ, ◌==◌, ◌<◌, ◌⊎◌, ◌++◌, List, [], ◌∷◌, Option, Some, None, length, slice_get, refl, ap, ap₂, sym, ◌∙◌, subst, inl, inr, arith}
use Rattle.std.specs.Prelude.{if◌then◌else◌, map as each, option_map, All}
use Rattle.std.proofs.lemmas.Bool.Decides.{eqb_tells}
use Rattle.std.proofs.lemmas.List.{append_assoc, append-nil, map-append}
use Rattle.std.proofs.lemmas.List.Elements.{All-head, All-tail}
use Rattle.std.proofs.lemmas.Option.{slice_get-map}
use Rattle.asl_code.specs.declared.image.Image.{Image}
use Rattle.asl_code.specs.Fits.{FitsImage}
use Rattle.asl_machine.specs.declared.fault.Fault.TheVariants as fault
use Rattle.asl_machine.specs.declared.reply.Reply.TheVariants as reply
use Rattle.asl_machine.specs.State.{Thread, Running, Done, Failed, State, depth_at}
use Rattle.asl_machine.specs.Run.{start_of}
use Rattle.asl_machine.specs.ComputedRun.{state_after}
use Rattle.asl_machine.specs.StepFunction.{step_of}
use Rattle.asl_machine.proofs.Starts.{start_sound, length-first_threads}
use Rattle.asl_machine.proofs.StepLeaves.{no_depth}
use Rattle.asl_atomicity.specs.Serial.{heard}
use Rattle.asl_atomicity.proofs.Computed.{told, outside, AllCount, IsSerial, IsGuarded, FindsRoomInside, HasSerialRunsUpTo}
use Rattle.asl_atomicity.proofs.Swapping.{Stands, InSection}
use Rattle.asl_atomicity.specs.Renamed.{Renaming, reply_by, activity_by, thread_by, IsRenamed, Keeps}
use Rattle.asl_atomicity.proofs.Moves.{state_parts, slot_depth}
use Rattle.asl_atomicity.proofs.RunParts.{told_parts, counts_split, counts_join, last_of, last_end, serial_split, serial_join, run_stands, run_length, stays, LastAt, find_last, unheard, tell_heard, quiet}
use Rattle.asl_atomicity.proofs.Serials.{start_outside}
use Rattle.asl_atomicity.proofs.Renamings.{then_by, none_by, reply_twice, renamed_twice, keeps_twice, each_twice, same_renamed, same_keeps, heard_back, not_full_by}
use Rattle.asl_atomicity.proofs.Outside.{outside_parts, quiet_outside, inside_outside, outside_more, none_more, outside_by}
use Rattle.asl_atomicity.proofs.Inserting.{keeps_more, each_told, depth_by, insert}
use Rattle.asl_atomicity.proofs.RenamedSteps.{StepBy, step_both}
use Rattle.asl_atomicity.proofs.Staying.{steps, told_stays, le_self}

module _ (image : Image) (count : ℕ) (fits : FitsImage image) (guarded : IsGuarded image count) where
  -- ---- one step more

  module _ (s : State) (stands : Stands image count s) where
    record From (done : List ℕ) : Type 0 where
      serial : List ℕ
      counts : AllCount image s serial
      is_serial : IsSerial image s None serial
      renaming : Renaming
      keeps : Keeps renaming.new (length image.globals) (length (state_after image s done).objects)
      state : IsRenamed renaming.new (state_after image s done) (state_after image s serial)
      replies : (x : ℕ) → told image s x serial ≡ each (reply_by renaming.new) (told image s x done)
      order : outside image s serial ≡ outside image s done

    -- what is told of one step more
    told_more : (us : List ℕ) (t x : ℕ) → told image s x (us ++ t ∷ []) ≡ told image s x us ++ (if t == x then heard (step_of image (state_after image s us) t).reply else [])
    told_more us t x = told_parts image us (t ∷ []) s x ∙ ap (λ z. told image s x us ++ z) (append-nil (if t == x then heard (step_of image (state_after image s us) t).reply else []))

    state_more : (us : List ℕ) (t : ℕ) → state_after image s (us ++ t ∷ []) ≡ (step_of image (state_after image s us) t).state
    state_more us t = state_parts image us (t ∷ []) s

    dropped : (done : List ℕ) (t : ℕ) → From done → t < length s.threads → heard (step_of image (state_after image s done) t).reply ≡ [] → From (done ++ t ∷ [])
    dropped done t f there e =
        let here : t < length (state_after image s done).threads = subst (λ n. t < n) (sym (run_length image done s)) there in
        let same : state_after image s (done ++ t ∷ []) ≡ state_after image s done =
        state_more done t ∙ unheard image (state_after image s done) t (run_stands image count done s stands).0 here e in
        record {
          serial = f.serial;
          counts = f.counts;
          is_serial = f.is_serial;
          renaming = f.renaming;
          keeps = subst (λ (z : State). Keeps f.renaming.new (length image.globals) (length z.objects)) (sym same) f.keeps;
          state = subst (λ z. IsRenamed f.renaming.new z (state_after image s f.serial)) (sym same) f.state;
          replies = λ x. f.replies x ∙ ap (each (reply_by f.renaming.new)) (sym (told_parts image done (t ∷ []) s x ∙ ap (λ z. told image s x done ++ z) (quiet (t == x) (heard (step_of image (state_after image s done) t).reply) e) ∙ append-nil (told image s x done)));
          order = f.order ∙ sym (none_more image done t s (quiet_outside image (state_after image s done) t e));
        }

    -- the step after both
    module _ (done : List ℕ) (t : ℕ) (f : From done) where
      abbrev here : State
      here = state_after image s done

      abbrev there : State
      there = state_after image s f.serial

      here_stands : Stands image count here
      here_stands = run_stands image count done s stands

      both : StepBy f.renaming (step_of image here t) (step_of image there t)
      both = step_both f.renaming image here there t here_stands.0 f.keeps f.state

      counts_there : heard (step_of image here t).reply ≢ [] → heard (step_of image there t).reply ≢ []
      counts_there c = subst (λ r. heard r ≢ []) (sym both.reply) (heard_back f.renaming.new (step_of image here t).reply c)

      keeps_then : Keeps f.renaming.new (length image.globals) (length (step_of image here t).state.objects)
      keeps_then = keeps_more f.renaming.new (length image.globals) (length here.objects) (length (step_of image here t).state.objects) (steps image here t here_stands.0).grows f.keeps

      replies_then : (x : ℕ) → told image s x (f.serial ++ t ∷ []) ≡ each (reply_by f.renaming.new) (told image s x (done ++ t ∷ []))
      replies_then x =
          told_more f.serial t x
          ∙ ap₂ (λ a r. a ++ (if t == x then heard r else [])) (f.replies x) both.reply
          ∙ ap (λ z. each (reply_by f.renaming.new) (told image s x done) ++ z) (sym (each_told image count fits guarded f.renaming.new (t == x) (step_of image here t).reply))
          ∙ sym (ap (each (reply_by f.renaming.new)) (told_more done t x) ∙ map-append (reply_by f.renaming.new) (told image s x done) (if t == x then heard (step_of image here t).reply else []))

      appended : heard (step_of image here t).reply ≢ [] → depth_at here.threads t ≡ 0 → From (done ++ t ∷ [])
      appended c outside = record {
        serial = f.serial ++ t ∷ [];
        counts = counts_join image f.serial (t ∷ []) s f.counts (counts_there c, tt);
        is_serial = serial_join image f.serial (t ∷ []) s None f.is_serial (inl (depth_by image count fits guarded f.renaming.new here there f.state t ∙ outside), tt);
        renaming = f.renaming;
        keeps = subst (λ (z : State). Keeps f.renaming.new (length image.globals) (length z.objects)) (sym (state_more done t)) keeps_then;
        state = subst (λ z. IsRenamed f.renaming.new z (state_after image s (f.serial ++ t ∷ []))) (sym (state_more done t)) (subst (IsRenamed f.renaming.new (step_of image here t).state) (sym (state_more f.serial t)) both.state);
        replies = replies_then;
        order =
            outside_more image f.serial t s
            ∙ ap₂ (λ us vs. us ++ vs) f.order (outside_by f.renaming.new t (depth_at there.threads t) (depth_at here.threads t) (step_of image there t).reply (step_of image here t).reply (depth_by image count fits guarded f.renaming.new here there f.state t) both.reply)
            ∙ sym (outside_more image done t s);
      }

      inside_there : InSection here t → InSection there t
      inside_there i = record {
        activity = activity_by f.renaming.new i.activity;
        runs = ap (λ (ts : List Thread). slice_get ts t) f.state.threads ∙ slice_get-map (thread_by f.renaming.new) here.threads t ∙ ap (option_map (thread_by f.renaming.new)) i.runs;
        inside = i.inside;
      }

      placed : heard (step_of image here t).reply ≢ [] → (step_of image here t).reply ≢ reply.Fault fault.Full → InSection here t → LastAt t f.serial → From (done ++ t ∷ [])
      placed c room inside at =
          let front = at.front ++ t ∷ [] in
          let p = state_after image s front in
          let p_stands = run_stands image count front s stands in
          let q_is : there ≡ state_after image p at.back = ap (state_after image s) at.is ∙ state_parts image front at.back s in
          let i_end : InSection (state_after image p at.back) t = subst (λ z. InSection z t) q_is (inside_there inside) in
          let i : InSection p t = record { activity = i_end.activity; runs = sym (stays image t at.back p at.others) ∙ i_end.runs; inside = i_end.inside } in
          let counts = counts_split image front at.back s (subst (AllCount image s) at.is f.counts) in
          let serial = serial_split image front at.back s None (subst (IsSerial image s None) at.is f.is_serial) in
          let q_reply : (step_of image there t).reply ≡ (step_of image (state_after image p at.back) t).reply = ap (λ z. (step_of image z t).reply) q_is in
          let full_not : (step_of image (state_after image p at.back) t).reply ≢ reply.Fault fault.Full =
          λ e. room (not_full_by f.renaming.new (step_of image here t).reply (sym both.reply ∙ q_reply ∙ e)) in
          let k = insert image count fits guarded t at.back p p_stands i at.others counts.1 full_not in
          let all = then_by f.renaming k.renaming in
          let x_is : (step_of image there t).state ≡ (step_of image (state_after image p at.back) t).state = ap (λ z. (step_of image z t).state) q_is in
          let to_x : IsRenamed f.renaming.new (step_of image here t).state (step_of image (state_after image p at.back) t).state = subst (IsRenamed f.renaming.new (step_of image here t).state) x_is both.state in
          let end_is : state_after image s (front ++ t ∷ at.back) ≡ state_after image (step_of image p t).state at.back = state_parts image front (t ∷ at.back) s in
          record {
            serial = front ++ t ∷ at.back;
            counts = counts_join image front (t ∷ at.back) s counts.0 (
              subst (λ r. heard r ≢ []) (sym k.first) (heard_back k.renaming.new (step_of image (state_after image p at.back) t).reply (subst (λ r. heard r ≢ []) q_reply (counts_there c))),
              k.counts,
            );
            is_serial = serial_join image front (t ∷ at.back) s None serial.0 (
              inr (last_end None at.front t),
              subst (λ b. IsSerial image (step_of image p t).state b at.back) (last_end None at.front t) (k.serial (last_of None front) serial.1),
            );
            renaming = all;
            keeps =
                subst (λ (z : State). Keeps all.new (length image.globals) (length z.objects)) (sym (state_more done t))
                (keeps_twice f.renaming.new k.renaming.new (length image.globals) (length (step_of image here t).state.objects) (length (step_of image here t).state.objects) (le_self (length (step_of image here t).state.objects)) keeps_then
                (subst (Keeps k.renaming.new (length image.globals)) to_x.count k.keeps));
            state =
                subst (λ z. IsRenamed all.new z (state_after image s (front ++ t ∷ at.back))) (sym (state_more done t))
                (subst (IsRenamed all.new (step_of image here t).state) (sym end_is)
                (renamed_twice f.renaming.new k.renaming.new (step_of image here t).state (step_of image (state_after image p at.back) t).state (state_after image (step_of image p t).state at.back) to_x k.state));
            replies = λ x.
                let old = told image s x front in
                let same : each (reply_by k.renaming.new) old ≡ old = told_stays image k.renaming.new front s x stands.0 k.fixes in
                let whole : old ++ told image p x (at.back ++ t ∷ []) ≡ told image s x (f.serial ++ t ∷ []) =
                sym (ap (λ us. told image s x (us ++ t ∷ [])) at.is ∙ ap (told image s x) (append_assoc front at.back (t ∷ [])) ∙ told_parts image front (at.back ++ t ∷ []) s x) in
                told_parts image front (t ∷ at.back) s x
                ∙ ap₂ (λ a b. a ++ b) (sym same) (k.replies x)
                ∙ sym (map-append (reply_by k.renaming.new) old (told image p x (at.back ++ t ∷ [])))
                ∙ ap (each (reply_by k.renaming.new)) (whole ∙ replies_then x)
                ∙ each_twice (reply_by f.renaming.new) (reply_by k.renaming.new) (reply_by all.new) (reply_twice f.renaming.new k.renaming.new) (told image s x (done ++ t ∷ []));
            order =
                outside_parts image front (t ∷ at.back) s
                ∙ ap (λ us. outside image s front ++ (us ++ outside image (step_of image p t).state at.back)) (inside_outside image p t i.activity i.runs i.inside)
                ∙ ap (λ us. outside image s front ++ us) k.order
                ∙ sym (outside_parts image front at.back s)
                ∙ ap (outside image s) (sym at.is)
                ∙ f.order
                ∙ sym (none_more image done t s (inside_outside image here t inside.activity inside.runs inside.inside));
          }

    -- a thread whose depth is above 0 is inside a section
    in_section : (z : State) (t : ℕ) → depth_at z.threads t ≢ 0 → InSection z t
    in_section z t deep = by_thread (slice_get z.threads t) refl
      where
        by_thread : (o : Option Thread) → slice_get z.threads t ≡ o → InSection z t
        by_thread None e = absurd (deep (ap slot_depth e))
        by_thread (Some (Done v)) e = absurd (deep (ap slot_depth e))
        by_thread (Some (Failed w)) e = absurd (deep (ap slot_depth e))
        by_thread (Some (Running a)) e = record { activity = a; runs = e; inside = positive a.depth (λ is. deep (ap slot_depth e ∙ is)) }
          where
            positive : (d : ℕ) → d ≢ 0 → 0 < d
            positive d ne = omega (arith, ne)

    one_step : (done : List ℕ) (t : ℕ) → ((u : ℕ) → depth_at s.threads u ≡ 0) → t < length s.threads → From done
        → (depth_at (state_after image s done).threads t ≡ 0) ⊎ ((step_of image (state_after image s done) t).reply ≢ reply.Fault fault.Full) → From (done ++ t ∷ [])
    one_step done t fresh there f place = elim (tell_heard (step_of image (state_after image s done) t).reply) [
      | inl e ↦ dropped done t f there e
      | inr c ↦ elim place [
        | inl outside ↦ appended done t f c outside
        | inr room ↦ elim (eqb_tells (depth_at (state_after image s done).threads t) 0) [
          | inl outside ↦ appended done t f c outside.1
          | inr deep ↦
              let inside = in_section (state_after image s done) t deep.1 in
              elim (find_last t f.serial) [
                | inl at ↦ placed done t f c room inside at
                | inr none ↦
                    let i = inside_there done t f inside in
                    let start : slice_get s.threads t ≡ Some (Running i.activity) = sym (stays image t f.serial s none) ∙ i.runs in
                    absurd (no_depth i.activity.depth (sym (ap slot_depth start) ∙ fresh t) i.inside)
              ]
        ]
      ]
    ]

    all_steps : (rest done : List ℕ) → ((u : ℕ) → depth_at s.threads u ≡ 0) → All (λ t. t < length s.threads) rest → FindsRoomInside image (state_after image s done) rest → From done → From (done ++ rest)
    all_steps [] done fresh all m f = subst From (sym (append-nil done)) f
    all_steps (t ∷ rest) done fresh all m f =
        subst From (append_assoc done (t ∷ []) rest)
        (all_steps rest (done ++ t ∷ []) fresh (All-tail (λ t. t < length s.threads) t rest all) (subst (λ z. FindsRoomInside image z rest) (sym (state_parts image done (t ∷ []) s)) m.1) (one_step done t fresh (All-head (λ t. t < length s.threads) t rest all) f m.0))

  -- the theorem
  pub serial_runs_up_to : HasSerialRunsUpTo image count
  serial_runs_up_to schedule there m =
      let s = start_of image count in
      let stands : Stands image count s = (start_sound image count fits, ([], refl)) in
      let f = all_steps s stands schedule [] (start_outside image count) (rw (length-first_threads image count) there) m (record {
        serial = [];
        counts = tt;
        is_serial = tt;
        renaming = none_by;
        keeps = same_keeps (length image.globals) (length s.objects);
        state = same_renamed s s refl;
        replies = λ x. refl;
        order = refl;
      }) in
      record { serial = f.serial; counts = f.counts; is_serial = f.is_serial; renaming = f.renaming; keeps = f.keeps; state = f.state; replies = f.replies; order = f.order }
