-- A step inside a section moves before other threads' steps, where it may make objects.
use Rattle.std.proofs.Common.{◌≡◌, ◌≢◌, ℕ, ◌==◌, ◌<◌, ◌≤◌, ◌⊎◌, ◌++◌, Bool, true, false, List, [], ◌∷◌, Option, Some, None, length, slice_get, refl, ap, ap₂, sym, ◌∙◌, subst, inl, inr, arith}
use Rattle.std.specs.Prelude.{if◌then◌else◌, map as each, option_map}
use Rattle.std.proofs.lemmas.List.{map-append}
use Rattle.std.proofs.lemmas.Option.{slice_get-map, same_Some}
use Rattle.asl_code.specs.declared.image.Image.{Image}
use Rattle.asl_code.specs.declared.instr.Instr.{Instr}
use Rattle.asl_code.specs.declared.instr.Instr.TheVariants as instr
use Rattle.asl_code.specs.Fits.{FitsImage}
use Rattle.asl_machine.specs.declared.fault.Fault.TheVariants as fault
use Rattle.asl_machine.specs.declared.reply.Reply.{Reply}
use Rattle.asl_machine.specs.declared.reply.Reply.TheVariants as reply
use Rattle.asl_machine.specs.State.{Thread, Running, Done, Failed, Activity, State, depth_at}
use Rattle.asl_machine.specs.ComputedRun.{state_after}
use Rattle.asl_machine.specs.StepFunction.{step_of, step_at}
use Rattle.asl_machine.specs.WellFormed.{SatisfiesInvariant}
use Rattle.asl_machine.proofs.Invariant.{here_of, instr_here, step_sound}
use Rattle.asl_atomicity.specs.Serial.{heard}
use Rattle.asl_atomicity.proofs.Computed.{told, outside, AllCount, IsSerial, IsGuarded}
use Rattle.asl_atomicity.proofs.Swapping.{AreOthers, Stands, InSection}
use Rattle.asl_atomicity.specs.Renamed.{Renaming, reply_by, thread_by, IsRenamed, Keeps}
use Rattle.asl_atomicity.proofs.Uniform.{IsNew}
use Rattle.asl_atomicity.proofs.Swaps.{swapped}
use Rattle.asl_atomicity.proofs.Guards.{entries_unseen}
use Rattle.asl_atomicity.proofs.Moves.{others_stay, step_stands, two_told, slot_depth}
use Rattle.asl_atomicity.proofs.Outside.{outside_by}
use Rattle.asl_atomicity.proofs.Renamings.{then_by, none_by, reply_twice, renamed_twice, keeps_twice, each_twice, reply_stays, same_renamed, same_keeps, same_reply_by, same_replies, heard_by, heard_back, not_full_by}
use Rattle.asl_atomicity.proofs.RenamedSteps.{step_both}
use Rattle.asl_atomicity.proofs.SpokenObjects.{more_reply}
use Rattle.asl_atomicity.proofs.Staying.{AllEnded, steps, reached_ended, run_grows, le_self, le_le}
use Rattle.asl_atomicity.proofs.CrossedObjects.{Crossed}
use Rattle.asl_atomicity.proofs.Making.{both_make}
use Rattle.asl_atomicity.proofs.Reaching.{run_apart}

-- ---- what holds of more objects too

pub keeps_more : (f : ℕ → ℕ) (globals m n : ℕ) → m ≤ n → Keeps f globals m → Keeps f globals n
keeps_more f globals m n le k = record { globals = k.globals; later = λ i past. k.later i (le_le m n i le past) }

-- ---- two neighbouring steps in both orders

tell_new : (i : Instr) → ((to : ℕ) × (cells : ℕ) × (class : ℕ) × (i ≡ instr.New to cells class)) ⊎ (IsNew i → ⊥)
tell_new (instr.New to cells class) = inl (to, cells, class, refl)
tell_new i = inr (λ k. k)

module _ (image : Image) (count : ℕ) (fits : FitsImage image) (guarded : IsGuarded image count) where
  cross : (s : State) (u t : ℕ) → Stands image count s → u ≢ t → heard (step_of image s u).reply ≢ [] → InSection s t →
      (step_of image (step_of image s u).state t).reply ≢ reply.Fault fault.Full → Crossed image s u t
  cross s u t stands apart counts inside full = by_thread (slice_get s.threads u) refl
    where
      running : (b : Activity) → slice_get s.threads u ≡ Some (Running b) → Crossed image s u t
      running b runs =
          let sound = stands.0 in
          let a = inside.activity in
          let fa = instr_here image s.objects a (here_of image s t a sound inside.runs).placed sound.fits in
          let fb = instr_here image s.objects b (here_of image s u b sound runs).placed sound.fits in
          let same : (IsNew fa.0 → IsNew fb.0 → ⊥) → Crossed image s u t = λ one_makes.
          let k = swapped image s u t sound (run_apart image count s stands) apart inside (entries_unseen image count guarded s u t stands apart counts inside) b runs
          (λ i j at also new other.
          one_makes (subst IsNew (same_Some i fa.0 (sym at ∙ fa.1)) new) (subst IsNew (same_Some j fb.0 (sym also ∙ fb.1)) other)) in
          record {
            renaming = none_by;
            keeps = same_keeps (length image.globals) (length (step_of image (step_of image s u).state t).state.objects);
            fixes = λ n lt. refl;
            first = sym k.0 ∙ sym (same_reply_by (step_of image (step_of image s u).state t).reply);
            other = sym k.1 ∙ sym (same_reply_by (step_of image s u).reply);
            state = same_renamed (step_of image (step_of image s u).state t).state (step_of image (step_of image s t).state u).state k.2;
          } in
          elim (tell_new fa.0) [
            | inr none ↦ same (λ new other. none new)
            | inl t_makes ↦ elim (tell_new fb.0) [
              | inr none ↦ same (λ new other. none other)
              | inl u_makes ↦
                  let ended : AllEnded s = subst AllEnded (sym stands.1.1) (reached_ended image count stands.1.0 fits) in
                  let at = fa.1 ∙ ap Some t_makes.3 in
                  let there = fb.1 ∙ ap Some u_makes.3 in
                  both_make image s sound (run_apart image count s stands) ended u t apart a b inside.runs runs t_makes.0 t_makes.1 t_makes.2 u_makes.0 u_makes.1 u_makes.2 at there full
            ]
          ]

      by_thread : (o : Option Thread) → slice_get s.threads u ≡ o → Crossed image s u t
      by_thread None e = absurd (counts (ap (λ o. heard (step_at image s u o).reply) e))
      by_thread (Some (Done v)) e = absurd (counts (ap (λ o. heard (step_at image s u o).reply) e))
      by_thread (Some (Failed f)) e = absurd (counts (ap (λ o. heard (step_at image s u o).reply) e))
      by_thread (Some (Running b)) e = running b e

  -- ---- a run after other numbers

  pub record Both (f : ℕ → ℕ) (a b : State) (us : List ℕ) : Type 0 where
    pub state : IsRenamed f (state_after image a us) (state_after image b us)
    pub replies : (x : ℕ) → told image b x us ≡ each (reply_by f) (told image a x us)
    pub counts : AllCount image a us → AllCount image b us
    pub serial : (before : Option ℕ) → IsSerial image a before us → IsSerial image b before us
    pub order : outside image b us ≡ outside image a us

  pub each_told : (f : ℕ → ℕ) (b : Bool) (r : Reply) → each (reply_by f) (if b then heard r else []) ≡ (if b then heard (reply_by f r) else [])
  each_told f true r = heard_by f r
  each_told f false r = refl

  pub depth_by : (f : ℕ → ℕ) (a b : State) → IsRenamed f a b → (t : ℕ) → depth_at b.threads t ≡ depth_at a.threads t
  depth_by f a b same t = ap slot_depth (ap (λ (ts : List Thread). slice_get ts t) same.threads ∙ slice_get-map (thread_by f) a.threads t) ∙ by_option (slice_get a.threads t)
    where
      by_option : (o : Option Thread) → slot_depth (option_map (thread_by f) o) ≡ slot_depth o
      by_option None = refl
      by_option (Some (Running c)) = refl
      by_option (Some (Done v)) = refl
      by_option (Some (Failed w)) = refl

  run_both : (p : Renaming) (us : List ℕ) (a b : State) → SatisfiesInvariant image a → Keeps p.new (length image.globals) (length a.objects) → IsRenamed p.new a b → Both p.new a b us
  run_both p [] a b sound keeps same = record { state = same; replies = λ x. refl; counts = λ c. c; serial = λ before c. c; order = refl }
  run_both p (u ∷ us) a b sound keeps same =
      let k = step_both p image a b u sound keeps same in
      let next = (step_of image a u).state in
      let grown = keeps_more p.new (length image.globals) (length a.objects) (length next.objects) (steps image a u sound).grows keeps in
      let rest = run_both p us next (step_of image b u).state (step_sound image a u sound) grown k.state in
      record {
        state = rest.state;
        replies = λ x.
            ap₂ (λ r rs. (if u == x then heard r else []) ++ rs) k.reply (rest.replies x)
            ∙ ap (λ z. z ++ each (reply_by p.new) (told image next x us)) (sym (each_told p.new (u == x) (step_of image a u).reply))
            ∙ sym (map-append (reply_by p.new) (if u == x then heard (step_of image a u).reply else []) (told image next x us));
        counts = λ c. (subst (λ r. heard r ≢ []) (sym k.reply) (heard_back p.new (step_of image a u).reply c.0), rest.counts c.1);
        serial = λ before c. (
          elim c.0 [ inl outside ↦ inl (depth_by p.new a b same u ∙ outside) | inr follows ↦ inr follows ],
          rest.serial (Some u) c.1,
        );
        order = ap₂ (λ x xs. x ++ xs) (outside_by p.new u (depth_at b.threads u) (depth_at a.threads u) (step_of image b u).reply (step_of image a u).reply (depth_by p.new a b same u) k.reply) rest.order;
      }

  -- ---- a step inside a section goes before others

  stays_inside : (s : State) (u t : ℕ) → u ≢ t → InSection s t → InSection (step_of image s u).state t
  stays_inside s u t apart i = record { activity = i.activity; runs = others_stay image s u t (λ e. apart (sym e)) ∙ i.runs; inside = i.inside }

  pub record Inserted (s : State) (t : ℕ) (us : List ℕ) : Type 0 where
    pub renaming : Renaming
    pub keeps : Keeps renaming.new (length image.globals) (length (step_of image (state_after image s us) t).state.objects)
    pub fixes : (n : ℕ) → n < length s.objects → renaming.new n ≡ n
    pub state : IsRenamed renaming.new (step_of image (state_after image s us) t).state (state_after image (step_of image s t).state us)
    pub first : (step_of image s t).reply ≡ reply_by renaming.new (step_of image (state_after image s us) t).reply
    pub replies : (x : ℕ) → told image s x (t ∷ us) ≡ each (reply_by renaming.new) (told image s x (us ++ t ∷ []))
    pub counts : AllCount image (step_of image s t).state us
    pub serial : (before : Option ℕ) → IsSerial image s before us → IsSerial image (step_of image s t).state before us
    pub order : outside image (step_of image s t).state us ≡ outside image s us

  pub insert : (t : ℕ) (us : List ℕ) (s : State) → Stands image count s → InSection s t → AreOthers t us → AllCount image s us
      → (step_of image (state_after image s us) t).reply ≢ reply.Fault fault.Full → Inserted s t us
  insert t [] s stands inside others counts full = record {
    renaming = none_by;
    keeps = same_keeps (length image.globals) (length (step_of image s t).state.objects);
    fixes = λ n lt. refl;
    state = same_renamed (step_of image s t).state (step_of image s t).state refl;
    first = sym (same_reply_by (step_of image s t).reply);
    replies = λ x. sym (same_replies (told image s x (t ∷ [])));
    counts = tt;
    serial = λ before c. tt;
    order = refl;
  }
  insert t (u ∷ us) s stands inside others counts full =
      let sound = stands.0 in
      let sn = (step_of image s u).state in
      let sn_stands = step_stands image count s u stands in
      let rest = insert t us sn sn_stands (stays_inside s u t others.0 inside) others.1 counts.1 full in
      let p = rest.renaming in
      let m1 = (step_of image sn t).state in
      let m2 = (step_of image (step_of image s t).state u).state in
      let end = (step_of image (state_after image sn us) t).state in
      let m1_sound = step_sound image sn t sn_stands.0 in
      let c = cross s u t stands others.0 counts.0 inside (λ e. full (not_full_by p.new (step_of image (state_after image sn us) t).reply (sym rest.first ∙ e))) in
      let q = c.renaming in
      let lift = run_both q us m1 m2 m1_sound c.keeps c.state in
      let all = then_by p q in
      let fewer : length m1.objects ≤ length end.objects = subst (λ n. length m1.objects ≤ n) rest.state.count (run_grows image us m1 m1_sound) in
      let r_u = (step_of image s u).reply in
      let r_u_stays : reply_by p.new r_u ≡ r_u =
      reply_stays p.new (length sn.objects) rest.fixes r_u (more_reply (length s.objects) (length sn.objects) (steps image s u sound).grows r_u (steps image s u sound).reply) in
      record {
        renaming = all;
        keeps = keeps_twice p.new q.new (length image.globals) (length end.objects) (length end.objects) (le_self (length end.objects)) rest.keeps (keeps_more q.new (length image.globals) (length m1.objects) (length end.objects) fewer c.keeps);
        fixes = λ n lt. ap q.new (rest.fixes n (less n (length s.objects) (length sn.objects) lt (steps image s u sound).grows)) ∙ c.fixes n lt;
        state = renamed_twice p.new q.new end (state_after image m1 us) (state_after image m2 us) rest.state lift.state;
        first = c.first ∙ ap (reply_by q.new) rest.first ∙ reply_twice p.new q.new (step_of image (state_after image sn us) t).reply;
        replies = λ x.
            let told_u = λ (r : Reply). if u == x then heard r else [] in
            let told_t = λ (r : Reply). if t == x then heard r else [] in
            let first = (step_of image s t).reply in
            let one = (step_of image sn t).reply in
            let tail = told image sn x (us ++ t ∷ []) in
            let both : (r : Reply) → reply_by all.new r ≡ reply_by q.new (reply_by p.new r) = λ r. sym (reply_twice p.new q.new r) in
            let left : told image s x (t ∷ u ∷ us) ≡ told_u (reply_by q.new r_u) ++ (told_t (reply_by q.new one) ++ each (reply_by q.new) (told image m1 x us)) =
            two_told t u x (λ e. others.0 (sym e)) (heard first) (heard (step_of image (step_of image s t).state u).reply) (told image m2 x us)
            ∙ ap (λ r. told_u r ++ (told_t first ++ told image m2 x us)) c.other
            ∙ ap (λ r. told_u (reply_by q.new r_u) ++ (told_t r ++ told image m2 x us)) c.first
            ∙ ap (λ rs. told_u (reply_by q.new r_u) ++ (told_t (reply_by q.new one) ++ rs)) (lift.replies x) in
            let front : each (reply_by all.new) (told_u r_u) ≡ told_u (reply_by q.new r_u) =
            each_told all.new (u == x) r_u ∙ ap told_u (both r_u ∙ ap (reply_by q.new) r_u_stays) in
            let back : each (reply_by all.new) tail ≡ told_t (reply_by q.new one) ++ each (reply_by q.new) (told image m1 x us) =
            sym (each_twice (reply_by p.new) (reply_by q.new) (reply_by all.new) (reply_twice p.new q.new) tail)
            ∙ ap (each (reply_by q.new)) (sym (rest.replies x))
            ∙ map-append (reply_by q.new) (told_t one) (told image m1 x us)
            ∙ ap (λ z. z ++ each (reply_by q.new) (told image m1 x us)) (each_told q.new (t == x) one) in
            left ∙ sym (map-append (reply_by all.new) (told_u r_u) tail ∙ ap₂ (λ a b. a ++ b) front back);
        counts = (subst (λ r. heard r ≢ []) (sym c.other) (heard_back q.new r_u counts.0), lift.counts rest.counts);
        serial = λ before k. (
          elim k.0 [ inl outside ↦ inl (ap slot_depth (others_stay image s t u others.0) ∙ outside) | inr follows ↦ inr follows ],
          lift.serial (Some u) (rest.serial (Some u) k.1),
        );
        order = ap₂ (λ x xs. x ++ xs) (outside_by q.new u (depth_at (step_of image s t).state.threads u) (depth_at s.threads u) (step_of image (step_of image s t).state u).reply r_u (ap slot_depth (others_stay image s t u others.0)) c.other) (lift.order ∙ rest.order);
      }
    where
      less : (k m n : ℕ) → k < m → m ≤ n → k < n
      less k m n lt le = omega (arith, lt, le)
