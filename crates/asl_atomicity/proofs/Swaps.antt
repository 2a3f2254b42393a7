-- Two neighbouring steps change places where the later one is inside a section.
use Rattle.std.proofs.Common.{◌≡◌, ◌≢◌, ℕ, set, List, Option, Some, None, Ok, Err, length, slice_get, refl, ap, sym, ◌∙◌, subst, [], inl, inr}
use Rattle.std.specs.Prelude.{option_and_then}
use Rattle.std.specs.Option.{option_map_or}
use Rattle.std.proofs.lemmas.Bool.{or_left, or_right}
use Rattle.asl_code.specs.declared.image.Image.{Image}
use Rattle.asl_code.specs.declared.instr.Instr.{Instr}
use Rattle.asl_code.specs.declared.instr.Instr.TheVariants as instr
use Rattle.asl_code.specs.declared.value.Value.TheVariants.{Addr}
use Rattle.asl_code.specs.declared.value.Cell.{Cell}
use Rattle.asl_code.specs.declared.value.Effect.TheVariants.{Read, Write}
use Rattle.asl_lock_forest.specs.Holding.{Holding, IsLawful, is_covered, can_grant}
use Rattle.asl_lock_forest.proofs.NinePairs.{writer_covers_read}
use Rattle.asl_machine.specs.State.{Object, Thread, Running, Done, Failed, Activity, State, class_of, activity_of}
use Rattle.asl_machine.specs.Cover.{is_fresh, Cover, cover, Allows}
use Rattle.asl_machine.specs.Fresh.{AreApart}
use Rattle.asl_machine.proofs.Freshness.{or_split, allowed_pairs}
use Rattle.asl_machine.specs.Access.{AllPoint}
use Rattle.asl_machine.specs.Request.{request_of, locks_of}
use Rattle.asl_machine.specs.Step.{after}
use Rattle.asl_machine.specs.StepFunction.{Turn, Stepped, register_of, turn_by, left_at, step_at, step_of}
use Rattle.asl_machine.specs.WellFormed.{SatisfiesInvariant}
use Rattle.asl_machine.proofs.Lists.{get_other}
use Rattle.asl_machine.proofs.WellFormedHeaps.{length-written}
use Rattle.asl_machine.proofs.Invariant.{here_of, instr_here}
use Rattle.asl_machine.proofs.StepLeaves.{no_depth}
use Rattle.asl_atomicity.specs.Serial.{heard}
use Rattle.asl_atomicity.proofs.Swapping.{CanSwap, InSection, EntryUnseen, EntriesUnseen}
use Rattle.asl_atomicity.proofs.Uniform.{ObjectsEdit, Same, Stored, Made, put, edit, IsNew, Unseen, Uniform, uniform, place_at}
use Rattle.asl_atomicity.proofs.HoldingEdits.{edits_commute}
use Rattle.asl_atomicity.proofs.Stores.{IsThere, GoApart, puts_commute, set_set}
use Rattle.asl_atomicity.proofs.Unseen.{WroteBy, IsFar, ok_writes, register_points, moved_kept, target_kept, value_kept}
use Rattle.asl_atomicity.proofs.Reaching.{run_apart}

abbrev pub of_turn : State → ℕ → Turn → Stepped
of_turn z x turn = record { reply = turn.reply; state = after z x turn.thread turn.objects turn.holding }

abbrev state_with : List Object → Holding → List Thread → State
state_with objects h threads = record { objects = objects; holding = h; threads = threads }

pub stepped : (image : Image) (z : State) (x : ℕ) (a : Activity) (i : Instr) (objects : List Object) (h : Holding) (m : Uniform image x a i objects h) → slice_get z.threads x ≡ Some (Running a) → slice_get image.code a.top.pc ≡ Some i → Unseen image x a i objects h z.objects z.holding →
    step_of image z x ≡ record { reply = m.reply; state = after z x m.thread (put m.on_objects z.objects) (edit m.on_holding x z.holding) }
stepped image z x a i objects h m runs at s =
    ap (step_at image z x) runs
    ∙ ap (λ o. of_turn z x (turn_by x (left_at image (place_at x a z.objects z.holding) o))) at
    ∙ ap (of_turn z x) (m.does z.objects z.holding s)

pub same_here : (image : Image) (x : ℕ) (a : Activity) (i : Instr) (objects : List Object) (h : Holding) → Unseen image x a i objects h objects h
same_here image x a i objects h = record { moved = λ r p. refl; target = λ r e. refl; value = λ r. refl; number = λ n. refl; request = λ l e z. refl; free = λ l e z. refl }

-- who may write a cell may read it
writer_may_read : (k : Cover) (x : ℕ) (c : Cell) (class : ℕ) → Allows k x c class Write → Allows k x c class Read
writer_may_read k x c class e =
    elim (or_split (is_fresh k.fresh c.object) (is_covered k.holding x c class Write) e) [
      | inl own ↦ or_left (is_fresh k.fresh c.object) _ own
      | inr covers ↦ or_right (is_fresh k.fresh c.object) _ (writer_covers_read k.holding x c class covers)
    ]

-- what is written by two threads is apart
edits_apart : (objects : List Object) (h : Holding) (x y : ℕ) (a b : Activity) (e d : ObjectsEdit) → x ≢ y → IsLawful h → IsFar a b → IsFar b a → WroteBy objects h x a e → WroteBy objects h y b d → ((cells class others other : ℕ) → e ≡ Made cells class → d ≡ Made others other → ⊥) → GoApart e d
edits_apart objects h x y a b Same d apart lawful far near p q none = tt
edits_apart objects h x y a b (Made cells class) Same apart lawful far near p q none = tt
edits_apart objects h x y a b (Made cells class) (Stored w r) apart lawful far near p q none = tt
edits_apart objects h x y a b (Made cells class) (Made others other) apart lawful far near p q none = absurd (none cells class others other refl refl)
edits_apart objects h x y a b (Stored v (Err f)) d apart lawful far near p q none = tt
edits_apart objects h x y a b (Stored v (Ok c)) Same apart lawful far near p q none = tt
edits_apart objects h x y a b (Stored v (Ok c)) (Made cells class) apart lawful far near p q none = tt
edits_apart objects h x y a b (Stored v (Ok c)) (Stored w (Err f)) apart lawful far near p q none = tt
edits_apart objects h x y a b (Stored v (Ok c)) (Stored w (Ok d)) apart lawful far near p q none = λ same.
    let one = p v c refl in
    let two = q w d refl in
    let of : class_of objects c.object ≡ Some two.class = ap (λ (z : Cell). class_of objects z.object) same ∙ two.of in
    let class : one.class ≡ two.class = (let k : Some one.class ≡ Some two.class = sym one.of ∙ of in cc) in
    allowed_pairs h lawful x y a.fresh b.fresh apart c one.class (writer_may_read (cover h a.fresh) x c one.class one.allowed) (subst (λ z. Allows (cover h b.fresh) y c z Write) (sym class) (subst (λ z. Allows (cover h b.fresh) y z two.class Write) (sym same) two.allowed))
    (λ own. near c.object own two.register d.offset (two.reads ∙ ap (λ (z : Cell). Some (Addr z.object d.offset)) (sym same)))
    (λ other. far c.object other one.register c.offset one.reads)

edit_there : (objects : List Object) (h : Holding) (x : ℕ) (a : Activity) (e : ObjectsEdit) → WroteBy objects h x a e → IsThere objects e
edit_there objects h x a Same p = tt
edit_there objects h x a (Made cells class) p = tt
edit_there objects h x a (Stored v (Err f)) p = tt
edit_there objects h x a (Stored v (Ok c)) p = (p v c refl).there

same_number : (objects : List Object) (e : ObjectsEdit) → ((cells class : ℕ) → e ≢ Made cells class) → length (put e objects) ≡ length objects
same_number objects Same none = refl
same_number objects (Made cells class) none = absurd (none cells class refl)
same_number objects (Stored v (Err f)) none = refl
same_number objects (Stored v (Ok c)) none = length-written objects c v

pub not_new : (image : Image) (pc : ℕ) (i : Instr) → slice_get image.code pc ≡ Some i → ((a n c : ℕ) → slice_get image.code pc ≢ Some (instr.New a n c)) → IsNew i → ⊥
not_new image pc (instr.New a n c) at none k = none a n c at
not_new image pc i at none k = absurd k

pub wrote_by : (image : Image) (x : ℕ) (a : Activity) (i : Instr) (objects : List Object) (h : Holding) (m : Uniform image x a i objects h) → AllPoint objects a.top.regs → WroteBy objects h x a m.on_objects
wrote_by image x a i objects h m points v c e =
    let w = m.wrote v c e in ok_writes h objects x a w.0 c (register_points objects a.top w.0 points) w.1

-- of two threads none has an address in what is fresh for the other
pub far_apart : (image : Image) (s : State) → AreApart image s → (x y : ℕ) (a b : Activity) → x ≢ y → slice_get s.threads x ≡ Some (Running a) → slice_get s.threads y ≡ Some (Running b) → IsFar a b
far_apart image s fr x y a b apart runs also o f =
    (fr.registers x y o a apart (ap (λ z. is_fresh (option_map_or (λ (d : Activity). d.fresh) z []) o) (ap (option_and_then activity_of) also) ∙ f) (ap (option_and_then activity_of) runs)).0

module _ (image : Image) (s : State) (u t : ℕ) (sound : SatisfiesInvariant image s) (fr : AreApart image s) (apart : u ≢ t) (inside : InSection s t) (entry : EntryUnseen image s u t) (b : Activity) (runs : slice_get s.threads u ≡ Some (Running b))
    (one_makes : (i j : Instr) → slice_get image.code inside.activity.top.pc ≡ Some i → slice_get image.code b.top.pc ≡ Some j → IsNew i → IsNew j → ⊥) where
  pub swapped :
      let one = step_of image (step_of image s u).state t in
      let first = step_of image s t in
      let other = step_of image first.state u in
      (one.reply ≡ first.reply) × ((step_of image s u).reply ≡ other.reply) × (one.state ≡ other.state)
  swapped =
      let a = inside.activity in
      let o = s.objects in
      let h = s.holding in
      let ha = here_of image s t a sound inside.runs in
      let hb = here_of image s u b sound runs in
      let fa = instr_here image o a ha.placed sound.fits in
      let fb = instr_here image o b hb.placed sound.fits in
      let p = uniform image t a fa.0 o h in
      let q = uniform image u b fb.0 o h in
      let wp = wrote_by image t a fa.0 o h p ha.placed.points in
      let wq = wrote_by image u b fb.0 o h q hb.placed.points in
      let makes_one : IsNew fa.0 → IsNew fb.0 → ⊥ = one_makes fa.0 fb.0 fa.1 fb.1 in
      let st = after s t p.thread (put p.on_objects o) (edit p.on_holding t h) in
      let su = after s u q.thread (put q.on_objects o) (edit q.on_holding u h) in
      let first = stepped image s t a fa.0 o h p inside.runs fa.1 (same_here image t a fa.0 o h) in
      let second = stepped image s u b fb.0 o h q runs fb.1 (same_here image u b fb.0 o h) in
      let back : t ≢ u = λ e. apart (sym e) in
      let far = far_apart image s fr t u a b back inside.runs runs in
      let near = far_apart image s fr u t b a apart runs inside.runs in
      let seen_t : Unseen image t a fa.0 o h (put q.on_objects o) (edit q.on_holding u h) = record {
        moved = λ r places. moved_kept o h t u a b q.on_objects q.on_holding back sound.lawful wq far near places (register_of a.top r) (register_points o a.top r ha.placed.points);
        target = λ r e. target_kept o h t u a b q.on_objects q.on_holding back sound.lawful wq far near e (register_of a.top r) (register_points o a.top r ha.placed.points);
        value = λ r. value_kept o h t u a b q.on_objects q.on_holding back sound.lawful wq far near r (register_points o a.top r ha.placed.points);
        number = λ k. same_number o q.on_objects (λ cells class e. makes_one k (q.makes cells class e));
        request = λ list is z. absurd (no_depth a.depth z inside.inside);
        free = λ list is z. absurd (no_depth a.depth z inside.inside);
      } in
      let seen_u : Unseen image u b fb.0 o h (put p.on_objects o) (edit p.on_holding t h) = record {
        moved = λ r places. moved_kept o h u t b a p.on_objects p.on_holding apart sound.lawful wp near far places (register_of b.top r) (register_points o b.top r hb.placed.points);
        target = λ r e. target_kept o h u t b a p.on_objects p.on_holding apart sound.lawful wp near far e (register_of b.top r) (register_points o b.top r hb.placed.points);
        value = λ r. value_kept o h u t b a p.on_objects p.on_holding apart sound.lawful wp near far r (register_points o b.top r hb.placed.points);
        number = λ k. same_number o p.on_objects (λ cells class e. makes_one (p.makes cells class e) k);
        request = λ list is z. ap (λ (w : Stepped). request_of w.state.objects b.top.regs (locks_of image list)) (sym first) ∙ entry.request b list runs (fb.1 ∙ ap (λ w. Some w) is) z;
        free = λ list is z. ap (λ (w : Stepped). can_grant w.state.holding u (request_of o b.top.regs (locks_of image list))) (sym first) ∙ entry.free b list runs (fb.1 ∙ ap (λ w. Some w) is) z;
      } in
      let third = stepped image su t a fa.0 o h p (get_other s.threads u t q.thread back ∙ inside.runs) fa.1 seen_t in
      let fourth = stepped image st u b fb.0 o h q (get_other s.threads t u p.thread apart ∙ runs) fb.1 seen_u in
      let one = ap (λ (w : Stepped). step_of image w.state t) second ∙ third in
      let two = ap (λ (w : Stepped). step_of image w.state u) first ∙ fourth in
      let objects : put p.on_objects (put q.on_objects o) ≡ put q.on_objects (put p.on_objects o) = puts_commute o p.on_objects q.on_objects (edit_there o h t a p.on_objects wp) (edit_there o h u b q.on_objects wq) (edits_apart o h t u a b p.on_objects q.on_objects back sound.lawful far near wp wq (λ cells class others other e d. makes_one (p.makes cells class e) (q.makes others other d))) in
      let holding : edit p.on_holding t (edit q.on_holding u h) ≡ edit q.on_holding u (edit p.on_holding t h) = edits_commute p.on_holding q.on_holding t u h apart in
      let threads : set (set s.threads u q.thread) t p.thread ≡ set (set s.threads t p.thread) u q.thread = set_set s.threads u t q.thread p.thread apart in
      let end : after su t p.thread (put p.on_objects (put q.on_objects o)) (edit p.on_holding t (edit q.on_holding u h)) ≡ after st u q.thread (put q.on_objects (put p.on_objects o)) (edit q.on_holding u (edit p.on_holding t h)) =
      ap (λ z. after su t p.thread z (edit p.on_holding t (edit q.on_holding u h))) objects
      ∙ ap (λ z. after su t p.thread (put q.on_objects (put p.on_objects o)) z) holding
      ∙ ap (λ z. state_with (put q.on_objects (put p.on_objects o)) (edit q.on_holding u (edit p.on_holding t h)) z) threads in (
        ap (λ (w : Stepped). w.reply) one ∙ sym (ap (λ (w : Stepped). w.reply) first),
        ap (λ (w : Stepped). w.reply) second ∙ sym (ap (λ (w : Stepped). w.reply) two),
        ap (λ (w : Stepped). w.state) one ∙ end ∙ sym (ap (λ (w : Stepped). w.state) two),
      )

pub can_swap : (image : Image) (count : ℕ) → EntriesUnseen image count → CanSwap image count
can_swap image count unseen s u t sound apart counts inside = by_thread (slice_get s.threads u) refl
  where
    stands : InSection s t
    stands = record { activity = inside.activity; runs = inside.runs; inside = inside.inside }

    by_thread : (o : Option Thread) → slice_get s.threads u ≡ o →
        let one = step_of image (step_of image s u).state t in
        let first = step_of image s t in
        let other = step_of image first.state u in
        (one.reply ≡ first.reply) × ((step_of image s u).reply ≡ other.reply) × (one.state ≡ other.state)
    by_thread None e = absurd (counts (ap (λ o. heard (step_at image s u o).reply) e))
    by_thread (Some (Done v)) e = absurd (counts (ap (λ o. heard (step_at image s u o).reply) e))
    by_thread (Some (Failed f)) e = absurd (counts (ap (λ o. heard (step_at image s u o).reply) e))
    by_thread (Some (Running b)) e =
        swapped image s u t sound.0 (run_apart image count s sound) apart stands (unseen s u t sound apart counts stands) b e (λ i j at other new also. not_new image inside.activity.top.pc i at inside.makes_none new)
