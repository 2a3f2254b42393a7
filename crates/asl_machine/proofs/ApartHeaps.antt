-- Fresh objects stay apart after a `store`, and after a `new`, whose object is fresh for its thread alone.
use Rattle.std.proofs.Common.{◌≡◌, ◌≢◌, ℕ, suc, ◌⊎◌, ◌||◌, ◌++◌, true, false, [], ◌∷◌, Some, length, set, slice_get, refl, ap, ap₂, sym, ◌∙◌, subst, inl, inr, arith}
use Rattle.std.specs.Prelude.{IsTrue}
use Rattle.std.proofs.lemmas.Bool.Decides.{eqb_tells}
use Rattle.std.proofs.lemmas.Option.{same_Some}
use Rattle.std.proofs.lemmas.List.{length_push}
use Rattle.asl_code.specs.declared.image.Image.{Image}
use Rattle.asl_code.specs.declared.value.Value.{Value}
use Rattle.asl_code.specs.declared.value.Value.TheVariants.{Addr}
use Rattle.asl_code.specs.declared.value.Cell.{Cell}
use Rattle.asl_code.specs.declared.value.Effect.TheVariants.{Write}
use Rattle.asl_code.specs.Versions.{has_fresh}
use Rattle.asl_lock_forest.specs.Holding.{Covers, is_covered}
use Rattle.asl_machine.specs.Cover.{is_fresh}
use Rattle.asl_machine.specs.State.{Object, Activity, Running, State, class_of, written, new_object, activity_at}
use Rattle.asl_machine.specs.Fresh.{fresh_at, IsFreshFor, AllElsewhere, MayHold, AreApart}
use Rattle.asl_machine.specs.Step.{after, advanced, going_on, having_made, is_allowed}
use Rattle.asl_machine.proofs.Heaps.{class_of-written, stored_or_old, object_there, class_there, old_address}
use Rattle.asl_machine.proofs.WellFormedHeaps.{length-written, points_within, read_before, many_globals}
use Rattle.asl_machine.proofs.Freshness.{made_either, made_keeps, made_outside, allowed_covers}
use Rattle.asl_machine.proofs.Elsewhere.{none_points, none_below}
use Rattle.asl_machine.proofs.Unknown.{making_elsewhere}
use Rattle.asl_machine.proofs.ApartTurns.{IsTurn, other_at, own_at, was, now_other, now_own, own_old, old_own, elsewhere, unknown, runs_on}

module _ {image : Image} {s : State} {t : ℕ} {a : Activity} (turn : IsTurn image s t a) where
  -- what is stored in a fresh object may be an address in another fresh one of the thread, and no other may
  pub stores : (r from : ℕ) (cell : Cell) (v : Value) (new : State) → slice_get a.top.regs r ≡ Some (Addr cell.object cell.offset) → slice_get a.top.regs from ≡ Some v → is_allowed (record { image = image; state = s; thread = t; activity = a }) Write cell ≡ true →
      new ≡ after s t (Running (going_on a a.depth (advanced a.top))) (written s.objects cell v) s.holding → AreApart image new
  stores r from cell v new reads reads_v allowed e =
      let b = going_on a a.depth (advanced a.top) in
      let base = runs_on turn b refl (λ z. z) (λ u o apart f. elsewhere turn u o apart f) in
      let more = written s.objects cell v in
      let classes = class_of-written s.objects cell v in
      let old : (u o : ℕ) → IsTrue (is_fresh (fresh_at (set s.threads t (Running b)) u) o) → IsFreshFor s u o =
      λ u o f. elim (was turn (Running b) u o f) [ inl own ↦ subst (λ w. IsFreshFor s w o) (sym own.0) (own_old turn o own.1) | inr other ↦ other.1 ] in
      subst (AreApart image) (sym e)
      (record {
        version = base.version;
        outside = base.outside;
        there = λ u o f. let p = base.there u o f in (p.0, (let l = length-written s.objects cell v in let lt = p.1 in omega (arith, l, lt)));
        apart = base.apart;
        registers = base.registers;
        cells = λ u o i k f at.
            let recast : MayHold (after s t (Running b) s.objects s.holding) u k → MayHold (after s t (Running b) more s.holding) u k =
            λ m. elim m [ inl in_fresh ↦ inl in_fresh | inr covered ↦ inr (covered.0, λ x of. covered.1 x (sym (classes k.object) ∙ of)) ] in
            elim (stored_or_old s.objects cell v k (Addr o i) at) [
              | inl both ↦ elim (eqb_tells u t) [
                | inl own ↦
                    let y = class_there more k (Addr o i) at in
                    let mine = allowed_covers image s t a Write cell y.0 allowed (sym (classes cell.object) ∙ ap (λ (q : Cell). class_of more q.object) (sym both.0) ∙ y.1) in
                    elim (is_fresh a.fresh cell.object) as (λ z. is_fresh a.fresh cell.object ≡ z → (z || is_covered s.holding t cell y.0 Write) ≡ true → MayHold (after s t (Running b) more s.holding) u k) [
                      | true ↦ λ z g. inl (ap₂ (λ w (q : Cell). is_fresh (fresh_at (set s.threads t (Running b)) w) q.object) own.1 both.0 ∙ now_own turn (Running b) cell.object z)
                      | false ↦ λ z g. inr (
                        λ w h.
                            (let held_there : IsFreshFor s w cell.object = old w cell.object (ap (λ (q : Cell). is_fresh (fresh_at (set s.threads t (Running b)) w) q.object) (sym both.0) ∙ h) in
                            elim (eqb_tells w t) [
                              | inl me ↦ (let q = old_own turn cell.object (subst (λ z. IsFreshFor s z cell.object) me.1 held_there) in let n = z in cc)
                              | inr other ↦ (elsewhere turn w cell.object other.1 held_there).0 r cell.offset reads
                            ]),
                        λ x of.
                            (let one : y.0 ≡ x = same_Some _ _ (sym y.1 ∙ of) in
                            ap₂ (λ w q. is_covered s.holding w q x Write) own.1 both.0 ∙ subst (λ z. Covers s.holding t cell z Write) one g),
                      )
                    ] refl mine
                | inr other ↦ absurd ((elsewhere turn u o other.1 (old u o f)).0 from i (reads_v ∙ ap (λ z. Some z) (sym both.1)))
              ]
              | inr before ↦ recast (base.cells u o i k f before)
            ];
      })

  -- ---- `new`

  -- the new object is in no register but the one that is set
  pub makes : (r n class : ℕ) (new : State) →
      new ≡ after s t (Running (having_made image.version a r (length s.objects))) (s.objects ++ new_object class n ∷ []) s.holding → AreApart image new
  makes r n class new e =
      let size = length s.objects in
      let b = having_made image.version a r size in
      let more = s.objects ++ new_object class n ∷ [] in
      let longer : length more ≡ suc size = (let l = length_push s.objects (new_object class n) in omega (arith, l)) in
      let old : (u o : ℕ) → IsTrue (is_fresh (fresh_at (set s.threads t (Running b)) u) o) → IsFreshFor s u o ⊎ ((u ≡ t) × (o ≡ size) × IsTrue (has_fresh image.version)) =
      λ u o f. elim (was turn (Running b) u o f) [
        | inl own ↦ elim (made_either image.version a.depth size a.fresh o own.1) [ inl g ↦ inl (subst (λ w. IsFreshFor s w o) (sym own.0) (own_old turn o g)) | inr g ↦ inr (own.0, g.0, g.1) ]
        | inr other ↦ inl other.1
      ] in
      let within : (u o : ℕ) → IsFreshFor s u o → o ≢ size = λ u o f same. (let lt = (turn.apart.there u o f).1 in omega (arith, lt, same)) in
      let now : (u o : ℕ) → IsFreshFor s u o → IsTrue (is_fresh (fresh_at (set s.threads t (Running b)) u) o) =
      λ u o f. elim (eqb_tells u t) [
        | inl same ↦ subst (λ w. IsTrue (is_fresh (fresh_at (set s.threads t (Running b)) w) o)) (sym same.1) (now_own turn (Running b) o (made_keeps image.version a.depth size a.fresh o (old_own turn o (subst (λ w. IsFreshFor s w o) same.1 f))))
        | inr other ↦ now_other turn (Running b) u o other.1 f
      ] in
      let elsewhere_new : (u : ℕ) (d : Activity) → activity_at s.threads u ≡ Some d → AllElsewhere size (d.top ∷ d.below) =
      λ u d at. (let p = turn.sound.formed.placed u d at in (none_points s.objects d.top.regs p.points, none_below image s.objects d.top.function d.top.result d.below p.below)) in
      subst (AreApart image) (sym e)
      (record {
        version = λ u o f. elim (old u o f) [ inl g ↦ turn.apart.version u o g | inr g ↦ g.2 ];
        outside = λ u d at z. elim (eqb_tells u t) [
          | inl same ↦
              let k : b ≡ d = same_Some _ _ (sym (own_at turn (Running b)) ∙ ap (activity_at (set s.threads t (Running b))) (sym same.1) ∙ at) in
              let zb : a.depth ≡ 0 = ap (λ (x : Activity). x.depth) k ∙ z in
              sym (ap (λ (x : Activity). x.fresh) k) ∙ made_outside image.version a.depth size a.fresh zb ∙ turn.apart.outside t a turn.is zb
          | inr other ↦ turn.apart.outside u d (sym (other_at turn (Running b) u other.1) ∙ at) z
        ];
        there = λ u o f. elim (old u o f) [
          | inl g ↦ (let p = turn.apart.there u o g in (p.0, (let lt = p.1 in omega (arith, lt, longer))))
          | inr g ↦ (let le = many_globals image s.objects turn.sound.formed.objects in let same = g.1 in (omega (arith, le, same), omega (arith, same, longer)))
        ];
        apart = λ u w o ne f g. elim (old u o f) [
          | inl p ↦ elim (old w o g) [ inl q ↦ turn.apart.apart u w o ne p q | inr q ↦ within u o p q.1 ]
          | inr p ↦ elim (old w o g) [ inl q ↦ within w o q p.1 | inr q ↦ ne (p.0 ∙ sym q.0) ]
        ];
        registers = λ u w o d ne f at. elim (eqb_tells u t) [
          | inl same ↦
              let k : b ≡ d = same_Some _ _ (sym (own_at turn (Running b)) ∙ ap (activity_at (set s.threads t (Running b))) (sym same.1) ∙ at) in
              let away : w ≢ t = λ x. ne (same.1 ∙ sym x) in
              elim (old w o f) [
                | inl g ↦ subst (λ (x : Activity). AllElsewhere o (x.top ∷ x.below)) k (making_elsewhere turn.sound turn.is (unknown turn w o away g) r)
                | inr g ↦ absurd (away g.0)
              ]
          | inr other ↦
              let before : activity_at s.threads u ≡ Some d = sym (other_at turn (Running b) u other.1) ∙ at in
              elim (old w o f) [
                | inl g ↦ turn.apart.registers u w o d ne g before
                | inr g ↦ subst (λ x. AllElsewhere x (d.top ∷ d.below)) (sym g.1) (elsewhere_new u d before)
              ]
        ];
        cells = λ u o i k f at.
            let before = old_address s.objects n class k o i at in
            elim (old u o f) [
              | inl g ↦
                  elim (turn.apart.cells u o i k g before) [
                    | inl in_fresh ↦ inl (now u k.object in_fresh)
                    | inr covered ↦ inr (
                      λ w h. elim (old w k.object h) [
                        | inl q ↦ covered.0 w q
                        | inr q ↦ (let lt = object_there s.objects k (Addr o i) before in let same = q.1 in omega (arith, lt, same))
                      ],
                      λ x of.
                          (let y = class_there s.objects k (Addr o i) before in
                          let kept = read_before (λ (q : Object). q.class) s.objects (new_object class n ∷ []) k.object y.0 y.1 in
                          let one : y.0 ≡ x = same_Some _ _ (sym kept ∙ of) in
                          covered.1 x (y.1 ∙ ap (λ z. Some z) one)),
                    )
                  ]
              | inr g ↦ absurd (let lt = points_within s.objects o i (turn.sound.formed.objects.points k (Addr o i) before) in let same = g.1 in omega (arith, lt, same))
            ];
      })
