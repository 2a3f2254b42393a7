-- A try with care that reads a cell before another thread writes it: at the try the other does not cover the cell for writing, and the
-- cell's object is not fresh for it; so it is granted a node above the cell in X between.
use Rattle.std.proofs.Common.{◌≡◌, ◌≢◌, ℕ, suc, ◌<◌, true, false, List, Some, length, slice_get, refl, ap, sym, ◌∙◌, subst, inl, inr, arith}
use Rattle.std.specs.Prelude.{option_and_then}
use Rattle.std.proofs.lemmas.Bool.Decides.{eqb_tells}
use Rattle.std.proofs.lemmas.Option.{same_Some}
use Rattle.asl_code.specs.declared.image.Image.{Image}
use Rattle.asl_code.specs.Fits.{FitsImage}
use Rattle.asl_code.specs.declared.value.Cell.{Cell}
use Rattle.asl_code.specs.declared.value.Effect.TheVariants.{Write}
use Rattle.asl_mode_lanes.specs.declared.mode.Mode.TheVariants.{NL, X}
use Rattle.asl_mode_lanes.specs.Mode.{AtMost}
use Rattle.asl_lock_forest.specs.Holding.{held, asked, Covers, is_covered}
use Rattle.asl_lock_forest.proofs.Laws.{held_nothing, held_grant_own}
use Rattle.asl_lock_forest.proofs.NinePairs.{Where, node_at, covered_at, covers_at}
use Rattle.asl_machine.specs.declared.reply.Reply.{Reply}
use Rattle.asl_machine.specs.State.{State, class_of, activity_of}
use Rattle.asl_machine.specs.Cover.{is_fresh}
use Rattle.asl_machine.specs.Fresh.{IsFreshFor}
use Rattle.asl_machine.specs.Request.{locks_of}
use Rattle.asl_machine.specs.Run.{start_of}
use Rattle.asl_machine.specs.WellFormed.{SatisfiesInvariant}
use Rattle.asl_machine.specs.Step.{Step}
use Rattle.asl_machine.proofs.Freshness.{or_split}
use Rattle.asl_machine.proofs.StepLeaves.{listed_fresh, same_class, same_held}
use Rattle.asl_machine.proofs.Heaps.{class_within}
use Rattle.asl_atomicity.specs.Serial.{TakenStep, IsRun}
use Rattle.asl_races.specs.Visits.{visit}
use Rattle.asl_races.specs.Races.{Accesses, IsStepOf, IsGranted, InOrder, requested}
use Rattle.asl_races.specs.Tries.{TriesToRead, LooksAt, HappensBeforeWithTries, Happens, Sees, Between}
use Rattle.asl_races.proofs.Turns.{taken, step_turn}
use Rattle.asl_races.proofs.Accessed.{accessed}
use Rattle.asl_races.proofs.Lefts.{holds_no_more}
use Rattle.asl_races.proofs.Having.{fresh_before}
use Rattle.asl_races.proofs.Entering.{stands_at}
use Rattle.asl_races.proofs.Visiting.{visited_away, some_class}
use Rattle.asl_races.proofs.Marks.{granted_is}
use Rattle.asl_races.proofs.Runs.{IsKept, Place, step_there, place_of, place_after}
use Rattle.asl_races.proofs.TriesAfter.{only_X, looked}

no_X : AtMost X NL → ⊥
no_X e = let f : false ≡ true = e in cc

its_own : (n : ℕ) → n < suc n
its_own n = omega arith

sooner : (l n : ℕ) → l < n → l < suc n
sooner l n p = omega (arith, p)

module _ (image : Image) (run : List TakenStep) (i : ℕ) (one : TakenStep) (at : slice_get run i ≡ Some one) (cell : Cell) (z : TriesToRead image one cell) (t : ℕ) (apart : t ≢ one.thread) (class : ℕ) (of : class_of one.before.objects cell.object ≡ Some class) where
  -- the other thread has taken a step that comes after the try
  abbrev HasSeen : ℕ → Type 0
  HasSeen n = (g : ℕ) × (g < n) × IsStepOf t (λ step. Unit {0}) run g × HappensBeforeWithTries image run i g

  -- since the try: its cell's object is not fresh for the other thread, which holds a node above the cell in X only after such a step
  record IsSince (n : ℕ) (s : State) : Type 0 where
    past : i < n
    classed : class_of s.objects cell.object ≡ Some class
    not_fresh : ¬ IsFreshFor s t cell.object
    seen : (w : Where) → AtMost X (held s.holding t (node_at cell class w)) → HasSeen n

  seen_still : (n : ℕ) → HasSeen n → HasSeen (suc n)
  seen_still n h = (h.0, sooner h.0 n h.1, h.2, h.3)

  -- it is granted the node
  granted_seen : (n : ℕ) (s : State) (r : Reply) (new : State) → i < n → slice_get run n ≡ Some (taken s t r) → SatisfiesInvariant image s → Step image s t r new → (g : IsGranted image (taken s t r)) → (w : Where) →
      AtMost X (held new.holding t (node_at cell class w)) → HasSeen (suc n)
  granted_seen n s r new past here sound step g w holds =
      let node = node_at cell class w in
      let is : held new.holding t node ≡ asked (requested image (taken s t r) g) node =
      ap (λ h. held h t node) (granted_is image s t r new step g) ∙ held_grant_own s.holding t (requested image (taken s t r) g) node (sound.outside t g.outside) in
      let looks : LooksAt image one node = record { cell = cell; tries = z; class = class; of = of; is = looked cell class w } in (
        n,
        its_own n,
        step_there run n (taken s t r) here,
        Sees i n one (taken s t r) node past at here looks g (sym is ∙ only_X (held new.holding t node) holds),
      )

  since_kept : IsKept image run IsSince
  since_kept n s x r new here sound fresh step k = record {
    past = sooner i n k.past;
    classed = same_class image s x r new cell.object class step k.classed;
    not_fresh = λ f. k.not_fresh (fresh_before image s x r new t cell.object class step k.classed f);
    seen = λ w holds. elim (eqb_tells t x) [
      | inl same ↦
          let own : Step image s t r new = subst (λ y. Step image s y r new) (sym same.1) step in
          let here_own : slice_get run n ≡ Some (taken s t r) = here ∙ ap (λ y. Some (taken s y r)) (sym same.1) in
          elim (holds_no_more image s t r new (step_turn image s t r new own)) [
            | inl g ↦ granted_seen n s r new k.past here_own sound own g w holds
            | inr no_more ↦ elim no_more [
              | inl still ↦ seen_still n (k.seen w (subst (AtMost X) (still (node_at cell class w)) holds))
              | inr nothing ↦ absurd (no_X (subst (AtMost X) (held_nothing new.holding t (node_at cell class w) nothing) holds))
            ]
          ]
      | inr other ↦ seen_still n (k.seen w (subst (AtMost X) (same_held image s x r new t other.1 step (node_at cell class w)) holds))
    ];
  }

  -- so it is after the try
  since_first : (p : Place image run (λ n s. Unit {0}) i one) → IsSince (suc i) p.new
  since_first p =
      let s = one.before in
      let u = one.thread in
      let a = z.activity in
      let stands = stands_at image s u a z.list p.sound z.entry.runs z.entry.at in
      let free = z.reads.comes in
      record {
        past = its_own i;
        classed = same_class image s u one.reply p.new cell.object class p.step of;
        not_fresh = λ f.
            visited_away s.objects (λ o. IsFreshFor s t o) (λ c. (k : ℕ) → class_of s.objects c.object ≡ Some k → Covers s.holding t c k Write) ⊥
            (λ o k c fresh held. elim (p.apart.cells t o k c fresh held) [ inl inside ↦ inl inside | inr covered ↦ inr covered.1 ])
            (length image.globals) a.top.regs (λ o fresh. (p.apart.there t o fresh).0) (λ o k r fresh. (p.apart.registers u t o a (λ e. apart (sym e)) fresh (ap (option_and_then activity_of) z.entry.runs)).0 r k)
            (locks_of image z.list) stands.known z.reads.place (visit cell true) z.reads.is
            (λ n c lt is covered.
            let k = some_class s.objects c (stands.there n (visit c true) is) in
            free n c (sooner n z.reads.place lt) is (record { other = t; another = apart; class = k.0; of = k.1; covers = covered k.0 k.1 }))
            (fresh_before image s u one.reply p.new t cell.object class p.step of f);
        seen = λ w holds.
            absurd (free z.reads.place cell (its_own z.reads.place) z.reads.is (record {
              other = t;
              another = apart;
              class = class;
              of = of;
              covers = covers_at s.holding t cell class Write w (subst (AtMost X) (same_held image s u one.reply p.new t apart p.step (node_at cell class w)) holds);
            }));
      }

  -- a write by the other comes after such a step
  writes_since : (j : ℕ) (other : TakenStep) → other.thread ≡ t → Place image run IsSince j other → Accesses image other cell Write → HappensBeforeWithTries image run i j
  writes_since j other own q (inr made) = let lt = class_within other.before.objects cell.object class q.holds.classed in let newest = made.1.newest in absurd (omega (arith, lt, newest))
  writes_since j other own q (inl acc) =
      let u = other.thread in
      let a = accessed image other.before u other.reply q.new cell Write q.step acc in
      elim (or_split (is_fresh a.activity.fresh cell.object) (is_covered other.before.holding u cell a.class Write) a.allowed) [
        | inl fresh ↦ absurd (q.holds.not_fresh (subst (λ x. IsFreshFor other.before x cell.object) own (listed_fresh other.before u a.activity cell.object a.runs fresh)))
        | inr covers ↦
            let w = covered_at other.before.holding u cell a.class Write covers in
            let same : a.class ≡ class = same_Some _ _ (sym a.of ∙ q.holds.classed) in
            let h = q.holds.seen w.0 (subst (λ x. AtMost X (held other.before.holding x (node_at cell class w.0))) own (subst (λ k. AtMost X (held other.before.holding u (node_at cell k w.0))) same w.1)) in
            Between i h.0 j h.3 (Happens h.0 j (InOrder h.0 j t h.1 h.2 (subst (λ x. IsStepOf x (λ step. Unit {0}) run j) own (step_there run j other q.at))))
      ]

  pub since : (j : ℕ) (other : TakenStep) → other.thread ≡ t → i < j → Place image run (λ n s. Unit {0}) i one → slice_get run j ≡ Some other → Accesses image other cell Write → HappensBeforeWithTries image run i j
  since j other own lt p there acc = writes_since j other own (place_after image run (λ n s. Unit {0}) IsSince since_kept i j lt one other p (since_first p) there) acc

-- a try that reads a cell comes before each later write of it by another thread
pub tries_before : (image : Image) (count : ℕ) → FitsImage image → (run : List TakenStep) (end : State) → IsRun image (start_of image count) run end → (i j : ℕ) (one other : TakenStep) → i < j → slice_get run i ≡ Some one → slice_get run j ≡ Some other →
    one.thread ≢ other.thread → (cell : Cell) → TriesToRead image one cell → Accesses image other cell Write → HappensBeforeWithTries image run i j
tries_before image count fits run end is i j one other lt at there apart cell z acc =
    let p = place_of image count fits run end is (λ n s. Unit {0}) (λ n s t r new here sound fresh step g. tt) tt i one at in
    let stands = stands_at image one.before one.thread z.activity z.list p.sound z.entry.runs z.entry.at in
    let class = some_class one.before.objects cell (stands.there z.reads.place (visit cell true) z.reads.is) in
    since image run i one at cell z other.thread (λ e. apart (sym e)) class.0 class.1 j other refl lt p there acc
