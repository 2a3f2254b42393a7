-- The turn of a thread in a state whose fresh objects are apart: it knows nothing of those of others, and they stay apart where it leaves
-- the objects as they are, whether it goes on, fails or ends.
use Rattle.std.proofs.Common.{◌≡◌, ◌≢◌, ℕ, ◌<◌, ◌⊎◌, [], ◌∷◌, length, set, refl, ap, sym, ◌∙◌, subst, inl, inr, arith}
use Rattle.std.specs.Prelude.{Some, option_and_then, IsTrue}
use Rattle.std.specs.Option.{option_map_or}
use Rattle.std.proofs.lemmas.Bool.{cases_lt}
use Rattle.std.proofs.lemmas.Bool.Decides.{eqb_tells}
use Rattle.asl_code.specs.declared.image.Image.{Image}
use Rattle.asl_code.specs.declared.value.Value.TheVariants.{Addr}
use Rattle.asl_code.specs.declared.value.Effect.TheVariants.{Read, Write}
use Rattle.asl_lock_forest.specs.declared.node.Node.{Node}
use Rattle.asl_lock_forest.specs.Holding.{Holding, held, release}
use Rattle.asl_lock_forest.proofs.Laws.{held_release_other}
use Rattle.asl_machine.specs.declared.fault.Fault.{Fault}
use Rattle.asl_machine.specs.Cover.{is_fresh}
use Rattle.asl_machine.specs.State.{Activity, Thread, Running, Failed, State, activity_of, activity_at}
use Rattle.asl_machine.specs.WellFormed.{SatisfiesInvariant}
use Rattle.asl_machine.specs.Fresh.{fresh_of, fresh_at, IsFreshFor, AllElsewhere, AreApart}
use Rattle.asl_machine.specs.Step.{Fails, after, placed_at, going_on}
use Rattle.asl_machine.proofs.Lists.{get_same, get_other}
use Rattle.asl_machine.proofs.Heaps.{class_there}
use Rattle.asl_machine.proofs.Freshness.{no_fresh, covers_held, allowed_covers}
use Rattle.asl_machine.proofs.Elsewhere.{read_elsewhere}
use Rattle.asl_machine.proofs.Unknown.{IsUnknown}

-- a running thread, in a state that satisfies the invariant and whose fresh objects are apart
pub record IsTurn (image : Image) (s : State) (t : ℕ) (a : Activity) : Type 0 where
  pub sound : SatisfiesInvariant image s
  pub apart : AreApart image s
  pub there : t < length s.threads
  pub is : activity_at s.threads t ≡ Some a

-- the frames of what a thread is point elsewhere
unfoldable pub ThreadElsewhere : ℕ → Thread → Type 0
ThreadElsewhere o thread = (b : Activity) → activity_of thread ≡ Some b → AllElsewhere o (b.top ∷ b.below)

module _ {image : Image} {s : State} {t : ℕ} {a : Activity} (turn : IsTurn image s t a) where
  -- another thread's activity in the new state, and its own
  pub other_at : (thread : Thread) (u : ℕ) → u ≢ t → activity_at (set s.threads t thread) u ≡ activity_at s.threads u
  other_at thread u apart = ap (option_and_then activity_of) (get_other s.threads t u thread apart)

  pub own_at : (thread : Thread) → activity_at (set s.threads t thread) t ≡ activity_of thread
  own_at thread = ap (option_and_then activity_of) (get_same s.threads t thread turn.there)

  -- fresh in the new state: of the thread's new list, or of another's old one
  pub was : (thread : Thread) (u o : ℕ) → IsTrue (is_fresh (fresh_at (set s.threads t thread) u) o) → ((u ≡ t) × IsTrue (is_fresh (fresh_of thread) o)) ⊎ ((u ≢ t) × IsFreshFor s u o)
  was thread u o e =
      elim (eqb_tells u t) [
        | inl same ↦ inl (same.1, sym (ap (λ x. is_fresh (option_map_or (λ (b : Activity). b.fresh) x []) o) (own_at thread)) ∙ ap (λ w. is_fresh (fresh_at (set s.threads t thread) w) o) (sym same.1) ∙ e)
        | inr other ↦ inr (other.1, sym (ap (λ x. is_fresh (option_map_or (λ (b : Activity). b.fresh) x []) o) (other_at thread u other.1)) ∙ e)
      ]

  -- what was fresh for another is so, and what is in its own list is fresh for it
  pub now_other : (thread : Thread) (u o : ℕ) → u ≢ t → IsFreshFor s u o → IsTrue (is_fresh (fresh_at (set s.threads t thread) u) o)
  now_other thread u o apart e = ap (λ x. is_fresh (option_map_or (λ (b : Activity). b.fresh) x []) o) (other_at thread u apart) ∙ e

  pub now_own : (thread : Thread) (o : ℕ) → IsTrue (is_fresh (fresh_of thread) o) → IsTrue (is_fresh (fresh_at (set s.threads t thread) t) o)
  now_own thread o e = ap (λ x. is_fresh (option_map_or (λ (b : Activity). b.fresh) x []) o) (own_at thread) ∙ e

  -- what is fresh for the thread is in its list, and the other way round
  pub own_old : (o : ℕ) → IsTrue (is_fresh a.fresh o) → IsFreshFor s t o
  own_old o e = ap (λ x. is_fresh (option_map_or (λ (b : Activity). b.fresh) x []) o) turn.is ∙ e

  pub old_own : (o : ℕ) → IsFreshFor s t o → IsTrue (is_fresh a.fresh o)
  old_own o e = sym (ap (λ x. is_fresh (option_map_or (λ (b : Activity). b.fresh) x []) o) turn.is) ∙ e

  -- the thread's own registers point to no object that is fresh for another
  pub elsewhere : (u o : ℕ) → u ≢ t → IsFreshFor s u o → AllElsewhere o (a.top ∷ a.below)
  elsewhere u o apart f = turn.apart.registers t u o a (λ e. apart (sym e)) f turn.is

  -- it knows nothing of what is fresh for another
  pub unknown : (u o : ℕ) → u ≢ t → IsFreshFor s u o → IsUnknown image s t a o
  unknown u o apart f = record {
    no_global = (turn.apart.there u o f).0;
    there = (turn.apart.there u o f).1;
    registers = elsewhere u o apart f;
    cells = λ address offset cell reads allowed at.
        let x = class_there s.objects cell (Addr o offset) at in
        read_elsewhere image s turn.sound turn.apart t u a (λ e. apart (sym e)) turn.is cell x.0 x.1 (allowed_covers image s t a Read cell x.0 allowed x.1) (λ g. (elsewhere u cell.object apart g).0 address cell.offset reads) o offset at f;
  }

  -- a step that leaves the objects
  record Keeps (thread : Thread) (holding : Holding) : Type 0 where
    outside : (b : Activity) → activity_of thread ≡ Some b → b.depth ≡ 0 → b.fresh ≡ []
    fewer : (o : ℕ) → IsTrue (is_fresh (fresh_of thread) o) → IsTrue (is_fresh a.fresh o)
    registers : (u o : ℕ) → u ≢ t → IsFreshFor s u o → ThreadElsewhere o thread
    others : (u : ℕ) (node : Node) → u ≢ t → held holding u node ≡ held s.holding u node
    own : (o : ℕ) → IsTrue (is_fresh (fresh_of thread) o) → ((k : ℕ) → IsTrue (is_fresh a.fresh k) → IsTrue (is_fresh (fresh_of thread) k)) × ((node : Node) → held holding t node ≡ held s.holding t node)

  -- such a step keeps fresh objects apart
  keeps_apart : (thread : Thread) (holding : Holding) → Keeps thread holding → AreApart image (after s t thread s.objects holding)
  unfolding ThreadElsewhere
  keeps_apart thread holding k =
      let old : (u o : ℕ) → IsTrue (is_fresh (fresh_at (set s.threads t thread) u) o) → IsFreshFor s u o =
      λ u o f. elim (was thread u o f) [ inl own ↦ subst (λ w. IsFreshFor s w o) (sym own.0) (own_old o (k.fewer o own.1)) | inr other ↦ other.1 ] in
      record {
        version = λ u o f. turn.apart.version u o (old u o f);
        outside = λ u b e z. elim (eqb_tells u t) [
          | inl same ↦ k.outside b (sym (own_at thread) ∙ ap (activity_at (set s.threads t thread)) (sym same.1) ∙ e) z
          | inr other ↦ turn.apart.outside u b (sym (other_at thread u other.1) ∙ e) z
        ];
        there = λ u o f. turn.apart.there u o (old u o f);
        apart = λ u w o ne f g. turn.apart.apart u w o ne (old u o f) (old w o g);
        registers = λ u w o b ne f e. elim (eqb_tells u t) [
          | inl same ↦
              let away : w ≢ t = λ x. ne (same.1 ∙ sym x) in
              k.registers w o away (old w o f) b (sym (own_at thread) ∙ ap (activity_at (set s.threads t thread)) (sym same.1) ∙ e)
          | inr other ↦ turn.apart.registers u w o b ne (old w o f) (sym (other_at thread u other.1) ∙ e)
        ];
        cells = λ u o i cell f e.
            let m = turn.apart.cells u o i cell (old u o f) e in
            elim (was thread u o f) [
              | inl own ↦
                  let q = k.own o own.1 in
                  elim m [
                    | inl in_fresh ↦ inl (subst (λ w. IsTrue (is_fresh (fresh_at (set s.threads t thread) w) cell.object)) (sym own.0) (now_own thread cell.object (q.0 cell.object (old_own cell.object (subst (λ w. IsFreshFor s w cell.object) own.0 in_fresh)))))
                    | inr covered ↦ inr (
                      λ w g. covered.0 w (old w cell.object g),
                      λ x of. covers_held s.holding holding u cell x Write (λ node. ap (λ w. held holding w node) own.0 ∙ q.1 node ∙ ap (λ w. held s.holding w node) (sym own.0)) (covered.1 x of),
                    )
                  ]
              | inr other ↦
                  elim m [
                    | inl in_fresh ↦ inl (now_other thread u cell.object other.0 in_fresh)
                    | inr covered ↦ inr (λ w g. covered.0 w (old w cell.object g), λ x of. covers_held s.holding holding u cell x Write (λ node. k.others u node other.0) (covered.1 x of))
                  ]
            ];
      }

  -- ---- the thread's own steps over the same objects

  -- it runs on, with its fresh objects
  pub runs_on : (b : Activity) → b.fresh ≡ a.fresh → (b.depth ≡ 0 → a.depth ≡ 0) → ((u o : ℕ) → u ≢ t → IsFreshFor s u o → AllElsewhere o (b.top ∷ b.below)) → AreApart image (after s t (Running b) s.objects s.holding)
  unfolding ThreadElsewhere
  runs_on b same shallow away =
      keeps_apart (Running b) s.holding (record {
        outside = λ d e z.
            let k : b ≡ d = cc in
            let zb : b.depth ≡ 0 = ap (λ (x : Activity). x.depth) k ∙ z in
            sym (ap (λ (x : Activity). x.fresh) k) ∙ same ∙ turn.apart.outside t a turn.is (shallow zb);
        fewer = λ o f. sym (ap (λ xs. is_fresh xs o) same) ∙ f;
        registers = λ u o apart f d e. let k : b ≡ d = cc in subst (λ (x : Activity). AllElsewhere o (x.top ∷ x.below)) k (away u o apart f);
        others = λ u node apart. refl;
        own = λ o f. (λ k g. ap (λ xs. is_fresh xs k) same ∙ g, λ node. refl);
      })

  -- it runs on or not, with no fresh object
  pub left_none : (thread : Thread) (holding : Holding) → fresh_of thread ≡ [] → ((u : ℕ) (node : Node) → u ≢ t → held holding u node ≡ held s.holding u node) → ((u o : ℕ) → u ≢ t → IsFreshFor s u o → ThreadElsewhere o thread) → AreApart image (after s t thread s.objects holding)
  left_none thread holding none same away =
      keeps_apart thread holding (record {
        outside = λ d e z. sym (ap (λ x. option_map_or (λ (b : Activity). b.fresh) x []) e) ∙ none;
        fewer = λ o f. absurd (no_fresh (fresh_of thread) o none f);
        registers = away;
        others = same;
        own = λ o f. absurd (no_fresh (fresh_of thread) o none f);
      })

  -- it goes on elsewhere, in some section or outside
  pub goes : (depth target : ℕ) (new : State) → (0 < a.depth → 0 < depth) → new ≡ after s t (Running (going_on a depth (placed_at target a.top))) s.objects s.holding → AreApart image new
  goes depth target new deep e =
      subst (AreApart image) (sym e) (runs_on (going_on a depth (placed_at target a.top)) refl (shallow depth deep) (λ u o apart f. elsewhere u o apart f))
    where
      shallow : (depth : ℕ) → (0 < a.depth → 0 < depth) → depth ≡ 0 → a.depth ≡ 0
      shallow depth deep z = elim (cases_lt 0 a.depth) [ inl inside ↦ absurd (let lt = deep inside in omega (arith, lt, z)) | inr low ↦ omega (arith, low) ]

  -- it fails, and has no fresh object any more
  pub fails : (f : Fault) (new : State) → Fails (record { image = image; state = s; thread = t; activity = a }) f new → AreApart image new
  unfolding ThreadElsewhere
  fails f new e =
      subst (AreApart image) (sym e) (left_none (Failed f) (release s.holding t) refl (λ u node apart. held_release_other s.holding t u node apart) (λ u o apart g b k. cc))
