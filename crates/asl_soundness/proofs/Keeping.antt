-- What keeps the locks of a frame protected while other frames and other threads continue: a thread that is covered for at least
-- what it was, a store to a cell that none of its locks reads, and objects that are added.
use Rattle.std.proofs.Common.{◌≡◌, ◌≢◌, ℕ, ◌<◌, ◌||◌, ◌++◌, Bool, true, false, List, [], ◌∷◌, Option, Some, length, refl, subst, inl, inr}
use Rattle.std.specs.Prelude.{IsTrue}
use Rattle.std.proofs.lemmas.Bool.{or_left, or_right}
use Rattle.asl_code.specs.declared.image.Image.{Image}
use Rattle.asl_code.specs.declared.value.Value.{Value}
use Rattle.asl_code.specs.declared.value.Value.TheVariants.{Addr}
use Rattle.asl_code.specs.declared.value.Cell.{Cell}
use Rattle.asl_code.specs.declared.value.Effect.{Effect}
use Rattle.asl_code.specs.declared.value.Effect.TheVariants.{Read}
use Rattle.asl_code.specs.declared.lock.Expr.{Expr}
use Rattle.asl_code.specs.declared.lock.Lock.{Lock}
use Rattle.asl_code.specs.declared.lock.Lock.TheVariants as lock
use Rattle.asl_mode_lanes.specs.Mode.{AtMost, is_at_most}
use Rattle.asl_mode_lanes.proofs.ModeLaws.{at_most_trans}
use Rattle.asl_lock_forest.specs.declared.node.Node.{Node}
use Rattle.asl_lock_forest.specs.declared.node.Node.TheVariants.{Root, Class}
use Rattle.asl_lock_forest.specs.Holding.{Holding, held, covering_mode, is_covered}
use Rattle.asl_lock_forest.proofs.NinePairs.{covered_at, covers_at, node_at}
use Rattle.asl_lower.specs.Lowered.{Lowered}
use Rattle.asl_lower.specs.Regions.{Region}
use Rattle.asl_points_to.specs.Classes.{Classed}
use Rattle.asl_expression.specs.Expression.{cell_denoted}
use Rattle.asl_lock_expr.specs.Links.{view, IsOne, prefixes}
use Rattle.asl_lock_expr.proofs.Leaves.{call_leaves, prefix_left}
use Rattle.asl_backward_flow.specs.Closed.{Family, IsClosed}
use Rattle.asl_machine.specs.State.{Object, Frame, Activity, State, cell_at, written, activity_at}
use Rattle.asl_machine.specs.Access.{Points, AllPoint}
use Rattle.asl_machine.specs.WellFormed.{IsPlaced, AreSuspended, SatisfiesInvariant}
use Rattle.asl_machine.specs.Fresh.{IsFreshFor, AllElsewhere, AreApart}
use Rattle.asl_machine.specs.Request.{heap_of}
use Rattle.asl_machine.specs.Cover.{is_fresh, Cover, cover, Allows}
use Rattle.asl_machine.proofs.Freshness.{or_split}
use Rattle.asl_soundness.specs.Protected.{is_class_covered, Protected, LockThere}
use Rattle.asl_soundness.specs.Wanted.{AreProtected, IsLeft, WaitingHave}
use Rattle.asl_soundness.proofs.Having.{HasWanted}
use Rattle.asl_soundness.proofs.Protecting.{protect, protected_at}
use Rattle.asl_soundness.proofs.Stored.{store_elsewhere}
use Rattle.asl_soundness.proofs.Avoiding.{MayWrite, Shun, prefix_avoids}
use Rattle.asl_soundness.proofs.Grown.{grown_protects}

-- a set of locks that begin on what is there, with their dereferenced prefixes
pub record IsWhole (c : Classed) (W : Lock → Type 0) : Type 0 where
  pub there : (n : Lock) → W n → LockThere c n
  pub prefixes : (e d : Expr) (effect : Effect) → W (lock.Expr e effect) → IsOne (prefixes e.base [] e.path) (lock.Expr d Read) → W (lock.Expr d Read)

-- each whole set that is protected stays protected, in any registers whose addresses are there, and none in what is shunned
abbrev pub Keeps : Classed → ℕ → (ℕ → Type 0) → Cover → List Object → Cover → List Object → Type 1
Keeps c t shunned k objects after new =
    (regs : List Value) (W : Lock → Type 0) → AllPoint objects regs → Shun shunned regs → IsWhole c W → AreProtected k t objects regs W → AreProtected after t new regs W

-- nothing is shunned
abbrev pub NoneShunned : ℕ → Type 0
NoneShunned o = ⊥

-- ---- the three changes

-- the second covers at least what the first covers
pub record IsAtLeast (k after : Cover) (t : ℕ) : Type 0 where
  pub holds : (node : Node) → AtMost (held k.holding t node) (held after.holding t node)
  pub fresh : (o : ℕ) → IsTrue (is_fresh k.fresh o) → IsTrue (is_fresh after.fresh o)

still_allows : (k after : Cover) (t : ℕ) → IsAtLeast k after t → (cell : Cell) (x : ℕ) (effect : Effect) → Allows k t cell x effect → Allows after t cell x effect
still_allows k after t more cell x effect allowed =
    elim (or_split (is_fresh k.fresh cell.object) (is_covered k.holding t cell x effect) allowed) [
      | inl own ↦ or_left (is_fresh after.fresh cell.object) _ (more.fresh cell.object own)
      | inr covers ↦
          let at = covered_at k.holding t cell x effect covers in
          or_right (is_fresh after.fresh cell.object) _ (covers_at after.holding t cell x effect at.0 (at_most_trans (covering_mode effect) _ _ at.1 (more.holds (node_at cell x at.0))))
    ]

held_covers_class : (h new : Holding) (t : ℕ) → ((node : Node) → AtMost (held h t node) (held new t node)) → (x : ℕ) (effect : Effect) → IsTrue (is_class_covered h t x effect) → IsTrue (is_class_covered new t x effect)
held_covers_class h new t more x effect covers =
    elim (is_at_most (covering_mode effect) (held h t (Class x))) as (λ b. is_at_most (covering_mode effect) (held h t (Class x)) ≡ b → (b || is_at_most (covering_mode effect) (held h t Root)) ≡ true → IsTrue (is_class_covered new t x effect)) [
      | true ↦ λ own e. or_left (is_at_most (covering_mode effect) (held new t (Class x))) _ (at_most_trans (covering_mode effect) _ _ own (more (Class x)))
      | false ↦ λ own e. or_right (is_at_most (covering_mode effect) (held new t (Class x))) _ (at_most_trans (covering_mode effect) _ _ e (more Root))
    ] refl covers

-- a lock that is protected for a thread stays so where the thread is covered for at least what it was covered for
pub more_protects : (t : ℕ) (k after : Cover) (objects : List Object) (regs : List Value) → IsAtLeast k after t → (n : Lock) → Protected k t objects regs n → Protected after t objects regs n
more_protects t k after objects regs more (lock.Root effect) p = at_most_trans (covering_mode effect) _ _ p (more.holds Root)
more_protects t k after objects regs more (lock.Class x effect) p = held_covers_class k.holding after.holding t more.holds x effect p
more_protects t k after objects regs more (lock.Expr e effect) p =
    protect after t objects effect (cell_denoted (heap_of objects) regs e) (λ cell d x of. still_allows k after t more cell x effect (protected_at k t objects effect _ cell d p x of))

-- a thread that is covered for at least what it was covered for
pub more_keeps : (c : Classed) (t : ℕ) (k after : Cover) (objects : List Object) → IsAtLeast k after t → Keeps c t NoneShunned k objects after objects
more_keeps c t k after objects more regs W points away whole all n wanted = more_protects t k after objects regs more n (all n wanted)

-- another thread's store: it may write the cell, so no prefix of a protected lock reads it
pub stored_keeps : (c : Classed) (image : Image) (s : State) → SatisfiesInvariant image s → AreApart image s → image.globals ≡ c.globals → (t u : ℕ) (a : Activity) → t ≢ u → activity_at s.threads t ≡ Some a → (cell : Cell) (value : Value) → MayWrite s u cell →
    Keeps c t (IsFreshFor s u) (cover s.holding a.fresh) s.objects (cover s.holding a.fresh) (written s.objects cell value)
stored_keeps c image s sound fr globals t u a apart is cell value w regs W points away whole all n wanted = by_lock n wanted
  where
    by_lock : (n : Lock) → W n → Protected (cover s.holding a.fresh) t (written s.objects cell value) regs n
    by_lock (lock.Root effect) want = all (lock.Root effect) want
    by_lock (lock.Class x effect) want = all (lock.Class x effect) want
    by_lock (lock.Expr e effect) want =
        store_elsewhere (cover s.holding a.fresh) t s.objects cell value w.old w.there regs e effect
        (prefix_avoids c image s sound fr globals t u a apart is regs away e (whole.there (lock.Expr e effect) want) (λ d o. all (lock.Expr d Read) (whole.prefixes e d effect want o)) cell w)
        (all (lock.Expr e effect) want)

-- objects that are added
pub made_keeps : (c : Classed) (t : ℕ) (k : Cover) (objects more : List Object) → ((g : ℕ) → g < length c.globals → Points objects (Addr g 0)) → ((cell : Cell) (w : Value) → cell_at objects cell ≡ Some w → Points objects w) →
    Keeps c t NoneShunned k objects k (objects ++ more)
made_keeps c t k objects more globals cells regs W points away whole all n wanted = by_lock n wanted
  where
    by_lock : (n : Lock) → W n → Protected k t (objects ++ more) regs n
    by_lock (lock.Root effect) w = all (lock.Root effect) w
    by_lock (lock.Class x effect) w = all (lock.Class x effect) w
    by_lock (lock.Expr e effect) w =
        grown_protects c k t objects more regs regs points globals cells e effect (whole.there (lock.Expr e effect) w) refl (all (lock.Expr e effect) w)

-- ---- what frames want is whole

module _ (l : Lowered) (c : Classed) (stores : ℕ → ℕ → Bool) (k_limit : ℕ) (K : Family) (closed : IsClosed l c stores k_limit K) (based : (r : Region) (pc : ℕ) (n : Lock) → K r pc n → LockThere c n) where
  family_whole : (r : Region) (pc : ℕ) → IsWhole c (K r pc)
  family_whole r pc = record {
    there = based r pc;
    prefixes = λ e d effect w o. closed.before r pc (lock.Expr e effect) (lock.Expr d Read) w o;
  }

  pub left_whole : (f : Frame) (r : Region) → IsWhole c (IsLeft l c stores k_limit K f r)
  left_whole f r = record {
    there = λ n w. left_there n w;
    prefixes = λ e d effect w o.
        let left = call_leaves (view c stores k_limit f.function) w.to w.first w.callee w.behind e effect w.left in
        record {
          call = w.call;
          to = w.to;
          first = w.first;
          callee = w.callee;
          behind = lock.Expr d Read;
          waits = w.waits;
          calls = w.calls;
          wanted = closed.before r f.pc (lock.Expr e effect) (lock.Expr d Read) (subst (K r f.pc) left.0 w.wanted) o;
          left = prefix_left (view c stores k_limit f.function) w.to w.first w.callee w.behind e d effect Read w.left o;
        };
  }
    where
      left_there : (n : Lock) → IsLeft l c stores k_limit K f r n → LockThere c n
      left_there (lock.Root effect) w = tt
      left_there (lock.Class x effect) w = tt
      left_there (lock.Expr e effect) w =
          based r f.pc (lock.Expr e effect) (subst (K r f.pc) (call_leaves (view c stores k_limit f.function) w.to w.first w.callee w.behind e effect w.left).0 w.wanted)

  -- ---- so all frames keep what they want

  pub waiting_keep : (t : ℕ) (shunned : ℕ → Type 0) (k after : Cover) (objects new : List Object) → Keeps c t shunned k objects after new → (image : Image) (above : ℕ) (result : Option ℕ) (fs : List Frame) → AreSuspended image objects above result fs →
      ((o : ℕ) → shunned o → AllElsewhere o fs) → WaitingHave l c stores k_limit K k t objects fs → WaitingHave l c stores k_limit K after t new fs
  waiting_keep t shunned k after objects new keeps image above result [] susp away have = tt
  waiting_keep t shunned k after objects new keeps image above result (f ∷ fs) susp away have = (
    λ r e. keeps f.regs (IsLeft l c stores k_limit K f r) susp.0.points (λ o out. (away o out).0) (left_whole f r) (have.0 r e),
    waiting_keep t shunned k after objects new keeps image f.function f.result fs susp.1 (λ o out. (away o out).1) have.1,
  )

  pub thread_keeps : (t : ℕ) (shunned : ℕ → Type 0) (k after : Cover) (objects new : List Object) → Keeps c t shunned k objects after new → (image : Image) (a : Activity) → IsPlaced image objects a →
      ((o : ℕ) → shunned o → AllElsewhere o (a.top ∷ a.below)) → HasWanted l c stores k_limit K k t objects a → HasWanted l c stores k_limit K after t new a
  thread_keeps t shunned k after objects new keeps image a placed away has = record {
    top = λ r e. keeps a.top.regs (K r a.top.pc) placed.points (λ o out. (away o out).0) (family_whole r a.top.pc) (has.top r e);
    waiting = waiting_keep t shunned k after objects new keeps image a.top.function a.top.result a.below placed.below (λ o out. (away o out).1) has.waiting;
  }
