-- After a grant of a list's request, what a lock of the list covers is protected.
use Rattle.std.proofs.Common.{◌≡◌, ℕ, suc, true, false, List, [], ◌∷◌, Some, slice_get, refl, ap, sym, ◌∙◌, subst, inl, inr}
use Rattle.std.specs.Prelude.{IsTrue}
use Rattle.std.proofs.lemmas.Bool.{or_left, or_right}
use Rattle.std.proofs.lemmas.Option.{same_Some}
use Rattle.asl_code.specs.Locks.{effect_of}
use Rattle.asl_code.specs.declared.value.Value.{Value}
use Rattle.asl_code.specs.declared.value.Effect.{Effect}
use Rattle.asl_code.specs.declared.value.Effect.TheVariants.{Read, Write}
use Rattle.asl_code.specs.declared.lock.Lock.{Lock}
use Rattle.asl_code.specs.declared.lock.Lock.TheVariants as lock
use Rattle.asl_mode_lanes.specs.Mode.{AtMost, is_at_most}
use Rattle.asl_mode_lanes.proofs.ModeLaws.{at_most_trans}
use Rattle.asl_lock_forest.specs.declared.node.Node.{Node}
use Rattle.asl_lock_forest.specs.declared.node.Node.TheVariants.{Root, Class}
use Rattle.asl_lock_forest.specs.Holding.{Holding, HoldsNothing, held, grant, covering_mode, Covers}
use Rattle.asl_lock_forest.proofs.NinePairs.{covered_at, covers_at}
use Rattle.asl_expression.specs.Expression.{cell_denoted}
use Rattle.asl_lock_expr.specs.Links.{LinkContext, IsOne}
use Rattle.asl_machine.specs.State.{Object}
use Rattle.asl_machine.specs.Request.{heap_of, asks_of, request_of, IsAsk}
use Rattle.asl_machine.specs.Cover.{is_fresh, Cover, cover}
use Rattle.asl_machine.proofs.Asks.{asked_held, lock_covers}
use Rattle.asl_soundness.specs.Covering.{covers_effect, CoversLock}
use Rattle.asl_soundness.specs.Protected.{is_class_covered, Protected, LockThere}
use Rattle.asl_soundness.proofs.Protecting.{Stands, denoted_class, protect, class_protects}

-- where a lock of the list stands in it
place_of : (locks : List Lock) (m : Lock) → IsOne locks m → (place : ℕ) × (slice_get locks place ≡ Some m)
place_of [] m o = absurd o
place_of (n ∷ locks) m (inl is) = (0, ap (λ (x : Lock). Some x) is)
place_of (n ∷ locks) m (inr o) = let p = place_of locks m o in (suc p.0, p.1)

stronger_mode : (a b : Effect) → IsTrue (covers_effect a b) → AtMost (covering_mode b) (covering_mode a)
stronger_mode Write Read e = refl
stronger_mode Write Write e = refl
stronger_mode Read Read e = refl
stronger_mode Read Write e = let f : false ≡ true = e in cc

-- the root protects whatever needs no stronger effect
root_protects : (k : Cover) (t : ℕ) (objects : List Object) (regs : List Value) (n : Lock) → AtMost (covering_mode (effect_of n)) (held k.holding t Root) → Protected k t objects regs n
root_protects k t objects regs (lock.Root effect) e = e
root_protects k t objects regs (lock.Class x effect) e = or_right (is_at_most (covering_mode effect) (held k.holding t (Class x))) (is_at_most (covering_mode effect) (held k.holding t Root)) e
root_protects k t objects regs (lock.Expr d effect) e = protect k t objects effect (cell_denoted (heap_of objects) regs d) (λ cell at y of. or_right (is_fresh k.fresh cell.object) _ (or_right _ (is_at_most (covering_mode effect) (held k.holding t Root)) e))

module _ (v : LinkContext) (h : Holding) (fresh : List ℕ) (t : ℕ) (objects : List Object) (regs : List Value) (locks : List Lock) (none : HoldsNothing h t) where
  -- the holding after the grant
  abbrev Granted : Holding
  Granted = grant h t (request_of objects regs locks)

  -- a node is held in what a lock of the list asks there, and so in what any weaker effect needs
  node_held : (m : Lock) (effect need : Effect) (node : Node) → IsOne locks m → IsAsk (asks_of objects regs m) node (covering_mode effect) → IsTrue (covers_effect effect need) → AtMost (covering_mode need) (held Granted t node)
  node_held m effect need node o ask enough =
      let p = place_of locks m o in
      at_most_trans (covering_mode need) (covering_mode effect) _ (stronger_mode effect need enough) (asked_held h t objects regs locks p.0 m node (covering_mode effect) none p.1 ask)

  class_held : (x : ℕ) (effect need : Effect) → IsOne locks (lock.Class x effect) → IsTrue (covers_effect effect need) → IsTrue (is_class_covered Granted t x need)
  class_held x effect need o enough =
      or_left (is_at_most (covering_mode need) (held Granted t (Class x))) _ (node_held (lock.Class x effect) effect need (Class x) o (inr (inl (refl, refl))) enough)

  pub granted_protects : Stands v objects regs → (m n : Lock) → IsOne locks m → LockThere v.classes n → CoversLock v.classes v.function m n → Protected (cover Granted fresh) t objects regs n
  granted_protects stands (lock.Root effect) n o there over =
      root_protects (cover Granted fresh) t objects regs n (node_held (lock.Root effect) effect (effect_of n) Root o (inl (refl, refl)) over)
  granted_protects stands (lock.Class x effect) (lock.Class y need) o there over =
      subst (λ z. IsTrue (is_class_covered Granted t z need)) over.0 (class_held x effect need o over.1)
  granted_protects stands (lock.Class x effect) (lock.Expr e need) o there over =
      protect (cover Granted fresh) t objects need (cell_denoted (heap_of objects) regs e) (λ cell at.
      let y = denoted_class v objects regs stands e cell there at in
      let same : x ≡ y.0 = same_Some x y.0 (sym over.0 ∙ y.1) in
      class_protects (cover Granted fresh) t objects need cell y.0 y.2 (subst (λ z. IsTrue (is_class_covered Granted t z need)) same (class_held x effect need o over.1)))
  granted_protects stands (lock.Expr d effect) (lock.Expr e need) o there over =
      subst (λ z. Protected (cover Granted fresh) t objects regs (lock.Expr z need)) over.0
      (protect (cover Granted fresh) t objects need (cell_denoted (heap_of objects) regs d) (λ cell at x of.
      let p = place_of locks (lock.Expr d effect) o in
      let covers : Covers Granted t cell x effect = lock_covers h t objects regs locks p.0 (lock.Expr d effect) cell x none p.1 (at, of) in
      let w = covered_at Granted t cell x effect covers in
      or_right (is_fresh fresh cell.object) _ (covers_at Granted t cell x need w.0 (at_most_trans (covering_mode need) (covering_mode effect) _ (stronger_mode effect need over.1) w.1))))
  granted_protects stands m n o there over = absurd over
