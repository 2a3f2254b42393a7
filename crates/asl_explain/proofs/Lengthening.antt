-- What is needed is the same for another length of paths, where all that is needed has shorter ones, and none that are longer than the other.
use Rattle.std.proofs.Common.{◌≡◌, ⊎_elim, ℕ, suc, ◌+◌, ◌<◌, ◌≤◌, ◌&&◌, ◌++◌, Bool, true, false, cond, List, [], ◌∷◌, Option, Some, None, length, refl, ap, ap₂, sym, ◌∙◌, subst, inl, inr, arith, leb, le-leb}
use Rattle.std.specs.Prelude.{nat_lt, option_and_then}
use Rattle.std.specs.List.{flat_map}
use Rattle.asl_code.specs.declared.instr.Instr.{Instr}
use Rattle.asl_code.specs.declared.instr.Instr.TheVariants as instr
use Rattle.asl_code.specs.declared.value.Effect.{Effect}
use Rattle.asl_code.specs.declared.value.Effect.TheVariants.{Read, Write}
use Rattle.asl_code.specs.declared.lock.Base.{Base}
use Rattle.asl_code.specs.declared.lock.Base.TheVariants.{Reg, Global}
use Rattle.asl_code.specs.declared.lock.Expr.{Expr}
use Rattle.asl_code.specs.declared.lock.Lock.{Lock}
use Rattle.asl_code.specs.declared.lock.Lock.TheVariants as lock
use Rattle.asl_code.specs.declared.path.Op.{Op}
use Rattle.asl_code.specs.declared.path.Op.TheVariants.{Deref, Off}
use Rattle.asl_lower.specs.Lowered.{Lowered}
use Rattle.asl_lower.specs.Regions.{Region, Body}
use Rattle.asl_points_to.specs.Classes.{Classed, to}
use Rattle.asl_lock_expr.specs.ClassOf.{base_class, step_class, class_of}
use Rattle.asl_lock_expr.specs.Links.{view, IsOne, on, class_lock, settled, settle, is_register, is_star, is_class, begins_with_star, hits, replaced, before, link, accesses, renamed, renamed_on}
use Rattle.asl_lock_expr.proofs.Ones.{one_either, one_left, one_right}
use Rattle.asl_backward_flow.specs.Needed.{Needed, RegionNeeds, Accessed, Linked, Entered, Before}
use Rattle.asl_backward_flow.specs.Flows.{IsFlow}
use Rattle.asl_explain.specs.Lengths.{IsBelow}

-- an expression has at most so many operations
abbrev Fits : ℕ → Lock → Type 0
Fits n (lock.Expr e effect) = length e.path ≤ n
Fits n (lock.Class class effect) = Unit {0}
Fits n (lock.Root effect) = Unit {0}

abbrev AllFit : ℕ → List Lock → Type 0
AllFit n locks = (m : Lock) → IsOne locks m → Fits n m

none_fit : (n : ℕ) → AllFit n []
none_fit n m o = absurd o

one_fits : (n : ℕ) (l : Lock) → Fits n l → AllFit n (l ∷ [])
one_fits n l fits m (inl is) = subst (Fits n) is fits
one_fits n l fits m (inr o) = absurd o

both_fit : (n : ℕ) (ms ns : List Lock) → AllFit n ms → AllFit n ns → AllFit n (ms ++ ns)
both_fit n ms ns a b m o = ⊎_elim (λ x. a m x) (λ y. b m y) (one_either ms ns m o)

either_fit : (n : ℕ) (b : Bool) (ms ns : List Lock) → AllFit n ms → AllFit n ns → AllFit n (cond b ms ns)
either_fit n true ms ns x y = x
either_fit n false ms ns x y = y

class_fits : (n : ℕ) (effect : Effect) (o : Option ℕ) → AllFit n (class_lock effect o)
class_fits n effect None = none_fit n
class_fits n effect (Some x) = one_fits n (lock.Class x effect) tt

replaced_fit : (n a : ℕ) (e : Expr) (effect : Effect) (locks : List Lock) → length e.path ≤ n → AllFit n locks → AllFit n (replaced a e effect locks)
replaced_fit n a e effect locks le all = either_fit n (is_register a e.base) locks (lock.Expr e effect ∷ []) all (one_fits n (lock.Expr e effect) le)

module _ (c : Classed) (s : ℕ → ℕ → Bool) (f n : ℕ) where
  hits_fit : (b : ℕ) (hit : Option ℕ) (effect : Effect) (class : Option ℕ) (ops : List Op) → length ops ≤ n → AllFit n (hits c hit b effect class ops)
  hits_fit b hit effect class [] le = none_fit n
  hits_fit b hit effect class (op ∷ ops) le =
      both_fit n (cond (is_star op && is_class class hit) (on (Reg b) ops effect ∷ []) []) (hits c hit b effect (option_and_then (step_class c op) class) ops)
      (either_fit n (is_star op && is_class class hit) (on (Reg b) ops effect ∷ []) [] (one_fits n (on (Reg b) ops effect) (omega (arith, le))) (none_fit n))
      (hits_fit b hit effect (option_and_then (step_class c op) class) ops (omega (arith, le)))

  -- what an expression becomes has at most one operation more
  before_fit : (k : ℕ) (i : Instr) (e : Expr) (effect : Effect) → length e.path < n → AllFit n (before (view c s k f) i e effect)
  before_fit k (instr.Move a b) e effect lt = replaced_fit n a e effect _ (omega (arith, lt)) (one_fits n (on (Reg b) e.path effect) (omega (arith, lt)))
  before_fit k (instr.GlobalAddress a g) e effect lt = replaced_fit n a e effect _ (omega (arith, lt)) (one_fits n (on (Global g) e.path effect) (omega (arith, lt)))
  before_fit k (instr.FieldAddress a b d) e effect lt = replaced_fit n a e effect _ (omega (arith, lt)) (one_fits n (on (Reg b) (Off d ∷ e.path) effect) (omega (arith, lt)))
  before_fit k (instr.Load a b) e effect lt = replaced_fit n a e effect _ (omega (arith, lt)) (one_fits n (on (Reg b) (Deref ∷ e.path) effect) (omega (arith, lt)))
  before_fit k (instr.SetInt a m) e effect lt = replaced_fit n a e effect [] (omega (arith, lt)) (none_fit n)
  before_fit k (instr.SetNull a) e effect lt = replaced_fit n a e effect [] (omega (arith, lt)) (none_fit n)
  before_fit k (instr.Add a x y) e effect lt = replaced_fit n a e effect [] (omega (arith, lt)) (none_fit n)
  before_fit k (instr.Subtract a x y) e effect lt = replaced_fit n a e effect [] (omega (arith, lt)) (none_fit n)
  before_fit k (instr.LessThan a x y) e effect lt = replaced_fit n a e effect [] (omega (arith, lt)) (none_fit n)
  before_fit k (instr.Equals a x y) e effect lt = replaced_fit n a e effect [] (omega (arith, lt)) (none_fit n)
  before_fit k (instr.New a m x) e effect lt = replaced_fit n a e effect [] (omega (arith, lt)) (none_fit n)
  before_fit k (instr.Store a b) e effect lt =
      both_fit n (cond (is_register a e.base && begins_with_star e.path) [] (lock.Expr e effect ∷ [])) (hits c (to c f a) b effect (base_class c f e.base) e.path)
      (either_fit n (is_register a e.base && begins_with_star e.path) [] (lock.Expr e effect ∷ []) (none_fit n) (one_fits n (lock.Expr e effect) (omega (arith, lt))))
      (hits_fit b (to c f a) effect (base_class c f e.base) e.path (omega (arith, lt)))
  before_fit k (instr.Call a b g) e effect lt =
      either_fit n _ (class_lock effect (class_of c f e)) (lock.Expr e effect ∷ []) (class_fits n effect (class_of c f e)) (one_fits n (lock.Expr e effect) (omega (arith, lt)))
  before_fit k i e effect lt = one_fits n (lock.Expr e effect) (omega (arith, lt))

renamed_fit : (n first params : ℕ) (m : Lock) → IsBelow n m → AllFit n (renamed first params m)
renamed_fit n first params (lock.Root effect) below = one_fits n (lock.Root effect) tt
renamed_fit n first params (lock.Class x effect) below = one_fits n (lock.Class x effect) tt
renamed_fit n first params (lock.Expr e effect) below = by e.base
  where
    by : (b : Base) → AllFit n (renamed_on first params b e.path effect)
    by (Reg r) = either_fit n (nat_lt r params) (on (Reg (first + r)) e.path effect ∷ []) [] (one_fits n (on (Reg (first + r)) e.path effect) (omega (arith, below))) (none_fit n)
    by (Global g) = one_fits n (on (Global g) e.path effect) (omega (arith, below))

-- one of what becomes of one of these
one_of_each : (f : Lock → List Lock) (ms : List Lock) (m n : Lock) → IsOne ms m → IsOne (f m) n → IsOne (flat_map f ms) n
one_of_each f [] m n o p = absurd o
one_of_each f (l ∷ ms) m n (inl e) p = one_left _ _ n (subst (λ (x : Lock). IsOne (f x) n) (sym e) p)
one_of_each f (l ∷ ms) m n (inr o) p = one_right (f l) _ n (one_of_each f ms m n o p)

-- two lengths: what fits the first, and the second where it has a class, is settled alike
module _ (c : Classed) (s : ℕ → ℕ → Bool) (j k f : ℕ) where
  settled_same : (e : Expr) (effect : Effect) (o : Option ℕ) → length e.path ≤ j → (IsOne (settled (view c s j f) e effect o) (lock.Expr e effect) → length e.path ≤ k) → settled (view c s j f) e effect o ≡ settled (view c s k f) e effect o
  settled_same e effect None le fits = refl
  settled_same e effect (Some x) le fits =
      let here : leb (length e.path) j ≡ true = le-leb (length e.path) j le in
      ap (λ b. cond b (lock.Expr e effect) (lock.Class x effect) ∷ [])
      (here ∙ sym (le-leb (length e.path) k (fits (inl (ap (λ b. cond b (lock.Expr e effect) (lock.Class x effect)) here)))))

  settle_same : (m : Lock) → Fits j m → (IsOne (settle (view c s j f) m) m → Fits k m) → settle (view c s j f) m ≡ settle (view c s k f) m
  settle_same (lock.Root effect) le fits = refl
  settle_same (lock.Class x effect) le fits = refl
  settle_same (lock.Expr e effect) le fits = settled_same e effect (class_of c f e) le fits

  all_same : (ms : List Lock) → AllFit j ms → ((m : Lock) → IsOne ms m → IsOne (settle (view c s j f) m) m → Fits k m) → flat_map (settle (view c s j f)) ms ≡ flat_map (settle (view c s k f)) ms
  all_same [] all fits = refl
  all_same (m ∷ ms) all fits =
      ap₂ (λ a b. a ++ b) (settle_same m (all m (inl refl)) (λ h. fits m (inl refl) h)) (all_same ms (λ l o. all l (inr o)) (λ l o h. fits l (inr o) h))

  before_same : (i : Instr) (e : Expr) (effect : Effect) → before (view c s j f) i e effect ≡ before (view c s k f) i e effect
  before_same (instr.Store a b) e effect = refl
  before_same i e effect = refl

  link_same : (i : Instr) (m : Lock) → IsBelow j m → ((n : Lock) → IsOne (link (view c s j f) i m) n → Fits k n) → link (view c s j f) i m ≡ link (view c s k f) i m
  link_same i (lock.Root effect) below fits = refl
  link_same i (lock.Class x effect) below fits = refl
  link_same i (lock.Expr e effect) below fits =
      all_same (before (view c s j f) i e effect) (before_fit c s f j j i e effect below) (λ n o h. fits n (one_of_each (settle (view c s j f)) (before (view c s j f) i e effect) n n o h))
      ∙ ap (flat_map (settle (view c s k f))) (before_same i e effect)

  accesses_same : (i : Instr) → accesses (view c s j f) i ≡ accesses (view c s k f) i
  accesses_same (instr.Load a b) = settle_same (on (Reg b) [] Read) (omega arith) (λ h. omega arith)
  accesses_same (instr.Store a b) = settle_same (on (Reg a) [] Write) (omega arith) (λ h. omega arith)
  accesses_same i = refl

-- all that is needed has fewer operations than the one length allows, and no more than the other
module _ (l : Lowered) (c : Classed) (s : ℕ → ℕ → Bool) (j k : ℕ) (short : (r : Region) (pc : ℕ) (m : Lock) → Needed l c s j r pc m → IsBelow j m) (within : (r : Region) (pc : ℕ) (m : Lock) → Needed l c s j r pc m → Fits k m) where
  there : (r : Region) (pc : ℕ) (m : Lock) → Needed l c s j r pc m → Needed l c s k r pc m
  there _ _ _ (Accessed r f pc i m isin at o) = Accessed r f pc i m isin at (subst (λ ms. IsOne ms m) (accesses_same c s j k f i) o)
  there _ _ _ (Linked r f pc next i p m isin at goes h o) =
      Linked r f pc next i p m isin at goes (there r next p h)
      (subst (λ ms. IsOne ms m) (link_same c s j k f i p (short r next p h) (λ n one. within r pc n (Linked r f pc next i p n isin at goes h one))) o)
  there _ _ _ (Entered r f pc a first g callee p q m isin at called h o d) =
      Entered r f pc a first g callee p q m isin at called (there (Body g) _ p h) o
      (subst (λ ms. IsOne ms m) (settle_same c s j k f q (renamed_fit j first callee.params p (short (Body g) _ p h) q o) (λ one. within r pc q (Entered r f pc a first g callee p q q isin at called h o one))) d)
  there _ _ _ (Before r pc p m h o) = Before r pc p m (there r pc p h) o

  back : (r : Region) (pc : ℕ) (m : Lock) → Needed l c s k r pc m → Needed l c s j r pc m
  back _ _ _ (Accessed r f pc i m isin at o) = Accessed r f pc i m isin at (subst (λ ms. IsOne ms m) (sym (accesses_same c s j k f i)) o)
  back _ _ _ (Linked r f pc next i p m isin at goes h o) =
      let b = back r next p h in
      Linked r f pc next i p m isin at goes b
      (subst (λ ms. IsOne ms m) (sym (link_same c s j k f i p (short r next p b) (λ n one. within r pc n (Linked r f pc next i p n isin at goes b one)))) o)
  back _ _ _ (Entered r f pc a first g callee p q m isin at called h o d) =
      let b = back (Body g) _ p h in
      Entered r f pc a first g callee p q m isin at called b o
      (subst (λ ms. IsOne ms m) (sym (settle_same c s j k f q (renamed_fit j first callee.params p (short (Body g) _ p b) q o) (λ one. within r pc q (Entered r f pc a first g callee p q q isin at called b o one)))) d)
  back _ _ _ (Before r pc p m h o) = Before r pc p m (back r pc p h) o

below_fits : (k : ℕ) (m : Lock) → IsBelow (suc k) m → Fits k m
below_fits k (lock.Root effect) below = tt
below_fits k (lock.Class x effect) below = tt
below_fits k (lock.Expr e effect) below = omega (arith, below)

-- a flow is that of another length, too
pub same_flow : (l : Lowered) (c : Classed) (j k : ℕ) (parts : List RegionNeeds) → (flow : IsFlow l c j parts) → ((r : Region) (pc : ℕ) (m : Lock) → Needed l c flow.stores j r pc m → IsBelow j m)
    → ((r : Region) (pc : ℕ) (m : Lock) → Needed l c flow.stores j r pc m → IsBelow (suc k) m) → IsFlow l c k parts
same_flow l c j k parts flow short within =
    let on_there = there l c flow.stores j k short (λ r pc m h. below_fits k m (within r pc m h)) in
    let on_back = back l c flow.stores j k short (λ r pc m h. below_fits k m (within r pc m h)) in record {
      stores = flow.stores;
      written = flow.written;
      tells = λ r pc m. (λ t. on_there r pc m ((flow.tells r pc m).0 t), λ h. (flow.tells r pc m).1 (on_back r pc m h));
      apart = flow.apart;
      few = λ r many.
          flow.few r (record { locks = many.locks; many = many.many; different = many.different; needed = λ i m at. let h = many.needed i m at in (h.0, on_back r h.0 m h.1) });
    }
