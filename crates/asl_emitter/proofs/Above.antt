-- The locks that absorb one are those above it.
use Rattle.std.proofs.Common.{◌≡◌, ◌↔◌, ◌++◌, ⊎_elim, ℕ, Bool, IsTrue, true, false, not, List, [], ◌∷◌, Option, Some, None, refl, ap, sym, subst, inl, inr}
use Rattle.asl_code.specs.declared.value.Effect.{Effect}
use Rattle.asl_code.specs.declared.value.Effect.TheVariants.{Read, Write}
use Rattle.asl_code.specs.declared.lock.Expr.{Expr}
use Rattle.asl_code.specs.declared.lock.Lock.{Lock}
use Rattle.asl_code.specs.declared.lock.Lock.TheVariants as lock
use Rattle.asl_points_to.specs.Classes.{Classed}
use Rattle.asl_lock_expr.specs.ClassOf.{class_of}
use Rattle.asl_lock_expr.specs.Links.{IsOne}
use Rattle.asl_lock_expr.proofs.Ones.{one_left, one_right, one_either}
use Rattle.asl_emitter.specs.Lists.{Absorbs, IsFree, IsReduced}
use Rattle.asl_emitter.specs.Above.{above, classes_above, HasOneOf}

-- the locks on the class of an expression that absorb it
class_in : (o : Option ℕ) (x : ℕ) (effect : Effect) → o ≡ Some x → IsOne (classes_above o effect) (lock.Class x Write)
class_in o x Write e = subst (λ p. IsOne (classes_above p Write) (lock.Class x Write)) (sym e) (inl refl)
class_in o x Read e = subst (λ p. IsOne (classes_above p Read) (lock.Class x Write)) (sym e) (inl refl)

class_read_in : (o : Option ℕ) (x : ℕ) → o ≡ Some x → IsOne (classes_above o Read) (lock.Class x Read)
class_read_in o x e = subst (λ p. IsOne (classes_above p Read) (lock.Class x Read)) (sym e) (inr (inl refl))

pub above_all : (c : Classed) (f : ℕ) (b a : Lock) → Absorbs c f b a → IsOne (above c f a) b
above_all c f (lock.Class x Write) (lock.Class y Write) p = absurd (p.different (ap (λ k. lock.Class k Write) p.does.0))
above_all c f (lock.Class x Write) (lock.Class y Read) p = inl (ap (λ k. lock.Class k Write) (sym p.does.0))
above_all c f (lock.Class x Read) (lock.Class y Write) p = let k : false ≡ true = p.does.1 in absurd cc
above_all c f (lock.Class x Read) (lock.Class y Read) p = absurd (p.different (ap (λ k. lock.Class k Read) p.does.0))
above_all c f (lock.Class x Write) (lock.Expr e Write) p = one_left (classes_above (class_of c f e) Write) _ _ (class_in (class_of c f e) x Write p.does.0)
above_all c f (lock.Class x Write) (lock.Expr e Read) p = one_left (classes_above (class_of c f e) Read) _ _ (class_in (class_of c f e) x Read p.does.0)
above_all c f (lock.Class x Read) (lock.Expr e Write) p = let k : false ≡ true = p.does.1 in absurd cc
above_all c f (lock.Class x Read) (lock.Expr e Read) p = one_left (classes_above (class_of c f e) Read) _ _ (class_read_in (class_of c f e) x p.does.0)
above_all c f (lock.Expr d Write) (lock.Expr e Write) p = absurd (p.different (ap (λ k. lock.Expr k Write) p.does.0))
above_all c f (lock.Expr d Read) (lock.Expr e Read) p = absurd (p.different (ap (λ k. lock.Expr k Read) p.does.0))
above_all c f (lock.Expr d Write) (lock.Expr e Read) p = one_right (classes_above (class_of c f e) Read) _ _ (inl (ap (λ k. lock.Expr k Write) (sym p.does.0)))
above_all c f (lock.Expr d Read) (lock.Expr e Write) p = let k : false ≡ true = p.does.1 in absurd cc
above_all c f b a p = absurd p.does

absorbs_here : (c : Classed) (f : ℕ) (b d a : Lock) → Absorbs c f d a → d ≡ b → Absorbs c f b a
absorbs_here c f b d a p e = subst (λ k. Absorbs c f k a) e p

class_write : (c : Classed) (f x : ℕ) (e : Expr) (effect : Effect) → class_of c f e ≡ Some x → Absorbs c f (lock.Class x Write) (lock.Expr e effect)
class_write c f x e effect is = record { different = λ h. cc; does = (is, refl) }

class_read : (c : Classed) (f x : ℕ) (e : Expr) → class_of c f e ≡ Some x → Absorbs c f (lock.Class x Read) (lock.Expr e Read)
class_read c f x e is = record { different = λ h. cc; does = (is, refl) }

of_classes : (c : Classed) (f : ℕ) (e : Expr) (effect : Effect) (o : Option ℕ) (b : Lock) → class_of c f e ≡ o → IsOne (classes_above o effect) b → Absorbs c f b (lock.Expr e effect)
of_classes c f e effect None b is o = absurd o
of_classes c f e Write (Some x) b is (inl h) = absorbs_here c f b _ _ (class_write c f x e Write is) h
of_classes c f e Write (Some x) b is (inr h) = absurd h
of_classes c f e Read (Some x) b is (inl h) = absorbs_here c f b _ _ (class_write c f x e Read is) h
of_classes c f e Read (Some x) b is (inr (inl h)) = absorbs_here c f b _ _ (class_read c f x e is) h
of_classes c f e Read (Some x) b is (inr (inr h)) = absurd h

pub all_above : (c : Classed) (f : ℕ) (b a : Lock) → IsOne (above c f a) b → Absorbs c f b a
all_above c f b (lock.Root effect) o = absurd o
all_above c f b (lock.Class x Write) o = absurd o
all_above c f b (lock.Class x Read) (inl h) = absorbs_here c f b (lock.Class x Write) _ (record { different = λ e. cc; does = (refl, refl) }) h
all_above c f b (lock.Class x Read) (inr h) = absurd h
all_above c f b (lock.Expr e Write) o = ⊎_elim (λ k. of_classes c f e Write (class_of c f e) b refl k) (λ k. absurd k) (one_either (classes_above (class_of c f e) Write) [] b o)
all_above c f b (lock.Expr e Read) o =
    ⊎_elim (λ k. of_classes c f e Read (class_of c f e) b refl k)
    (λ k. ⊎_elim (λ h. absorbs_here c f b (lock.Expr e Write) _ (record { different = λ g. cc; does = (refl, refl) }) h) (λ h. absurd h) k)
    (one_either (classes_above (class_of c f e) Read) (lock.Expr e Write ∷ []) b o)

-- a lock is free where the list has none of those above it
pub free_told : (c : Classed) (f : ℕ) (given : List Lock) (a : Lock) (has : Bool) → (IsTrue has ↔ HasOneOf given (above c f a)) → IsTrue (not has) ↔ IsFree c f (IsOne given) a
free_told c f given a true tells = (λ e. absurd cc, λ free. (let one = tells.0 refl in absurd (free one.0 one.2 (all_above c f one.0 a one.1))))
free_told c f given a false tells = (λ e b has absorbs. (let t : false ≡ true = tells.1 (b, above_all c f b a absorbs, has) in cc), λ free. refl)

-- a list has one of two lists of locks, one after the other, where it has one of the first or of the second
pub of_both : (given these those : List Lock) (first : Bool) → (IsTrue first ↔ HasOneOf given these) → first ≡ true → IsTrue true ↔ HasOneOf given (these ++ those)
of_both given these those first tells is = (λ e. (let one = tells.0 is in (one.0, one_left these those one.0 one.1, one.2)), λ one. refl)

pub of_second : (given these those : List Lock) (first second : Bool) → (IsTrue first ↔ HasOneOf given these) → first ≡ false → (IsTrue second ↔ HasOneOf given those) → IsTrue second ↔ HasOneOf given (these ++ those)
of_second given these those first second tells isnt more = (
  λ e. (let one = more.0 e in (one.0, one_right these those one.0 one.1, one.2)),
  λ one. ⊎_elim (λ o. (let is : first ≡ true = tells.1 (one.0, o, one.2) in absurd cc)) (λ o. more.1 (one.0, o, one.2)) (one_either these those one.0 one.1),
)

-- whether a list has one lock
pub of_one : (given : List Lock) (a : Lock) (has : Bool) → (IsTrue has ↔ IsOne given a) → IsTrue has ↔ HasOneOf given (a ∷ [])
of_one given a has tells = (λ e. (a, inl refl, tells.0 e), λ one. tells.1 (⊎_elim (λ is. subst (IsOne given) (sym is) one.2) (λ no. absurd no) one.1))

pub of_none : (given : List Lock) → IsTrue false ↔ HasOneOf given []
of_none given = (λ e. absurd cc, λ one. absurd one.1)

-- a list without locks on classes has none that absorb one on an expression of a class, and one with such a lock has one
pub no_class_above : (given : List Lock) (o : Option ℕ) (effect : Effect) → ((class : ℕ) (y : Effect) → ¬ IsOne given (lock.Class class y)) → IsTrue false ↔ HasOneOf given (classes_above o effect)
no_class_above given o effect none = (λ e. absurd cc, λ one. absurd (never o effect one.0 one.1 one.2))
  where
    at_class : (x : ℕ) (y : Effect) (b : Lock) → lock.Class x y ≡ b → IsOne given b → ⊥
    at_class x y b is has = none x y (subst (IsOne given) (sym is) has)

    never : (p : Option ℕ) (y : Effect) (b : Lock) → IsOne (classes_above p y) b → IsOne given b → ⊥
    never None y b one has = one
    never (Some x) Write b (inl is) has = at_class x Write b is has
    never (Some x) Write b (inr out) has = out
    never (Some x) Read b (inl is) has = at_class x Write b is has
    never (Some x) Read b (inr (inl is)) has = at_class x Read b is has
    never (Some x) Read b (inr (inr out)) has = out

pub class_there : (given : List Lock) (class : ℕ) (effect : Effect) → IsOne given (lock.Class class Write) → IsTrue true ↔ HasOneOf given (classes_above (Some class) effect)
class_there given class effect has = (λ e. (lock.Class class Write, class_in (Some class) class effect refl, has), λ one. refl)

-- a list that is reduced from one set is reduced from the same set
pub reduced_same : (c : Classed) (f : ℕ) (all given list : List Lock) → ((a : Lock) → IsOne all a ↔ IsOne given a) → IsReduced c f (IsOne all) list → IsReduced c f (IsOne given) list
reduced_same c f all given list same r = record {
  order = r.order;
  kept = λ a o. (let k = r.kept a o in ((same a).0 k.0, λ b g absorbs. k.1 b ((same b).1 g) absorbs));
  all = λ a g free. r.all a ((same a).1 g) (λ b h absorbs. free b ((same b).0 h) absorbs);
}
