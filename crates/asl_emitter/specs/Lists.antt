-- The lists of locks that sections ask for: which lock does in place of another, what of a set is left, and the short list to
-- which a set is fitted (docs/ANALYSIS.md, "Lists").
use Rattle.std.specs.Prelude.{◌≡◌, ◌≢◌, ◌<◌, ◌≤◌, ◌⊎◌, ℕ, List, [], ◌∷◌, length, Some}
use Rattle.asl_code.specs.Locks.{effect_of}
use Rattle.asl_code.specs.declared.value.Effect.{Effect}
use Rattle.asl_code.specs.declared.value.Effect.TheVariants.{Read, Write}
use Rattle.asl_code.specs.declared.lock.Lock.{Lock}
use Rattle.asl_code.specs.declared.lock.Lock.TheVariants as lock
use Rattle.asl_points_to.specs.Classes.{Classed}
use Rattle.asl_lock_expr.specs.ClassOf.{class_of}
use Rattle.asl_lock_expr.specs.Links.{IsOne, class_lock}
use Rattle.asl_lock_expr.specs.Order.{AreInOrder}
use Rattle.asl_soundness.specs.Covering.{CoversLock}

-- in a function the first lock does in place of the second: it covers it, and is not on the root
abbrev pub SufficesFor : Classed → ℕ → Lock → Lock → Type 0
SufficesFor c f (lock.Root effect) b = ⊥
SufficesFor c f a b = CoversLock c f a b

-- a lock absorbs another, different one
pub record Absorbs (c : Classed) (f : ℕ) (a b : Lock) : Type 0 where
  pub different : a ≢ b
  pub does : SufficesFor c f a b

-- a set of locks
abbrev pub Locks : Type 1
Locks = Lock → Type 0

-- no lock of the set absorbs this one
abbrev pub IsFree : Classed → ℕ → Locks → Lock → Type 0
IsFree c f given a = (b : Lock) → given b → ¬ Absorbs c f b a

-- the reduced list of a set: the locks of the set that no other of it absorbs, in order, each once
pub record IsReduced (c : Classed) (f : ℕ) (given : Locks) (list : List Lock) : Type 0 where
  pub order : AreInOrder list
  pub kept : (a : Lock) → IsOne list a → given a × IsFree c f given a
  pub all : (a : Lock) → given a → IsFree c f given a → IsOne list a

-- an expression becomes its class, and one without a class is dropped; every other lock stays
abbrev pub as_class : Classed → ℕ → Lock → List Lock
as_class c f (lock.Root effect) = lock.Root effect ∷ []
as_class c f (lock.Class class effect) = lock.Class class effect ∷ []
as_class c f (lock.Expr e effect) = class_lock effect (class_of c f e)

-- what the locks of a list become so
abbrev pub AsClasses : Classed → ℕ → List Lock → Locks
AsClasses c f list a = (b : Lock) × IsOne list b × IsOne (as_class c f b) a

-- the stronger of two effects, and the strongest of a list of locks
abbrev pub stronger : Effect → Effect → Effect
stronger Write other = Write
stronger Read other = other

-- the strongest effect of a list of locks: to write where one of them is for writing, else to read
abbrev pub strongest : List Lock → Effect
strongest [] = Read
strongest (a ∷ rest) = stronger (effect_of a) (strongest rest)

-- the last step: a list of at most so many locks is as it was, and of a longer one there is one lock on the root
abbrev pub IsRootFor : ℕ → List Lock → List Lock → Type 0
IsRootFor most coarse list =
    ((length coarse ≤ most) × (list ≡ coarse)) ⊎ ((most < length coarse) × (list ≡ lock.Root (strongest coarse) ∷ []))

-- the step before it: the locks of the list become classes, which are reduced
pub record IsCoarse (c : Classed) (f most : ℕ) (fine list : List Lock) : Type 0 where
  pub coarse : List Lock
  pub reduced : IsReduced c f (AsClasses c f fine) coarse
  pub is : IsRootFor most coarse list

-- the fitted list of a set, for at most so many locks: the reduced list where it is short enough, else its classes where
-- these are few enough, else the root
pub record IsFitted (c : Classed) (f most : ℕ) (given : Locks) (list : List Lock) : Type 0 where
  pub fine : List Lock
  pub reduced : IsReduced c f given fine
  pub is : ((length fine ≤ most) × (list ≡ fine)) ⊎ ((most < length fine) × IsCoarse c f most fine list)

-- an expression of the function with a class; any class or root lock
abbrev pub HasClass : Classed → ℕ → Lock → Type 0
HasClass c f (lock.Expr e effect) = (x : ℕ) × (class_of c f e ≡ Some x)
HasClass c f (lock.Class class effect) = Unit {0}
HasClass c f (lock.Root effect) = Unit {0}
