-- The members of a class share it, and so chains join them.
use Rattle.std.proofs.Common.{◌≡◌, ◌<◌, ℕ, zero, suc, ◌+◌, List, [], ◌∷◌, ◌++◌, Bool, true, false, ◌==◌, if◌then◌else◌, take, slice_get, Some, refl, sym, ap, subst, arith}
use Rattle.std.proofs.lemmas.Bool.{eqb-true}
use Rattle.asl_lower.specs.Lowered.{Lowered}
use Rattle.asl_points_to.specs.Classes.{Classed, AreClasses, members}
use Rattle.asl_class_reasons.specs.declared.place.Step.{Step}
use Rattle.asl_class_reasons.specs.Reasons.{AreAllReasons}
use Rattle.asl_class_text.specs.Numbered.{numbered}
use Rattle.asl_class_text.specs.declared.facts.Known.{Known}
use Rattle.asl_class_text.specs.Classes.{one_of, members_of, IsKnown}
use Rattle.asl_class_text.proofs.Paired.{none_there, same_Some}
use Rattle.asl_class_text.specs.Made.{AreAllJoined, AreClassesJoined}

-- the number stands for a place of the list, from this number on, at which the class stands
abbrev Stands : ℕ → ℕ → List ℕ → ℕ → Type 0
Stands class k xs m = (j : ℕ) × (m ≡ k + j) × (slice_get xs j ≡ Some class)

one_further : (class k x : ℕ) (xs : List ℕ) (m : ℕ) → Stands class (suc k) xs m → Stands class k (x ∷ xs) m
one_further class k x xs m (j, is, at) = (suc j, (omega (arith, is)), at)

at_first : (class k x : ℕ) (xs : List ℕ) → ((n m : ℕ) → slice_get (numbered (one_of class) (suc k) xs) n ≡ Some m → Stands class (suc k) xs m)
    → (b : Bool) (n m : ℕ) → (x == class) ≡ b → slice_get ((if b then k ∷ [] else []) ++ numbered (one_of class) (suc k) xs) n ≡ Some m → Stands class k (x ∷ xs) m
at_first class k x xs rest true zero m e h =
    let same : x ≡ class = eqb-true x class e in
    let is : k ≡ m = same_Some k m h in
    (0, (omega (arith, is)), ap Some same)
at_first class k x xs rest true (suc n) m e h = one_further class k x xs m (rest n m h)
at_first class k x xs rest false n m e h = one_further class k x xs m (rest n m h)

in_numbered : (class k : ℕ) (xs : List ℕ) (n m : ℕ) → slice_get (numbered (one_of class) k xs) n ≡ Some m → Stands class k xs m
in_numbered class k [] n m h = absurd (none_there n m h)
in_numbered class k (x ∷ xs) n m h = at_first class k x xs (λ p q g. in_numbered class (suc k) xs p q g) (x == class) n m refl h

-- a member of a class is of the class
pub member_at : (classes : List ℕ) (class n m : ℕ) → slice_get (members_of classes class) n ≡ Some m → slice_get classes m ≡ Some class
member_at classes class n m h =
    let found = in_numbered class 0 classes n m h in
    let is : found.0 ≡ m = omega (arith, found.1) in
    subst (λ (j : ℕ). slice_get classes j ≡ Some class) is found.2

taken : (a : ℕ) (xs : List ℕ) (n m : ℕ) → slice_get (take a xs) n ≡ Some m → slice_get xs n ≡ Some m
taken zero xs n m h = absurd (none_there n m h)
taken (suc a) [] n m h = h
taken (suc a) (x ∷ xs) zero m h = h
taken (suc a) (x ∷ xs) (suc n) m h = taken a xs n m h

-- members rise: each other one is greater than the first
abbrev Rise : List ℕ → ℕ → List ℕ → Type 0
Rise ms first others = ms ≡ first ∷ others → (n m : ℕ) → slice_get others n ≡ Some m → first < m

rising_here : (class k x : ℕ) (xs : List ℕ) → ((first : ℕ) (others : List ℕ) → Rise (numbered (one_of class) (suc k) xs) first others) → (b : Bool) (first : ℕ) (others : List ℕ) → Rise ((if b then k ∷ [] else []) ++ numbered (one_of class) (suc k) xs) first others
rising_here class k x xs rest true first others e n m h =
    let head : k ≡ first = cc in
    let tail : numbered (one_of class) (suc k) xs ≡ others = cc in
    let found = in_numbered class (suc k) xs n m (subst (λ (ys : List ℕ). slice_get ys n ≡ Some m) (sym tail) h) in
    let at = found.1 in
    omega arith
rising_here class k x xs rest false first others e n m h = rest first others e n m h

rising : (class k : ℕ) (xs : List ℕ) (first : ℕ) (others : List ℕ) → Rise (numbered (one_of class) k xs) first others
rising class k [] first others e n m h = absurd cc
rising class k (x ∷ xs) first others e n m h = rising_here class k x xs (λ f os g. rising class (suc k) xs f os g) (x == class) first others e n m h

taken_rising : (a : ℕ) (ms : List ℕ) → ((first : ℕ) (others : List ℕ) → Rise ms first others) → (first : ℕ) (others : List ℕ) → Rise (take a ms) first others
taken_rising zero ms rise first others e n m h = absurd cc
taken_rising (suc a) [] rise first others e n m h = absurd cc
taken_rising (suc a) (x ∷ xs) rise first others e n m h =
    let head : x ≡ first = cc in
    let tail : take a xs ≡ others = cc in
    let low : x < m = rise x xs refl n m (taken a xs n m (subst (λ (ys : List ℕ). slice_get ys n ≡ Some m) (sym tail) h)) in
    omega arith

-- those of which it is told are joined to the first of them
pub told_joined : (steps : List Step) (classes : List ℕ) (class a : ℕ) → AreClassesJoined steps classes → AreAllJoined steps (take a (members_of classes class))
told_joined steps classes class a joined = record {
  each = λ first others is n m h. (
    taken_rising a (members_of classes class) (λ f os e. rising class 0 classes f os e) first others is n m h,
    joined first m class (here first others is 0 first refl) (here first others is (suc n) m h),
  );
}
  where
    here : (first : ℕ) (others : List ℕ) → take a (members_of classes class) ≡ first ∷ others → (k x : ℕ) → slice_get (first ∷ others) k ≡ Some x → slice_get classes x ≡ Some class
    here first others is k x g = member_at classes class k x (taken a (members_of classes class) k x (subst (λ (ys : List ℕ). slice_get ys k ≡ Some x) (sym is) g))

-- chains join those that share a class
pub classes_joined : (l : Lowered) (c : Classed) (steps : List Step) (classes : List ℕ) → AreAllReasons l steps → AreClasses l c → classes ≡ members c → AreClassesJoined steps classes
classes_joined l c steps classes reasons are is m n x hm hn =
    reasons.all c are m n (x, subst (λ (xs : List ℕ). slice_get xs m ≡ Some x) is hm, subst (λ (xs : List ℕ). slice_get xs n ≡ Some x) is hn)

-- so of what is known of a source
pub known_joined : (source : List ℕ) (k : Known) (steps : List Step) → IsKnown source k → AreAllReasons k.facts.lowering steps → AreClassesJoined steps k.facts.classes.items
known_joined source k steps is reasons = classes_joined k.facts.lowering is.facts.classed steps k.facts.classes.items reasons is.facts.classes is.facts.facts.classes
