-- Dereferenced prefixes, and locks that are found with theirs.
use Rattle.std.proofs.Common.{◌≡◌, ◌↔◌, ◌⊎◌, ⊎_elim, ℕ, ◌++◌, Bool, List, Result, Ok, Err, OnOk, IfErr, [], ◌∷◌, Some, length, slice_get, ap, sym, subst, ◌∙◌, inl, inr, arith}
use Rattle.std.specs.List.{flat_map}
use Rattle.asl_code.specs.declared.lock.Base.{Base}
use Rattle.asl_code.specs.declared.lock.Expr.{Expr}
use Rattle.asl_code.specs.declared.lock.Lock.{Lock}
use Rattle.asl_code.specs.declared.lock.Lock.TheVariants as lock
use Rattle.asl_code.specs.declared.path.Op.{Op}
use Rattle.asl_code.specs.declared.path.Op.TheVariants.{Deref, Off}
use Rattle.asl_lane_sets.specs.NumberSet.{IsIn}
use Rattle.asl_lock_expr.specs.Links.{IsOne, prefixes, dereferenced}
use Rattle.asl_lock_expr.proofs.Leaves.{prefix_is}
use Rattle.asl_lock_expr.proofs.Ones.{flat_from, flat_of}
use Rattle.asl_backward_flow.specs.Found.{Table, HasFact, HasNumber, IsWhole, Adds, Lists, Grows, locks_of}
use Rattle.asl_backward_flow.specs.Follows.{Read, WithFronts, At, IsReady, Follows, IsSeed, IsChosen, Added, Stopped}
use Rattle.asl_backward_flow.specs.declared.found.AddFault.{AddFault}
use Rattle.asl_backward_flow.proofs.Adding.{ready_still, added_as, added_on, stopped_as, stopped_on}
use Rattle.asl_backward_flow.proofs.Sets.{some_same}
use Rattle.asl_backward_flow.proofs.Steps.{has_still}

-- a prefix of a front of a path is one of the path
longer_path : (base : Base) (done p rest : List Op) (d : Lock) → IsOne (prefixes base done p) d → IsOne (prefixes base done (p ++ rest)) d
longer_path base done [] rest d o = absurd o
longer_path base done (Off places ∷ p) rest d o = longer_path base (done ++ Off places ∷ []) p rest d o
longer_path base done (Deref ∷ p) rest d (inl e) = inl e
longer_path base done (Deref ∷ p) rest d (inr o) = inr (longer_path base (done ++ Deref ∷ []) p rest d o)

-- a dereferenced prefix of a dereferenced prefix of a lock is one of the lock
pub front_front : (l m d : Lock) → IsOne (dereferenced l) m → IsOne (dereferenced m) d → IsOne (dereferenced l) d
front_front (lock.Root effect) m d o k = absurd o
front_front (lock.Class class effect) m d o k = absurd o
front_front (lock.Expr e effect) (lock.Root other) d o k = absurd k
front_front (lock.Expr e effect) (lock.Class class other) d o k = absurd k
front_front (lock.Expr e effect) (lock.Expr f other) d o k =
    let is = prefix_is e.base [] e.path f other o in
    let here : IsOne (prefixes e.base [] is.0) d = subst (λ (y : Expr). IsOne (prefixes y.base [] y.path) d) is.3 k in
    subst (λ (ops : List Op). IsOne (prefixes e.base [] ops) d) (sym is.4) (longer_path e.base [] is.0 (Deref ∷ is.1) d here)

-- what has its dereferenced prefixes keeps them
pub fronts_in : (Such : Lock → Type 0) (m d : Lock) → WithFronts Such m → IsOne (dereferenced m) d → WithFronts Such d
fronts_in Such m d (inl h) k = inr (m, h, k)
fronts_in Such m d (inr h) k = inr (h.0, h.1, front_front h.0 m d h.2 k)

pub fronts_as : (Such All : Lock → Type 0) → ((m : Lock) → Such m → All m) → (m : Lock) → WithFronts Such m → WithFronts All m
fronts_as Such All within m h = ⊎_elim (λ k. inl (within m k)) (λ k. inr (k.0, within k.0 k.1, k.2)) h

-- the locks of a list with their dereferenced prefixes
pub fronts_list : (locks fronts : List Lock) → fronts ≡ flat_map dereferenced locks → (m : Lock) → WithFronts (IsOne locks) m → IsOne locks m ⊎ IsOne fronts m
fronts_list locks fronts is m (inl h) = inl h
fronts_list locks fronts is m (inr h) = inr (subst (λ (l : List Lock). IsOne l m) (sym is) (flat_of locks h.0 m h.1 h.2))

pub list_fronts : (locks fronts : List Lock) → fronts ≡ flat_map dereferenced locks → (m : Lock) → IsOne fronts m → WithFronts (IsOne locks) m
list_fronts locks fronts is m h = let o = flat_from locks m (subst (λ (l : List Lock). IsOne l m) is h) in inr (o.0, o.1, o.2)

-- facts that come with their dereferenced prefixes
abbrev pub AreFronted : (ℕ → ℕ → Lock → Type 0) → Type 0
AreFronted these = (p q : ℕ) (m d : Lock) → these p q m → IsOne (dereferenced m) d → these p q d

pub seeds_fronted : (r : Read) → AreFronted (IsSeed r)
seeds_fronted r p q m d h k = (h.0, fronts_in _ m d h.1 k)

pub follows_fronted : (r : Read) (part pc : ℕ) (Such : Lock → Type 0) → AreFronted (Follows r part pc Such)
follows_fronted r part pc Such p q m d (inl h) k = inl (h.0, h.1, h.2, fronts_in _ m d h.3 k)
follows_fronted r part pc Such p q m d (inr h) k = inr (
  h.0,
  h.1,
  record { body = h.2.body; function = h.2.function; there = h.2.there; region = h.2.region; entry = h.2.entry; call = (h.2.call.0, (h.2.call.1.0, h.2.call.1.1, fronts_in _ m d h.2.call.1.2 k)) },
)

abbrev pub HasFronts : Table → Type 0
HasFronts t = (p q : ℕ) (m d : Lock) → HasFact t p q m → IsOne (dereferenced m) d → HasFact t p q d

pub fronts_more : (r : Read) (old new : Table) (these : ℕ → ℕ → Lock → Type 0) → HasFronts old → AreFronted these → Added r old new these → HasFronts new
fronts_more r old new these was fronted x p q m d has k =
    ⊎_elim (λ o. has_still old new x.adds.grows p q d (was p q m d o k)) (λ n. x.has p q d (fronted p q m d n k)) (x.adds.only.facts p q m has)

-- what follows from some locks follows from more
pub follows_as : (r : Read) (part pc : ℕ) (Such All : Lock → Type 0) → ((l : Lock) → Such l → All l) → (p q : ℕ) (m : Lock) → Follows r part pc Such p q m → Follows r part pc All p q m
follows_as r part pc Such All within p q m (inl h) = inl (h.0, h.1, h.2, fronts_as _ _ (λ n k. (k.0, within k.0 k.1, k.2)) m h.3)
follows_as r part pc Such All within p q m (inr h) = inr (h.0, within h.0 h.1, h.2)

-- numbers of locks name the same locks later
module _ (a b : Table) (part : ℕ) (grows : Grows a b) (These : ℕ → Type 0) where
  pub named_later : (m : Lock) → HasNumber (locks_of a part) These m → HasNumber (locks_of b part) These m
  named_later m h = (h.0, h.1, grows.names part h.0 m h.2)

  pub named_before : ((n : ℕ) → These n → (m : Lock) × (slice_get (locks_of a part) n ≡ Some m)) → (m : Lock) → HasNumber (locks_of b part) These m → HasNumber (locks_of a part) These m
  named_before named m h =
      let was = named h.0 h.1 in
      let one : was.0 ≡ m = some_same (sym (grows.names part h.0 was.0 was.1) ∙ h.2) in
      (h.0, h.1, was.1 ∙ ap Some one)

  pub all_named : ((n : ℕ) → These n → (m : Lock) × (slice_get (locks_of a part) n ≡ Some m)) → (n : ℕ) → These n → (m : Lock) × (slice_get (locks_of b part) n ≡ Some m)
  all_named named n h = let m = named n h in (m.0, grows.names part n m.0 m.1)

pub chosen_later : (a b : Table) (part : ℕ) → Grows a b → (set : List Bool) (Done Then : Lock → Type 0) → ((d : Lock) → Done d → Then d) → IsChosen (locks_of a part) set Done → IsChosen (locks_of b part) set Then
chosen_later a b part grows set Done Then still c = record {
  named = all_named a b part grows (IsIn set) c.named;
  fronts = λ m d h k.
      ⊎_elim
      (λ n. inl (named_later a b part grows (IsIn set) d n))
      (λ o. inr (still d o))
      (c.fronts m d (named_before a b part grows (IsIn set) c.named m h) k);
}

-- the locks of a list are added, and then their dereferenced prefixes
module _ (r : Read) (old mid new : Table) (part pc : ℕ) (locks fronts : List Lock) (is : fronts ≡ flat_map dereferenced locks) where
  list_part : (p q : ℕ) (m : Lock) → At part pc (IsOne locks) p q m → At part pc (WithFronts (IsOne locks)) p q m
  list_part p q m h = (h.0, h.1, inl h.2)

  front_part : (p q : ℕ) (m : Lock) → At part pc (IsOne fronts) p q m → At part pc (WithFronts (IsOne locks)) p q m
  front_part p q m h = (h.0, h.1, list_fronts locks fronts is m h.2)

  either_part : (p q : ℕ) (m : Lock) → At part pc (WithFronts (IsOne locks)) p q m → At part pc (IsOne locks) p q m ⊎ At part pc (IsOne fronts) p q m
  either_part p q m h = ⊎_elim (λ k. inl (h.0, h.1, k)) (λ k. inr (h.0, h.1, k)) (fronts_list locks fronts is m h.2)

  pub with_ok : Added r old mid (At part pc (IsOne locks)) → (result : Result Unit AddFault) → OnOk result (Added r mid new (At part pc (IsOne fronts))) → OnOk result (Added r old new (At part pc (WithFronts (IsOne locks))))
  with_ok x (Ok u) y = added_on r old mid new _ _ (At part pc (WithFronts (IsOne locks))) list_part front_part either_part x y
  with_ok x (Err e) y = tt

  pub with_err : Added r old mid (At part pc (IsOne locks)) → (result : Result Unit AddFault) → IfErr result (Stopped mid new (At part pc (IsOne fronts))) → IfErr result (Stopped old new (At part pc (WithFronts (IsOne locks))))
  with_err x (Ok u) y = tt
  with_err x (Err e) y = stopped_on r old mid new _ _ (At part pc (WithFronts (IsOne locks))) e list_part front_part x y

  pub with_stopped : (e : AddFault) → Stopped old mid (At part pc (IsOne locks)) e → Stopped old mid (At part pc (WithFronts (IsOne locks))) e
  with_stopped e x = stopped_as old mid _ (At part pc (WithFronts (IsOne locks))) e list_part x

-- the locks of a list are such locks
module _ (old new : Table) (part pc : ℕ) (locks : List Lock) (Such : Lock → Type 0) (are : (m : Lock) → IsOne locks m ↔ Such m) where
  such_to : (p q : ℕ) (m : Lock) → At part pc (WithFronts (IsOne locks)) p q m → At part pc (WithFronts Such) p q m
  such_to p q m h = (h.0, h.1, fronts_as (IsOne locks) Such (λ n. (are n).0) m h.2)

  such_from : (p q : ℕ) (m : Lock) → At part pc (WithFronts Such) p q m → At part pc (WithFronts (IsOne locks)) p q m
  such_from p q m h = (h.0, h.1, fronts_as Such (IsOne locks) (λ n. (are n).1) m h.2)

  pub such_ok : (r : Read) (result : Result Unit AddFault) → OnOk result (Added r old new (At part pc (WithFronts (IsOne locks)))) → OnOk result (Added r old new (At part pc (WithFronts Such)))
  such_ok r (Ok u) x = added_as r old new _ _ such_to such_from x
  such_ok r (Err e) x = tt

  pub such_err : (result : Result Unit AddFault) → IfErr result (Stopped old new (At part pc (WithFronts (IsOne locks)))) → IfErr result (Stopped old new (At part pc (WithFronts Such)))
  such_err (Ok u) x = tt
  such_err (Err e) x = stopped_as old new _ _ e such_to x

pub list_added : (r : Read) (old new : Table) (part pc : ℕ) (locks : List Lock) → IsReady r old → IsWhole new → ((m : Lock) → IsOne locks m → HasFact new part pc m) → Lists old new
    → Adds old new (λ p q m. (p ≡ part) × (q ≡ pc) × IsOne locks m) → Added r old new (At part pc (IsOne locks))
list_added r old new part pc locks ready whole has lists adds = record {
  ready = ready_still r old new _ ready adds whole;
  has = λ p q m h. subst (λ x. HasFact new x q m) (sym h.0) (subst (λ y. HasFact new part y m) (sym h.1) (has m h.2));
  adds = adds;
  lists = lists;
}

-- no locks have no prefixes either
pub fronts_none : (locks : List Lock) → length locks ≡ 0 → (m : Lock) → WithFronts (IsOne locks) m → ⊥
fronts_none [] e m h = ⊎_elim (λ o. o) (λ (k : (l : Lock) × IsOne [] l × IsOne (dereferenced l) m). k.1) h
fronts_none (a ∷ rest) e m h = absurd (omega (arith, e))
