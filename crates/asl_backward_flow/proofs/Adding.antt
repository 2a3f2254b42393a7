-- What steps add, one after the other, and in loops.
use Rattle.std.proofs.Common.{◌≡◌, ◌⊎◌, ⊎_elim, ℕ, ◌+◌, ◌<◌, List, Result, Ok, Err, OnOk, IfErr, inl, inr, sym, subst, ◌∙◌}
use Rattle.asl_code.specs.declared.lock.Lock.{Lock}
use Rattle.asl_lock_expr.specs.Links.{IsOne}
use Rattle.asl_backward_flow.specs.declared.found.AddFault.{AddFault}
use Rattle.asl_backward_flow.specs.declared.found.AddFault.TheVariants.{OutOfMemory}
use Rattle.asl_backward_flow.specs.Found.{Table, HasFact, IsWhole, IsOver, Adds, Lists}
use Rattle.asl_backward_flow.specs.Follows.{Read, At, IsReady, Added, Stopped, AddedBelow}
use Rattle.asl_backward_flow.proofs.SpanLaws.{below_or_at}
use Rattle.asl_backward_flow.proofs.Steps.{has_still, adds_same, adds_on, lists_same, lists_on}

-- an addition is one of more
pub adds_as : (a b : Table) (these all : ℕ → ℕ → Lock → Type 0) → ((p q : ℕ) (m : Lock) → these p q m → all p q m) → Adds a b these → Adds a b all
adds_as a b these all within x = record {
  grows = x.grows;
  only = record {
    facts = λ p q m h. ⊎_elim (λ o. inl o) (λ n. inr (within p q m n)) (x.only.facts p q m h);
    names = λ p m h. ⊎_elim (λ o. inl o) (λ n. inr (n.0, within p n.0 m n.1)) (x.only.names p m h);
  };
}

pub ready_still : (r : Read) (a b : Table) (these : ℕ → ℕ → Lock → Type 0) → IsReady r a → Adds a b these → IsWhole b → IsReady r b
ready_still r a b these ready adds whole = record {
  regions = adds.grows.regions ∙ ready.regions;
  count = adds.grows.parts ∙ ready.count;
  points = λ p q h. adds.grows.points p q (ready.points p q h);
  whole = whole;
}

pub stopped_none : (t : Table) (these : ℕ → ℕ → Lock → Type 0) (fault : AddFault) → fault ≡ OutOfMemory → Stopped t t these fault
stopped_none t these fault is = subst (Stopped t t these) (sym is) (record { adds = adds_same t these; over = tt })

pub added_none : (r : Read) (t : Table) (these : ℕ → ℕ → Lock → Type 0) → IsReady r t → ((p q : ℕ) (m : Lock) → these p q m → ⊥) → Added r t t these
added_none r t these ready none = record { ready = ready; has = λ p q m h. absurd (none p q m h); adds = adds_same t these; lists = lists_same t }

-- the locks of a list are added at a point
pub added_list : (r : Read) (old new : Table) (part pc : ℕ) (locks : List Lock) (these : Lock → Type 0)
    → ((m : Lock) → IsOne locks m → these m) → ((m : Lock) → these m → IsOne locks m) → IsReady r old
    → (result : Result Unit AddFault)
    → OnOk result (IsWhole new) → OnOk result ((m : Lock) → IsOne locks m → HasFact new part pc m) → OnOk result (Lists old new)
    → Adds old new (λ p q m. (p ≡ part) × (q ≡ pc) × IsOne locks m)
    → OnOk result (Added r old new (At part pc these))
added_list r old new part pc locks these to from ready (Ok u) whole has lists adds =
    let mine = adds_as old new _ (At part pc these) (λ p q m h. (h.0, h.1, to m h.2)) adds in
    record {
      ready = ready_still r old new _ ready adds whole;
      has = λ p q m h. subst (λ x. HasFact new x q m) (sym h.0) (subst (λ y. HasFact new part y m) (sym h.1) (has m (from m h.2)));
      adds = mine;
      lists = lists;
    }
added_list r old new part pc locks these to from ready (Err e) whole has lists adds = tt

pub stopped_list : (old new : Table) (part pc : ℕ) (locks : List Lock) (these : Lock → Type 0)
    → ((m : Lock) → IsOne locks m → these m)
    → (result : Result Unit AddFault) → IfErr result (IsOver new)
    → Adds old new (λ p q m. (p ≡ part) × (q ≡ pc) × IsOne locks m)
    → IfErr result (Stopped old new (At part pc these))
stopped_list old new part pc locks these to (Ok u) over adds = tt
stopped_list old new part pc locks these to (Err e) over adds =
    record { adds = adds_as old new _ (At part pc these) (λ p q m h. (h.0, h.1, to m h.2)) adds; over = over }

-- two additions, one after the other
pub added_on : (r : Read) (a b c : Table) (these those all : ℕ → ℕ → Lock → Type 0)
    → ((p q : ℕ) (m : Lock) → these p q m → all p q m) → ((p q : ℕ) (m : Lock) → those p q m → all p q m) → ((p q : ℕ) (m : Lock) → all p q m → these p q m ⊎ those p q m)
    → Added r a b these → Added r b c those → Added r a c all
added_on r a b c these those all left right either x y = record {
  ready = y.ready;
  has = λ p q m h. ⊎_elim (λ k. has_still b c y.adds.grows p q m (x.has p q m k)) (λ k. y.has p q m k) (either p q m h);
  adds = adds_on a b c these those all left right x.adds y.adds;
  lists = lists_on a b c x.lists y.lists;
}

pub stopped_on : (r : Read) (a b c : Table) (these those all : ℕ → ℕ → Lock → Type 0) (fault : AddFault)
    → ((p q : ℕ) (m : Lock) → these p q m → all p q m) → ((p q : ℕ) (m : Lock) → those p q m → all p q m)
    → Added r a b these → Stopped b c those fault → Stopped a c all fault
stopped_on r a b c these those all fault left right x y = record { adds = adds_on a b c these those all left right x.adds y.adds; over = y.over }

pub stopped_as : (a b : Table) (these all : ℕ → ℕ → Lock → Type 0) (fault : AddFault) → ((p q : ℕ) (m : Lock) → these p q m → all p q m) → Stopped a b these fault → Stopped a b all fault
stopped_as a b these all fault within x = record { adds = adds_as a b these all within x.adds; over = x.over }

pub added_as : (r : Read) (a b : Table) (these all : ℕ → ℕ → Lock → Type 0) → ((p q : ℕ) (m : Lock) → these p q m → all p q m) → ((p q : ℕ) (m : Lock) → all p q m → these p q m) → Added r a b these → Added r a b all
added_as r a b these all within back x = record { ready = x.ready; has = λ p q m h. x.has p q m (back p q m h); adds = adds_as a b these all within x.adds; lists = x.lists }

-- loops
pub below_begin : (r : Read) (t : Table) (each : ℕ → ℕ → ℕ → Lock → Type 0) (k : ℕ) → ((j p q : ℕ) (m : Lock) → j < k → each j p q m → ⊥) → IsReady r t → AddedBelow r t t each k
below_begin r t each k none ready = record { ready = ready; adds = adds_same t _; lists = lists_same t; has = λ j lt p q m h. absurd (none j p q m lt h) }

pub below_more : (r : Read) (initial now new : Table) (each : ℕ → ℕ → ℕ → Lock → Type 0) (k : ℕ) (these : ℕ → ℕ → Lock → Type 0)
    → ((p q : ℕ) (m : Lock) → these p q m → each k p q m) → ((p q : ℕ) (m : Lock) → each k p q m → these p q m)
    → AddedBelow r initial now each k → Added r now new these → AddedBelow r initial new each (k + 1)
below_more r initial now new each k these to from so x = record {
  ready = x.ready;
  adds = adds_on initial now new _ these _ (λ p q m h. h) (λ p q m h. (k, to p q m h)) so.adds x.adds;
  lists = lists_on initial now new so.lists x.lists;
  has = λ j lt p q m h.
      ⊎_elim
      (λ below. has_still now new x.adds.grows p q m (so.has j below p q m h))
      (λ (e : j ≡ k). x.has p q m (from p q m (subst (λ i. each i p q m) e h)))
      (below_or_at j k lt);
}

pub below_skip : (r : Read) (initial now : Table) (each : ℕ → ℕ → ℕ → Lock → Type 0) (k : ℕ) → ((p q : ℕ) (m : Lock) → each k p q m → ⊥) → AddedBelow r initial now each k → AddedBelow r initial now each (k + 1)
below_skip r initial now each k none so = record {
  ready = so.ready;
  adds = so.adds;
  lists = so.lists;
  has = λ j lt p q m h. ⊎_elim (λ below. so.has j below p q m h) (λ (e : j ≡ k). absurd (none p q m (subst (λ i. each i p q m) e h))) (below_or_at j k lt);
}

pub below_end : (r : Read) (initial now : Table) (each : ℕ → ℕ → ℕ → Lock → Type 0) (k : ℕ) (all : ℕ → ℕ → Lock → Type 0)
    → ((j p q : ℕ) (m : Lock) → each j p q m → all p q m) → ((p q : ℕ) (m : Lock) → all p q m → (j : ℕ) × (j < k) × each j p q m)
    → AddedBelow r initial now each k → Added r initial now all
below_end r initial now each k all to from so = record {
  ready = so.ready;
  has = λ p q m h. let at = from p q m h in so.has at.0 at.1 p q m at.2;
  adds = adds_as initial now _ all (λ p q m h. to h.0 p q m h.1) so.adds;
  lists = so.lists;
}

pub below_stopped : (r : Read) (initial now new : Table) (each : ℕ → ℕ → ℕ → Lock → Type 0) (k : ℕ) (these all : ℕ → ℕ → Lock → Type 0) (fault : AddFault)
    → ((j p q : ℕ) (m : Lock) → each j p q m → all p q m) → ((p q : ℕ) (m : Lock) → these p q m → all p q m)
    → AddedBelow r initial now each k → Stopped now new these fault → Stopped initial new all fault
below_stopped r initial now new each k these all fault to is so x = record {
  adds = adds_on initial now new _ these all (λ p q m h. to h.0 p q m h.1) is so.adds x.adds;
  over = x.over;
}

-- an allocation fails between two turns
pub below_refused : (r : Read) (initial now : Table) (each : ℕ → ℕ → ℕ → Lock → Type 0) (k : ℕ) (all : ℕ → ℕ → Lock → Type 0) → ((j p q : ℕ) (m : Lock) → each j p q m → all p q m)
    → AddedBelow r initial now each k → (fault : AddFault) → fault ≡ OutOfMemory → Stopped initial now all fault
below_refused r initial now each k all to so fault is = subst (Stopped initial now all) (sym is) (record { adds = adds_as initial now _ all (λ p q m h. to h.0 p q m h.1) so.adds; over = tt })
