-- The pcs from which control continues to one.
use Rattle.std.proofs.Common.{◌≡◌, ◌⊎◌, ⊎_elim, ℕ, zero, suc, Bool, ◌+◌, ◌<◌, ◌≤◌, List, [], ◌∷◌, ◌++◌, Some, length, slice_get, inl, inr, refl, ap, sym, subst, ◌∙◌, arith}
use Rattle.std.proofs.lemmas.Bool.Decides.{eqb_tells}
use Rattle.std.proofs.lemmas.Option.{slice_get_within}
use Rattle.asl_code.specs.declared.lock.Lock.{Lock}
use Rattle.asl_lane_sets.specs.NumberSet.{IsIn}
use Rattle.asl_backward_flow.specs.declared.found.AddFault.{AddFault}
use Rattle.asl_backward_flow.specs.Graph.{IsEdge}
use Rattle.asl_backward_flow.specs.Found.{Table, HasFact, Grows, IsAt, IsNamed, list_at, locks_of}
use Rattle.asl_backward_flow.specs.Follows.{Read, IsRead, IsAtPoint, IsLinkedOf, IsBack, IsChosen, IsLinkedAt, IsLinkedBack, AreBefore, At, Added, Stopped, AddedBelow}
use Rattle.asl_backward_flow.proofs.Adding.{below_more, below_end, below_stopped}
use Rattle.asl_backward_flow.proofs.Each.{to_point, from_point, at_point}
use Rattle.asl_backward_flow.proofs.Fronts.{fronts_as, named_later, named_before}
use Rattle.asl_backward_flow.proofs.Sets.{some_same, at_front, at_push, at_last}
use Rattle.asl_backward_flow.proofs.SpanLaws.{below_or_at}
use Rattle.asl_backward_flow.proofs.Steps.{has_still}

nothing : (k q : ℕ) → slice_get {X = ℕ} [] k ≡ Some q → ⊥
nothing k q e = cc

module _ (r : Read) (part pc : ℕ) where
  abbrev IsLast : ℕ → Type 0
  IsLast q = IsEdge r.lowered pc q × (pc ≡ q + 1)

  -- there is no pc before, or it is none of the region, or control does not continue from there
  pub last_none : (pcs : List ℕ) → pcs ≡ [] → ((q : ℕ) → IsAtPoint r part q → IsLast q → ⊥) → AreBefore r part pc IsLast pcs
  last_none pcs is none = record {
    only = λ q at. absurd (nothing at.0 q (ap (λ l. slice_get l at.0) (sym is) ∙ at.1));
    all = λ q point last. absurd (none q point last);
  }

  pub last_one : (at : ℕ) (pcs : List ℕ) → pc ≡ at + 1 → pcs ≡ at ∷ [] → IsAtPoint r part at → IsEdge r.lowered pc at → AreBefore r part pc IsLast pcs
  last_one at pcs next is point edge = record {
    only = λ q h. only_one q h.0 (ap (λ l. slice_get l h.0) (sym is) ∙ h.1);
    all = λ q p last. (0, ap (λ l. slice_get l 0) is ∙ ap Some (let e = last.1 in omega (arith, next, e)));
  }
    where
      only_one : (q k : ℕ) → slice_get (at ∷ []) k ≡ Some q → IsAtPoint r part q × IsEdge r.lowered pc q
      only_one q zero e = let same : at ≡ q = some_same e in (subst (IsAtPoint r part) same point, subst (IsEdge r.lowered pc) same edge)
      only_one q (suc k) e = absurd (nothing k q e)

  -- the rows of jumps, one after the other
  abbrev pub Below : List ℕ → ℕ → ℕ → Type 0
  Below row k q = IsLast q ⊎ ((j : ℕ) × (j < k) × (slice_get row j ≡ Some q))

  pub jumps_begin : (row pcs : List ℕ) → AreBefore r part pc IsLast pcs → AreBefore r part pc (Below row 0) pcs
  jumps_begin row pcs so = record { only = so.only; all = λ q point h. ⊎_elim (λ l. so.all q point l) (λ j. absurd (omega (arith, j.1))) h }

  pub jumps_more : (row pcs more : List ℕ) (k from : ℕ) → slice_get row k ≡ Some from → more ≡ pcs ++ from ∷ [] → IsAtPoint r part from → IsEdge r.lowered pc from → AreBefore r part pc (Below row k) pcs → AreBefore r part pc (Below row (k + 1)) more
  jumps_more row pcs more k from here is point edge so = subst (AreBefore r part pc (Below row (k + 1))) (sym is) (record {
    only = λ q at. ⊎_elim (λ o. so.only q (at.0, o)) (λ e. (subst (IsAtPoint r part) (sym e) point, subst (IsEdge r.lowered pc) (sym e) edge)) (at_push pcs from at.0 q at.1);
    all = λ q p h.
        ⊎_elim
        (λ l. front q (so.all q p (inl l)))
        (λ (j : (j : ℕ) × (j < k + 1) × (slice_get row j ≡ Some q)).
        ⊎_elim
        (λ lt. front q (so.all q p (inr (j.0, lt, j.2))))
        (λ (e : j.0 ≡ k). (length pcs, at_last pcs from ∙ sym here ∙ ap (slice_get row) (sym e) ∙ j.2))
        (below_or_at j.0 k j.1))
        h;
  })
    where
      front : (q : ℕ) → IsAt pcs q → IsAt (pcs ++ from ∷ []) q
      front q at = (at.0, at_front pcs (from ∷ []) at.0 q at.1)

  pub jumps_skip : (row pcs : List ℕ) (k from : ℕ) → slice_get row k ≡ Some from → ¬ IsAtPoint r part from → AreBefore r part pc (Below row k) pcs → AreBefore r part pc (Below row (k + 1)) pcs
  jumps_skip row pcs k from here not so = record {
    only = so.only;
    all = λ q p h.
        ⊎_elim
        (λ l. so.all q p (inl l))
        (λ (j : (j : ℕ) × (j < k + 1) × (slice_get row j ≡ Some q)).
        ⊎_elim
        (λ lt. so.all q p (inr (j.0, lt, j.2)))
        (λ (e : j.0 ≡ k). let same : q ≡ from = some_same (sym j.2 ∙ ap (slice_get row) e ∙ here) in absurd (not (subst (IsAtPoint r part) same p)))
        (below_or_at j.0 k j.1))
        h;
  }

  pub jumps_end : IsRead r → (row pcs : List ℕ) (k : ℕ) → row ≡ list_at r.jumps pc → length row ≤ k → AreBefore r part pc (Below row k) pcs → AreBefore r part pc (IsEdge r.lowered pc) pcs
  jumps_end read row pcs k is end so = record {
    only = so.only;
    all = λ q p edge.
        ⊎_elim
        (λ t. so.all q p (inl (edge, t.1)))
        (λ t.
        let at = read.jumps.all pc q (slice_get_within r.lowered.code q edge.0 edge.1) (edge, t.1) in
        let here : slice_get row at.0 ≡ Some q = ap (λ l. slice_get l at.0) is ∙ at.1 in
        let lt = slice_get_within row at.0 q here in
        so.all q p (inr (at.0, omega (arith, lt, end), here)))
        (eqb_tells pc (q + 1));
  }

  -- no jumps are there
  pub jumps_none : IsRead r → (pcs : List ℕ) → ((q : ℕ) → IsAt (list_at r.jumps pc) q → ⊥) → AreBefore r part pc IsLast pcs → AreBefore r part pc (IsEdge r.lowered pc) pcs
  jumps_none read pcs none so = record {
    only = so.only;
    all = λ q p edge. ⊎_elim (λ t. so.all q p (edge, t.1)) (λ t. absurd (none q (read.jumps.all pc q (slice_get_within r.lowered.code q edge.0 edge.1) (edge, t.1)))) (eqb_tells pc (q + 1));
  }

-- what locks become over the instructions at these pcs
abbrev pub each_back : Read → ℕ → (Lock → Type 0) → List ℕ → ℕ → ℕ → ℕ → Lock → Type 0
each_back r part Such pcs j p q m = (p ≡ part) × (slice_get pcs j ≡ Some q) × IsAtPoint r p q × IsLinkedOf r p q Such m

pub linked_as : (r : Read) (p q : ℕ) (Such All : Lock → Type 0) → ((l : Lock) → Such l → All l) → (m : Lock) → IsLinkedOf r p q Such m → IsLinkedOf r p q All m
linked_as r p q Such All within m h = fronts_as _ _ (λ n k. (k.0, within k.0 k.1, k.2)) m h

-- what a lock becomes over each instruction before a pc is what it becomes over one of them
pub linked_before : (r : Read) (a b : Table) (part pc q : ℕ) → Grows a b → IsAtPoint r part q → IsEdge r.lowered pc q → (d : Lock) → IsLinkedBack r a part pc d → IsLinkedAt r b part q d
linked_before r a b part pc q grows point edge d done x y m h =
    subst (λ p. HasFact b p y m) (sym h.0) (subst (λ n. HasFact b part n m) (sym h.1) (has_still a b grows part q m (done part q m (refl, edge, point, h.2))))

module _ (r : Read) (initial now new : Table) (part : ℕ) (set : List Bool) (Done : Lock → Type 0) (chosen : IsChosen (locks_of initial part) set Done) (pcs : List ℕ) (j q : ℕ) (at : slice_get pcs j ≡ Some q) (point : IsAtPoint r part q)
    (so : AddedBelow r initial now (each_back r part (IsNamed (locks_of initial part) set) pcs) j) where
  abbrev First : Lock → Type 0
  First = IsNamed (locks_of initial part) set

  abbrev Then : Lock → Type 0
  Then = IsNamed (locks_of now part) set

  to_each : (p y : ℕ) (m : Lock) → At part q (IsLinkedOf r part q Then) p y m → each_back r part First pcs j p y m
  to_each p y m h = (
    h.0,
    at ∙ ap Some (sym h.1),
    at_point r part q point p y h.0 h.1,
    to_point r part q (λ a b. IsLinkedOf r a b First) p y m
        (h.0, h.1, linked_as r part q Then First (named_before initial now part so.adds.grows (IsIn set) chosen.named) m h.2),
  )

  of_each : (p y : ℕ) (m : Lock) → each_back r part First pcs j p y m → At part q (IsLinkedOf r part q Then) p y m
  of_each p y m h =
      let here = from_point r part q (λ a b. IsLinkedOf r a b First) p y m h.0 (some_same (sym h.1 ∙ at)) h.3 in
      (here.0, here.1, linked_as r part q First Then (named_later initial now part so.adds.grows (IsIn set)) m here.2)

  pub back_more : Added r now new (At part q (IsLinkedOf r part q Then)) → AddedBelow r initial new (each_back r part First pcs) (j + 1)
  back_more x = below_more r initial now new (each_back r part First pcs) j _ to_each of_each so x

  pub back_stopped : (pc : ℕ) (fault : AddFault) → AreBefore r part pc (IsEdge r.lowered pc) pcs → Stopped now new (At part q (IsLinkedOf r part q Then)) fault → Stopped initial new (IsBack r part pc First) fault
  back_stopped pc fault before x = below_stopped r initial now new (each_back r part First pcs) j _ (IsBack r part pc First) fault all_back
      (λ p y m h. all_back j p y m (to_each p y m h)) so x
    where
      all_back : (k p y : ℕ) (m : Lock) → each_back r part First pcs k p y m → IsBack r part pc First p y m
      all_back k p y m h = (h.0, (before.only y (k, h.1)).1, h.2, h.3)

pub back_end : (r : Read) (initial now : Table) (part pc j : ℕ) (Such : Lock → Type 0) (pcs : List ℕ) → AreBefore r part pc (IsEdge r.lowered pc) pcs → length pcs ≤ j
    → AddedBelow r initial now (each_back r part Such pcs) j → Added r initial now (IsBack r part pc Such)
back_end r initial now part pc j Such pcs before end so = below_end r initial now (each_back r part Such pcs) j (IsBack r part pc Such)
    (λ k p y m h. (h.0, (before.only y (k, h.1)).1, h.2, h.3))
    (λ p y m h.
    let at = before.all y (subst (λ x. IsAtPoint r x y) h.0 h.2) h.1 in
    let lt = slice_get_within pcs at.0 y at.1 in
    (at.0, omega (arith, lt, end), (h.0, at.1, h.2, h.3))) so
