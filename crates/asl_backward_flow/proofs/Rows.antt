-- Rows of pcs, of which one has one more at its end.
use Rattle.std.proofs.Common.{◌≡◌, ◌≢◌, ◌⊎◌, ⊎_elim, ℕ, zero, suc, ◌+◌, ◌<◌, List, [], ◌∷◌, ◌++◌, Some, length, map, slice_get, slice_set, get_or, replicate, inl, inr, refl, ap, sym, subst, ◌∙◌, length-set, arith}
use Rattle.std.proofs.lemmas.Bool.Decides.{eqb_tells}
use Rattle.std.proofs.lemmas.List.{length-map, length-replicate}
use Rattle.asl_backward_flow.specs.Found.{IsAt, list_at}
use Rattle.asl_backward_flow.specs.Graph.{HasRows, HasSome}
use Rattle.asl_backward_flow.proofs.Sets.{at_front, at_push, at_last}
use Rattle.asl_backward_flow.proofs.ReplacedLists.{map_set}
use Rattle.asl_backward_flow.proofs.SpanLaws.{below_or_at}

pub row_of : {X : Type 0} (items : X → List ℕ) (xs : List X) (n : ℕ) (d : X) → n < length xs → list_at (map items xs) n ≡ items (get_or xs n d)
row_of items [] n d lt = absurd (omega arith)
row_of items (x ∷ xs) zero d lt = refl
row_of items (x ∷ xs) (suc n) d lt = row_of items xs n d (omega arith)

-- a row with one more at its end
pub row_pushed : {X : Type 0} (items : X → List ℕ) (xs : List X) (n : ℕ) (old new : X) (pc : ℕ) → n < length xs → old ≡ get_or xs n old → items new ≡ items old ++ pc ∷ []
    → map items (slice_set xs n new) ≡ slice_set (map items xs) n (list_at (map items xs) n ++ pc ∷ [])
row_pushed items xs n old new pc lt is pushed =
    map_set items xs n new ∙ ap (slice_set (map items xs) n) (pushed ∙ ap (λ r. r ++ pc ∷ []) (ap items is ∙ sym (row_of items xs n old lt)))

row_here : (rows : List (List ℕ)) (n : ℕ) (new : List ℕ) → n < length rows → list_at (slice_set rows n new) n ≡ new
row_here [] n new lt = absurd (omega arith)
row_here (r ∷ rows) zero new lt = refl
row_here (r ∷ rows) (suc n) new lt = row_here rows n new (omega arith)

row_else : (rows : List (List ℕ)) (n m : ℕ) (new : List ℕ) → m ≢ n → list_at (slice_set rows n new) m ≡ list_at rows m
row_else [] n m new h = refl
row_else (r ∷ rows) zero zero new h = absurd (h refl)
row_else (r ∷ rows) zero (suc m) new h = refl
row_else (r ∷ rows) (suc n) zero new h = refl
row_else (r ∷ rows) (suc n) (suc m) new h = row_else rows n m new (λ e. h (ap suc e))

-- what stands in rows of which one has one more
pub at_more : (rows : List (List ℕ)) (n pc : ℕ) → n < length rows → (m x : ℕ) → IsAt (list_at (slice_set rows n (list_at rows n ++ pc ∷ [])) m) x → IsAt (list_at rows m) x ⊎ ((m ≡ n) × (x ≡ pc))
at_more rows n pc lt m x at =
    ⊎_elim
    (λ t.
    let here : list_at (slice_set rows n (list_at rows n ++ pc ∷ [])) m ≡ list_at rows m ++ pc ∷ [] =
    ap (list_at (slice_set rows n (list_at rows n ++ pc ∷ []))) t.1 ∙ row_here rows n (list_at rows n ++ pc ∷ []) lt ∙ ap (λ k. list_at rows k ++ pc ∷ []) (sym t.1) in
    ⊎_elim (λ e. inl (at.0, e)) (λ e. inr (t.1, e)) (at_push (list_at rows m) pc at.0 x (ap (λ r. slice_get r at.0) (sym here) ∙ at.1)))
    (λ t. inl (at.0, ap (λ r. slice_get r at.0) (sym (row_else rows n m (list_at rows n ++ pc ∷ []) t.1)) ∙ at.1))
    (eqb_tells m n)

pub at_still : (rows : List (List ℕ)) (n pc : ℕ) → n < length rows → (m x : ℕ) → IsAt (list_at rows m) x → IsAt (list_at (slice_set rows n (list_at rows n ++ pc ∷ [])) m) x
at_still rows n pc lt m x at =
    ⊎_elim
    (λ t.
    let here : list_at (slice_set rows n (list_at rows n ++ pc ∷ [])) m ≡ list_at rows m ++ pc ∷ [] =
    ap (list_at (slice_set rows n (list_at rows n ++ pc ∷ []))) t.1 ∙ row_here rows n (list_at rows n ++ pc ∷ []) lt ∙ ap (λ k. list_at rows k ++ pc ∷ []) (sym t.1) in
    (at.0, ap (λ r. slice_get r at.0) here ∙ at_front (list_at rows m) (pc ∷ []) at.0 x at.1))
    (λ t. (at.0, ap (λ r. slice_get r at.0) (row_else rows n m (list_at rows n ++ pc ∷ []) t.1) ∙ at.1))
    (eqb_tells m n)

pub at_new : (rows : List (List ℕ)) (n pc : ℕ) → n < length rows → IsAt (list_at (slice_set rows n (list_at rows n ++ pc ∷ [])) n) pc
at_new rows n pc lt = (length (list_at rows n), ap (λ r. slice_get r (length (list_at rows n))) (row_here rows n (list_at rows n ++ pc ∷ []) lt) ∙ at_last (list_at rows n) pc)

pub row_empty : (count n : ℕ) → list_at {A = ℕ} (replicate count []) n ≡ []
row_empty zero n = refl
row_empty (suc count) zero = refl
row_empty (suc count) (suc n) = row_empty count n

pub rows_begin : (rows : List (List ℕ)) (count : ℕ) (related : ℕ → ℕ → Type 0) → rows ≡ replicate count [] → HasRows rows related 0
rows_begin rows count related is = record {
  only = λ n pc at.
      let none : slice_get {X = ℕ} [] at.0 ≡ Some pc = ap (λ r. slice_get r at.0) (sym (ap (λ rs. list_at rs n) is ∙ row_empty count n)) ∙ at.1 in
      absurd (nothing at.0 pc none);
  all = λ n pc lt. absurd (omega arith);
}
  where
    nothing : (n x : ℕ) → slice_get {X = ℕ} [] n ≡ Some x → ⊥
    nothing n x e = cc

-- the next pc is related to nothing, or to one number
pub rows_skip : (rows : List (List ℕ)) (related : ℕ → ℕ → Type 0) (pc : ℕ) → HasRows rows related pc → ((n : ℕ) → ¬ related n pc) → HasRows rows related (pc + 1)
rows_skip rows related pc has none = record {
  only = λ n x at. let old = has.only n x at in let lt = old.0 in (omega arith, old.1);
  all = λ n x lt r. ⊎_elim (λ below. has.all n x below r) (λ (e : x ≡ pc). absurd (none n (subst (related n) e r))) (below_or_at x pc lt);
}

pub rows_more : (rows : List (List ℕ)) (related : ℕ → ℕ → Type 0) (pc number : ℕ) → number < length rows → HasRows rows related pc → related number pc → ((n : ℕ) → related n pc → n ≡ number)
    → HasRows (slice_set rows number (list_at rows number ++ pc ∷ [])) related (pc + 1)
rows_more rows related pc number lt has is one = record {
  only = λ n x at.
      ⊎_elim
      (λ old. let was = has.only n x old in let below = was.0 in (omega arith, was.1))
      (λ t. let e = t.1 in (omega arith, subst (related n) (sym t.1) (subst (λ k. related k pc) (sym t.0) is)))
      (at_more rows number pc lt n x at);
  all = λ n x below r.
      ⊎_elim
      (λ old. at_still rows number pc lt n x (has.all n x old r))
      (λ (e : x ≡ pc).
      let same : n ≡ number = one n (subst (related n) e r) in
      subst (λ k. IsAt (list_at (slice_set rows number (list_at rows number ++ pc ∷ [])) k) x) (sym same)
      (subst (IsAt (list_at (slice_set rows number (list_at rows number ++ pc ∷ [])) number)) (sym e) (at_new rows number pc lt)))
      (below_or_at x pc below);
}

-- rows keep their number
pub as_many : {X : Type 0} (items : X → List ℕ) (old new : List X) (n : ℕ) (r : List ℕ) → map items new ≡ slice_set (map items old) n r → length old ≡ length new
as_many items old new n r made =
    sym (length-map old items) ∙ sym (length-set (map items old) n r) ∙ sym (ap length made) ∙ length-map new items

pub as_many_empty : {X : Type 0} (items : X → List ℕ) (new : List X) (n : ℕ) → map items new ≡ replicate n [] → n ≡ length new
as_many_empty items new n made = sym (length-replicate n []) ∙ sym (ap length made) ∙ length-map new items

pub some_begin : (rows : List (List ℕ)) (related : ℕ → ℕ → Type 0) (pc : ℕ) → HasRows rows related pc → HasSome rows related pc []
some_begin rows related pc has = record {
  only = λ n x at. let old = has.only n x at in let lt = old.0 in (omega arith, old.1);
  below = has.all;
  here = λ n at. absurd (nothing at.0 n at.1);
}
  where
    nothing : (k n : ℕ) → slice_get {X = ℕ} [] k ≡ Some n → ⊥
    nothing k n e = cc

pub some_more : (rows new : List (List ℕ)) (related : ℕ → ℕ → Type 0) (pc number : ℕ) (added : List ℕ) → number < length rows → related number pc
    → new ≡ slice_set rows number (list_at rows number ++ pc ∷ []) → HasSome rows related pc added → HasSome new related pc (added ++ number ∷ [])
some_more rows new related pc number added lt is made has = subst (λ r. HasSome r related pc (added ++ number ∷ [])) (sym made) (record {
  only = λ n x at.
      ⊎_elim
      (λ old. has.only n x old)
      (λ t. let e = t.1 in (omega arith, subst (related n) (sym t.1) (subst (λ k. related k pc) (sym t.0) is)))
      (at_more rows number pc lt n x at);
  below = λ n x b r. at_still rows number pc lt n x (has.below n x b r);
  here = λ n at.
      ⊎_elim
      (λ old. at_still rows number pc lt n pc (has.here n (at.0, old)))
      (λ (e : n ≡ number). subst (λ k. IsAt (list_at (slice_set rows number (list_at rows number ++ pc ∷ [])) k) pc) (sym e) (at_new rows number pc lt))
      (at_push added number at.0 n at.1);
})

pub some_end : (rows : List (List ℕ)) (related : ℕ → ℕ → Type 0) (pc : ℕ) (added : List ℕ) → HasSome rows related pc added → ((n : ℕ) → related n pc → IsAt added n) → HasRows rows related (pc + 1)
some_end rows related pc added has full = record {
  only = has.only;
  all = λ n x lt r. ⊎_elim (λ b. has.below n x b r) (λ (e : x ≡ pc). subst (IsAt (list_at rows n)) (sym e) (has.here n (full n (subst (related n) e r)))) (below_or_at x pc lt);
}
