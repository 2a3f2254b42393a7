-- The locks of a list that no lock of another covers, kept one by one.
use Rattle.std.proofs.Common.{◌≡◌, ◌↔◌, ◌<◌, ◌≤◌, ◌+◌, ℕ, zero, suc, List, [], ◌∷◌, ◌++◌, Some, length, take, get_or, slice_get, refl, ap, sym, ◌∙◌, subst, inl, inr, arith}
use Rattle.std.proofs.lemmas.Option.{same_Some}
use Rattle.std.specs.declared.cmp.Ordering.TheVariants.{Less}
use Rattle.asl_code.specs.declared.lock.Lock.{Lock}
use Rattle.asl_points_to.specs.Classes.{Classed}
use Rattle.asl_lock_expr.specs.Links.{IsOne}
use Rattle.asl_lock_expr.specs.Order.{lock_cmp, AreInOrder}
use Rattle.asl_emitter.specs.Lists.{Locks, IsReduced}
use Rattle.asl_emitter.proofs.Reducing.{one_of_more, more_of_one, ones_more}
use Rattle.asl_check.specs.Checked.{IsUnderOne}
use Rattle.asl_check.specs.Missing.{StandsBefore}
use Rattle.asl_check.specs.KnownLists.{StandInTurn, AreBare, AreBareNeeds, IsOnceMore}
use Rattle.std.proofs.Common.{Bool, true, false, ◌||◌, if◌then◌else◌}
use Rattle.std.proofs.Math.Bool.{or-true}
use Rattle.std.specs.List.{list_any}
use Rattle.indexmap.specs.IndexSet.{insert_key}
use Rattle.asl_code.specs.contracts.lock.LockPartialEq.TheImpl as lock_test
use Rattle.asl_code.proofs.Same.{same_lock, itself_lock}

-- ---- places in lists

-- one of the first locks stands at one of the first places
place_of : (xs : List Lock) (i : ℕ) (b : Lock) → IsOne (take i xs) b → (n : ℕ) × (n < i) × (slice_get xs n ≡ Some b)
place_of [] zero b o = absurd o
place_of [] (suc i) b o = absurd o
place_of (x ∷ xs) zero b o = absurd o
place_of (x ∷ xs) (suc i) b (inl e) = (0, omega arith, ap (λ (y : Lock). Some y) e)
place_of (x ∷ xs) (suc i) b (inr o) = let r = place_of xs i b o in (suc r.0, (let lt = r.1 in omega (arith, lt)), r.2)

-- more of a list has what less of it has
take_wider : (xs : List Lock) (m i : ℕ) (b : Lock) → m ≤ i → IsOne (take m xs) b → IsOne (take i xs) b
take_wider [] zero i b le o = absurd o
take_wider [] (suc m) i b le o = absurd o
take_wider (x ∷ xs) zero i b le o = absurd o
take_wider (x ∷ xs) (suc m) zero b le o = absurd (omega (arith, le))
take_wider (x ∷ xs) (suc m) (suc i) b le (inl e) = inl e
take_wider (x ∷ xs) (suc m) (suc i) b le (inr o) = inr (take_wider xs m i b (omega (arith, le)) o)

-- in a list in order, what stands at a place comes before what stands only later
before_later : (xs : List Lock) (n : ℕ) (a b : Lock) → AreInOrder xs → slice_get xs n ≡ Some a → ¬ IsOne (take (suc n) xs) b → IsOne xs b → lock_cmp a b ≡ Less
before_later [] n a b order at none o = absurd o
before_later (x ∷ xs) zero a b order at none (inl e) = absurd (none (inl e))
before_later (x ∷ xs) zero a b order at none (inr o) = subst (λ (y : Lock). lock_cmp y b ≡ Less) (same_Some _ _ at) (order.0 b o)
before_later (x ∷ xs) (suc n) a b order at none (inl e) = absurd (none (inl e))
before_later (x ∷ xs) (suc n) a b order at none (inr o) = before_later xs n a b order.1 at (λ u. none (inr u)) o

-- ---- what is kept of a list

stand_more : (locks bare : List Lock) (lock : Lock) → StandInTurn locks bare → ((b : Lock) → IsOne bare b → StandsBefore locks b lock) → StandInTurn locks (bare ++ lock ∷ [])
stand_more locks [] lock order all = ((λ b o. absurd o), tt)
stand_more locks (a ∷ bare) lock order all = (
  (λ b o. elim ((ones_more bare lock b).0 o) [ inl own ↦ order.0 b own | inr is ↦ subst (λ (y : Lock). StandsBefore locks a y) is (all a (inl refl)) ]),
  stand_more locks bare lock order.1 (λ b o. all b (inr o)),
)

module _ (c : Classed) (f : ℕ) (list locks : List Lock) where
  abbrev pub AreKept : ℕ → List Lock → Type 0
  AreKept i bare = (a : Lock) → IsOne bare a ↔ (IsOne (take i locks) a × (¬ IsUnderOne c f list a))

  module _ (i : ℕ) (lock : Lock) (bare : List Lock) (lt : i < length locks) (is : get_or locks i lock ≡ lock) (kept : AreKept i bare) where
    -- the next is covered
    pub kept_under : IsUnderOne c f list lock → AreKept (i + 1) bare
    kept_under under a = (
      λ o. (let k = (kept a).0 o in (more_of_one locks i lock a lt (inl k.0), k.1)),
      λ k. elim (one_of_more locks i lock a lt k.0) [
        | inl p ↦ (kept a).1 (p, k.1)
        | inr e ↦ absurd (k.1 (subst (IsUnderOne c f list) (sym is ∙ e) under))
      ],
    )

    -- the next is kept already
    pub kept_again : IsOne bare lock → AreKept (i + 1) bare
    kept_again among a = (
      λ o. (let k = (kept a).0 o in (more_of_one locks i lock a lt (inl k.0), k.1)),
      λ k. elim (one_of_more locks i lock a lt k.0) [
        | inl p ↦ (kept a).1 (p, k.1)
        | inr e ↦ subst (IsOne bare) (sym is ∙ e) among
      ],
    )

    -- the next is kept
    pub kept_next : ¬ IsUnderOne c f list lock → AreKept (i + 1) (bare ++ lock ∷ [])
    kept_next alone a = (
      λ o. elim ((ones_more bare lock a).0 o) [
        | inl p ↦ (let k = (kept a).0 p in (more_of_one locks i lock a lt (inl k.0), k.1))
        | inr e ↦ (more_of_one locks i lock a lt (inr (is ∙ e)), subst (λ (x : Lock). ¬ IsUnderOne c f list x) e alone)
      ],
      λ k. elim (one_of_more locks i lock a lt k.0) [
        | inl p ↦ (ones_more bare lock a).1 (inl ((kept a).1 (p, k.1)))
        | inr e ↦ (ones_more bare lock a).1 (inr (sym is ∙ e))
      ],
    )

    -- it first stands after all that are kept
    pub stand_next : ¬ IsUnderOne c f list lock → ¬ IsOne bare lock → StandInTurn locks bare → StandInTurn locks (bare ++ lock ∷ [])
    stand_next alone new order =
        stand_more locks bare lock order (λ b o.
        let r = place_of locks i b ((kept b).0 o).0 in
        let early = r.1 in
        (r.0, r.2, λ u. new ((kept lock).1 (take_wider locks (suc r.0) i lock (omega (arith, early)) u, alone))))

-- of the free locks of a set, in order, these are the free ones that are not covered
pub bare_of_free : (c : Classed) (f : ℕ) (list : List Lock) (given : Locks) (free bare : List Lock) → IsReduced c f given free → AreBare c f list free bare → AreBareNeeds c f list given bare
bare_of_free c f list given free bare reduced h = record {
  kept = λ a. (
    λ o. (let k = (h.kept a).0 o in (reduced.kept a k.0, k.1)),
    λ k. (h.kept a).1 (reduced.all a k.0.0 k.0.1, k.1),
  );
  order = in_order bare h.order (λ b o. ((h.kept b).0 o).0);
}
  where
    in_order : (bare : List Lock) → StandInTurn free bare → ((b : Lock) → IsOne bare b → IsOne free b) → AreInOrder bare
    in_order [] stand own = tt
    in_order (a ∷ bare) stand own = (
      (λ b o. (let r = stand.0 b o in before_later free r.0 a b reduced.order r.1 r.2 (own b (inr o)))),
      in_order bare stand.1 (λ b o. own b (inr o)),
    )

-- ---- a set of locks that are found by their hash

one_found : (a : Lock) (xs : List Lock) → list_any (lock_test.ghosts.eq a) xs ≡ true → IsOne xs a
one_found a [] h = absurd cc
one_found a (x ∷ xs) h = by (lock_test.ghosts.eq a x) refl (λ e. one_found a xs (sym (ap (λ c. c || list_any (lock_test.ghosts.eq a) xs) e) ∙ h))
  where
    by : (b : Bool) → lock_test.ghosts.eq a x ≡ b → (lock_test.ghosts.eq a x ≡ false → IsOne xs a) → IsOne (x ∷ xs) a
    by true e rest = inl (sym (same_lock a x e))
    by false e rest = inr (rest e)

found_one : (a : Lock) (xs : List Lock) → IsOne xs a → list_any (lock_test.ghosts.eq a) xs ≡ true
found_one a [] o = absurd o
found_one a (x ∷ xs) (inl e) =
    ap (λ y. lock_test.ghosts.eq a y || list_any (lock_test.ghosts.eq a) xs) e ∙ ap (λ b. b || list_any (lock_test.ghosts.eq a) xs) (itself_lock a)
found_one a (x ∷ xs) (inr o) = ap (λ b. lock_test.ghosts.eq a x || b) (found_one a xs o) ∙ or-true (lock_test.ghosts.eq a x)

pub once_more : (old new : List Lock) (a : Lock) → new ≡ insert_key lock_test.ghosts.eq old a → IsOnceMore old a new
once_more old new a is = by (list_any (lock_test.ghosts.eq a) old) refl
  where
    by : (b : Bool) → list_any (lock_test.ghosts.eq a) old ≡ b → IsOnceMore old a new
    by true e = inl (one_found a old e, is ∙ ap (λ c. if c then old else old ++ a ∷ []) e)
    by false e = inr (
      (λ o. (let among = found_one a old o in let never : true ≡ false = sym among ∙ e in cc)),
      is ∙ ap (λ c. if c then old else old ++ a ∷ []) e,
    )
