-- Lanes in two parts: the first four, and those after them.
use Rattle.std.proofs.Common.{◌≡◌, ◌⊎◌, ◌↔◌, ℕ, ◌+◌, ◌-◌, ◌^◌, ◌<◌, ◌≤◌, ◌++◌, List, length, get_or, bit_or, refl, sym, ap, subst, ◌∙◌, inl, inr, arith, length-append, take, drop, ⊎_elim}
use Rattle.std.proofs.Math.Seq.{take-append_seam}
use Rattle.std.proofs.lemmas.Bool.{cases_lt}
use Rattle.std.proofs.lemmas.List.{get_or_past, get_or_append_left, get_or-append_right, get_or-append-add}
use Rattle.asl_lane_sets.specs.Packed.{AreLanes, IsCleared, AreJoined, AreCleared, Differ}

-- a lane of the first part, and one of the second
module _ (a x : List ℕ) (four : length a ≡ 4) where
  pub in_first : (k : ℕ) → k < 4 → get_or (a ++ x) k 0 ≡ get_or a k 0
  in_first k below = get_or_append_left a x 0 k (omega (arith, four, below))

  pub in_more : (k : ℕ) → 4 ≤ k → get_or (a ++ x) k 0 ≡ get_or x (k - 4) 0
  in_more k past = get_or-append_right a x 4 k 0 four past

  pub after_four : (k : ℕ) → get_or (a ++ x) (4 + k) 0 ≡ get_or x k 0
  after_four k = ap (λ n. get_or (a ++ x) (n + k) 0) (sym four) ∙ get_or-append-add a x k 0

  pub lanes_parts : AreLanes a → AreLanes x → AreLanes (a ++ x)
  lanes_parts fits also k = elim (cases_lt k 4) [
    | inl below ↦ subst (λ n. n < 2 ^ 64) (sym (in_first k below)) (fits k)
    | inr past ↦ subst (λ n. n < 2 ^ 64) (sym (in_more k past)) (also (k - 4))
  ]

-- both parts are joined
module _ (a b c x y z : List ℕ) (four : length a ≡ 4) (also : length b ≡ 4) (joins : AreJoined a b c) (more : AreJoined x y z) where
  four_joined : length c ≡ 4
  four_joined = joins.0 ∙ four

  pub joined_parts : AreJoined (a ++ x) (b ++ y) (c ++ z)
  joined_parts = (
    (let one = joins.0 in let two = more.0 in omega (arith, one, two, length-append c z, length-append a x)),
    λ k. elim (cases_lt k 4) [
      | inl below ↦
          in_first c z four_joined k below ∙ joins.1 k
          ∙ ap (λ n. bit_or n (get_or b k 0)) (sym (in_first a x four k below)) ∙ ap (λ n. bit_or (get_or (a ++ x) k 0) n) (sym (in_first b y also k below))
      | inr past ↦
          in_more c z four_joined k past ∙ more.1 (k - 4)
          ∙ ap (λ n. bit_or n (get_or y (k - 4) 0)) (sym (in_more a x four k past)) ∙ ap (λ n. bit_or (get_or (a ++ x) k 0) n) (sym (in_more b y also k past))
    ],
  )

-- the bits are taken away from both parts
module _ (a b c x y z : List ℕ) (four : length a ≡ 4) (also : length b ≡ 4) (cleared : AreCleared a b c) (more : AreCleared x y z) where
  pub cleared_parts : AreCleared (a ++ x) (b ++ y) (c ++ z)
  cleared_parts = (
    (let one = cleared.0 in let two = more.0 in omega (arith, one, two, length-append c z, length-append a x)),
    λ k. elim (cases_lt k 4) [
      | inl below ↦ as_parts (in_first a x four k below) (in_first b y also k below) (in_first c z (cleared.0 ∙ four) k below) (cleared.1 k)
      | inr past ↦ as_parts (in_more a x four k past) (in_more b y also k past) (in_more c z (cleared.0 ∙ four) k past) (more.1 (k - 4))
    ],
  )
    where
      as_parts : {l m n p q r : ℕ} → l ≡ p → m ≡ q → n ≡ r → IsCleared p q r → IsCleared l m n
      as_parts {l} {m} {n} {p} {q} {r} e f g h = subst (λ w. IsCleared w m n) (sym e) (subst (λ w. IsCleared p w n) (sym f) (subst (λ w. IsCleared p q w) (sym g) h))

-- lanes differ where one of the parts does
module _ (a c x z : List ℕ) (four : length a ≡ 4) (also : length c ≡ 4) where
  pub differ_first : Differ a c → Differ (a ++ x) (c ++ z)
  differ_first d = elim (cases_lt d.place 4) [
    | inl below ↦ record { place = d.place; different = λ e. d.different (sym (in_first a x four d.place below) ∙ e ∙ in_first c z also d.place below) }
    | inr past ↦ absurd (d.different (get_or_past a d.place 0 (omega (arith, past, four)) ∙ sym (get_or_past c d.place 0 (omega (arith, past, also)))))
  ]

  pub differ_more : Differ x z → Differ (a ++ x) (c ++ z)
  differ_more d = record { place = 4 + d.place; different = λ e. d.different (sym (after_four a x four d.place) ∙ e ∙ after_four c z also d.place) }

  pub differ_either : Differ (a ++ x) (c ++ z) → Differ a c ⊎ Differ x z
  differ_either d = elim (cases_lt d.place 4) [
    | inl below ↦ inl (record { place = d.place; different = λ e. d.different (in_first a x four d.place below ∙ e ∙ sym (in_first c z also d.place below)) })
    | inr past ↦ inr (record { place = d.place - 4; different = λ e. d.different (in_more a x four d.place past ∙ e ∙ sym (in_more c z also d.place past)) })
  ]

-- joining adds nothing to a part where it adds nothing to the whole
module _ (a b x y : List ℕ) (four : length a ≡ 4) (also : length b ≡ 4) (all : AreJoined (a ++ x) (b ++ y) (a ++ x)) where
  pub first_within : AreJoined a b a
  first_within = (
    refl,
    λ k. elim (cases_lt k 4) [
      | inl below ↦
          sym (in_first a x four k below) ∙ all.1 k
          ∙ ap (λ n. bit_or n (get_or (b ++ y) k 0)) (in_first a x four k below) ∙ ap (λ n. bit_or (get_or a k 0) n) (in_first b y also k below)
      | inr past ↦
          let in_a = get_or_past a k 0 (omega (arith, past, four)) in
          let in_b = get_or_past b k 0 (omega (arith, past, also)) in
          rw (in_a, in_b)
    ],
  )

  pub more_within : AreJoined x y x
  more_within = (
    refl,
    λ k.
        sym (after_four a x four k) ∙ all.1 (4 + k)
        ∙ ap (λ n. bit_or n (get_or (b ++ y) (4 + k) 0)) (after_four a x four k) ∙ ap (λ n. bit_or (get_or x k 0) n) (after_four b y also k),
  )

-- lanes that are written back
pub written_back : (new old : List ℕ) (n : ℕ) → length new ≡ n → take n (new ++ drop (length new) old) ≡ new
written_back new old n long = ap (λ k. take k (new ++ drop (length new) old)) (sym long) ∙ take-append_seam new (drop (length new) old)

-- of two lists of lanes, xs and ys, the first four are a and b, of which the code makes c; those after them are x and y, which
-- calls see as p and q, and of which they make z
module _ (xs ys a b c x y p q z : List ℕ) (n : ℕ) (four : length a ≡ 4) (also : length b ≡ 4) (xs_is : a ++ x ≡ xs) (ys_is : b ++ y ≡ ys) (p_is : p ≡ x) (q_is : q ≡ y) (long : length z ≡ n) where
  abbrev written : List ℕ
  written = c ++ take n (z ++ drop (length z) x)

  module _ (joins : AreJoined a b c) (more : AreJoined p q z) where
    pub joined_now : AreJoined xs ys written
    joined_now =
        subst (λ w. AreJoined xs ys (c ++ w)) (sym (written_back z x n long))
        (subst (λ l. AreJoined l ys (c ++ z)) xs_is
        (subst (λ l. AreJoined (a ++ x) l (c ++ z)) ys_is
        (joined_parts a b c x y z four also joins (subst (λ l. AreJoined l y z) p_is (subst (λ l. AreJoined p l z) q_is more)))))

    four_now : length c ≡ 4
    four_now = joins.0 ∙ four

    as_written : Differ (a ++ x) (c ++ z) → Differ xs written
    as_written d = subst (λ w. Differ xs (c ++ w)) (sym (written_back z x n long)) (subst (λ l. Differ l (c ++ z)) xs_is d)

    pub first_grew : Differ a c → Differ xs written
    first_grew d = as_written (differ_first a c x z four four_now d)

    pub more_grew : Differ p z → Differ xs written
    more_grew d = as_written (differ_more a c x z four four_now (subst (λ l. Differ l z) p_is d))

    pub some_grew : Differ xs written → Differ a c ⊎ Differ p z
    some_grew d =
        ⊎_elim (λ one. inl one) (λ two. inr (subst (λ l. Differ l z) (sym p_is) two))
        (differ_either a c x z four four_now (subst (λ l. Differ l (c ++ z)) (sym xs_is) (subst (λ w. Differ xs (c ++ w)) (written_back z x n long) d)))

  module _ (cleared : AreCleared a b c) (more : AreCleared p q z) where
    pub cleared_now : AreCleared xs ys written
    cleared_now =
        subst (λ w. AreCleared xs ys (c ++ w)) (sym (written_back z x n long))
        (subst (λ l. AreCleared l ys (c ++ z)) xs_is
        (subst (λ l. AreCleared (a ++ x) l (c ++ z)) ys_is
        (cleared_parts a b c x y z four also cleared (subst (λ l. AreCleared l y z) p_is (subst (λ l. AreCleared p l z) q_is more)))))

-- the first list is within the second, where b and y are the lanes of the first and a and x those of the second
module _ (xs ys a b x y p q : List ℕ) (four : length a ≡ 4) (also : length b ≡ 4) (xs_is : b ++ y ≡ xs) (ys_is : a ++ x ≡ ys) (p_is : p ≡ y) (q_is : q ≡ x) where
  whole : AreJoined ys xs ys → AreJoined (a ++ x) (b ++ y) (a ++ x)
  whole all = subst (λ l. AreJoined l (b ++ y) l) (sym ys_is) (subst (λ l. AreJoined ys l ys) (sym xs_is) all)

  pub first_is_within : AreJoined ys xs ys → AreJoined a b a
  first_is_within all = first_within a b x y four also (whole all)

  pub within_now : AreJoined a b a → AreJoined q p q ↔ AreJoined ys xs ys
  within_now first = (
    λ more.
        subst (λ l. AreJoined l xs l) ys_is
        (subst (λ l. AreJoined (a ++ x) l (a ++ x)) xs_is
        (joined_parts a b a x y x four also first (subst (λ l. AreJoined x l x) p_is (subst (λ l. AreJoined l p l) q_is more)))),
    λ all. subst (λ l. AreJoined l p l) (sym q_is) (subst (λ l. AreJoined x l x) (sym p_is) (more_within a b x y four also (whole all))),
  )
