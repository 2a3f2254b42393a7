-- Two requests go together where what is left of them does.
use Rattle.std.proofs.Common.{◌≡◌, ℕ, ◌<◌, ◌≤◌, ◌+◌, true, false, [], ◌∷◌, None, Some, length, get_or, drop, refl, ap, sym, subst, ◌∙◌, inl, inr}
use Rattle.std.proofs.lemmas.List.{drop_more, drop_all}
use Rattle.std.proofs.lemmas.Bool.{and_from}
use Rattle.asl_mode_lanes.specs.declared.mode.Mode.{Mode}
use Rattle.asl_mode_lanes.specs.declared.mode.Mode.TheVariants.{NL}
use Rattle.asl_mode_lanes.specs.Mode.{AreCompatible, is_compatible}
use Rattle.asl_mode_lanes.proofs.ModeLaws.{compatible_sym, compatible-NL}
use Rattle.asl_lock_forest.specs.declared.node.Node.{Node}
use Rattle.asl_lock_forest.specs.Holding.{Request, asked}
use Rattle.asl_lock_forest.proofs.Laws.{tell_nodes}
use Rattle.asl_lock_queue.specs.Order.{is_below, is_rising}
use Rattle.asl_lock_queue.specs.Waiting.{GoTogether, Clash}
use Rattle.asl_lock_queue.proofs.OrderLaws.{below_total}
use Rattle.asl_lock_queue.proofs.RisingLaws.{asked_first, asked_later, asked_before, asked_there, rises_on}

-- modes go together where modes that are the same do
pub together_by : (a b x y : Mode) → a ≡ x → b ≡ y → AreCompatible x y → AreCompatible a b
together_by a b x y p q h = subst (λ m. AreCompatible a m) (sym q) (subst (λ m. AreCompatible m y) (sym p) h)

pub nothing_left : (a : Request) → GoTogether [] a
nothing_left a n = refl

pub nothing_right : (a : Request) → GoTogether a []
nothing_right a n = compatible-NL (asked a n)

-- the first node of one is below all of the other
pub skip_left : (x y : Node × Mode) (xs ys : Request) → is_below x.0 y.0 ≡ true → is_rising (y ∷ ys) ≡ true → GoTogether xs (y ∷ ys) → GoTogether (x ∷ xs) (y ∷ ys)
skip_left x y xs ys below rises go n = elim (tell_nodes x.0 n) [
  | inl same ↦
      let unasked : asked (y ∷ ys) n ≡ NL = subst (λ m. asked (y ∷ ys) m ≡ NL) same.1 (asked_before x.0 (y ∷ ys) (and_from _ _ below rises)) in
      together_by _ _ _ _ refl unasked (compatible-NL (asked (x ∷ xs) n))
  | inr other ↦ together_by _ _ _ _ (asked_later x xs n other.1) refl (go n)
]

pub skip_right : (x y : Node × Mode) (xs ys : Request) → is_below y.0 x.0 ≡ true → is_rising (x ∷ xs) ≡ true → GoTogether (x ∷ xs) ys → GoTogether (x ∷ xs) (y ∷ ys)
skip_right x y xs ys below rises go n = elim (tell_nodes y.0 n) [
  | inl same ↦
      let unasked : asked (x ∷ xs) n ≡ NL = subst (λ m. asked (x ∷ xs) m ≡ NL) same.1 (asked_before y.0 (x ∷ xs) (and_from _ _ below rises)) in
      together_by _ _ _ _ unasked refl refl
  | inr other ↦ together_by _ _ _ _ refl (asked_later y ys n other.1) (go n)
]

-- both begin with one node, in modes that go together
pub skip_both : (x y : Node × Mode) (xs ys : Request) → x.0 ≡ y.0 → AreCompatible x.1 y.1 → GoTogether xs ys → GoTogether (x ∷ xs) (y ∷ ys)
skip_both x y xs ys same compatible go n = elim (tell_nodes x.0 n) [
  | inl here ↦
      together_by _ _ _ _
      (subst (λ m. asked (x ∷ xs) m ≡ x.1) here.1 (asked_first x xs))
      (subst (λ m. asked (y ∷ ys) m ≡ y.1) (sym same ∙ here.1) (asked_first y ys))
      compatible
  | inr other ↦ together_by _ _ _ _ (asked_later x xs n other.1) (asked_later y ys n (λ e. other.1 (same ∙ e))) (go n)
]

-- how far two requests have been compared: they go together where what is left does
pub record IsCompared (a b : Request) (i j : ℕ) : Type 0 where
  pub a_rises : is_rising (drop i a) ≡ true
  pub b_rises : is_rising (drop j b) ≡ true
  pub left : GoTogether (drop i a) (drop j b) → GoTogether a b

module _ {a b : Request} {i j : ℕ} (compared : IsCompared a b i j) (d : Node × Mode) (a_more : i < length a) (b_more : j < length b) where
  abbrev x : Node × Mode
  x = get_or a i d

  abbrev y : Node × Mode
  y = get_or b j d

  a_front : drop i a ≡ x ∷ drop (i + 1) a
  a_front = drop_more a i d a_more

  b_front : drop j b ≡ y ∷ drop (j + 1) b
  b_front = drop_more b j d b_more

  a_rest : is_rising (x ∷ drop (i + 1) a) ≡ true
  a_rest = subst (λ l. is_rising l ≡ true) a_front compared.a_rises

  b_rest : is_rising (y ∷ drop (j + 1) b) ≡ true
  b_rest = subst (λ l. is_rising l ≡ true) b_front compared.b_rises

  both_fronts : GoTogether (x ∷ drop (i + 1) a) (y ∷ drop (j + 1) b) → GoTogether a b
  both_fronts go = compared.left (subst (λ l. GoTogether l (drop j b)) (sym a_front) (subst (GoTogether (x ∷ drop (i + 1) a)) (sym b_front) go))

  pub compared_left : is_below x.0 y.0 ≡ true → IsCompared a b (i + 1) j
  compared_left below = record {
    a_rises = rises_on x (drop (i + 1) a) a_rest;
    b_rises = compared.b_rises;
    left = λ go. both_fronts (skip_left x y (drop (i + 1) a) (drop (j + 1) b) below b_rest (subst (GoTogether (drop (i + 1) a)) b_front go));
  }

  pub compared_right : is_below y.0 x.0 ≡ true → IsCompared a b i (j + 1)
  compared_right below = record {
    a_rises = compared.a_rises;
    b_rises = rises_on y (drop (j + 1) b) b_rest;
    left = λ go. both_fronts (skip_right x y (drop (i + 1) a) (drop (j + 1) b) below a_rest (subst (λ l. GoTogether l (drop (j + 1) b)) a_front go));
  }

  pub compared_both : is_below x.0 y.0 ≡ false → is_below y.0 x.0 ≡ false → AreCompatible x.1 y.1 → IsCompared a b (i + 1) (j + 1)
  compared_both low high compatible = record {
    a_rises = rises_on x (drop (i + 1) a) a_rest;
    b_rises = rises_on y (drop (j + 1) b) b_rest;
    left = λ go. both_fronts (skip_both x y (drop (i + 1) a) (drop (j + 1) b) (below_total x.0 y.0 low high) compatible go);
  }

pub compared_first : {a b : Request} → is_rising a ≡ true → is_rising b ≡ true → IsCompared a b 0 0
compared_first a_rises b_rises = record { a_rises = a_rises; b_rises = b_rises; left = λ go. go }

pub compared_last_left : {a b : Request} {i j : ℕ} → IsCompared a b i j → length a ≤ i → GoTogether a b
compared_last_left {a} {b} {i} {j} compared all = compared.left (subst (λ l. GoTogether l (drop j b)) (sym (drop_all i a all)) (nothing_left (drop j b)))

pub compared_last_right : {a b : Request} {i j : ℕ} → IsCompared a b i j → length b ≤ j → GoTogether a b
compared_last_right {a} {b} {i} {j} compared all = compared.left (subst (GoTogether (drop i a)) (sym (drop_all j b all)) (nothing_right (drop i a)))

-- two that ask one node in modes that do not go together clash
pub clash_at : (a b : Request) (i j : ℕ) (d : Node × Mode) → is_rising a ≡ true → is_rising b ≡ true → i < length a → j < length b
    → is_below (get_or a i d).0 (get_or b j d).0 ≡ false → is_below (get_or b j d).0 (get_or a i d).0 ≡ false
    → is_compatible (get_or a i d).1 (get_or b j d).1 ≡ false → Clash a b
clash_at a b i j d a_rises b_rises a_more b_more low high clash =
    let same = below_total (get_or a i d).0 (get_or b j d).0 low high in
    let here : asked a (get_or a i d).0 ≡ (get_or a i d).1 = asked_there None a i d a_rises a_more in
    let there : asked b (get_or a i d).0 ≡ (get_or b j d).1 = ap (asked b) same ∙ asked_there None b j d b_rises b_more in
    ((get_or a i d).0, subst (λ m. is_compatible m (asked b (get_or a i d).0) ≡ false) (sym here) (subst (λ m. is_compatible (get_or a i d).1 m ≡ false) (sym there) clash))
