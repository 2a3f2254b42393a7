-- The order of nodes is strict and total.
use Rattle.std.proofs.Common.{◌≡◌, ◌≢◌, ℕ, ◌<◌, ◌⊎◌, Bool, true, false, ◌&&◌, ◌||◌, ◌==◌, refl, ap, sym, subst, ◌∙◌, inl, inr, arith}
use Rattle.std.specs.Prelude.{nat_lt}
use Rattle.std.specs.Bool.{Decides}
use Rattle.std.proofs.lemmas.Bool.{cases_order, le-ltb, ltb-true, lt-ltb, ltb-false, both_ways, false_from_ne_true}
use Rattle.std.proofs.lemmas.Bool.Decides.{Decides-ltb, Decides-eqb, Decides-and, Decides-or}
use Rattle.asl_lock_forest.specs.declared.node.Node.{Node}
use Rattle.asl_lock_forest.specs.declared.node.Node.TheVariants.{Root, Class, Leaf}
use Rattle.asl_lock_queue.specs.Order.{is_below}

-- three numbers come before three others
abbrev Lex : ℕ → ℕ → ℕ → ℕ → ℕ → ℕ → Type 0
Lex c x f d y g = (c < d) ⊎ ((c ≡ d) × ((x < y) ⊎ ((x ≡ y) × (f < g))))

abbrev lex : ℕ → ℕ → ℕ → ℕ → ℕ → ℕ → Bool
lex c x f d y g = nat_lt c d || (c == d && (nat_lt x y || (x == y && nat_lt f g)))

lex_tells : (c x f d y g : ℕ) → Decides (lex c x f d y g) (Lex c x f d y g)
lex_tells c x f d y g =
    Decides-or _ _ (Decides-ltb c d) (Decides-and _ _ (Decides-eqb c d) (Decides-or _ _ (Decides-ltb x y) (Decides-and _ _ (Decides-eqb x y) (Decides-ltb f g))))

lex_irrefl : (c x f : ℕ) → Lex c x f c x f → ⊥
lex_irrefl c x f h = elim h [
  | inl lt ↦ omega (arith, lt)
  | inr e ↦ elim (e.1) [
    | inl lt ↦ omega (arith, lt)
    | inr g ↦ let lt = g.1 in omega (arith, lt)
  ]
]

lex_trans : (c x f d y g e z h : ℕ) → Lex c x f d y g → Lex d y g e z h → Lex c x f e z h
lex_trans c x f d y g e z h p q = elim p [
  | inl lt ↦ elim q [
    | inl lu ↦ inl (omega (arith, lt, lu))
    | inr s ↦ let same = s.0 in inl (omega (arith, lt, same))
  ]
  | inr r ↦ elim q [
    | inl lu ↦ let same = r.0 in inl (omega (arith, lu, same))
    | inr s ↦ inr (
      r.0 ∙ s.0,
      elim (r.1) [
        | inl lt ↦ elim (s.1) [
          | inl lu ↦ inl (omega (arith, lt, lu))
          | inr t ↦ let same = t.0 in inl (omega (arith, lt, same))
        ]
        | inr k ↦ elim (s.1) [
          | inl lu ↦ let same = k.0 in inl (omega (arith, lu, same))
          | inr t ↦ let a = k.1 in let b = t.1 in inr (k.0 ∙ t.0, omega (arith, a, b))
        ]
      ],
    )
  ]
]

lex_total : (c x f d y g : ℕ) → (Lex c x f d y g → ⊥) → (Lex d y g c x f → ⊥) → (c ≡ d) × (x ≡ y) × (f ≡ g)
lex_total c x f d y g low high = elim (cases_order c d) [
  | inl class ↦ elim (cases_order x y) [
    | inl object ↦ elim (cases_order f g) [
      | inl offset ↦ (class, object, offset)
      | inr apart ↦ elim apart [
        | inl lt ↦ absurd (low (inr (class, inr (object, lt))))
        | inr gt ↦ absurd (high (inr (sym class, inr (sym object, gt))))
      ]
    ]
    | inr apart ↦ elim apart [
      | inl lt ↦ absurd (low (inr (class, inl lt)))
      | inr gt ↦ absurd (high (inr (sym class, inl gt)))
    ]
  ]
  | inr apart ↦ elim apart [
    | inl lt ↦ absurd (low (inl lt))
    | inr gt ↦ absurd (high (inl gt))
  ]
]

pub below_irrefl : (a : Node) → is_below a a ≡ false
below_irrefl Root = refl
below_irrefl (Class c) = le-ltb c c (omega arith)
below_irrefl (Leaf x c) = false_from_ne_true _ (λ e. lex_irrefl c x.object x.offset ((lex_tells c x.object x.offset c x.object x.offset).0 e))

pub below_apart : (a b : Node) → is_below a b ≡ true → a ≢ b
below_apart a b below same = both_ways (is_below a a) (below_irrefl a) (subst (λ n. is_below a n ≡ true) (sym same) below)

pub below_trans : (a b c : Node) → is_below a b ≡ true → is_below b c ≡ true → is_below a c ≡ true
below_trans Root Root c p q = cc
below_trans Root (Class b) Root p q = cc
below_trans Root (Class b) (Class c) p q = refl
below_trans Root (Class b) (Leaf z c) p q = refl
below_trans Root (Leaf y b) Root p q = cc
below_trans Root (Leaf y b) (Class c) p q = refl
below_trans Root (Leaf y b) (Leaf z c) p q = refl
below_trans (Class a) Root c p q = cc
below_trans (Class a) (Class b) Root p q = cc
below_trans (Class a) (Class b) (Class c) p q =
    let first = ltb-true a b p in
    let second = ltb-true b c q in
    lt-ltb a c (omega (arith, first, second))
below_trans (Class a) (Class b) (Leaf z c) p q = refl
below_trans (Class a) (Leaf y b) Root p q = cc
below_trans (Class a) (Leaf y b) (Class c) p q = cc
below_trans (Class a) (Leaf y b) (Leaf z c) p q = refl
below_trans (Leaf x a) Root c p q = cc
below_trans (Leaf x a) (Class b) c p q = cc
below_trans (Leaf x a) (Leaf y b) Root p q = cc
below_trans (Leaf x a) (Leaf y b) (Class c) p q = cc
below_trans (Leaf x a) (Leaf y b) (Leaf z c) p q =
    (lex_tells a x.object x.offset c z.object z.offset).1
    (lex_trans a x.object x.offset b y.object y.offset c z.object z.offset
    ((lex_tells a x.object x.offset b y.object y.offset).0 p) ((lex_tells b y.object y.offset c z.object z.offset).0 q))

pub below_total : (a b : Node) → is_below a b ≡ false → is_below b a ≡ false → a ≡ b
below_total Root Root p q = refl
below_total Root (Class b) p q = cc
below_total Root (Leaf y b) p q = cc
below_total (Class a) Root p q = cc
below_total (Class a) (Class b) p q =
    let low = ltb-false a b p in
    let high = ltb-false b a q in
    let same : a ≡ b = omega (arith, low, high) in
    λ i. Class (same i)
below_total (Class a) (Leaf y b) p q = cc
below_total (Leaf x a) Root p q = cc
below_total (Leaf x a) (Class b) p q = cc
below_total (Leaf x a) (Leaf y b) p q =
    let same = lex_total a x.object x.offset b y.object y.offset
    (λ l. both_ways _ p ((lex_tells a x.object x.offset b y.object y.offset).1 l))
    (λ l. both_ways _ q ((lex_tells b y.object y.offset a x.object x.offset).1 l)) in
    λ i. Leaf (record { object = same.1 i; offset = same.2 i }) (same.0 i)

-- a leaf's class is at most that of a leaf after it
pub class_rises : (a b : Node) → (c d : ℕ) → is_below a b ≡ true → (x y : _) → a ≡ Leaf x c → b ≡ Leaf y d → is_below (Class d) (Class c) ≡ false
class_rises a b c d below x y is so =
    let there : lex c x.object x.offset d y.object y.offset ≡ true = sym (λ i. is_below (is i) (so i)) ∙ below in
    le-ltb d c (elim ((lex_tells c x.object x.offset d y.object y.offset).0 there) [
      | inl lt ↦ omega (arith, lt)
      | inr e ↦ let same = e.0 in omega (arith, same)
    ])
