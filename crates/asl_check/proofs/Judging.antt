-- The first lock that a section lacks, found number by number in what the flow tells of it.
use Rattle.std.proofs.Common.{◌≡◌, ◌⊎◌, ◌<◌, ◌≤◌, ◌+◌, ℕ, zero, suc, List, Option, None, Some, length, get_or, slice_get, refl, sym, ap, ◌∙◌, subst, inl, inr, arith}
use Rattle.std.specs.Prelude.{MatchOption}
use Rattle.std.specs.declared.cmp.Ordering.TheVariants.{Less, Equal}
use Rattle.std.proofs.lemmas.Cmp.{tied_itself}
use Rattle.std.proofs.lemmas.Option.{same_Some, slice_get_read, slice_get_within}
use Rattle.std.proofs.Math.Nat.{eq-or-lt_of_le}
use Rattle.asl_code.specs.declared.lock.Lock.{Lock}
use Rattle.asl_lower.specs.Regions.{Region}
use Rattle.asl_points_to.specs.Classes.{Classed}
use Rattle.asl_lock_expr.specs.Order.{lock_cmp}
use Rattle.asl_lock_expr.proofs.Orders.{lock_total}
use Rattle.asl_backward_flow.specs.Needed.{RegionNeeds, IsInNeeds, IsTold, AreParts}
use Rattle.asl_emitter.specs.Lists.{Locks, Absorbs, IsFree}
use Rattle.asl_emitter.proofs.Absorbing.{rank, absorbs_down}
use Rattle.asl_check.specs.Checked.{IsUnderOne, AreUnder, LacksFirst}
use Rattle.asl_check.specs.KnownLists.{ComesFirst, IsJudged, AreJudged}
use Rattle.asl_check.proofs.Covering.{stands_trans, lacks_same}

-- ---- what is free of all that covers it is enough to look at

module _ (c : Classed) (f : ℕ) (list : List Lock) (given : Locks) (judged : (n : Lock) → given n → IsUnderOne c f list n ⊎ ((¬ IsUnderOne c f list n) × (¬ IsFree c f given n))) where
  -- a lock over one that is not covered is not covered
  up : (a b : Lock) → Absorbs c f b a → ¬ IsUnderOne c f list a → ¬ IsUnderOne c f list b
  up a b over bare u = bare (u.0, u.1, stands_trans c f u.0 b a u.2 over.does)

  none_bare : (fuel : ℕ) (a : Lock) → rank a < fuel → given a → ¬ IsUnderOne c f list a → ⊥
  none_bare zero a lt g bare = absurd (omega (arith, lt))
  none_bare (suc fuel) a lt g bare =
      elim (judged a g) [
        | inl u ↦ bare u
        | inr bad ↦ bad.1 (λ b h over.
            let down = absorbs_down c f b a over in
            none_bare fuel b (omega (arith, down, lt)) h (up a b over bare))
      ]

  pub all_under : AreUnder c f list given
  all_under n g =
      elim (judged n g) [
        | inl u ↦ u
        | inr bad ↦ absurd (none_bare (suc (rank n)) n (omega arith) g bad.0)
      ]

-- ---- number by number

up_to : (n k : ℕ) → n < k + 1 → (n ≡ k) ⊎ (n < k)
up_to n k lt = eq-or-lt_of_le (omega (arith, lt))

module _ (c : Classed) (f : ℕ) (list : List Lock) (p : RegionNeeds) (pc : ℕ) where
  pub none_judged : AreJudged c f list p pc 0 None
  none_judged = record { found = λ m e. (let k : None ≡ Some m = e in cc); judged = λ n k a lt need at. absurd (omega (arith, lt)) }

  -- one lock more, which changes nothing
  pub judged_more : (below : ℕ) (first : Option ℕ) → AreJudged c f list p pc below first →
      ((k : ℕ) (a : Lock) → slice_get p.needs k ≡ Some (pc, below) → slice_get p.locks below ≡ Some a → IsJudged c f list (IsInNeeds p pc) p.locks first a) →
      AreJudged c f list p pc (below + 1) first
  judged_more below first h one = record {
    found = h.found;
    judged = λ n k a lt need at. elim (up_to n below lt) [
      | inl same ↦ one k a (subst (λ m. slice_get p.needs k ≡ Some (pc, m)) same need) (subst (λ m. slice_get p.locks m ≡ Some a) same at)
      | inr less ↦ h.judged n k a less need at
    ];
  }

  -- a lock that comes before the first so far comes after none that does not
  behind : (first : Option ℕ) (m : ℕ) (a b : Lock) → slice_get p.locks m ≡ Some b → ComesFirst p.locks first b → ¬ ComesFirst p.locks first a → ¬ ComesFirst p.locks (Some m) a
  behind first m a b at before after less = after (λ k d is there. lock_total.trans a b d (less m b refl at) (before k d is there))

  still : (first : Option ℕ) (m : ℕ) (a b : Lock) → slice_get p.locks m ≡ Some b → ComesFirst p.locks first b → IsJudged c f list (IsInNeeds p pc) p.locks first a → IsJudged c f list (IsInNeeds p pc) p.locks (Some m) a
  still first m a b at before (inl u) = inl u
  still first m a b at before (inr (bare, inl absorbed)) = inr (bare, inl absorbed)
  still first m a b at before (inr (bare, inr after)) = inr (bare, inr (behind first m a b at before after))

  -- no lock comes before itself
  not_itself : (m : ℕ) (a : Lock) → slice_get p.locks m ≡ Some a → ¬ ComesFirst p.locks (Some m) a
  not_itself m a at less = let k : lock_cmp a a ≡ Equal = tied_itself lock_total a in let l : lock_cmp a a ≡ Less = less m a refl at in let bad : Equal ≡ Less = sym k ∙ l in cc

  -- one lock more, which is lacking and comes before the first so far
  pub judged_first : (below k : ℕ) (a : Lock) (first : Option ℕ) → AreJudged c f list p pc below first → slice_get p.needs k ≡ Some (pc, below) → slice_get p.locks below ≡ Some a →
      ¬ IsUnderOne c f list a → ComesFirst p.locks first a → IsFree c f (IsInNeeds p pc) a → AreJudged c f list p pc (below + 1) (Some below)
  judged_first below k a first h need at bare before free =
      judged_more below (Some below)
      (record {
        found = λ m e. (let is : below ≡ m = same_Some _ _ e in (a, subst (λ n. slice_get p.locks n ≡ Some a) is at, (below, k, need, at), free, bare));
        judged = λ n j b lt needed there. still first below b a at before (h.judged n j b lt needed there);
      })
      (λ j b needed there.
      let same : a ≡ b = same_Some _ _ (sym at ∙ there) in
      inr (subst (λ (x : Lock). ¬ IsUnderOne c f list x) same bare, inr (subst (λ (x : Lock). ¬ ComesFirst p.locks (Some below) x) same (not_itself below a at))))

  within : (below : ℕ) → length p.locks ≤ below → (n : ℕ) (a : Lock) → slice_get p.locks n ≡ Some a → n < below
  within below whole n a at = let lt = slice_get_within p.locks n a at in omega (arith, lt, whole)

  -- all are judged
  abbrev Given : Locks
  Given = IsInNeeds p pc

  pub judged_all : (below : ℕ) (first : Option ℕ) → length p.locks ≤ below → AreJudged c f list p pc below first →
      MatchOption first (AreUnder c f list Given) (λ n. (lock : Lock) × (slice_get p.locks n ≡ Some lock) × LacksFirst c f list Given lock)
  judged_all below None whole h =
      all_under c f list Given (λ n g. elim (h.judged g.0 g.1 n (within below whole g.0 n g.3) g.2 g.3) [
        | inl u ↦ inl u
        | inr bad ↦ inr (bad.0, elim bad.1 [ inl absorbed ↦ absorbed | inr after ↦ absurd (after (λ m a e at. (let k : None ≡ Some m = e in cc))) ])
      ])
  judged_all below (Some m) whole h =
      let b = h.found m refl in (
        b.0,
        b.1,
        record {
          is = b.2;
          free = b.3;
          bare = b.4;
          before = λ n g free less. elim (h.judged g.0 g.1 n (within below whole g.0 n g.3) g.2 g.3) [
            | inl u ↦ u
            | inr bad ↦ elim bad.1 [
              | inl absorbed ↦ absurd (absorbed free)
              | inr after ↦ absurd (after (λ k a e at.
                  let same : m ≡ k = same_Some _ _ e in
                  let lock : b.0 ≡ a = same_Some _ _ (sym b.1 ∙ ap (slice_get p.locks) same ∙ at) in
                  subst (λ (x : Lock). lock_cmp n x ≡ Less) lock less))
            ]
          ];
        },
      )

-- the lock that stands at a number of the part
pub its_lock : (locks own : List Lock) (n : ℕ) (lock a : Lock) → locks ≡ own → n < length locks → lock ≡ get_or locks n lock → slice_get own n ≡ Some a → lock ≡ a
its_lock locks own n lock a same lt is at = same_Some _ _ (sym (slice_get_read locks (length locks) n lock refl lt is) ∙ ap (λ (xs : List Lock). slice_get xs n) same ∙ at)

-- ---- a region's part is all that its flow tells of it

module _ (parts : List RegionNeeds) (apart : AreParts parts) (r : Region) (place : ℕ) (p : RegionNeeds) (at : slice_get parts place ≡ Some p) (is : p.region ≡ r) (pc : ℕ) where
  in_told : (n : Lock) → IsTold parts r pc n → IsInNeeds p pc n
  in_told n told =
      let same : told.0 ≡ place = apart.distinct told.0 place told.1 p told.2 at (told.3 ∙ sym is) in
      let part : told.1 ≡ p = same_Some _ _ (sym told.2 ∙ ap (slice_get parts) same ∙ at) in
      subst (λ (q : RegionNeeds). IsInNeeds q pc n) part told.4

  to_told : (n : Lock) → IsInNeeds p pc n → IsTold parts r pc n
  to_told n needs = (place, p, at, is, needs)

  pub under_told : (c : Classed) (f : ℕ) (list : List Lock) → AreUnder c f list (IsInNeeds p pc) → AreUnder c f list (IsTold parts r pc)
  under_told c f list under n told = under n (in_told n told)

  pub lacks_told : (c : Classed) (f : ℕ) (list : List Lock) (lock : Lock) → LacksFirst c f list (IsInNeeds p pc) lock → LacksFirst c f list (IsTold parts r pc) lock
  lacks_told c f list lock h = lacks_same c f list (IsInNeeds p pc) (IsTold parts r pc) lock (λ n. (to_told n, in_told n)) h
