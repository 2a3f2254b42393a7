-- All that lists lack, block by block.
use Rattle.std.proofs.Common.{◌≡◌, ◌↔◌, ◌⊎◌, ◌<◌, ◌+◌, ℕ, zero, suc, List, [], ◌∷◌, ◌++◌, Some, length, map, take, slice_get, refl, ap, sym, ◌∙◌, subst, inl, inr, arith}
use Rattle.std.proofs.Math.Nat.{eq-or-lt_of_le}
use Rattle.std.proofs.lemmas.Option.{same_Some, slice_get_within}
use Rattle.asl_code.specs.declared.lock.Lock.{Lock}
use Rattle.asl_lower.specs.declared.section.Section.{Section}
use Rattle.asl_lower.specs.Lowered.{Lowered}
use Rattle.asl_lower.specs.Regions.{Inside}
use Rattle.asl_points_to.specs.Classes.{Classed}
use Rattle.asl_lock_expr.specs.Links.{IsOne}
use Rattle.asl_lock_expr.specs.Order.{AreInOrder}
use Rattle.asl_lock_expr.proofs.Ones.{one_right}
use Rattle.asl_backward_flow.specs.Closed.{Family}
use Rattle.asl_emitter.specs.Lists.{IsFree}
use Rattle.asl_check.specs.declared.fault.CheckFault.{CheckFault}
use Rattle.asl_check.specs.declared.fault.CheckFault.TheVariants.{Infer, OtherCode, Uncovered, Unguarded}
use Rattle.asl_check.specs.Checked.{IsUnderOne, reads_of, FirstListsCover, AreGuarded, IsFirstLacking, IsFirstOpen}
use Rattle.asl_check.specs.Missing.{LacksNeeded, LacksRead, NamesLack, IsJudgedBefore, IsAmong, AreInTurn, AreAllLacks}
use Rattle.asl_check.specs.KnownLists.{StandInTurn, AreBare, AreBareNeeds, IsBelow, AreLacksBelow}

-- ---- refusals, one list after the other

pub among_left : (fs gs : List CheckFault) (f : CheckFault) → IsAmong fs f → IsAmong (fs ++ gs) f
among_left [] gs f o = absurd o
among_left (h ∷ fs) gs f (inl e) = inl e
among_left (h ∷ fs) gs f (inr o) = inr (among_left fs gs f o)

pub among_right : (fs gs : List CheckFault) (f : CheckFault) → IsAmong gs f → IsAmong (fs ++ gs) f
among_right [] gs f o = o
among_right (h ∷ fs) gs f o = inr (among_right fs gs f o)

pub among_either : (fs gs : List CheckFault) (f : CheckFault) → IsAmong (fs ++ gs) f → IsAmong fs f ⊎ IsAmong gs f
among_either [] gs f o = inr o
among_either (h ∷ fs) gs f (inl e) = inl (inl e)
among_either (h ∷ fs) gs f (inr o) = elim (among_either fs gs f o) [ inl p ↦ inl (inr p) | inr q ↦ inr q ]

in_turn_joined : (lists : List (List Lock)) (fs gs : List CheckFault) → AreInTurn lists fs → AreInTurn lists gs →
    ((f g : CheckFault) → IsAmong fs f → IsAmong gs g → IsJudgedBefore lists f g) → AreInTurn lists (fs ++ gs)
in_turn_joined lists [] gs p q across = q
in_turn_joined lists (f ∷ fs) gs p q across = (
  (λ g o. elim (among_either fs gs g o) [ inl own ↦ p.0 g own | inr other ↦ across f g (inl refl) other ]),
  in_turn_joined lists fs gs p.1 q (λ h g o u. across h g (inr o) u),
)

-- ---- the block of one section

among_mapped : (make : Lock → CheckFault) (bare : List Lock) (f : CheckFault) → IsAmong (map make bare) f → (a : Lock) × IsOne bare a × (make a ≡ f)
among_mapped make [] f o = absurd o
among_mapped make (b ∷ bare) f (inl e) = (b, inl refl, e)
among_mapped make (b ∷ bare) f (inr o) = let r = among_mapped make bare f o in (r.0, inr r.1, r.2)

mapped_among : (make : Lock → CheckFault) (bare : List Lock) (a : Lock) → IsOne bare a → IsAmong (map make bare) (make a)
mapped_among make [] a o = absurd o
mapped_among make (b ∷ bare) a (inl e) = inl (ap make e)
mapped_among make (b ∷ bare) a (inr o) = inr (mapped_among make bare a o)

-- what a section needs, and what its list reads
abbrev uncovered_of : ℕ → List Lock → List CheckFault
uncovered_of n bare = map (λ (a : Lock). Uncovered n a) bare

abbrev unguarded_of : ℕ → List Lock → List CheckFault
unguarded_of n bare = map (λ (a : Lock). Unguarded n a) bare

needs_in_turn : (lists : List (List Lock)) (n : ℕ) (bare : List Lock) → AreInOrder bare → AreInTurn lists (map (λ (a : Lock). Uncovered n a) bare)
needs_in_turn lists n [] order = tt
needs_in_turn lists n (a ∷ bare) order = (
  (λ g o.
      let r = among_mapped (λ (b : Lock). Uncovered n b) bare g o in
      subst (λ (h : CheckFault). IsJudgedBefore lists (Uncovered n a) h) r.2 (inr (refl, order.0 r.0 r.1))),
  needs_in_turn lists n bare order.1,
)

reads_in_turn : (lists : List (List Lock)) (n : ℕ) (list bare : List Lock) → slice_get lists n ≡ Some list → StandInTurn (reads_of list) bare → AreInTurn lists (map (λ (a : Lock). Unguarded n a) bare)
reads_in_turn lists n list [] at order = tt
reads_in_turn lists n list (a ∷ bare) at order = (
  (λ g o.
      let r = among_mapped (λ (b : Lock). Unguarded n b) bare g o in
      subst (λ (h : CheckFault). IsJudgedBefore lists (Unguarded n a) h) r.2 (inr (refl, (list, at, order.0 r.0 r.1)))),
  reads_in_turn lists n list bare at order.1,
)

next_or_less : (m n : ℕ) → m < n + 1 → (m ≡ n) ⊎ (m < n)
next_or_less m n lt = eq-or-lt_of_le (omega (arith, lt))

below_needs : (n : ℕ) (f : CheckFault) → IsBelow n 0 f → IsBelow (n + 1) 0 f
below_needs n (Uncovered m a) lt = omega (arith, lt)
below_needs n (Unguarded m a) lt = lt
below_needs n (Infer fault) lt = lt
below_needs n (OtherCode pc) lt = lt

below_reads : (p n : ℕ) (f : CheckFault) → IsBelow p n f → IsBelow p (n + 1) f
below_reads p n (Uncovered m a) lt = lt
below_reads p n (Unguarded m a) lt = omega (arith, lt)
below_reads p n (Infer fault) lt = lt
below_reads p n (OtherCode pc) lt = lt

module _ (l : Lowered) (c : Classed) (K : Family) (lists : List (List Lock)) where
  pub none_below : AreLacksBelow l c K lists 0 0 []
  none_below = record { exact = λ f. ((λ o. absurd o), (λ h. none f h.1)); order = tt }
    where
      none : (f : CheckFault) → IsBelow 0 0 f → ⊥
      none (Uncovered m a) lt = omega (arith, lt)
      none (Unguarded m a) lt = omega (arith, lt)
      none (Infer fault) lt = lt
      none (OtherCode pc) lt = lt

  same_section : (n : ℕ) (s t : Section) → slice_get l.sections n ≡ Some s → slice_get l.sections n ≡ Some t → t ≡ s
  same_section n s t p q = same_Some _ _ (sym q ∙ p)

  same_list : (n : ℕ) (xs ys : List Lock) → slice_get lists n ≡ Some xs → slice_get lists n ≡ Some ys → ys ≡ xs
  same_list n xs ys p q = same_Some _ _ (sym q ∙ p)

  -- the block of what a section needs
  module _ (n : ℕ) (s : Section) (list bare : List Lock) (there : slice_get l.sections n ≡ Some s) (at : slice_get lists n ≡ Some list) where
    needs_block : AreBareNeeds c s.function list (K (Inside n) (suc s.acquire)) bare → (a : Lock) → IsOne bare a ↔ LacksNeeded l c K lists n a
    needs_block h a = (
      λ o. let k = (h.kept a).0 o in record { is = s; in_table = there; list = list; listed = at; needed = k.0.0; free = k.0.1; bare = k.1 },
      λ r. back r.is r.list (same_section n s r.is there r.in_table) (same_list n list r.list at r.listed) r.needed r.free r.bare,
    )
      where
        back : (t : Section) (ys : List Lock) → t ≡ s → ys ≡ list → K (Inside n) (suc t.acquire) a → IsFree c t.function (K (Inside n) (suc t.acquire)) a → ¬ IsUnderOne c t.function ys a → IsOne bare a
        back t ys e u needed free alone =
            subst (λ (x : Section). K (Inside n) (suc x.acquire) a → IsFree c x.function (K (Inside n) (suc x.acquire)) a → ¬ IsUnderOne c x.function ys a → IsOne bare a) (sym e)
            (λ needed free alone. (h.kept a).1 ((needed, free), subst (λ (xs : List Lock). ¬ IsUnderOne c s.function xs a) u alone)) needed free alone

    reads_block : AreBare c s.function list (reads_of list) bare → (a : Lock) → IsOne bare a ↔ LacksRead l c lists n a
    reads_block h a = (
      λ o. let k = (h.kept a).0 o in record { is = s; in_table = there; list = list; listed = at; read = k.0; bare = k.1 },
      λ r. back r.is r.list (same_section n s r.is there r.in_table) (same_list n list r.list at r.listed) r.read r.bare,
    )
      where
        back : (t : Section) (ys : List Lock) → t ≡ s → ys ≡ list → IsOne (reads_of ys) a → ¬ IsUnderOne c t.function ys a → IsOne bare a
        back t ys e u read alone =
            (h.kept a).1 (
              subst (λ (xs : List Lock). IsOne (reads_of xs) a) u read,
              subst (λ (x : Section). ¬ IsUnderOne c x.function list a) e (subst (λ (xs : List Lock). ¬ IsUnderOne c t.function xs a) u alone),
            )

    pub needs_more : (faults : List CheckFault) → AreBareNeeds c s.function list (K (Inside n) (suc s.acquire)) bare → AreLacksBelow l c K lists n 0 faults →
        AreLacksBelow l c K lists (n + 1) 0 (faults ++ map (λ (a : Lock). Uncovered n a) bare)
    needs_more faults h old = record {
      exact = λ f. (
        λ o. elim (among_either faults (uncovered_of n bare) f o) [
          | inl p ↦ (let k = (old.exact f).0 p in (k.0, below_needs n f k.1))
          | inr q ↦
              (let r = among_mapped (λ (a : Lock). Uncovered n a) bare f q in
              subst (λ (g : CheckFault). NamesLack l c K lists g × IsBelow (n + 1) 0 g) r.2 ((needs_block h r.0).0 r.1, omega arith))
        ],
        λ k. into f k.0 k.1,
      );
      order = in_turn_joined lists faults (uncovered_of n bare) old.order (needs_in_turn lists n bare h.order) (λ f g o u. (let k = (old.exact f).0 o in across f g k.1 u));
    }
      where
        into : (f : CheckFault) → NamesLack l c K lists f → IsBelow (n + 1) 0 f → IsAmong (faults ++ (uncovered_of n bare)) f
        into (Uncovered m a) names lt =
            elim (next_or_less m n lt) [
              | inl same ↦ among_right faults (uncovered_of n bare) (Uncovered m a)
                  (subst (λ k. IsAmong (uncovered_of n bare) (Uncovered k a)) (sym same) (mapped_among (λ (b : Lock). Uncovered n b) bare a ((needs_block h a).1 (subst (λ k. LacksNeeded l c K lists k a) same names))))
              | inr less ↦ among_left faults (uncovered_of n bare) (Uncovered m a) ((old.exact (Uncovered m a)).1 (names, less))
            ]
        into (Unguarded m a) names lt = absurd (omega (arith, lt))
        into (Infer fault) names lt = absurd lt
        into (OtherCode pc) names lt = absurd lt

        across : (f g : CheckFault) → IsBelow n 0 f → IsAmong (uncovered_of n bare) g → IsJudgedBefore lists f g
        across (Uncovered m a) g lt u = let r = among_mapped (λ (b : Lock). Uncovered n b) bare g u in subst (λ (h : CheckFault). IsJudgedBefore lists (Uncovered m a) h) r.2 (inl lt)
        across (Unguarded m a) g lt u = absurd (omega (arith, lt))
        across (Infer fault) g lt u = absurd lt
        across (OtherCode pc) g lt u = absurd lt

    -- and that of what its list reads
    pub reads_more : (all : ℕ) (faults : List CheckFault) → AreBare c s.function list (reads_of list) bare → AreLacksBelow l c K lists all n faults →
        AreLacksBelow l c K lists all (n + 1) (faults ++ map (λ (a : Lock). Unguarded n a) bare)
    reads_more all faults h old = record {
      exact = λ f. (
        λ o. elim (among_either faults (unguarded_of n bare) f o) [
          | inl p ↦ (let k = (old.exact f).0 p in (k.0, below_reads all n f k.1))
          | inr q ↦
              (let r = among_mapped (λ (a : Lock). Unguarded n a) bare f q in
              subst (λ (g : CheckFault). NamesLack l c K lists g × IsBelow all (n + 1) g) r.2 ((reads_block h r.0).0 r.1, omega arith))
        ],
        λ k. into f k.0 k.1,
      );
      order = in_turn_joined lists faults (unguarded_of n bare) old.order (reads_in_turn lists n list bare at h.order) (λ f g o u. (let k = (old.exact f).0 o in across f g k.1 u));
    }
      where
        into : (f : CheckFault) → NamesLack l c K lists f → IsBelow all (n + 1) f → IsAmong (faults ++ (unguarded_of n bare)) f
        into (Uncovered m a) names lt = among_left faults (unguarded_of n bare) (Uncovered m a) ((old.exact (Uncovered m a)).1 (names, lt))
        into (Unguarded m a) names lt =
            elim (next_or_less m n lt) [
              | inl same ↦ among_right faults (unguarded_of n bare) (Unguarded m a)
                  (subst (λ k. IsAmong (unguarded_of n bare) (Unguarded k a)) (sym same) (mapped_among (λ (b : Lock). Unguarded n b) bare a ((reads_block h a).1 (subst (λ k. LacksRead l c lists k a) same names))))
              | inr less ↦ among_left faults (unguarded_of n bare) (Unguarded m a) ((old.exact (Unguarded m a)).1 (names, less))
            ]
        into (Infer fault) names lt = absurd lt
        into (OtherCode pc) names lt = absurd lt

        across : (f g : CheckFault) → IsBelow all n f → IsAmong (unguarded_of n bare) g → IsJudgedBefore lists f g
        across (Uncovered m a) g lt u = let r = among_mapped (λ (b : Lock). Unguarded n b) bare g u in subst (λ (h : CheckFault). IsJudgedBefore lists (Uncovered m a) h) r.2 tt
        across (Unguarded m a) g lt u = let r = among_mapped (λ (b : Lock). Unguarded n b) bare g u in subst (λ (h : CheckFault). IsJudgedBefore lists (Unguarded m a) h) r.2 (inl lt)
        across (Infer fault) g lt u = absurd lt
        across (OtherCode pc) g lt u = absurd lt

  -- of all sections these are all
  pub all_below : (faults : List CheckFault) → AreLacksBelow l c K lists (length l.sections) (length l.sections) faults → AreAllLacks l c K lists faults
  all_below faults h = record { exact = λ f. ((λ o. ((h.exact f).0 o).0), (λ names. (h.exact f).1 (names, within f names))); order = h.order }
    where
      within : (f : CheckFault) → NamesLack l c K lists f → IsBelow (length l.sections) (length l.sections) f
      within (Uncovered m a) names = slice_get_within l.sections m names.is names.in_table
      within (Unguarded m a) names = slice_get_within l.sections m names.is names.in_table
      within (Infer fault) names = names
      within (OtherCode pc) names = names

  -- ---- lists that are enough lack nothing

  pub none_lacking : FirstListsCover l c K lists (length l.sections) → AreGuarded l c lists (length l.sections) → AreAllLacks l c K lists []
  none_lacking covered guarded = record { exact = λ f. ((λ o. absurd o), (λ names. none f names)); order = tt }
    where
      none : (f : CheckFault) → NamesLack l c K lists f → ⊥
      none (Uncovered m a) r = r.bare (covered m (slice_get_within l.sections m r.is r.in_table) r.is r.list r.in_table r.listed a r.needed)
      none (Unguarded m a) r = r.bare (guarded m (slice_get_within l.sections m r.is r.in_table) r.is r.list r.in_table r.listed a r.read)
      none (Infer fault) r = r
      none (OtherCode pc) r = r

  -- ---- the first of all is the first that is judged

  -- what stands before a lock in a list whose front is without it
  stands_front : (front rest : List Lock) (a b : Lock) (n : ℕ) → slice_get (front ++ a ∷ rest) n ≡ Some b → ¬ IsOne (take (suc n) (front ++ a ∷ rest)) a → IsOne front b
  stands_front [] rest a b n at none = absurd (none (inl refl))
  stands_front (x ∷ front) rest a b zero at none = inl (same_Some _ _ at)
  stands_front (x ∷ front) rest a b (suc n) at none = inr (stands_front front rest a b n at (λ o. none (inr o)))

  first_need : (h : CheckFault) (m : ℕ) (a : Lock) → NamesLack l c K lists h → IsJudgedBefore lists h (Uncovered m a) → IsFirstLacking l c K lists m a → ⊥
  first_need (Uncovered n b) m a r (inl lt) first = r.bare (first.earlier n lt r.is r.list r.in_table r.listed b r.needed)
  first_need (Uncovered n b) m a r (inr (same, less)) first = here r.is r.list (subst (λ k. slice_get l.sections k ≡ Some r.is) same r.in_table) (subst (λ k. slice_get lists k ≡ Some r.list) same r.listed)
      (subst (λ k. K (Inside k) (suc r.is.acquire) b) same r.needed) (subst (λ k. IsFree c r.is.function (K (Inside k) (suc r.is.acquire)) b) same r.free) r.bare
    where
      here : (t : Section) (ys : List Lock) → slice_get l.sections m ≡ Some t → slice_get lists m ≡ Some ys → K (Inside m) (suc t.acquire) b → IsFree c t.function (K (Inside m) (suc t.acquire)) b → ¬ IsUnderOne c t.function ys b → ⊥
      here t ys there at =
          subst (λ (x : Section). K (Inside m) (suc x.acquire) b → IsFree c x.function (K (Inside m) (suc x.acquire)) b → ¬ IsUnderOne c x.function ys b → ⊥) (sym (same_section m first.is t first.in_table there))
          (λ needed free alone. subst (λ (xs : List Lock). ¬ IsUnderOne c first.is.function xs b) (same_list m first.list ys first.listed at) alone (first.first.before b needed free less))
  first_need (Unguarded n b) m a r judged first = absurd judged
  first_need (Infer fault) m a r judged first = absurd r
  first_need (OtherCode pc) m a r judged first = absurd r

  first_read : (h : CheckFault) (m : ℕ) (a : Lock) → NamesLack l c K lists h → IsJudgedBefore lists h (Unguarded m a) → FirstListsCover l c K lists (length l.sections) → IsFirstOpen l c lists m a → ⊥
  first_read (Uncovered n b) m a r judged covered first = r.bare (covered n (slice_get_within l.sections n r.is r.in_table) r.is r.list r.in_table r.listed b r.needed)
  first_read (Unguarded n b) m a r (inl lt) covered first = r.bare (first.earlier n lt r.is r.list r.in_table r.listed b r.read)
  first_read (Unguarded n b) m a r (inr (same, before)) covered first =
      here r.is r.list (subst (λ k. slice_get l.sections k ≡ Some r.is) same r.in_table) (subst (λ k. slice_get lists k ≡ Some r.list) same r.listed) r.bare
    where
      own : before.0 ≡ first.list
      own = same_list m first.list before.0 first.listed (subst (λ k. slice_get lists k ≡ Some before.0) same before.1)

      reads : reads_of before.0 ≡ first.first.front ++ a ∷ first.first.rest
      reads = ap reads_of own ∙ first.first.parts

      early : IsOne first.first.front b
      early =
          stands_front first.first.front first.first.rest a b before.2.0 (subst (λ (xs : List Lock). slice_get xs before.2.0 ≡ Some b) reads before.2.1)
          (subst (λ (xs : List Lock). ¬ IsOne (take (suc before.2.0) xs) a) reads before.2.2)

      here : (t : Section) (ys : List Lock) → slice_get l.sections m ≡ Some t → slice_get lists m ≡ Some ys → ¬ IsUnderOne c t.function ys b → ⊥
      here t ys there at alone =
          subst (λ (x : Section). ¬ IsUnderOne c x.function first.list b) (same_section m first.is t first.in_table there)
          (subst (λ (xs : List Lock). ¬ IsUnderOne c t.function xs b) (same_list m first.list ys first.listed at) alone) (first.first.before b early)
  first_read (Infer fault) m a r judged covered first = absurd r
  first_read (OtherCode pc) m a r judged covered first = absurd r

  -- where a refusal is among all, and none of them is judged before it, it is the first
  at_front : (faults : List CheckFault) → AreAllLacks l c K lists faults → (f : CheckFault) → NamesLack l c K lists f → ((h : CheckFault) → NamesLack l c K lists h → IsJudgedBefore lists h f → ⊥) →
      (rest : List CheckFault) × (faults ≡ f ∷ rest)
  at_front [] all f names none = absurd ((all.exact f).1 names)
  at_front (h ∷ rest) all f names none =
      elim ((all.exact f).1 names) [
        | inl same ↦ (rest, ap (λ (g : CheckFault). g ∷ rest) same)
        | inr later ↦ absurd (none h ((all.exact h).0 (inl refl)) (all.order.0 f later))
      ]

  module _ (faults : List CheckFault) (all : AreAllLacks l c K lists faults) where
    pub first_lacking : (m : ℕ) (a : Lock) → IsFirstLacking l c K lists m a → (rest : List CheckFault) × (faults ≡ Uncovered m a ∷ rest)
    first_lacking m a first = at_front faults all (Uncovered m a) names (λ h r judged. first_need h m a r judged first)
      where
        names : NamesLack l c K lists (Uncovered m a)
        names = record { is = first.is; in_table = first.in_table; list = first.list; listed = first.listed; needed = first.first.is; free = first.first.free; bare = first.first.bare }

    pub first_open : (m : ℕ) (a : Lock) → FirstListsCover l c K lists (length l.sections) → IsFirstOpen l c lists m a → (rest : List CheckFault) × (faults ≡ Unguarded m a ∷ rest)
    first_open m a covered first = at_front faults all (Unguarded m a) names (λ h r judged. first_read h m a r judged covered first)
      where
        names : NamesLack l c K lists (Unguarded m a)
        names = record {
          is = first.is;
          in_table = first.in_table;
          list = first.list;
          listed = first.listed;
          read = subst (λ (xs : List Lock). IsOne xs a) (sym first.first.parts) (one_right first.first.front (a ∷ first.first.rest) a (inl refl));
          bare = first.first.bare;
        }
