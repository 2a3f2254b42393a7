-- Locks that end at a `new`.
use Rattle.std.proofs.Common.{◌≡◌, ◌≢◌, ◌↔◌, ◌+◌, ◌<◌, ◌≤◌, ◌⊎◌, ⊎_elim, ℕ, zero, suc, Bool, true, List, [], ◌∷◌, ◌++◌, length, map, take, get_or, Some, IfSome, slice_get, inl, inr, refl, sym, ap, ◌∙◌, subst, arith, eq-eqb, if◌then◌else◌}
use Rattle.std.proofs.lemmas.Option.{same_Some, slice_get_within, get_or_from_slice_get}
use Rattle.std.proofs.lemmas.Bool.{cases_lt}
use Rattle.std.specs.List.{flat_map, AllPairs}
use Rattle.std.proofs.Math.Nat.{eq-or-lt_of_le}
use Rattle.asl_code.specs.declared.instr.Instr.TheVariants.{New}
use Rattle.asl_code.specs.declared.lock.Base.{Base}
use Rattle.asl_code.specs.declared.lock.Lock.{Lock}
use Rattle.asl_code.specs.declared.lock.Lock.TheVariants.{Root, Class, Expr}
use Rattle.asl_lower.specs.declared.section.Section.{Section}
use Rattle.asl_lower.specs.Regions.{Inside}
use Rattle.asl_lock_expr.specs.Links.{LinkContext, view, IsOne, is_register, settle, link}
use Rattle.asl_lock_expr.specs.Stores.{stores}
use Rattle.asl_lock_expr.specs.Order.{AreInOrder}
use Rattle.asl_backward_flow.specs.Needed.{RegionNeeds, IsInNeeds, HasNoPart}
use Rattle.asl_emitter.proofs.Reducing.{one_of_more, more_of_one}
use Rattle.asl_explain.specs.declared.explain_analysis.ExplainAnalysis.{ExplainAnalysis}
use Rattle.asl_explain.specs.declared.explained_value.Ended.{Ended}
use Rattle.asl_explain.specs.Chains.{Read, Needs, IsOn, IsDropped}
use Rattle.asl_explain.specs.Explained.{IsEnding, AreEnded, AreAllEnded}
use Rattle.asl_explain.specs.Analysed.{read, IsAnalysed, IsMadeAt, HasAdded, AreEndedBelow, AreEndedOf}
use Rattle.asl_explain.specs.Endings.{Has, EndsSomewhere}
use Rattle.asl_explain.proofs.Ends.{get_more, length_more, map_more, all_more as each_more}
use Rattle.asl_explain.proofs.Under.{one_taken}

-- ---- locks added to others

pub added_none : (Holds : Lock → Type 0) (old : List Lock) → AreInOrder old → ((m : Lock) → ¬ Holds m) → HasAdded Holds old old
added_none Holds old order none = record { order = order; ones = λ m. (λ o. inl o, λ h. ⊎_elim (λ o. o) (λ k. absurd (none m k)) h) }

-- those of two additions
added_both : (One Next Both : Lock → Type 0) (a b c : List Lock) → HasAdded One a b → HasAdded Next b c → ((m : Lock) → Both m ↔ (One m ⊎ Next m)) → HasAdded Both a c
added_both One Next Both a b c one next both = record {
  order = next.order;
  ones = λ m. (
    λ o. ⊎_elim (λ h. ⊎_elim (λ k. inl k) (λ k. inr ((both m).1 (inl k))) ((one.ones m).0 h)) (λ h. inr ((both m).1 (inr h))) ((next.ones m).0 o),
    λ h. (next.ones m).1 (⊎_elim (λ k. inl ((one.ones m).1 (inl k))) (λ k. ⊎_elim (λ x. inl ((one.ones m).1 (inr x))) (λ x. inr x) ((both m).0 k)) h),
  );
}

-- the same locks, told otherwise
added_same : (Holds So : Lock → Type 0) (old new : List Lock) → HasAdded Holds old new → ((m : Lock) → Holds m ↔ So m) → HasAdded So old new
added_same Holds So old new added same = record {
  order = added.order;
  ones = λ m. (
    λ o. ⊎_elim (λ h. inl h) (λ h. inr ((same m).0 h)) ((added.ones m).0 o),
    λ h. (added.ones m).1 (⊎_elim (λ k. inl k) (λ k. inr ((same m).1 k)) h),
  );
}

none_taken : (all : List Lock) (m : Lock) → ¬ IsOne (take 0 all) m
none_taken [] m h = h
none_taken (x ∷ xs) m h = h

module _ (So : Lock → Type 0) where
  pub added_one : (old new : List Lock) (l copy : Lock) → AreInOrder new → ((m : Lock) → IsOne new m ↔ (IsOne old m ⊎ (copy ≡ m))) → copy ≡ l → So l → HasAdded (λ m. (l ≡ m) × So m) old new
  added_one old new l copy order ones same so = record {
    order = order;
    ones = λ m. (
      λ o. ⊎_elim (λ h. inl h) (λ h. (let e : l ≡ m = sym same ∙ h in inr (e, subst So e so))) ((ones m).0 o),
      λ h. (ones m).1 (⊎_elim (λ k. inl k) (λ k. inr (same ∙ k.0)) h),
    );
  }

  pub added_not : (old : List Lock) (l : Lock) → AreInOrder old → ¬ So l → HasAdded (λ m. (l ≡ m) × So m) old old
  added_not old l order not = added_none (λ m. (l ≡ m) × So m) old order (λ m h. not (subst So (sym h.0) h.1))

  module _ (all : List Lock) where
    pub added_first : (old : List Lock) → AreInOrder old → HasAdded (λ m. IsOne (take 0 all) m × So m) old old
    added_first old order = added_none (λ m. IsOne (take 0 all) m × So m) old order (λ m h. none_taken all m h.0)

    pub added_more : (old before new : List Lock) (i : ℕ) (d l : Lock) → i < length all → get_or all i d ≡ l → HasAdded (λ m. IsOne (take i all) m × So m) old before → HasAdded (λ m. (l ≡ m) × So m) before new
        → HasAdded (λ m. IsOne (take (i + 1) all) m × So m) old new
    added_more old before new i d l lt is one next =
        added_both (λ m. IsOne (take i all) m × So m) (λ m. (l ≡ m) × So m) (λ m. IsOne (take (i + 1) all) m × So m) old before new one next
        (λ m. (
          λ h. ⊎_elim (λ o. inl (o, h.1)) (λ e. inr (sym is ∙ e, h.1)) (one_of_more all i d m lt h.0),
          λ h. ⊎_elim (λ k. (more_of_one all i d m lt (inl k.0), k.1)) (λ k. (more_of_one all i d m lt (inr (is ∙ k.0)), k.1)) h,
        ))

    -- who is so is one of them
    pub added_all : (old new : List Lock) (i : ℕ) → length all ≤ i → ((m : Lock) → So m → IsOne all m) → HasAdded (λ m. IsOne (take i all) m × So m) old new → HasAdded So old new
    added_all old new i le ones added =
        added_same (λ m. IsOne (take i all) m × So m) So old new added
        (λ m. (λ h. h.1, λ so. ((one_taken all i m le).1 (ones m so), so)))

-- ---- numbers in lists

pub has_more : (xs : List ℕ) (x q : ℕ) → Has q xs → Has q (xs ++ x ∷ [])
has_more [] x q h = let gone = slice_get_within [] h.0 q h.1 in absurd (omega (arith, gone))
has_more (y ∷ xs) x q (zero, at) = (zero, at)
has_more (y ∷ xs) x q (suc n, at) = let h = has_more xs x q (n, at) in (suc h.0, h.1)

pub has_last : (xs : List ℕ) (x : ℕ) → Has x (xs ++ x ∷ [])
has_last [] x = (zero, refl)
has_last (y ∷ xs) x = let h = has_last xs x in (suc h.0, h.1)

-- ---- where locks end

placed_one : (xs : List Lock) (n : ℕ) (m : Lock) → slice_get xs n ≡ Some m → IsOne xs m
placed_one [] n m at = cc
placed_one (x ∷ xs) zero m at = inl (same_Some _ _ at)
placed_one (x ∷ xs) (suc n) m at = inr (placed_one xs n m at)

-- in a list of different locks each has one place
once : (xs : List Lock) → AllPairs (λ a b. a ≢ b) xs → (i j : ℕ) (m : Lock) → slice_get xs i ≡ Some m → slice_get xs j ≡ Some m → i ≡ j
once xs pairs i j m one other =
    let alike : get_or xs i m ≡ get_or xs j m = get_or_from_slice_get xs i m m one ∙ sym (get_or_from_slice_get xs j m m other) in
    elim (cases_lt i j) [
      | inl before ↦ absurd (pairs i j m before (slice_get_within xs j m other) alike)
      | inr behind ↦ ⊎_elim (λ (same : j ≡ i). sym same) (λ (after : j < i). absurd (pairs j i m after (slice_get_within xs i m one) (sym alike))) (eq-or-lt_of_le behind)
    ]

-- a lock on the register of a `new` becomes none
none_of : (v : LinkContext) (to cells site : ℕ) (l : Lock) → IsOn to l → link v (New to cells site) l ≡ []
none_of v to cells site (Expr e effect) on =
    let same : is_register to e.base ≡ true = subst (λ (b : Base). is_register to b ≡ true) (sym on) (eq-eqb to to refl) in
    ap (λ (b : Bool). flat_map (settle v) (if b then [] else Expr e effect ∷ [])) same
none_of v to cells site (Class class effect) on = absurd on
none_of v to cells site (Root effect) on = absurd on

module _ (a : ExplainAnalysis) (number : ℕ) (s : Section) (there : slice_get a.lowering.sections number ≡ Some s) where
  pub dropped : (pc to : ℕ) (l : Lock) → IsMadeAt (read a) s pc to → IsOn to l → Needs (read a) (Inside number) (suc pc) l → IsDropped (read a) number pc l
  dropped pc to l made on needed = record {
    function = s.function;
    to = to;
    cells = made.cells;
    site = made.site;
    at = record { inside = record { is = s; in_table = there; function = refl; behind = made.behind; ahead = made.ahead }; stands = made.stands };
    needed = needed;
    begins = on;
    none = none_of (view a.classes (stores a.writes) a.k_limit s.function) to made.cells made.site l on;
  }

  -- where a lock ends, a `new` is inside the section
  pub made_dropped : (pc : ℕ) (l : Lock) (d : IsDropped (read a) number pc l) → IsMadeAt (read a) s pc d.to
  made_dropped pc l d =
      let same = same_Some _ _ (sym d.at.inside.in_table ∙ there) in
      record {
        behind = subst (λ (t : Section). t.acquire < pc) same d.at.inside.behind;
        ahead = subst (λ (t : Section). pc < t.release) same d.at.inside.ahead;
        cells = d.cells;
        site = d.site;
        stands = d.at.stands;
      }

  -- the flow has the part of the section at the place, and in it the lock by this number
  module _ (known : IsAnalysed a) (place which : ℕ) (p : RegionNeeds) (l : Lock) (at : slice_get a.flow place ≡ Some p) (is : p.region ≡ Inside number) (named : slice_get p.locks which ≡ Some l) where
    next : (pc : ℕ) → pc + 1 ≡ suc pc
    next pc = omega arith

    pub needed_of : (pc : ℕ) → (k : ℕ) × (slice_get p.needs k ≡ Some (pc + 1, which)) → Needs (read a) (Inside number) (suc pc) l
    needed_of pc h = subst (λ q. Needs (read a) (Inside number) q l) (next pc) ((known.tells (Inside number) (pc + 1) l).0 (place, p, at, is, (which, h.0, h.1, named)))

    pub needs_of : (pc : ℕ) → Needs (read a) (Inside number) (suc pc) l → (k : ℕ) × (slice_get p.needs k ≡ Some (pc + 1, which))
    needs_of pc needed =
        let told = (known.tells (Inside number) (suc pc) l).1 needed in
        let same : told.0 ≡ place = known.flow.apart.distinct told.0 place told.1 p told.2 at (told.3 ∙ sym is) in
        let part : told.1 ≡ p = same_Some _ _ (sym told.2 ∙ ap (slice_get a.flow) same ∙ at) in
        let names : IsInNeeds p (suc pc) l = subst (λ (q : RegionNeeds). IsInNeeds q (suc pc) l) part told.4 in
        let own : names.0 ≡ which = once p.locks (known.flow.apart.different place p at) names.0 which l names.3 named in
        (names.1, subst (λ (n : ℕ). slice_get p.needs names.1 ≡ Some (pc + 1, n)) own (subst (λ (q : ℕ). slice_get p.needs names.1 ≡ Some (q, names.0)) (sym (next pc)) names.2))

  -- who ends somewhere is a lock of the section's part
  pub one_ended : IsAnalysed a → (place : ℕ) (p : RegionNeeds) (l : Lock) → slice_get a.flow place ≡ Some p → p.region ≡ Inside number → EndsSomewhere (read a) number l → IsOne p.locks l
  one_ended known place p l at is ends =
      let told = (known.tells (Inside number) (suc ends.0) l).1 ends.1.needed in
      let same : told.0 ≡ place = known.flow.apart.distinct told.0 place told.1 p told.2 at (told.3 ∙ sym is) in
      let part : told.1 ≡ p = same_Some _ _ (sym told.2 ∙ ap (slice_get a.flow) same ∙ at) in
      let names : IsInNeeds p (suc ends.0) l = subst (λ (q : RegionNeeds). IsInNeeds q (suc ends.0) l) part told.4 in
      placed_one p.locks names.0 l names.3

  -- where the flow has no part of the section, none ends
  pub none_ended : IsAnalysed a → HasNoPart a.flow (Inside number) → (locks : List Lock) → locks ≡ [] → HasAdded (EndsSomewhere (read a) number) [] locks
  none_ended known none locks empty =
      subst (λ (ls : List Lock). HasAdded (EndsSomewhere (read a) number) [] ls) (sym empty)
      (added_none (EndsSomewhere (read a) number) [] tt (λ m ends. (let told = (known.tells (Inside number) (suc ends.0) m).1 ends.1.needed in none told.0 told.1 told.2 told.3)))

-- ---- with chains

-- one lock that ends more
pub ended_more : (x : Read) (section : ℕ) (locks next : List Lock) (l : Lock) (old new : List Ended) (e : Ended) → new ≡ old ++ e ∷ [] → next ≡ locks ++ l ∷ [] → e.lock ≡ l → AreEndedOf x section locks old → IfSome e.ending (IsEnding x section e.lock)
    → AreEndedOf x section next new
ended_more x section locks next l old new e is more lock all one = record {
  same = ap (map (λ (d : Ended). d.lock)) is ∙ map_more (λ (d : Ended). d.lock) old e ∙ ap (λ (xs : List Lock). xs ++ e.lock ∷ []) all.same ∙ ap (λ (m : Lock). locks ++ m ∷ []) lock ∙ sym more;
  told = subst (λ (es : List Ended). (n : ℕ) (d : Ended) → slice_get es n ≡ Some d → IfSome d.ending (IsEnding x section d.lock)) (sym is)
      (each_more (λ (d : Ended). IfSome d.ending (IsEnding x section d.lock)) old e all.told one);
}

one_mapped : (es : List Ended) (m : Lock) → IsOne (map (λ (e : Ended). e.lock) es) m → (n : ℕ) × (e : Ended) × (slice_get es n ≡ Some e) × (e.lock ≡ m)
one_mapped [] m o = absurd o
one_mapped (e ∷ es) m (inl same) = (zero, e, refl, same)
one_mapped (e ∷ es) m (inr o) = let t = one_mapped es m o in (suc t.0, t.1, t.2, t.3)

mapped_one : (es : List Ended) (n : ℕ) (e : Ended) → slice_get es n ≡ Some e → IsOne (map (λ (d : Ended). d.lock) es) e.lock
mapped_one [] n e at = cc
mapped_one (d ∷ es) zero e at = inl (ap (λ (x : Ended). x.lock) (same_Some _ _ at))
mapped_one (d ∷ es) (suc n) e at = inr (mapped_one es n e at)

pub ended_whole : (x : Read) (section : ℕ) (locks : List Lock) (es : List Ended) → HasAdded (EndsSomewhere x section) [] locks → AreEndedOf x section locks es → AreEnded x section es
ended_whole x section locks es added of = record {
  each = λ n e at. record {
    dropped = ⊎_elim (λ o. absurd o) (λ d. d) ((added.ones e.lock).0 (subst (λ (ls : List Lock). IsOne ls e.lock) of.same (mapped_one es n e at)));
    told = of.told n e at;
  };
  all = λ pc m d. one_mapped es m (subst (λ (ls : List Lock). IsOne ls m) (sym of.same) ((added.ones m).1 (inr (pc, d))));
  order = subst AreInOrder (sym of.same) added.order;
}

-- one section more
pub below_more : (x : Read) (n : ℕ) (old new : List (List Ended)) (es : List Ended) → new ≡ old ++ es ∷ [] → AreEndedBelow x n old → AreEnded x n es → AreEndedBelow x (n + 1) new
below_more x n old new es is all one = record {
  count = ap length is ∙ length_more old es ∙ ap (λ k. k + 1) all.count;
  each = λ k ds placed.
      ⊎_elim
      (λ h. all.each k ds h)
      (λ h.
      let place : n ≡ k = (let whole = all.count in let end = h.0 in omega (arith, whole, end)) in
      subst (λ m. AreEnded x m ds) place (subst (AreEnded x n) h.1 one))
      (get_more old es k ds (subst (λ (xs : List (List Ended)). slice_get xs k ≡ Some ds) is placed));
}

pub below_all : (x : Read) (n : ℕ) (sections : List (List Ended)) → n ≡ length x.lowered.sections → AreEndedBelow x n sections → AreAllEnded x sections
below_all x n sections end all = record { count = all.count ∙ end; each = all.each }
