-- Needs of a section with one more, and the lists of the length that an analysis has.
use Rattle.std.proofs.Common.{◌≡◌, ◌↔◌, ◌+◌, ◌<◌, ⊎_elim, ℕ, zero, suc, List, [], ◌∷◌, ◌++◌, length, map, take, get_or, Some, slice_get, inl, inr, refl, sym, ap, ◌∙◌, subst, arith}
use Rattle.std.proofs.lemmas.Option.{same_Some}
use Rattle.asl_code.specs.declared.lock.Lock.{Lock}
use Rattle.asl_lower.specs.declared.section.Section.{Section}
use Rattle.asl_lock_expr.specs.Links.{IsOne}
use Rattle.asl_emitter.proofs.Reducing.{one_of_more, more_of_one}
use Rattle.asl_explain.specs.declared.explained_value.Need.{Need}
use Rattle.asl_explain.specs.declared.explained_value.Chain.{Chain}
use Rattle.asl_explain.specs.declared.explained_value.Listed.{Listed}
use Rattle.asl_lower.specs.Regions.{Region}
use Rattle.asl_explain.specs.Chains.{Read, IsChain}
use Rattle.asl_explain.specs.Explained.{AreChains, IsNeed, AreNeeds, IsOneOf, IsListed, locks_of}
use Rattle.asl_backward_flow.specs.Flows.{IsFlow}
use Rattle.asl_emitter.specs.BuiltImage.{AreFitted}
use Rattle.asl_explain.specs.declared.explain_analysis.ExplainAnalysis.{ExplainAnalysis}
use Rattle.asl_explain.specs.declared.explained_value.Lists.TheVariants.{Inferred}
use Rattle.asl_explain.specs.Analysed.{IsAnalysed, AreListed, AreSections, AreFittedAt}
use Rattle.asl_explain.proofs.Ends.{get_more, at_old, at_end, length_more, all_more, map_more}

-- one chain more
pub chains_more : (x : Read) (r : Region) (from : ℕ) (lock : Lock) (old new : List Chain) (c : Chain) → new ≡ old ++ c ∷ [] → AreChains x r from lock old → IsChain x r from lock c.steps → AreChains x r from lock new
chains_more x r from lock old new c is all one =
    subst (AreChains x r from lock) (sym is) (all_more (λ (d : Chain). IsChain x r from lock d.steps) old c all one)

-- one need more
pub needs_more : (x : Read) (section : ℕ) (s : Section) (old new : List Need) (d : Need) → new ≡ old ++ d ∷ [] → AreNeeds x section s old → IsNeed x section s d → AreNeeds x section s new
needs_more x section s old new d is all one = subst (AreNeeds x section s) (sym is) (all_more (IsNeed x section s) old d all one)

-- the locks of needs to which one is added are the first locks, one more of them
pub ones_more : (old new : List Need) (d : Need) → new ≡ old ++ d ∷ [] → (locks : List Lock) (i : ℕ) (e : Lock) → i < length locks → d.lock ≡ get_or locks i e → ((n : Lock) → IsOneOf old n ↔ IsOne (take i locks) n)
    → (n : Lock) → IsOneOf new n ↔ IsOne (take (i + 1) locks) n
ones_more old new d is locks i e lt same before n = (
  λ h.
      let at : slice_get (old ++ d ∷ []) h.0 ≡ Some h.1 = subst (λ (xs : List Need). slice_get xs h.0 ≡ Some h.1) is h.2 in
      more_of_one locks i e n lt
      (⊎_elim (λ k. inl ((before n).0 (h.0, h.1, k, h.3))) (λ k. inr (sym same ∙ ap (λ (x : Need). x.lock) k.1 ∙ h.3)) (get_more old d h.0 h.1 at)),
  λ o.
      ⊎_elim
      (λ k. let t = (before n).1 k in (t.0, t.1, subst (λ (xs : List Need). slice_get xs t.0 ≡ Some t.1) (sym is) (at_old old d t.0 t.1 t.2), t.3))
      (λ k. (length old, d, subst (λ (xs : List Need). slice_get xs (length old) ≡ Some d) (sym is) (at_end old d), same ∙ k))
      (one_of_more locks i e n lt o),
)

-- one lock of a list more
pub listed_more : (x : Read) (section : ℕ) (s : Section) (list next : List Lock) (lock : Lock) (old new : List Listed) (d : Listed) → new ≡ old ++ d ∷ [] → next ≡ list ++ lock ∷ [] → d.lock ≡ lock → AreListed x section s list old → IsListed x section s d
    → AreListed x section s next new
listed_more x section s list next lock old new d is more same all one = record {
  locks = ap (map (λ (e : Listed). e.lock)) is ∙ map_more (λ (e : Listed). e.lock) old d ∙ ap (λ (xs : List Lock). xs ++ d.lock ∷ []) all.locks ∙ ap (λ (m : Lock). list ++ m ∷ []) same ∙ sym more;
  each = subst (λ (xs : List Listed). (n : ℕ) (e : Listed) → slice_get xs n ≡ Some e → IsListed x section s e) (sym is) (all_more (IsListed x section s) old d all.each one);
}

-- one more of the first items of a list
taken_suc : (xs : List Lock) (i : ℕ) (d lock : Lock) → i < length xs → get_or xs i d ≡ lock → take (suc i) xs ≡ take i xs ++ lock ∷ []
taken_suc [] i d lock lt is = absurd (omega (arith, lt))
taken_suc (x ∷ xs) zero d lock lt is = ap (λ (y : Lock). y ∷ []) is
taken_suc (x ∷ xs) (suc i) d lock lt is = ap (λ (ys : List Lock). x ∷ ys) (taken_suc xs i d lock (omega (arith, lt)) is)

pub taken_more : (xs : List Lock) (i : ℕ) (d lock : Lock) → i < length xs → get_or xs i d ≡ lock → take (i + 1) xs ≡ take i xs ++ lock ∷ []
taken_more xs i d lock lt is =
    let one : suc i ≡ i + 1 = omega arith in
    subst (λ n. take n xs ≡ take i xs ++ lock ∷ []) one (taken_suc xs i d lock lt is)

pub same_more : (old new : List Need) (d : Need) → new ≡ old ++ d ∷ [] → (locks : List Lock) (i : ℕ) (e : Lock) → i < length locks → d.lock ≡ get_or locks i e → locks_of old ≡ take i locks → locks_of new ≡ take (i + 1) locks
same_more old new d is locks i e lt same before =
    ap locks_of is ∙ map_more (λ (x : Need). x.lock) old d ∙ ap (λ (xs : List Lock). xs ++ d.lock ∷ []) before ∙ ap (λ (m : Lock). take i locks ++ m ∷ []) same ∙ sym (taken_more locks i e (get_or locks i e) lt refl)

-- one section more
pub sections_more : (x : Read) (lists : List (List Lock)) (n : ℕ) (s : Section) (list : List Lock) (old new : List (List Listed)) (ls : List Listed) → new ≡ old ++ ls ∷ [] → slice_get x.lowered.sections n ≡ Some s → slice_get lists n ≡ Some list
    → AreSections x lists n old → AreListed x n s list ls → AreSections x lists (n + 1) new
sections_more x lists n s list old new ls is stands at all one = record {
  count = ap length is ∙ length_more old ls ∙ ap (λ k. k + 1) all.count;
  each = λ k t ms ds section with placed.
      ⊎_elim
      (λ h. all.each k t ms ds section with h)
      (λ h.
      let place : n ≡ k = (let whole = all.count in let end = h.0 in omega (arith, whole, end)) in
      last k t ms ds place h.1 section with)
      (get_more old ls k ds (subst (λ (xs : List (List Listed)). slice_get xs k ≡ Some ds) is placed));
}
  where
    last : (k : ℕ) (t : Section) (ms : List Lock) (ds : List Listed) → n ≡ k → ls ≡ ds → slice_get x.lowered.sections k ≡ Some t → slice_get lists k ≡ Some ms → AreListed x k t ms ds
    last k t ms ds place same section with =
        let here : s ≡ t = same_Some _ _ (sym stands ∙ subst (λ m. slice_get x.lowered.sections m ≡ Some t) (sym place) section) in
        let there : list ≡ ms = same_Some _ _ (sym at ∙ subst (λ m. slice_get lists m ≡ Some ms) (sym place) with) in
        subst (λ m. AreListed x m t ms ds) place
        (subst (λ (u : Section). AreListed x n u ms ds) here
        (subst (λ (xs : List Lock). AreListed x n s xs ds) there
        (subst (λ (xs : List Listed). AreListed x n s list xs) same one)))

-- the lists that are fitted to the flow of an analysis are those of its length
pub fitted_own : (a : ExplainAnalysis) → IsAnalysed a → (k_limit : ℕ) (lists : List (List Lock)) → k_limit ≡ a.k_limit → AreFitted a.lowering a.classes a.flow (length a.lowering.sections) lists
    → AreFittedAt a.lowering a.classes k_limit (Inferred lists)
fitted_own a known k_limit lists same fitted = (a.flow, subst (λ n. IsFlow a.lowering a.classes n a.flow) (sym same) known.flow, fitted)
