-- Steps that follow from first reasons, chains of them, and that trees leave places apart.
use Rattle.std.proofs.Common.{◌≡◌, ℕ, zero, suc, ◌+◌, ◌<◌, ◌≤◌, inl, inr, List, [], ◌∷◌, ◌++◌, length, take, None, Some, get_or, slice_get, refl, sym, ap, ◌∙◌, subst, arith, length-append}
use Rattle.std.proofs.lemmas.Bool.{cases_eq}
use Rattle.std.proofs.lemmas.Option.{slice_get-get_or}
use Rattle.std.proofs.Math.Seq.{get_or-append_seam}
use Rattle.asl_lower.specs.Lowered.{Lowered}
use Rattle.asl_class_reasons.specs.declared.place.Place.{Place}
use Rattle.asl_class_reasons.specs.declared.place.Step.{Step}
use Rattle.asl_class_reasons.specs.declared.place.Link.{Link}
use Rattle.asl_class_reasons.specs.declared.following.Shown.{Shown}
use Rattle.asl_class_reasons.specs.declared.join_numbers.JoinNumbers.{JoinNumbers}
use Rattle.asl_class_reasons.specs.Reasons.{Leads, IsChain, Joined, IsReasoned}
use Rattle.asl_class_reasons.specs.Draft.{number}
use Rattle.asl_class_reasons.specs.Following.{AreFollowing, above_of, number_of, IsBelow, IsRootAt, HaveOneRoot, HaveTwoRoots, AreInTrees}
use Rattle.asl_class_reasons.proofs.Linking.{extends_more, chain_within, chain_on, slice_get_last}
use Rattle.asl_class_reasons.proofs.Sound.{take_at}
use Rattle.asl_class_reasons.proofs.StraightChains.{extends_taken, reasoned_within}

-- one step more that follows
pub one_follows : (l : Lowered) (es : List Step) (items : List Shown) (s : Shown) → AreFollowing l es items → IsReasoned l (take s.before es) s.step → AreFollowing l es (items ++ s ∷ [])
one_follows l es items s h r = λ n t e. elim (slice_get_last items s n t e) [
  | inl old ↦ h n t old
  | inr new ↦ subst (λ (x : Shown). IsReasoned l (take x.before es) x.step) (sym new.1) r
]

-- none do
pub none_follow : (l : Lowered) (es : List Step) (items : List Shown) → items ≡ [] → AreFollowing l es items
none_follow l es items none n t e = absurd (let no : None ≡ Some t = ap (λ (xs : List Shown). slice_get xs n) (sym none) ∙ e in cc)

-- one link more, by the step that is put behind the others
pub chain_put : (es : List Step) (s : Step) (ks : List Link) (a b c : Place) → IsChain es a ks b → Leads s b c → IsChain (es ++ s ∷ []) a (ks ++ record { step = length es; into = c } ∷ []) c
chain_put es s ks a b c h leads =
    let fs : List Step = es ++ s ∷ [] in
    let link : Link = record { step = length es; into = c } in
    let there : slice_get fs (length es) ≡ Some s = slice_get-get_or fs (length es) s (omega (arith, length-append es (s ∷ []))) ∙ ap Some (get_or-append_seam es s [] s) in
    let last : IsChain fs b (link ∷ []) c = (s, there, leads, refl) in
    chain_on fs ks (link ∷ []) a b c (chain_within es fs (extends_more es s) ks a b h) last

pub chain_put_at : (es : List Step) (s : Step) (ks : List Link) (a b c : Place) (n : ℕ) → n ≡ length es → IsChain es a ks b → Leads s b c → IsChain (es ++ s ∷ []) a (ks ++ record { step = n; into = c } ∷ []) c
chain_put_at es s ks a b c n e h leads =
    subst (λ (k : ℕ). IsChain (es ++ s ∷ []) a (ks ++ record { step = k; into = c } ∷ []) c) (sym e) (chain_put es s ks a b c h leads)

-- one step more up a tree
pub below_more : (j : JoinNumbers) (k n a b : ℕ) → IsBelow j k n a b → number_of j b < k → IsBelow j k (suc n) a (above_of j b)
below_more j k zero a b e lt = (subst (λ (x : ℕ). number_of j x < k) (sym e) lt, ap (above_of j) e)
below_more j k (suc n) a b h lt = (h.0, below_more j k n (above_of j a) b h.1 lt)

-- a place has the root of a place above it
root_down : (j : JoinNumbers) (i k n a z x : ℕ) → i ≤ k → IsBelow j i n a z → IsRootAt j k z x → IsRootAt j k a x
root_down j i k zero a z x le e r = subst (λ (y : ℕ). IsRootAt j k y x) (sym e) r
root_down j i k (suc n) a z x le h r =
    let up = root_down j i k n (above_of j a) z x le h.1 r in
    let lt = h.0 in
    let low : number_of j a < k = omega arith in
    (suc up.0, (low, up.1), up.2)

-- and the other way round
one_up : (j : JoinNumbers) (k a x : ℕ) → number_of j a < k → IsRootAt j k a x → IsRootAt j k (above_of j a) x
one_up j k a x lt (zero, e, high) = absurd (let same : number_of j a ≡ number_of j x = ap (number_of j) e in omega arith)
one_up j k a x lt (suc n, h, high) = (n, h.1, high)

root_up : (j : JoinNumbers) (i k n a z x : ℕ) → i ≤ k → IsBelow j i n a z → IsRootAt j k a x → IsRootAt j k z x
root_up j i k zero a z x le e r = subst (λ (y : ℕ). IsRootAt j k y x) e r
root_up j i k (suc n) a z x le h r =
    let lt = h.0 in
    let low : number_of j a < k = omega arith in
    root_up j i k n (above_of j a) z x le h.1 (one_up j k a x low r)

top : (j : JoinNumbers) (k x y : ℕ) → k ≤ number_of j x → IsRootAt j k x y → x ≡ y
top j k x y high (zero, e, h) = e
top j k x y high (suc n, b, h) = absurd (let low = b.0 in omega arith)

one_root : (j : JoinNumbers) (k a x y : ℕ) → IsRootAt j k a x → IsRootAt j k a y → x ≡ y
one_root j k a x y r s = top j k x y r.2 (root_up j k k r.0 a x y (omega arith) r.1 s)

-- places of one tree keep one root
kept : (j : JoinNumbers) (i k a b x : ℕ) → i ≤ k → HaveOneRoot j i a b → IsRootAt j k a x → IsRootAt j k b x
kept j i k a b x le h r =
    let of_a = h.1 in
    let of_b = h.2 in
    root_down j i k of_b.0 b h.0 x le of_b.1 (root_up j i k of_a.0 a h.0 x le of_a.1 r)

turned_root : (j : JoinNumbers) (i a b : ℕ) → HaveOneRoot j i a b → HaveOneRoot j i b a
turned_root j i a b h = (h.0, h.2, h.1)

along : (j : JoinNumbers) (m : ℕ) (es : List Step) (count k : ℕ) → AreInTrees j m es count → k ≤ count → (ks : List Link) (a b : Place) → IsChain (take k es) a ks b → (x : ℕ) → IsRootAt j k (number m a) x → IsRootAt j k (number m b) x
along j m es count k h le [] a b e x r = subst (λ (p : Place). IsRootAt j k (number m p) x) e r
along j m es count k h le (link ∷ ks) a b c x r =
    let s : Step = c.0 in
    let at = take_at es k link.step s c.1 in
    let lt = at.0 in
    let one : HaveOneRoot j (suc link.step) (number m s.from) (number m s.into) = h link.step s (omega arith) at.1 in
    let low : suc link.step ≤ k = omega arith in
    let next : IsRootAt j k (number m link.into) x = elim c.2 [
      | inl p ↦ subst (λ (q : Place). IsRootAt j k (number m q) x) p.1 (kept j (suc link.step) k (number m s.from) (number m s.into) x low one (subst (λ (q : Place). IsRootAt j k (number m q) x) (sym p.0) r))
      | inr p ↦ subst (λ (q : Place). IsRootAt j k (number m q) x) p.1 (kept j (suc link.step) k (number m s.into) (number m s.from) x low (turned_root j (suc link.step) (number m s.from) (number m s.into) one) (subst (λ (q : Place). IsRootAt j k (number m q) x) (sym p.0) r))
    ] in
    along j m es count k h le ks link.into b c.3 x next

-- places in two trees are apart
pub two_trees : (j : JoinNumbers) (m : ℕ) (es : List Step) (count k : ℕ) (a b : Place) → AreInTrees j m es count → k ≤ count → HaveTwoRoots j k (number m a) (number m b) → Joined (take k es) a b → ⊥
two_trees j m es count k a b h le t c = t.4 (one_root j k (number m b) t.0 t.1 (along j m es count k h le c.0 a b c.1 t.0 t.2) t.3)

-- one step more is in one tree
pub trees_more : (j : JoinNumbers) (m : ℕ) (es : List Step) (n : ℕ) (s : Step) → AreInTrees j m es n → slice_get es n ≡ Some s → HaveOneRoot j (n + 1) (number m s.from) (number m s.into) → AreInTrees j m es (n + 1)
trees_more j m es n s h e one i t lt at = elim (cases_eq i n) [
  | inl same ↦ (
      let is : Some t ≡ Some s = sym at ∙ ap (slice_get es) same ∙ e in
      let own : t ≡ s = cc in
      let next : n + 1 ≡ suc i = omega arith in
      subst (λ (k : ℕ). HaveOneRoot j k (number m t.from) (number m t.into)) next (subst (λ (x : Step). HaveOneRoot j (n + 1) (number m x.from) (number m x.into)) (sym own) one))
  | inr ne ↦ h i t (omega arith) at
]

pub trees_at : (j : JoinNumbers) (m : ℕ) (es xs : List Step) (n : ℕ) (d : Step) → xs ≡ es → n < length xs → AreInTrees j m es n → HaveOneRoot j (n + 1) (number m (get_or xs n d).from) (number m (get_or xs n d).into) → AreInTrees j m es (n + 1)
trees_at j m es xs n d same lt h one =
    trees_more j m es n (get_or xs n d) h (ap (λ (ys : List Step). slice_get ys n) (sym same) ∙ slice_get-get_or xs n d lt) one

-- more of the first steps reason what fewer do
pub reasoned_later : (l : Lowered) (es : List Step) (n k : ℕ) (s : Step) → n ≤ k → IsReasoned l (take n es) s → IsReasoned l (take k es) s
reasoned_later l es n k s le r = reasoned_within l (take n es) (take k es) s (extends_taken es n k le) r
