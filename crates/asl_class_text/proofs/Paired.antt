-- Pairs and classes, one more at a time.
use Rattle.std.proofs.Common.{◌≡◌, ℕ, zero, suc, ◌+◌, ◌<◌, ◌⊎◌, List, [], ◌∷◌, ◌++◌, Bool, length, get_or, slice_get, Some, refl, sym, ap, subst, inl, inr, ◌∙◌, arith}
use Rattle.std.proofs.lemmas.List.{length_push}
use Rattle.std.proofs.lemmas.Option.{slice_get_within, slice_get-get_or}
use Rattle.asl_lower.specs.Lowered.{Lowered}
use Rattle.asl_class_reasons.specs.declared.place.Place.TheVariants.{Member}
use Rattle.asl_class_reasons.specs.declared.place.Step.{Step}
use Rattle.asl_class_reasons.specs.Reasons.{Joined}
use Rattle.asl_class_text.specs.declared.told.ToldPair.{ToldPair}
use Rattle.asl_class_text.specs.declared.told.ToldClass.{ToldClass}
use Rattle.asl_class_text.specs.Classes.{IsOther, AreOthers, IsToldClass, AreToldClasses}
use Rattle.asl_class_text.specs.Made.{AreJoined}

pub none_there : {A : Type 0} (n : ℕ) (m : A) → slice_get {X = A} [] n ≡ Some m → ⊥
none_there {A} n m h = let low : n < length {A = A} [] = slice_get_within [] n m h in omega (arith, low)

pub same_Some : {A : Type 0} (x y : A) → Some x ≡ Some y → x ≡ y
same_Some x y h = cc

-- an element after a push is one from before, or the last
get_more : {A : Type 0} (xs : List A) (y : A) (k : ℕ) (z : A) → slice_get (xs ++ y ∷ []) k ≡ Some z → (slice_get xs k ≡ Some z) ⊎ ((k ≡ length xs) × (y ≡ z))
get_more [] y zero z h = inr (refl, same_Some y z h)
get_more [] y (suc k) z h = absurd (none_there k z h)
get_more (x ∷ xs) y zero z h = inl h
get_more (x ∷ xs) y (suc k) z h = elim (get_more xs y k z h) [ inl a ↦ inl a | inr b ↦ inr (ap suc b.0, b.1) ]

-- an element of a list, by its number
pub there_at : {A : Type 0} (xs : List A) (n : ℕ) (d x : A) → n < length xs → x ≡ get_or xs n d → slice_get xs n ≡ Some x
there_at xs n d x low is = slice_get-get_or xs n d low ∙ ap Some (sym is)

pub order_at : (steps : List Step) (first : ℕ) (others : List ℕ) (n d second : ℕ) → AreJoined steps first others → n < length others → second ≡ get_or others n d → first < second
order_at steps first others n d second joined low is = (joined n second (there_at others n d second low is)).0

pub joined_at : (steps : List Step) (first : ℕ) (others : List ℕ) (n d second : ℕ) → AreJoined steps first others → n < length others → second ≡ get_or others n d → Joined steps (Member first) (Member second)
joined_at steps first others n d second joined low is = (joined n second (there_at others n d second low is)).1

pub others_more : (l : Lowered) (steps : List Step) (first : ℕ) (others : List ℕ) (n d second : ℕ) (old new : List ToldPair) (p : ToldPair) → n < length others → second ≡ get_or others n d → new ≡ old ++ p ∷ [] → IsOther l steps first second p
    → AreOthers l steps first others n old → AreOthers l steps first others (n + 1) new
others_more l steps first others n d second old new p low is grows one h = record {
  count = ap length grows ∙ length_push old p ∙ ap (λ (k : ℕ). k + 1) h.count;
  each = λ k s q hs hq. elim (get_more old p k q (subst (λ (xs : List ToldPair). slice_get xs k ≡ Some q) grows hq)) [
    | inl a ↦ h.each k s q hs a
    | inr b ↦ (let here : k ≡ n = b.0 ∙ h.count in
        let at : slice_get others n ≡ Some s = subst (λ (j : ℕ). slice_get others j ≡ Some s) here hs in
        let same : second ≡ s = same_Some second s (sym (there_at others n d second low is) ∙ at) in
        subst (λ (t : ℕ). IsOther l steps first t q) same (subst (λ (r : ToldPair). IsOther l steps first second r) b.1 one))
  ];
}

pub classes_more : (l : Lowered) (classes : List ℕ) (n : ℕ) (steps : List Step) (all : Bool) (old new : List ToldClass) (t : ToldClass) → new ≡ old ++ t ∷ [] → IsToldClass l classes steps all n t → AreToldClasses l classes n steps all old → AreToldClasses l classes (n + 1) steps all new
classes_more l classes n steps all old new t grows one h = record {
  count_is = ap length grows ∙ length_push old t ∙ ap (λ (k : ℕ). k + 1) h.count_is;
  each = λ k u hu. elim (get_more old t k u (subst (λ (xs : List ToldClass). slice_get xs k ≡ Some u) grows hu)) [
    | inl a ↦ h.each k u a
    | inr b ↦ (let here : n ≡ k = sym (b.0 ∙ h.count_is) in
        subst (λ (j : ℕ). IsToldClass l classes steps all j u) here (subst (λ (v : ToldClass). IsToldClass l classes steps all n v) b.1 one))
  ];
}

-- two members are two places
pub two_members : (m n : ℕ) → m < n → Member m ≡ Member n → ⊥
two_members m n low e = (let same : m ≡ n = cc in omega arith)
