-- Chains: more steps leave them, and they can be joined and turned.
use Rattle.std.proofs.Common.{◌≡◌, ℕ, ◌<◌, ◌⊎◌, inl, inr, List, [], ◌∷◌, ◌++◌, length, take, Some, get_or, slice_get, refl, sym, ap, ◌∙◌, subst, arith, length-append}
use Rattle.std.proofs.lemmas.Bool.{cases_eq}
use Rattle.std.proofs.lemmas.List.{get_or_append_left, take-append-le}
use Rattle.std.proofs.lemmas.Option.{slice_get-get_or, slice_get_within, get_or_from_slice_get}
use Rattle.std.proofs.Math.Seq.{take-append_seam, get_or-append_seam}
use Rattle.asl_lower.specs.Lowered.{Lowered}
use Rattle.asl_class_reasons.specs.declared.place.Place.{Place}
use Rattle.asl_class_reasons.specs.declared.place.Step.{Step}
use Rattle.asl_class_reasons.specs.declared.place.Link.{Link}
use Rattle.asl_class_reasons.specs.Reasons.{Leads, IsChain, Joined, IsReasoned, AreReasons}

pub slice_get_more : {X : Type 0} (xs ys : List X) (n : ℕ) (x : X) → slice_get xs n ≡ Some x → slice_get (xs ++ ys) n ≡ Some x
slice_get_more xs ys n x e =
    let lt = slice_get_within xs n x e in
    slice_get-get_or (xs ++ ys) n x (omega (arith, length-append xs ys)) ∙ ap Some (get_or_append_left xs ys x n lt ∙ get_or_from_slice_get xs n x x e)

-- an element of a list with one more is of the list, or is that one
pub slice_get_last : {X : Type 0} (xs : List X) (y : X) (n : ℕ) (x : X) → slice_get (xs ++ y ∷ []) n ≡ Some x → (slice_get xs n ≡ Some x) ⊎ ((n ≡ length xs) × (x ≡ y))
slice_get_last xs y n x e =
    let lt = slice_get_within (xs ++ y ∷ []) n x e in
    let is = get_or_from_slice_get (xs ++ y ∷ []) n x x e in
    elim (cases_eq n (length xs)) [
      | inl same ↦ inr (same, sym is ∙ ap (λ (k : ℕ). get_or (xs ++ y ∷ []) k x) same ∙ get_or-append_seam xs y [] x)
      | inr ne ↦ (
          let low : n < length xs = omega (arith, length-append xs (y ∷ [])) in
          inl (slice_get-get_or xs n x low ∙ ap Some (sym (get_or_append_left xs (y ∷ []) x n low) ∙ is)))
    ]

pub record Extends (es fs : List Step) : Type 0 where
  pub steps : (n : ℕ) (s : Step) → slice_get es n ≡ Some s → slice_get fs n ≡ Some s

pub extends_more : (es : List Step) (s : Step) → Extends es (es ++ s ∷ [])
extends_more es s = record { steps = λ n t e. slice_get_more es (s ∷ []) n t e }

pub chain_within : (es fs : List Step) → Extends es fs → (ks : List Link) (a b : Place) → IsChain es a ks b → IsChain fs a ks b
chain_within es fs x [] a b e = e
chain_within es fs x (k ∷ ks) a b h = (h.0, x.steps k.step h.0 h.1, h.2, chain_within es fs x ks k.into b h.3)

pub joined_within : (es fs : List Step) → Extends es fs → (a b : Place) → Joined es a b → Joined fs a b
joined_within es fs x a b j = (j.0, chain_within es fs x j.0 a b j.1)

pub chain_on : (es : List Step) (ks js : List Link) (a b c : Place) → IsChain es a ks b → IsChain es b js c → IsChain es a (ks ++ js) c
chain_on es [] js a b c e h = subst (λ x. IsChain es x js c) (sym e) h
chain_on es (k ∷ ks) js a b c h g = (h.0, h.1, h.2, chain_on es ks js k.into b c h.3 g)

pub turned : (s : Step) (a b : Place) → Leads s a b → Leads s b a
turned s a b h = elim h [ inl p ↦ inr (p.1, p.0) | inr p ↦ inl (p.1, p.0) ]

chain_back : (es : List Step) (ks : List Link) (a b : Place) → IsChain es a ks b → Joined es b a
chain_back es [] a b e = ([], sym e)
chain_back es (k ∷ ks) a b h =
    let r = chain_back es ks k.into b h.3 in
    let back : Link = record { step = k.step; into = a } in
    let last : IsChain es k.into (back ∷ []) a = (h.0, h.1, turned h.0 a k.into h.2, refl) in
    (r.0 ++ back ∷ [], chain_on es r.0 (back ∷ []) b k.into a r.1 last)

pub joined_self : (es : List Step) (a b : Place) → a ≡ b → Joined es a b
joined_self es a b e = ([], e)

pub joined_on : (es : List Step) (a b c : Place) → Joined es a b → Joined es b c → Joined es a c
joined_on es a b c j k = (j.0 ++ k.0, chain_on es j.0 k.0 a b c j.1 k.1)

pub joined_back : (es : List Step) (a b : Place) → Joined es a b → Joined es b a
joined_back es a b j = chain_back es j.0 a b j.1

-- a step joins its places
pub joined_last : (es : List Step) (s : Step) → Joined (es ++ s ∷ []) s.from s.into
joined_last es s =
    let there : slice_get (es ++ s ∷ []) (length es) ≡ Some s = slice_get-get_or (es ++ s ∷ []) (length es) s (omega (arith, length-append es (s ∷ []))) ∙ ap Some (get_or-append_seam es s [] s) in
    let link : Link = record { step = length es; into = s.into } in
    (link ∷ [], (s, there, inl (refl, refl), refl))

pub reasons_more : (l : Lowered) (es : List Step) (s : Step) → AreReasons l es → IsReasoned l es s → AreReasons l (es ++ s ∷ [])
reasons_more l es s r h = λ n t e. elim (slice_get_last es s n t e) [
  | inl old ↦ (
      let low = slice_get_within es n t old in
      subst (λ (xs : List Step). IsReasoned l xs t) (sym (take-append-le n es (s ∷ []) (omega arith))) (r n t old))
  | inr new ↦ (
      let all : take n (es ++ s ∷ []) ≡ es = ap (λ (k : ℕ). take k (es ++ s ∷ [])) new.0 ∙ take-append_seam es (s ∷ []) in
      subst (λ (xs : List Step). IsReasoned l xs t) (sym all) (subst (λ (x : Step). IsReasoned l es x) (sym new.1) h))
]
