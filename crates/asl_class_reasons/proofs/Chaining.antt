-- Chains as searches give them: the way back over visits is one, and a search that found nothing more leaves none out.
use Rattle.std.proofs.Common.{◌≡◌, ℕ, suc, ◌+◌, ◌-◌, ◌<◌, inl, inr, List, [], ◌∷◌, ◌++◌, take, Some, get_or, slice_get, sym, ap, ◌∙◌, subst, arith}
use Rattle.std.proofs.lemmas.List.{reverse-append}
use Rattle.std.specs.Prelude.{reverse}
use Rattle.asl_class_reasons.specs.declared.place.Place.{Place}
use Rattle.asl_class_reasons.specs.declared.place.Step.{Step}
use Rattle.asl_class_reasons.specs.declared.place.Link.{Link}
use Rattle.asl_class_reasons.specs.declared.search.Visit.{Visit}
use Rattle.asl_class_reasons.specs.declared.search.Search.{Search}
use Rattle.asl_class_reasons.specs.Reasons.{Leads, IsChain, Joined}
use Rattle.asl_class_reasons.specs.Draft.{Has}
use Rattle.asl_class_reasons.specs.Chains.{AreStepsThere, seen, IsShaped, IsSearch, IsClosed, IsEven, AreChains}
use Rattle.std.proofs.lemmas.Bool.{cases_eq}
use Rattle.std.proofs.lemmas.Option.{slice_get-get_or}
use Rattle.asl_class_reasons.proofs.Linking.{joined_back}
use Rattle.asl_class_reasons.proofs.Sound.{take_at}

-- the visits at one number are one
pub one_visit : (vs : List Visit) (n : ℕ) (u v : Visit) → slice_get vs n ≡ Some u → slice_get vs n ≡ Some v → u ≡ v
one_visit vs n u v eu ev =
    let same : Some u ≡ Some v = sym eu ∙ ev in
    cc

-- one link more in front
pub walked : (steps : List Step) (t : Search) (at : ℕ) (here u : Visit) (ks more : List Link) (b : Place) → IsSearch steps t → 0 < at → slice_get t.visits.items at ≡ Some here → slice_get t.visits.items here.before ≡ Some u → more ≡ ks ++ record { step = here.step; into = here.place } ∷ [] → IsChain steps here.place (reverse ks) b → IsChain steps u.place (reverse more) b
walked steps t at here u ks more b h lt e eu em c =
    let link : Link = record { step = here.step; into = here.place } in
    let is : at ≡ suc (at - 1) = omega arith in
    let r = h.reached (at - 1) here (ap (slice_get t.visits.items) (sym is) ∙ e) in
    let same : r.before ≡ u = one_visit t.visits.items here.before r.before u r.there eu in
    let chain : IsChain steps u.place (link ∷ reverse ks) b = (r.step, r.stands, subst (λ (x : Visit). Leads r.step x.place here.place) same r.leads, c) in
    let turned : link ∷ reverse ks ≡ reverse more = sym (ap (λ (xs : List Link). reverse xs) em ∙ reverse-append ks (link ∷ [])) in
    subst (λ (xs : List Link). IsChain steps u.place xs b) turned chain

-- where each step has both places visited or none, chains lead from visited places to visited ones
seen_along : (steps : List Step) (t : Search) → IsClosed steps t → (ks : List Link) (a b : Place) → IsChain steps a ks b → (seen t a ≡ 0 → ⊥) → seen t b ≡ 0 → ⊥
seen_along steps t h [] a b e some z = some (ap (seen t) e ∙ z)
seen_along steps t h (k ∷ ks) a b c some z =
    let even = h.each k.step c.0 c.1 in
    seen_along steps t h ks k.into b c.3 (λ y. elim c.2 [
      | inl p ↦ some (sym (ap (seen t) p.0) ∙ even.1 (ap (seen t) p.1 ∙ y))
      | inr p ↦ some (sym (ap (seen t) p.0) ∙ even.0 (ap (seen t) p.1 ∙ y))
    ]) z

-- a place from which a chain leads elsewhere is of the program
end_there : (steps : List Step) (m f : ℕ) → AreStepsThere m f steps → (ks : List Link) (a b : Place) → IsChain steps a ks b → (a ≡ b → ⊥) → Has m f a
end_there steps m f there [] a b e ne = absurd (ne e)
end_there steps m f there (k ∷ ks) a b c ne =
    let both = there k.step c.0 c.1 in
    elim c.2 [
      | inl p ↦ subst (λ (x : Place). Has m f x) p.0 both.0
      | inr p ↦ subst (λ (x : Place). Has m f x) p.0 both.1
    ]

pub none_joined : (steps : List Step) (t : Search) (into : Place) → AreChains steps t → (into ≡ t.from → ⊥) → (Has t.members t.functions into → seen t into ≡ 0) → Joined steps t.from into → ⊥
none_joined steps t into h ne none j =
    let there = h.search.steps_there in
    let back = joined_back steps t.from into j in
    let from = end_there steps t.members t.functions there j.0 t.from into j.1 (λ e. ne (sym e)) in
    let to = end_there steps t.members t.functions there back.0 into t.from back.1 ne in
    seen_along steps t h.closed j.0 t.from into j.1 (h.search.shaped.start from) (none to)

-- one step more that has both places visited or none
pub one_even : (t : Search) (steps : List Step) (index : ℕ) → ((n : ℕ) (s : Step) → n < index → slice_get steps n ≡ Some s → IsEven t s) → ((s : Step) → slice_get steps index ≡ Some s → IsEven t s) → (n : ℕ) (s : Step) → n < index + 1 → slice_get steps n ≡ Some s → IsEven t s
one_even t steps index below here n s lt e = elim (cases_eq n index) [
  | inl same ↦ here s (ap (slice_get steps) (sym same) ∙ e)
  | inr ne ↦ below n s (omega arith) e
]

-- steps of the first of a list are there
pub first_there : (steps firsts : List Step) (m f k : ℕ) → AreStepsThere m f steps → firsts ≡ take k steps → AreStepsThere m f firsts
first_there steps firsts m f k h e = λ n s g. h n s (take_at steps k n s (ap (λ (xs : List Step). slice_get xs n) (sym e) ∙ g)).1

-- visits go back
pub goes_back : (t : Search) (at : ℕ) (here : Visit) → IsShaped t → 0 < at → slice_get t.visits.items at ≡ Some here → here.before < at
goes_back t at here h some e =
    let is : at ≡ suc (at - 1) = omega arith in
    let low = h.back (at - 1) here (ap (slice_get t.visits.items) (sym is) ∙ e) in
    omega arith

-- the links from the first visit
pub from_first : (steps : List Step) (t : Search) (at : ℕ) (ks : List Link) (b : Place) → IsShaped t → at ≡ 0 → ((u : Visit) → slice_get t.visits.items at ≡ Some u → IsChain steps u.place ks b) → IsChain steps t.from ks b
from_first steps t at ks b h e chain =
    let none : Visit = record { place = t.from; step = 0; before = 0 } in
    let u : Visit = get_or t.visits.items 0 none in
    let there : slice_get t.visits.items 0 ≡ Some u = slice_get-get_or t.visits.items 0 none h.begun in
    subst (λ (p : Place). IsChain steps p ks b) (h.first u there) (chain u (ap (slice_get t.visits.items) e ∙ there))
