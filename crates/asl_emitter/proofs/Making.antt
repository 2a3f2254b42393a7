-- The image that is made for a lowering is the inferred one.
use Rattle.std.proofs.Common.{◌≡◌, ◌↔◌, ◌+◌, ◌⊎◌, ℕ, zero, suc, Bool, List, [], ◌∷◌, ◌++◌, Some, length, slice_get, refl, sym, ◌∙◌, subst, inl, inr, arith}
use Rattle.asl_code.specs.declared.image.Image.{Image}
use Rattle.asl_code.specs.declared.lock.Lock.{Lock}
use Rattle.asl_lower.specs.declared.section.Section.{Section}
use Rattle.asl_lower.specs.Lowered.{Lowered}
use Rattle.asl_lower.specs.Regions.{Region, Inside}
use Rattle.asl_points_to.specs.Classes.{Classed}
use Rattle.asl_lock_expr.specs.Links.{IsOne}
use Rattle.asl_backward_flow.specs.Needed.{RegionNeeds, Needed, IsTold, TellsNeeded}
use Rattle.asl_backward_flow.specs.Flows.{IsFlow, IsEntryFlow, TellsEntries}
use Rattle.asl_emitter.specs.Lists.{IsFitted}
use Rattle.asl_emitter.specs.Inferred.{IsInferred}
use Rattle.asl_emitter.specs.BuiltImage.{AreFitted, IsMade}
use Rattle.asl_emitter.proofs.Fits.{fitted_same}

-- what is told of the place after an `acq` is what is needed there
pub told_needed : (l : Lowered) (c : Classed) (stores : ℕ → ℕ → Bool) (k_limit : ℕ) (parts : List RegionNeeds) → TellsNeeded l c stores k_limit parts → (r : Region) (pc : ℕ) (a : Lock) → IsTold parts r (pc + 1) a ↔ Needed l c stores k_limit r (suc pc) a
told_needed l c stores k_limit parts tells r pc a =
    let same : pc + 1 ≡ suc pc = omega arith in
    subst (λ q. IsTold parts r (pc + 1) a ↔ Needed l c stores k_limit r q a) same (tells r (pc + 1) a)

-- the same where only first points of sections are told
told_at_entry : (l : Lowered) (c : Classed) (stores : ℕ → ℕ → Bool) (k_limit : ℕ) (parts : List RegionNeeds) → TellsEntries l c stores k_limit parts → (n : ℕ) (s : Section) → slice_get l.sections n ≡ Some s → (a : Lock)
    → IsTold parts (Inside n) (s.acquire + 1) a ↔ Needed l c stores k_limit (Inside n) (suc s.acquire) a
told_at_entry l c stores k_limit parts tells n s there a =
    let same : suc s.acquire ≡ s.acquire + 1 = omega arith in
    subst (λ q. IsTold parts (Inside n) q a ↔ Needed l c stores k_limit (Inside n) (suc s.acquire) a) same (tells n s a there)

-- who tells of each point tells of first points
entries_told : (l : Lowered) (c : Classed) (stores : ℕ → ℕ → Bool) (k_limit : ℕ) (parts : List RegionNeeds) → TellsNeeded l c stores k_limit parts → TellsEntries l c stores k_limit parts
entries_told l c stores k_limit parts tells n s a there = tells (Inside n) (suc s.acquire) a

pub entry_flow : (l : Lowered) (c : Classed) (k_limit : ℕ) (parts : List RegionNeeds) → IsFlow l c k_limit parts → IsEntryFlow l c k_limit parts
entry_flow l c k_limit parts f = record {
  stores = f.stores;
  written = f.written;
  tells = entries_told l c f.stores k_limit parts f.tells;
  few = f.few;
}

pub made_at_entries : (l : Lowered) (c : Classed) (stores : ℕ → ℕ → Bool) (k_limit : ℕ) (parts : List RegionNeeds) (image : Image) → TellsEntries l c stores k_limit parts → IsMade l c parts image → IsInferred l c stores k_limit image
made_at_entries l c stores k_limit parts image tells m = record {
  version = m.version;
  classes = m.classes;
  globals = m.globals;
  functions = m.functions;
  start = m.start;
  code = m.code;
  count = m.lists.count;
  lists = λ n s locks there at.
      fitted_same c s.function 256 (IsTold parts (Inside n) (s.acquire + 1)) (Needed l c stores k_limit (Inside n) (suc s.acquire)) locks
      (λ a. told_at_entry l c stores k_limit parts tells n s there a) (m.lists.each n s locks there at);
}

pub made_inferred : (l : Lowered) (c : Classed) (stores : ℕ → ℕ → Bool) (k_limit : ℕ) (parts : List RegionNeeds) (image : Image) → TellsNeeded l c stores k_limit parts → IsMade l c parts image → IsInferred l c stores k_limit image
made_inferred l c stores k_limit parts image tells m = made_at_entries l c stores k_limit parts image (entries_told l c stores k_limit parts tells) m

get_more : {X : Type 0} (xs : List X) (y : X) (n : ℕ) (x : X) → slice_get (xs ++ y ∷ []) n ≡ Some x → (slice_get xs n ≡ Some x) ⊎ ((n ≡ length xs) × (y ≡ x))
get_more [] y zero x e = inr (refl, cc)
get_more [] y (suc n) x e = cc
get_more (z ∷ xs) y zero x e = inl e
get_more (z ∷ xs) y (suc n) x e = elim (get_more xs y n x e) [ inl h ↦ inl h | inr h ↦ (let same = h.0 in inr (omega (arith, same), h.1)) ]

-- one list more
pub fitted_more : (l : Lowered) (c : Classed) (parts : List RegionNeeds) (count : ℕ) (lists : List (List Lock)) (s : Section) (locks : List Lock) → AreFitted l c parts count lists →
    slice_get l.sections count ≡ Some s → IsFitted c s.function 256 (IsTold parts (Inside count) (s.acquire + 1)) locks → AreFitted l c parts (count + 1) (lists ++ locks ∷ [])
fitted_more l c parts count lists s locks old there fits = record {
  count = longer lists old.count;
  each = λ n t ms section at. elim (get_more lists locks n ms at) [
    | inl h ↦ old.each n t ms section h
    | inr h ↦ last n t ms section h.0 h.1
  ];
}
  where
    longer : (xs : List (List Lock)) → length xs ≡ count → length (xs ++ locks ∷ []) ≡ count + 1
    longer xs e = let more : length (xs ++ locks ∷ []) ≡ length xs + 1 = length_more xs in omega (arith, e, more)
      where
        length_more : (ys : List (List Lock)) → length (ys ++ locks ∷ []) ≡ length ys + 1
        length_more [] = omega arith
        length_more (y ∷ ys) = let r = length_more ys in omega (arith, r)

    last : (n : ℕ) (t : Section) (ms : List Lock) → slice_get l.sections n ≡ Some t → n ≡ length lists → locks ≡ ms → IsFitted c t.function 256 (IsTold parts (Inside n) (t.acquire + 1)) ms
    last n t ms section at is =
        let place : n ≡ count = (let whole = old.count in omega (arith, at, whole)) in
        let same : s ≡ t = (let u : Some s ≡ Some t = sym there ∙ subst (λ k. slice_get l.sections k ≡ Some t) place section in cc) in
        subst (λ k. IsFitted c t.function 256 (IsTold parts (Inside k) (t.acquire + 1)) ms) (sym place)
        (subst (λ (u : Section). IsFitted c u.function 256 (IsTold parts (Inside count) (u.acquire + 1)) ms) same
        (subst (λ (xs : List Lock). IsFitted c s.function 256 (IsTold parts (Inside count) (s.acquire + 1)) xs) is fits))

-- the list for what the flow tells at an entry
pub list_fitted : (c : Classed) (f : ℕ) (parts : List RegionNeeds) (n acquire entry : ℕ) (given needed list : List Lock) → given ≡ needed → ((a : Lock) → IsOne needed a ↔ IsTold parts (Inside n) (entry + 1) a) → entry ≡ acquire →
    IsFitted c f 256 (IsOne given) list → IsFitted c f 256 (IsTold parts (Inside n) (acquire + 1)) list
list_fitted c f parts n acquire entry given needed list is tells same fits =
    subst (λ q. IsFitted c f 256 (IsTold parts (Inside n) (q + 1)) list) same
    (fitted_same c f 256 (IsOne given) (IsTold parts (Inside n) (entry + 1)) list (λ a. subst (λ (xs : List Lock). IsOne xs a ↔ IsTold parts (Inside n) (entry + 1) a) (sym is) (tells a)) fits)
