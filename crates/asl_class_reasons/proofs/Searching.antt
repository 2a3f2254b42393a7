-- Searches: what they begin with, one visit more, and one step that is followed.
use Rattle.std.proofs.Common.{◌≡◌, ◌≢◌, ℕ, suc, ◌+◌, ◌-◌, ◌*◌, ◌^◌, ◌<◌, ◌≤◌, inl, inr, List, [], ◌∷◌, ◌++◌, length, set, replicate, Some, None, get_or, slice_get, refl, sym, ap, ◌∙◌, subst, arith, length-append, length-set, get_or-set_same, get_or-set_other}
use Rattle.std.specs.Prelude.{sum_by}
use Rattle.std.proofs.lemmas.Bool.{cases_eq}
use Rattle.std.proofs.lemmas.List.{length-replicate, get_or-replicate}
use Rattle.std.proofs.lemmas.List.Sums.{sum_by-set}
use Rattle.std.proofs.lemmas.Option.{slice_get-get_or, slice_get_within, get_or_from_slice_get}
use Rattle.std.proofs.Math.Seq.{get_or-append_seam}
use Rattle.asl_class_reasons.specs.declared.place.Place.{Place}
use Rattle.asl_class_reasons.specs.declared.place.Place.TheVariants as place
use Rattle.asl_class_reasons.specs.declared.place.Step.{Step}
use Rattle.asl_class_reasons.specs.declared.search.Visit.{Visit}
use Rattle.asl_class_reasons.specs.declared.search.Search.{Search}
use Rattle.asl_class_reasons.specs.Draft.{number, Has}
use Rattle.asl_class_reasons.specs.Chains.{AreStepsThere, seen, unseen, IsShaped, IsReached, IsSearch, IsVisited, IsStarted}
use Rattle.asl_class_reasons.proofs.Labels.{own_number}
use Rattle.asl_class_reasons.proofs.Linking.{slice_get_more, slice_get_last}

-- each place has its entry
pub number_within : (members functions : ℕ) (p : Place) → Has members functions p → number members p < members + members + functions * 256
number_within members functions (place.Member m) h = omega arith
number_within members functions (place.Cells m) h = omega arith
number_within members functions (place.Register f r) h = omega (arith, h.0, h.1)

-- the place has its number in the largest program, too
pub has_most : (members functions : ℕ) (p : Place) → functions ≤ 65536 → Has members functions p → Has members 65536 p
has_most members functions (place.Member m) le h = h
has_most members functions (place.Cells m) le h = h
has_most members functions (place.Register f r) le h = (omega (arith, h.0), h.1)

-- what is read of a list at an index
pub reads : {X : Type 0} (xs : List X) (n : ℕ) (x : X) → n < length xs → x ≡ get_or xs n x → slice_get xs n ≡ Some x
reads xs n x lt e = slice_get-get_or xs n x lt ∙ ap Some (sym e)

pub entry_is : (xs : List ℕ) (n x : ℕ) → n < length xs → x ≡ get_or xs n x → x ≡ get_or xs n 0
entry_is xs n x lt e = sym (get_or_from_slice_get xs n x 0 (reads xs n x lt e))

pub entry_seen : (t : Search) (p : Place) (n x : ℕ) → IsShaped t → Has t.members t.functions p → n ≡ number t.members p → x ≡ get_or t.at.items n x → x ≡ seen t p
entry_seen t p n x h has en e =
    let low : n < length t.at.items = omega (arith, number_within t.members t.functions p has, h.size, en) in
    entry_is t.at.items n x low e ∙ ap (λ (k : ℕ). get_or t.at.items k 0) en

-- no entry, and one for the start
pub started_empty : (m f n : ℕ) (from : Place) (at : List ℕ) → n ≡ m + m + f * 256 → at ≡ replicate n 0 → (Has m f from → ⊥) → IsStarted m f from at
started_empty m f n from at en e never = record {
  size = ap length e ∙ length-replicate {A = ℕ} n 0 ∙ en;
  found = λ k j g. (
      let lt = slice_get_within at k (suc j) g in
      let low : k < n = omega (arith, ap length e, length-replicate {A = ℕ} n 0) in
      let is = get_or_from_slice_get at k (suc j) 0 g in
      let no : suc j ≡ 0 = sym is ∙ ap (λ (xs : List ℕ). get_or xs k 0) e ∙ get_or-replicate {A = ℕ} n k 0 0 low in
      absurd (omega arith));
  start = λ h z. never h;
}

pub started_there : (m f n : ℕ) (from : Place) (at : List ℕ) → n ≡ m + m + f * 256 → at ≡ set (replicate n 0) (number m from) 1 → Has m f from → IsStarted m f from at
started_there m f n from at en e h =
    let zs : List ℕ = replicate n 0 in
    let len : length zs ≡ n = length-replicate {A = ℕ} n 0 in
    let low : number m from < length zs = omega (arith, number_within m f from h) in
    let all : length at ≡ n = ap length e ∙ length-set zs (number m from) 1 ∙ len in
    let one : get_or at (number m from) 0 ≡ 1 = ap (λ (xs : List ℕ). get_or xs (number m from) 0) e ∙ get_or-set_same zs (number m from) 1 0 low in
    record {
      size = all ∙ en;
      found = λ k j g. (
          let lt = slice_get_within at k (suc j) g in
          let is = get_or_from_slice_get at k (suc j) 0 g in
          elim (cases_eq k (number m from)) [
            | inl same ↦ (
                let both : suc j ≡ 1 = sym is ∙ ap (λ (i : ℕ). get_or at i 0) same ∙ one in
                (omega arith, sym same, h))
            | inr ne ↦ (
                let lk : k < n = omega arith in
                let no : suc j ≡ 0 = sym is ∙ ap (λ (xs : List ℕ). get_or xs k 0) e ∙ get_or-set_other zs (number m from) k 1 0 ne ∙ get_or-replicate {A = ℕ} n k 0 0 lk in
                absurd (omega arith))
          ]);
      start = λ k z. (let no : 1 ≡ 0 = sym one ∙ z in omega arith);
    }

-- a search that has come to its start alone
pub begun_search : (steps : List Step) (t : Search) → t.members < 2 ^ 20 → t.functions ≤ 65536 → AreStepsThere t.members t.functions steps → IsStarted t.members t.functions t.from t.at.items → t.visits.items ≡ record { place = t.from; step = 0; before = 0 } ∷ [] → IsSearch steps t
begun_search steps t few some there s e =
    let v : Visit = record { place = t.from; step = 0; before = 0 } in
    let one : slice_get t.visits.items 0 ≡ Some v = ap (λ (vs : List Visit). slice_get vs 0) e in
    let none : (n : ℕ) (u : Visit) → slice_get t.visits.items (suc n) ≡ Some u → ⊥ = λ n u g. (
    let no : None ≡ Some u = sym (ap (λ (vs : List Visit). slice_get vs (suc n)) e) ∙ g in
    cc) in
    record {
      shaped = record {
        members = few;
        functions = some;
        size = s.size;
        begun = slice_get_within t.visits.items 0 v one;
        first = λ u g. (
            let is : Some v ≡ Some u = sym one ∙ g in
            let same : v ≡ u = cc in
            sym (ap (λ (x : Visit). x.place) same));
        back = λ n u g. absurd (none n u g);
        found = λ n k g. (
            let f = s.found n k g in
            record { visit = v; there = ap (slice_get t.visits.items) f.0 ∙ one; numbered = f.1; has = f.2 });
        start = s.start;
      };
      steps_there = there;
      reached = λ n u g. absurd (none n u g);
    }

-- one visit more
visited_same : (old new : Search) → new.members ≡ old.members → new.functions ≡ old.functions → new.from ≡ old.from → record { members = old.members; functions = old.functions; from = old.from; visits = new.visits; at = new.at } ≡ new
visited_same old new m f p =
    let of : ℕ → ℕ → Place → Search = λ a b q. record { members = a; functions = b; from = q; visits = new.visits; at = new.at } in
    ap (λ (a : ℕ). of a old.functions old.from) (sym m) ∙ ap (λ (b : ℕ). of new.members b old.from) (sym f) ∙ ap (λ (q : Place). of new.members new.functions q) (sym p)

reached_more : (steps : List Step) (vs : List Visit) (v u : Visit) → IsReached steps vs u → IsReached steps (vs ++ v ∷ []) u
reached_more steps vs v u r = record {
  before = r.before;
  step = r.step;
  there = slice_get_more vs (v ∷ []) u.before r.before r.there;
  stands = r.stands;
  leads = r.leads;
}

shaped_visited : (steps : List Step) (old new : Search) (v : Visit) → IsShaped old → IsVisited old new v → IsReached steps old.visits.items v → Has old.members old.functions v.place → IsShaped (record { members = old.members; functions = old.functions; from = old.from; visits = new.visits; at = new.at })
shaped_visited steps old new v h k r has =
    let vs : List Visit = old.visits.items in
    let more : List Visit = vs ++ v ∷ [] in
    let n0 : ℕ = number old.members v.place in
    let count : ℕ = length vs in
    let low : n0 < length old.at.items = omega (arith, number_within old.members old.functions v.place has, h.size) in
    let size : length new.at.items ≡ length old.at.items = ap length k.at ∙ length-set old.at.items n0 (count + 1) in
    let In : List Visit → ℕ → Visit → Type 0 = λ xs n u. slice_get xs n ≡ Some u in
    let own : get_or new.at.items n0 0 ≡ count + 1 = ap (λ (xs : List ℕ). get_or xs n0 0) k.at ∙ get_or-set_same old.at.items n0 (count + 1) 0 low in
    let other : (n : ℕ) → n ≢ n0 → get_or new.at.items n 0 ≡ get_or old.at.items n 0 = λ n ne. ap (λ (xs : List ℕ). get_or xs n 0) k.at ∙ get_or-set_other old.at.items n0 n (count + 1) 0 ne in
    let last : slice_get more count ≡ Some v = slice_get-get_or more count v (omega (arith, length-append vs (v ∷ []))) ∙ ap Some (get_or-append_seam vs v [] v) in
    record {
      members = h.members;
      functions = h.functions;
      size = size ∙ h.size;
      begun = omega (arith, ap length k.visits, length-append vs (v ∷ []));
      first = λ u e. elim (slice_get_last vs v 0 u (subst (λ (xs : List Visit). In xs 0 u) k.visits e)) [
        | inl was ↦ h.first u was
        | inr new ↦ absurd (let is = new.0 in let some = h.begun in omega arith)
      ];
      back = λ n u e. elim (slice_get_last vs v (suc n) u (subst (λ (xs : List Visit). In xs (suc n) u) k.visits e)) [
        | inl was ↦ h.back n u was
        | inr new ↦ (
            let at = new.0 in
            let low = slice_get_within vs v.before r.before r.there in
            let is : u.before ≡ v.before = ap (λ (x : Visit). x.before) new.1 in
            omega arith)
      ];
      found = λ n j e. (
          let is = get_or_from_slice_get new.at.items n (suc j) 0 e in
          let within = slice_get_within new.at.items n (suc j) e in
          elim (cases_eq n n0) [
            | inl same ↦ (
                let both : suc j ≡ count + 1 = sym is ∙ ap (λ (i : ℕ). get_or new.at.items i 0) same ∙ own in
                let at : j ≡ count = omega arith in
                record { visit = v; there = ap (slice_get new.visits.items) at ∙ ap (λ (xs : List Visit). slice_get xs count) k.visits ∙ last; numbered = sym same; has = has })
            | inr ne ↦ (
                let lt : n < length old.at.items = omega arith in
                let was : slice_get old.at.items n ≡ Some (suc j) = slice_get-get_or old.at.items n 0 lt ∙ ap Some (sym (other n ne) ∙ is) in
                let f = h.found n j was in
                record { visit = f.visit; there = ap (λ (xs : List Visit). slice_get xs j) k.visits ∙ slice_get_more vs (v ∷ []) j f.visit f.there; numbered = f.numbered; has = f.has })
          ]);
      start = λ p z. elim (cases_eq (number old.members old.from) n0) [
        | inl same ↦ (
            let no : count + 1 ≡ 0 = sym own ∙ ap (λ (i : ℕ). get_or new.at.items i 0) (sym same) ∙ z in
            let bad : ⊥ = omega arith in
            bad)
        | inr ne ↦ h.start p (sym (other (number old.members old.from) ne) ∙ z)
      ];
    }

pub search_visited : (steps : List Step) (old new : Search) (v : Visit) → IsSearch steps old → IsVisited old new v → IsReached steps old.visits.items v → Has old.members old.functions v.place → IsSearch steps new
search_visited steps old new v h k r has =
    let vs : List Visit = old.visits.items in
    let mid : Search = record { members = old.members; functions = old.functions; from = old.from; visits = new.visits; at = new.at } in
    let all : (u : Visit) → IsReached steps (vs ++ v ∷ []) u → IsReached steps new.visits.items u = λ u x. subst (λ (xs : List Visit). IsReached steps xs u) (sym k.visits) x in
    let done : IsSearch steps mid = record {
      shaped = shaped_visited steps old new v h.shaped k r has;
      steps_there = h.steps_there;
      reached = λ n u e. all u (elim (slice_get_last vs v (suc n) u (subst (λ (xs : List Visit). slice_get xs (suc n) ≡ Some u) k.visits e)) [
        | inl was ↦ reached_more steps vs v u (h.reached n u was)
        | inr is ↦ reached_more steps vs v u (subst (λ (x : Visit). IsReached steps vs x) (sym is.1) r)
      ]);
    } in
    subst (λ (t : Search). IsSearch steps t) (visited_same old new k.members k.functions k.from) done

-- fewer places are left then
unseen_more : (n : ℕ) → unseen (n + 1) ≡ 0
unseen_more n =
    let is : n + 1 ≡ suc n = omega arith in
    ap unseen is

pub fewer_left : (old new : Search) (v : Visit) → IsShaped old → IsVisited old new v → Has old.members old.functions v.place → seen old v.place ≡ 0 → sum_by unseen new.at.items < sum_by unseen old.at.items
fewer_left old new v h k has left =
    let n0 : ℕ = number old.members v.place in
    let x : ℕ = length old.visits.items + 1 in
    let low : n0 < length old.at.items = omega (arith, number_within old.members old.functions v.place has, h.size) in
    let all = sum_by-set unseen old.at.items n0 x 0 low in
    let was : unseen (get_or old.at.items n0 0) ≡ 1 = ap unseen left in
    let is : unseen x ≡ 0 = unseen_more (length old.visits.items) in
    let same : sum_by unseen new.at.items ≡ sum_by unseen (set old.at.items n0 x) = ap (sum_by unseen) k.at in
    omega arith

-- the place at which a step begins has a visit: so its other place is reached, either way
pub found_at : (t : Search) (p : Place) (at : ℕ) → IsShaped t → Has t.members t.functions p → 0 < at → at ≡ seen t p → (u : Visit) × (slice_get t.visits.items (at - 1) ≡ Some u) × (u.place ≡ p)
found_at t p at h has some e =
    let n : ℕ = number t.members p in
    let low : n < length t.at.items = omega (arith, number_within t.members t.functions p has, h.size) in
    let is : at ≡ suc (at - 1) = omega arith in
    let there : slice_get t.at.items n ≡ Some (suc (at - 1)) = slice_get-get_or t.at.items n 0 low ∙ ap Some (sym e ∙ is) in
    let f = h.found n (at - 1) there in
    (f.visit, f.there, own_number t.members t.functions f.visit.place p f.has has f.numbered)

pub reached_forth : (steps : List Step) (t : Search) (s : Step) (index at : ℕ) → IsSearch steps t → slice_get steps index ≡ Some s → 0 < at → at ≡ seen t s.from → IsReached steps t.visits.items (record { place = s.into; step = index; before = at - 1 })
reached_forth steps t s index at h e some is =
    let f = found_at t s.from at h.shaped (h.steps_there index s e).0 some is in
    record { before = f.0; step = s; there = f.1; stands = e; leads = inl (sym f.2, refl) }

pub reached_back : (steps : List Step) (t : Search) (s : Step) (index at : ℕ) → IsSearch steps t → slice_get steps index ≡ Some s → 0 < at → at ≡ seen t s.into → IsReached steps t.visits.items (record { place = s.from; step = index; before = at - 1 })
reached_back steps t s index at h e some is =
    let f = found_at t s.into at h.shaped (h.steps_there index s e).1 some is in
    record { before = f.0; step = s; there = f.1; stands = e; leads = inr (sym f.2, refl) }
