-- What is found for a group of sections, and for all sections group by group.
use Rattle.std.proofs.Common.{◌≡◌, ◌⊎◌, ⊎_elim, ℕ, zero, suc, ◌+◌, ◌-◌, ◌<◌, ◌≤◌, Bool, List, [], ◌∷◌, ◌++◌, Some, Result, Ok, Err, IfOk, length, map, take, drop, slice_get, slice_set, inl, inr, refl, ap, sym, subst, ◌∙◌, length-append, arith}
use Rattle.std.proofs.lemmas.Bool.{cases_lt}
use Rattle.std.proofs.lemmas.List.{length-take-le, length-drop}
use Rattle.std.proofs.lemmas.Option.{slice_get_within}
use Rattle.asl_code.proofs.Told.{slice_get-drop}
use Rattle.asl_code.specs.declared.lock.Lock.{Lock}
use Rattle.asl_code.specs.declared.lock.Lock.TheVariants as root
use Rattle.asl_code.specs.declared.value.Effect.TheVariants as write
use Rattle.asl_lane_sets.specs.NumberSet.{IsIn}
use Rattle.asl_lower.specs.declared.section.Section.{Section}
use Rattle.asl_lower.specs.Lowered.{Lowered}
use Rattle.asl_lower.specs.Regions.{Region, Body, Inside, IsIn as IsInRegion, Between}
use Rattle.asl_lock_expr.specs.ClassOf.{TellsStores}
use Rattle.asl_backward_flow.specs.declared.fault.FlowFault.{FlowFault}
use Rattle.asl_backward_flow.specs.declared.region.Region.TheVariants as variant
use Rattle.asl_backward_flow.specs.declared.region_needs.RegionNeeds as code
use Rattle.asl_backward_flow.specs.declared.span.Span.{Span}
use Rattle.asl_backward_flow.specs.Needed.{RegionNeeds, IsInNeeds, IsTold, NeedsMany, region_of}
use Rattle.asl_backward_flow.specs.Flows.{IsEntryFlow}
use Rattle.asl_backward_flow.specs.Found.{list_at, table_of}
use Rattle.asl_backward_flow.specs.Follows.{Read, IsAll}
use Rattle.asl_backward_flow.specs.Spans.{AreOfRegions, HasBody, AreSpans, AreClosed, IsGroup}
use Rattle.asl_backward_flow.specs.Parts.{part, AreAtTheirNumbers}
use Rattle.asl_backward_flow.specs.Grouped.{IsEntryPart, AreEntryParts, HasFewInBodies, IsEntrySet, IsShorter, TellsAllEntries}
use Rattle.asl_backward_flow.proofs.Leasts.{needed_inside}
use Rattle.asl_backward_flow.proofs.Blanks.{unmapped, some_there}
use Rattle.asl_backward_flow.proofs.SetNeeds.{mapped_at, at_either, at_right}
use Rattle.asl_backward_flow.proofs.Listing.{of_part, part_of, region_one}
use Rattle.asl_backward_flow.proofs.Sets.{some_same, at_front}
use Rattle.asl_backward_flow.proofs.Masking.{at_set}
use Rattle.asl_backward_flow.proofs.SpanLaws.{body_named}
use Rattle.asl_backward_flow.proofs.Tellings.{NeededIn, same_region, span_at, part_needed, needed_part, not_many, one_needed}

nothing_at : {A : Type 0} (k : ℕ) (x : A) → slice_get {X = A} [] k ≡ Some x → ⊥
nothing_at k x e = cc

-- what is read at a place of the front of a list
at_take : {A : Type 0} (n : ℕ) (xs : List A) (k : ℕ) → k < n → slice_get (take n xs) k ≡ slice_get xs k
at_take zero xs k lt = absurd (omega (arith, lt))
at_take (suc n) [] k lt = refl
at_take (suc n) (x ∷ xs) zero lt = refl
at_take (suc n) (x ∷ xs) (suc k) lt = at_take n xs k (omega (arith, lt))

taken_at : {A : Type 0} (n : ℕ) (xs : List A) (k : ℕ) (x : A) → slice_get (take n xs) k ≡ Some x → slice_get xs k ≡ Some x
taken_at zero xs k x e = absurd (nothing_at k x e)
taken_at (suc n) [] k x e = absurd (nothing_at k x e)
taken_at (suc n) (y ∷ xs) zero x e = e
taken_at (suc n) (y ∷ xs) (suc k) x e = taken_at n xs k x e

-- what stands in two lists, one after the other, with its place
split_at : {A : Type 0} (xs ys : List A) (k : ℕ) (x : A) → slice_get (xs ++ ys) k ≡ Some x → (slice_get xs k ≡ Some x) ⊎ ((j : ℕ) × (k ≡ length xs + j) × (slice_get ys j ≡ Some x))
split_at [] ys k x e = inr (k, omega arith, e)
split_at (y ∷ xs) ys zero x e = inl e
split_at (y ∷ xs) ys (suc k) x e = ⊎_elim (λ h. inl h) (λ h. let at = h.1 in inr (h.0, omega (arith, at), h.2)) (split_at xs ys k x e)

-- the spans of a group
module _ (l : Lowered) (spans : List Span) (first end : ℕ) (so : AreSpans l spans) (order : first ≤ end) (within : end ≤ length l.sections) where
  abbrev sections_part : List Span
  sections_part = take (end - first) (drop first spans)

  abbrev bodies_part : List Span
  bodies_part = drop (length l.sections) spans

  enough : end - first ≤ length (drop first spans)
  enough = let many = so.many in let same = length-drop first spans in omega (arith, many, same, order, within)

  sections_count : length sections_part ≡ end - first
  sections_count = length-take-le (end - first) (drop first spans) enough

  in_sections : (k : ℕ) → k < end - first → slice_get sections_part k ≡ slice_get spans (first + k)
  in_sections k lt = at_take (end - first) (drop first spans) k lt ∙ slice_get-drop first spans k

  in_bodies : (k : ℕ) → slice_get bodies_part k ≡ slice_get spans (length l.sections + k)
  in_bodies k = slice_get-drop (length l.sections) spans k

  each_of : AreOfRegions l (sections_part ++ bodies_part)
  each_of n s at =
      ⊎_elim
      (λ h. let lt = slice_get_within sections_part h.0 s h.1 in let count = sections_count in so.each (first + h.0) s (sym (in_sections h.0 (omega (arith, lt, count))) ∙ h.1))
      (λ h. so.each (length l.sections + h.0) s (sym (in_bodies h.0) ∙ h.1))
      (at_either sections_part bodies_part s n at)

  -- the span of a body stands behind those of the sections
  body_behind : (g k : ℕ) (s : Span) → slice_get spans k ≡ Some s → s.region ≡ variant.Body g → length l.sections ≤ k
  body_behind g k s at is = ⊎_elim
      (λ lt.
      let h = so.sections k lt in
      let place : h.0 ≡ k = so.placed h.0 k h.1 h.2 h.3 in
      let same : h.1 ≡ s = some_same (sym h.2 ∙ ap (slice_get spans) place ∙ at) in
      let no : variant.Body g ≡ variant.Section k = sym is ∙ ap (λ (x : Span). x.region) (sym same) ∙ h.3 in absurd cc)
      (λ ge. ge)
      (cases_lt k (length l.sections))

  bodies_of : (g f pc : ℕ) → IsInRegion l (Body g) f pc → HasBody (sections_part ++ bodies_part) g
  bodies_of g f pc b =
      let h = so.all (Body g) f pc b in
      let is : h.1.region ≡ variant.Body g = body_named h.1.region g h.3 in
      let ge = body_behind g h.0 h.1 h.2 is in
      let place : length l.sections + (h.0 - length l.sections) ≡ h.0 = omega (arith, ge) in
      let at : slice_get bodies_part (h.0 - length l.sections) ≡ Some h.1 = in_bodies (h.0 - length l.sections) ∙ ap (slice_get spans) place ∙ h.2 in
      let there = at_right sections_part bodies_part h.1 (h.0 - length l.sections, at) in
      (there.0, h.1, there.1, is)

  pub group_made : IsGroup l spans first (end - first) (sections_part ++ bodies_part)
  group_made = record {
    closed = record {
      each = each_of;
      bodies = bodies_of;
      few =
          let few = so.few in
          let many = so.many in
          let both = length-append sections_part bodies_part in
          let count = sections_count in
          let rest = length-drop (length l.sections) spans in
          omega (arith, few, many, both, count, rest, order, within);
    };
    many = let both = length-append sections_part bodies_part in let count = sections_count in omega (arith, both, count);
    sections = λ k lt.
        let count = sections_count in
        let x = some_there sections_part k (omega (arith, lt, count)) in
        at_front sections_part bodies_part k x.0 x.1 ∙ sym x.1 ∙ in_sections k lt;
  }

-- what is found for the spans of a group
module _ (r : Read) (items : List code.RegionNeeds) (list : List (ℕ × ℕ)) (all : IsAll r (table_of items list)) where
  pub entry_parts : AreEntryParts r r.spans items
  entry_parts k d at =
      let s = span_at r items list all k d at in
      let same : d.region ≡ s.0.region = same_region r items list all k d s.0 at s.1 in (
        s.0,
        s.1,
        record {
          region = same;
          sound = λ q m h. subst (λ x. NeededIn r (region_of x) q m) same (part_needed r items list all k d q m at h);
          full = λ m h. needed_part r items list all k d s.0 s.0.first m at s.1 h;
          few = λ many. not_many r items list all k s.0 s.1 many (root.Root write.Write);
        },
      )

  pub few_in_bodies : AreClosed r.lowered r.spans → HasFewInBodies r
  few_in_bodies closed g many =
      let one = one_needed r (Body g) many in
      let inside = needed_inside r.lowered r.classes r.stores r.k_limit (Body g) one.0 one.1 one.2 in
      let body = closed.bodies g inside.0 one.0 inside.1 in
      not_many r items list all body.0 body.1 body.2 (subst (λ x. NeedsMany r.lowered r.classes r.stores r.k_limit x) (sym (ap region_of body.3)) many) (root.Root write.Write)

-- a part with the set of one pc alone
module _ (pc : ℕ) (d e : code.RegionNeeds) (set : List Bool) (is : IsEntrySet pc d set) (region : e.region ≡ d.region) (locks : e.locks.keys ≡ d.locks.keys) (first : e.first ≡ pc) (sets : e.needs.items ≡ set ∷ []) where
  nothing_in : (n : ℕ) → IsIn [] n → ⊥
  nothing_in n h = cc

  in_first : (k n : ℕ) → IsIn (list_at (set ∷ []) k) n → (k ≡ 0) × IsIn set n
  in_first zero n h = (refl, h)
  in_first (suc k) n h = absurd (nothing_in n h)

  told_before : (q : ℕ) (m : Lock) → IsInNeeds (part e) q m → IsInNeeds (part d) q m
  told_before q m h =
      let of = of_part e q m h in
      let here = in_first of.0 of.2.0 (subst (λ (l : List (List Bool)). IsIn (list_at l of.0) of.2.0) sets of.2.1) in
      let at : q ≡ pc = (let spot = of.1 in let zeroth = here.0 in omega (arith, spot, zeroth, first)) in
      let name : slice_get d.locks.keys of.2.0 ≡ Some m = ap (λ l. slice_get l of.2.0) (sym locks) ∙ of.2.2 in
      ⊎_elim
      (λ below. absurd (nothing_in of.2.0 (subst (λ s. IsIn s of.2.0) (is.none below) here.1)))
      (λ ge.
      let place : pc ≡ d.first + (pc - d.first) = omega (arith, ge) in
      let found : IsIn (list_at d.needs.items (pc - d.first)) of.2.0 = subst (λ s. IsIn s of.2.0) (is.here (pc - d.first) place) here.1 in
      subst (λ x. IsInNeeds (part d) x m) (sym place ∙ sym at) (part_of d (pc - d.first) m (of.2.0, found, name)))
      (cases_lt pc d.first)

  told_here : (m : Lock) → IsInNeeds (part d) pc m → IsInNeeds (part e) pc m
  told_here m h =
      let of = of_part d pc m h in
      let found : IsIn set of.2.0 = subst (λ s. IsIn s of.2.0) (sym (is.here of.0 of.1)) of.2.1 in
      let there : IsIn (list_at e.needs.items 0) of.2.0 = subst (λ (l : List (List Bool)). IsIn (list_at l 0) of.2.0) (sym sets) found in
      let name : slice_get e.locks.keys of.2.0 ≡ Some m = ap (λ l. slice_get l of.2.0) locks ∙ of.2.2 in
      let place : e.first + 0 ≡ pc = omega (arith, first) in
      subst (λ x. IsInNeeds (part e) x m) place (part_of e 0 m (of.2.0, there, name))

  pub shorter : IsShorter pc d e
  shorter = record { region = region; within = told_before; here = told_here }

pub entry_kept : (r : Read) (s : Span) (d e : code.RegionNeeds) → IsShorter s.first d e → IsEntryPart r.lowered r.classes r.stores r.k_limit s d → IsEntryPart r.lowered r.classes r.stores r.k_limit s e
entry_kept r s d e short is = record {
  region = short.region ∙ is.region;
  sound = λ q m h. is.sound q m (short.within q m h);
  full = λ m h. short.here m (is.full m h);
  few = is.few;
}

pub entries_none : (r : Read) (spans : List Span) (items : List code.RegionNeeds) → items ≡ [] → AreEntryParts r spans items
entries_none r spans items is k d at = absurd (nothing_at k d (ap (λ l. slice_get l k) (sym is) ∙ at))

-- parts of the sections that come next
pub parts_more : (r : Read) (spans group : List Span) (old new : List code.RegionNeeds) (first count : ℕ) → first ≡ length old → IsGroup r.lowered spans first count group → length new ≤ count → AreEntryParts r spans old → AreEntryParts r group new → AreEntryParts r spans (old ++ new)
parts_more r spans group old new first count begins is few was more k d at = ⊎_elim
    (λ h. was k d h)
    (λ h.
    let s = more h.0 d h.2 in
    let lt = slice_get_within new h.0 d h.2 in
    (s.0, ap (slice_get spans) (h.1 ∙ ap (λ n. n + h.0) (sym begins)) ∙ sym (is.sections h.0 (omega (arith, lt, few))) ∙ s.1, s.2))
    (split_at old new k d at)

-- the parts of all sections
module _ (r : Read) (spans : List Span) (whole : AreSpans r.lowered spans) (items : List code.RegionNeeds) (are : AreEntryParts r spans items) where
  pub entries_placed : AreAtTheirNumbers (map part items)
  entries_placed k n p at is =
      let d = unmapped part items k p at in
      let s = are k d.0 d.1 in
      let name : region_of s.0.region ≡ Inside n = ap region_of (sym s.2.region) ∙ ap (λ (x : RegionNeeds). x.region) d.2 ∙ is in
      whole.placed k n s.0 s.1 (region_one s.0.region (variant.Section n) name)

  module _ (many : length r.lowered.sections ≤ length items) where
    -- the part of a section, and its span
    section_part : (n : ℕ) (x : Section) → slice_get r.lowered.sections n ≡ Some x
        → (d : code.RegionNeeds) × (s : Span) × (slice_get items n ≡ Some d) × IsEntryPart r.lowered r.classes r.stores r.k_limit s d × (region_of s.region ≡ Inside n) × (s.first ≡ suc x.acquire)
    section_part n x at =
        let lt = slice_get_within r.lowered.sections n x at in
        let d = some_there items n (omega (arith, lt, many)) in
        let s = are n d.0 d.1 in
        let h = whole.sections n lt in
        let place : h.0 ≡ n = whole.placed h.0 n h.1 h.2 h.3 in
        let same : h.1 ≡ s.0 = some_same (sym h.2 ∙ ap (slice_get spans) place ∙ s.1) in
        let region : s.0.region ≡ variant.Section n = ap (λ (y : Span). y.region) (sym same) ∙ h.3 in
        (d.0, s.0, d.1, s.2, ap region_of region, (whole.each n s.0 s.1).section n x region at)

    entry_needed : (n : ℕ) (x : Section) (m : Lock) → slice_get r.lowered.sections n ≡ Some x → IsTold (map part items) (Inside n) (suc x.acquire) m → NeededIn r (Inside n) (suc x.acquire) m
    entry_needed n x m at told =
        let d = unmapped part items told.0 told.1 told.2 in
        let s = are told.0 d.0 d.1 in
        let name : region_of s.0.region ≡ Inside n = ap region_of (sym s.2.region) ∙ ap (λ (y : RegionNeeds). y.region) d.2 ∙ told.3 in
        subst (λ y. NeededIn r y (suc x.acquire) m) name (s.2.sound (suc x.acquire) m (subst (λ (y : RegionNeeds). IsInNeeds y (suc x.acquire) m) (sym d.2) told.4))

    entry_told : (n : ℕ) (x : Section) (m : Lock) → slice_get r.lowered.sections n ≡ Some x → NeededIn r (Inside n) (suc x.acquire) m → IsTold (map part items) (Inside n) (suc x.acquire) m
    entry_told n x m at need =
        let p = section_part n x at in
        let own : NeededIn r (region_of p.1.region) p.1.first m = subst (λ q. NeededIn r (region_of p.1.region) q m) (sym p.5) (subst (λ y. NeededIn r y (suc x.acquire) m) (sym p.4) need) in
        (n, part p.0, mapped_at part items n p.0 p.2, ap region_of p.3.region ∙ p.4, subst (λ q. IsInNeeds (part p.0) q m) p.5 (p.3.full m own))

    few_in : HasFewInBodies r → (region : Region) → ¬ NeedsMany r.lowered r.classes r.stores r.k_limit region
    few_in bodies (Body g) over = bodies g over
    few_in bodies (Inside n) over =
        let one = one_needed r (Inside n) over in
        let inside = needed_inside r.lowered r.classes r.stores r.k_limit (Inside n) one.0 one.1 one.2 in
        let between : Between r.lowered n inside.0 one.0 = inside.1 in
        let p = section_part n between.is between.in_table in
        p.3.few (subst (λ x. NeedsMany r.lowered r.classes r.stores r.k_limit x) (sym p.4) over)

    pub entries_told : HasFewInBodies r → TellsAllEntries r (map part items)
    entries_told bodies = record {
      tells = λ n x m at. (λ told. entry_needed n x m at told, λ need. entry_told n x m at need);
      few = λ region over. few_in bodies region over;
    }

-- a part that says less in place of one of the parts
pub entries_set : (r : Read) (spans : List Span) (items : List code.RegionNeeds) (n pc : ℕ) (d e : code.RegionNeeds) (s : Span) → slice_get items n ≡ Some d → slice_get spans n ≡ Some s → pc ≡ s.first → IsShorter pc d e
    → AreEntryParts r spans items → AreEntryParts r spans (slice_set items n e)
entries_set r spans items n pc d e s at there first short are k x at_k = ⊎_elim
    (λ h. are k x h)
    (λ h.
    let was = are n d at in
    let same : was.0 ≡ s = some_same (sym was.1 ∙ there) in
    let short_here : IsShorter was.0.first d e = subst (λ q. IsShorter q d e) (first ∙ ap (λ (y : Span). y.first) (sym same)) short in
    (was.0, ap (slice_get spans) h.0 ∙ was.1, subst (λ y. IsEntryPart r.lowered r.classes r.stores r.k_limit was.0 y) (sym h.1) (entry_kept r was.0 d e short_here was.2)))
    (at_set items n e k x at_k)

-- the first of the parts
pub entries_taken : (r : Read) (spans : List Span) (items : List code.RegionNeeds) (n : ℕ) → AreEntryParts r spans items → AreEntryParts r spans (take n items)
entries_taken r spans items n are k d at =
    are k d (taken_at n items k d at)

-- the answer, with the written classes for what functions may store to
module _ (r : Read) (written : TellsStores r.lowered r.classes r.stores) where
  pub entry_flow_told : (result : Result (List RegionNeeds) FlowFault) → IfOk result (TellsAllEntries r) → IfOk result (IsEntryFlow r.lowered r.classes r.k_limit)
  entry_flow_told (Ok parts) x = record { stores = r.stores; written = written; tells = x.tells; few = x.few }
  entry_flow_told (Err fault) x = tt
