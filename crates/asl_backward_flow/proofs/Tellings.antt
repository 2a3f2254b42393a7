-- Parts tell what is found.
use Rattle.std.proofs.Common.{◌≡◌, ◌≢◌, ◌⊎◌, ⊎_elim, ℕ, ◌+◌, ◌<◌, ◌≤◌, List, [], Some, length, map, slice_get, unwrap_or, get_or, ap, sym, subst, ◌∙◌, inl, inr, arith, Result, Ok, Err, IfOk}
use Rattle.std.specs.List.{AllPairs}
use Rattle.std.proofs.lemmas.Option.{slice_get_within, slice_get-get_or}
use Rattle.indexmap.proofs.IndexTableLemmas.Probe.{pigeonhole}
use Rattle.std.proofs.lemmas.Bool.{cases_lt}
use Rattle.asl_code.specs.declared.lock.Lock.{Lock}
use Rattle.asl_code.specs.declared.lock.Lock.TheVariants as root
use Rattle.asl_code.specs.declared.value.Effect.TheVariants as write
use Rattle.asl_lower.specs.Regions.{Region, Inside}
use Rattle.asl_lock_expr.specs.ClassOf.{TellsStores}
use Rattle.asl_backward_flow.specs.declared.fault.FlowFault.{FlowFault}
use Rattle.asl_backward_flow.specs.Flows.{IsFlow}
use Rattle.asl_backward_flow.specs.declared.span.Span.{Span}
use Rattle.asl_backward_flow.specs.declared.region_needs.RegionNeeds as code
use Rattle.asl_backward_flow.specs.declared.region.Region.TheVariants as variant
use Rattle.asl_lane_sets.specs.NumberSet.{IsIn}
use Rattle.std.proofs.lemmas.List.{length-map}
use Rattle.asl_backward_flow.specs.declared.found.AddFault.TheVariants.{Many}
use Rattle.asl_backward_flow.specs.Needed.{Needed, RegionNeeds, IsInNeeds, IsTold, AreParts, NeedsMany, region_of}
use Rattle.asl_backward_flow.specs.Found.{Table, table_of, list_at, HasNoneTwice, IsName, HasFact, locks_of, sets_of, first_of}
use Rattle.asl_backward_flow.specs.Follows.{Read, IsAll, Overflows}
use Rattle.asl_backward_flow.specs.Spans.{AreSpans}
use Rattle.asl_backward_flow.specs.Parts.{part, AreAtTheirNumbers, TellsAll}
use Rattle.asl_backward_flow.proofs.Leasts.{needed_inside}
use Rattle.asl_backward_flow.proofs.Blanks.{unmapped, some_there}
use Rattle.asl_backward_flow.proofs.SetNeeds.{mapped_at}
use Rattle.asl_backward_flow.proofs.Listing.{of_part, part_of, region_one}
use Rattle.asl_backward_flow.proofs.Sets.{some_same}

-- different places have different locks
apart_pairs : (locks : List Lock) → HasNoneTwice locks → AllPairs (λ a b. a ≢ b) locks
apart_pairs locks apart i j d lt below e =
    let at_i : slice_get locks i ≡ Some (get_or locks i d) = slice_get-get_or locks i d (omega (arith, lt, below)) in
    let at_j : slice_get locks j ≡ Some (get_or locks j d) = slice_get-get_or locks j d below in
    let same : i ≡ j = apart i j (get_or locks i d) at_i (at_j ∙ ap Some (sym e)) in
    omega (arith, same, lt)

-- the region needs the lock at the pc
abbrev pub NeededIn : Read → Region → ℕ → Lock → Type 0
NeededIn r region q m = Needed r.lowered r.classes r.stores r.k_limit region q m

-- what was found for the regions of some spans, part by part
module _ (r : Read) (items : List code.RegionNeeds) (list : List (ℕ × ℕ)) (all : IsAll r (table_of items list)) where
  -- the region with a number has the name of the span with this number
  pub same_region : (k : ℕ) (d : code.RegionNeeds) (s : Span) → slice_get items k ≡ Some d → slice_get r.spans k ≡ Some s → d.region ≡ s.region
  same_region k d s at there =
      some_same (sym (mapped_at (λ (z : code.RegionNeeds). z.region) items k d at) ∙ ap (λ l. slice_get l k) all.ready.regions ∙ mapped_at (λ (x : Span). x.region) r.spans k s there)

  first_at : (k : ℕ) (d : code.RegionNeeds) → slice_get items k ≡ Some d → first_of (table_of items list) k ≡ d.first
  first_at k d at = ap (λ o. unwrap_or o 0) (mapped_at (λ (z : code.RegionNeeds). z.first) items k d at)

  sets_at : (k : ℕ) (d : code.RegionNeeds) → slice_get items k ≡ Some d → sets_of (table_of items list) k ≡ d.needs.items
  sets_at k d at = ap (λ o. unwrap_or o []) (mapped_at (λ (z : code.RegionNeeds). z.needs.items) items k d at)

  locks_at : (k : ℕ) (d : code.RegionNeeds) → slice_get items k ≡ Some d → locks_of (table_of items list) k ≡ d.locks.keys
  locks_at k d at = ap (λ o. unwrap_or o []) (mapped_at (λ (z : code.RegionNeeds). z.locks.keys) items k d at)

  -- there are as many parts as spans
  pub as_many : length items ≡ length r.spans
  as_many = let count = all.ready.count in let same = length-map items (λ (z : code.RegionNeeds). z.locks.keys) in omega (arith, count, same)

  -- the span under the number of a part
  pub span_at : (k : ℕ) (d : code.RegionNeeds) → slice_get items k ≡ Some d → (s : Span) × (slice_get r.spans k ≡ Some s)
  span_at k d at = let count = as_many in let within = slice_get_within items k d at in some_there r.spans k (omega (arith, count, within))

  -- the part under the number of a span
  pub part_at : (k : ℕ) (s : Span) → slice_get r.spans k ≡ Some s → (d : code.RegionNeeds) × (slice_get items k ≡ Some d)
  part_at k s there = let count = as_many in let within = slice_get_within r.spans k s there in some_there items k (omega (arith, count, within))

  -- what a part says is needed in its region
  pub part_needed : (k : ℕ) (d : code.RegionNeeds) (q : ℕ) (m : Lock) → slice_get items k ≡ Some d → IsInNeeds (part d) q m → NeededIn r (region_of d.region) q m
  part_needed k d q m at told =
      let of = of_part d q m told in
      let place : q ≡ first_of (table_of items list) k + of.0 = of.1 ∙ ap (λ n. n + of.0) (sym (first_at k d at)) in
      let in_set : IsIn (list_at (sets_of (table_of items list) k) of.0) of.2.0 = subst (λ l. IsIn (list_at l of.0) of.2.0) (sym (sets_at k d at)) of.2.1 in
      let named : slice_get (locks_of (table_of items list) k) of.2.0 ≡ Some m = ap (λ l. slice_get l of.2.0) (locks_at k d at) ∙ of.2.2 in
      let need = all.sound k q m (of.2.0, (of.0, place, in_set), named) in
      let name : region_of need.0.region ≡ region_of d.region = ap region_of (sym (same_region k d need.0 at need.1)) in
      subst (λ x. NeededIn r x q m) name need.2

  -- what is found for a region its part says
  pub fact_part : (k : ℕ) (d : code.RegionNeeds) (q : ℕ) (m : Lock) → slice_get items k ≡ Some d → HasFact (table_of items list) k q m → IsInNeeds (part d) q m
  fact_part k d q m at has =
      let place = has.1 in
      let in_set : IsIn (list_at d.needs.items place.0) has.0 = subst (λ l. IsIn (list_at l place.0) has.0) (sets_at k d at) place.2 in
      let own : slice_get d.locks.keys has.0 ≡ Some m = ap (λ l. slice_get l has.0) (sym (locks_at k d at)) ∙ has.2 in
      let spot : d.first + place.0 ≡ q = sym (place.1 ∙ ap (λ i. i + place.0) (first_at k d at)) in
      subst (λ x. IsInNeeds (part d) x m) spot (part_of d place.0 m (has.0, in_set, own))

  -- what the region of a span needs its part says
  pub needed_part : (k : ℕ) (d : code.RegionNeeds) (s : Span) (q : ℕ) (m : Lock) → slice_get items k ≡ Some d → slice_get r.spans k ≡ Some s → NeededIn r (region_of s.region) q m → IsInNeeds (part d) q m
  needed_part k d s q m at there need = fact_part k d q m at (all.full k q m (s, there, need))

  -- a lock of a part is needed somewhere, where it is found
  pub used_at : (k i : ℕ) (d : code.RegionNeeds) (m : Lock) → slice_get items k ≡ Some d → slice_get d.locks.keys i ≡ Some m → (pc : ℕ) × IsInNeeds (part d) pc m
  used_at k i d m at named =
      let need = all.names k m (i, ap (λ l. slice_get l i) (locks_at k d at) ∙ named) in
      (need.0, fact_part k d need.0 m at (all.full k need.0 m need.1))

  pub own_locks : (k : ℕ) (d : code.RegionNeeds) → slice_get items k ≡ Some d → HasNoneTwice d.locks.keys
  own_locks k d at = subst HasNoneTwice (locks_at k d at) (all.ready.whole.apart k)

  -- the locks that the region of a span needs have different numbers
  module _ (p : ℕ) (s : Span) (there : slice_get r.spans p ≡ Some s) (many : NeedsMany r.lowered r.classes r.stores r.k_limit (region_of s.region)) (d : Lock) where
    name : (i : ℕ) → i < length many.locks → IsName (table_of items list) p (get_or many.locks i d)
    name i lt =
        let need = many.needed i (get_or many.locks i d) (slice_get-get_or many.locks i d lt) in
        let has = all.full p need.0 (get_or many.locks i d) (s, there, need.1) in
        (has.0, has.2)

    numbered : (i : ℕ) → (n : ℕ) × (i < length many.locks → slice_get (locks_of (table_of items list) p) n ≡ Some (get_or many.locks i d))
    numbered i = either (cases_lt i (length many.locks))
      where
        either : (i < length many.locks) ⊎ (length many.locks ≤ i) → (n : ℕ) × (i < length many.locks → slice_get (locks_of (table_of items list) p) n ≡ Some (get_or many.locks i d))
        either (inl lt) = ((name i lt).0, λ l. (name i lt).1)
        either (inr ge) = (0, λ lt. absurd (omega (arith, lt, ge)))

    one_number : (i j : ℕ) → i < length many.locks → j < length many.locks → (numbered i).0 ≡ (numbered j).0 → get_or many.locks i d ≡ get_or many.locks j d
    one_number i j below_i below_j e = some_same (sym ((numbered i).1 below_i) ∙ ap (λ n. slice_get (locks_of (table_of items list) p) n) e ∙ (numbered j).1 below_j)

    pub not_many : ⊥
    not_many =
        let holds = pigeonhole (length many.locks) (length (locks_of (table_of items list) p)) (λ i. (numbered i).0)
        (λ i lt. slice_get_within (locks_of (table_of items list) p) (numbered i).0 _ ((numbered i).1 lt))
        (λ i j below_i below_j e. ⊎_elim
        (λ lt. absurd (many.different i j d lt below_j (one_number i j below_i below_j e)))
        (λ ge. ⊎_elim (λ lt. absurd (many.different j i d lt below_i (one_number j i below_j below_i (sym e)))) (λ le. omega (arith, le, ge)) (cases_lt j i))
        (cases_lt i j)) in
        let over = many.many in let few = all.ready.whole.few p in omega (arith, holds, over, few)

-- a region that needs too many locks needs one
pub one_needed : (r : Read) (region : Region) → NeedsMany r.lowered r.classes r.stores r.k_limit region → (q : ℕ) × (m : Lock) × NeededIn r region q m
one_needed r region many =
    let d = root.Root write.Write in
    let there : slice_get many.locks 0 ≡ Some (get_or many.locks 0 d) = slice_get-get_or many.locks 0 d (let lt = many.many in omega (arith, lt)) in
    let need = many.needed 0 (get_or many.locks 0 d) there in
    (need.0, get_or many.locks 0 d, need.1)

-- the same for the spans of all regions
module _ (r : Read) (whole : AreSpans r.lowered r.spans) (items : List code.RegionNeeds) (list : List (ℕ × ℕ)) (all : IsAll r (table_of items list)) where
  -- what is needed is needed in the region of a span
  span_of : (region : Region) (q : ℕ) (m : Lock) → NeededIn r region q m → (p : ℕ) × (s : Span) × (slice_get r.spans p ≡ Some s) × (region_of s.region ≡ region)
  span_of region q m n = let inside = needed_inside r.lowered r.classes r.stores r.k_limit region q m n in whole.all region inside.0 q inside.1

  told_needed : (region : Region) (q : ℕ) (m : Lock) → IsTold (map part items) region q m → NeededIn r region q m
  told_needed region q m told =
      let d = unmapped part items told.0 told.1 told.2 in
      let name : region_of d.0.region ≡ region = ap (λ (x : RegionNeeds). x.region) d.2 ∙ told.3 in
      subst (λ x. NeededIn r x q m) name (part_needed r items list all told.0 d.0 q m d.1 (subst (λ (x : RegionNeeds). IsInNeeds x q m) (sym d.2) told.4))

  needed_told : (region : Region) (q : ℕ) (m : Lock) → NeededIn r region q m → IsTold (map part items) region q m
  needed_told region q m n =
      let f = span_of region q m n in
      let d = part_at r items list all f.0 f.1 f.2 in
      let need : NeededIn r (region_of f.1.region) q m = subst (λ x. NeededIn r x q m) (sym f.3) n in
      (f.0, part d.0, mapped_at part items f.0 d.0 d.1, ap region_of (same_region r items list all f.0 d.0 f.1 d.1 f.2) ∙ f.3, needed_part r items list all f.0 d.0 f.1 q m d.1 f.2 need)

  -- the part of a section stands at the section's number, as its span does
  pub at_their_numbers : AreAtTheirNumbers (map part items)
  at_their_numbers k n p at is =
      let d = unmapped part items k p at in
      let s = span_at r items list all k d.0 d.1 in
      let name : region_of s.0.region ≡ Inside n = ap region_of (sym (same_region r items list all k d.0 s.0 d.1 s.1)) ∙ ap (λ (x : RegionNeeds). x.region) d.2 ∙ is in
      whole.placed k n s.0 s.1 (region_one s.0.region (variant.Section n) name)

  parts_distinct : (m n : ℕ) (p q : RegionNeeds) → slice_get (map part items) m ≡ Some p → slice_get (map part items) n ≡ Some q → p.region ≡ q.region → m ≡ n
  parts_distinct m n p q at_m at_n e =
      let d = unmapped part items m p at_m in
      let c = unmapped part items n q at_n in
      let s = span_at r items list all m d.0 d.1 in
      let t = span_at r items list all n c.0 c.1 in
      let same : d.0.region ≡ c.0.region = region_one d.0.region c.0.region (ap (λ (x : RegionNeeds). x.region) d.2 ∙ e ∙ sym (ap (λ (x : RegionNeeds). x.region) c.2)) in
      whole.distinct m n s.0 t.0 s.1 t.1 (sym (same_region r items list all m d.0 s.0 d.1 s.1) ∙ same ∙ same_region r items list all n c.0 t.0 c.1 t.1)

  are_parts : AreParts (map part items)
  are_parts = record {
    distinct = parts_distinct;
    different = λ n p at.
        let d = unmapped part items n p at in
        subst (λ (x : RegionNeeds). AllPairs (λ a b. a ≢ b) x.locks) d.2 (apart_pairs d.0.locks.keys (own_locks r items list all n d.0 d.1));
    used = λ n i p lock at has.
        let d = unmapped part items n p at in
        let named = ap (λ (x : RegionNeeds). slice_get x.locks i) d.2 ∙ has in
        let need = used_at r items list all n i d.0 lock d.1 named in
        (need.0, subst (λ (x : RegionNeeds). IsInNeeds x need.0 lock) d.2 need.1);
  }

  pub tells_all : TellsAll r (map part items)
  tells_all = record {
    tells = λ region q m. (λ h. told_needed region q m h, λ h. needed_told region q m h);
    apart = are_parts;
    few = λ region many.
        let one = one_needed r region many in
        let f = span_of region one.0 one.1 one.2 in
        not_many r items list all f.0 f.1 f.2 (subst (λ x. NeedsMany r.lowered r.classes r.stores r.k_limit x) (sym f.3) many) (root.Root write.Write);
  }

module _ (r : Read) (t : Table) (p : ℕ) (x : Overflows r t (Many p)) where
  over_name : (IsName t p) (get_or (locks_of t p) 0 (root.Root write.Write))
  over_name = (0, slice_get-get_or (locks_of t p) 0 (root.Root write.Write) (let over = x.over.0 in omega (arith, over)))

  pub over_there : p < length r.spans
  over_there = let need = x.names p _ over_name in slice_get_within r.spans p need.1.0 need.1.1

  pub over_many : (s : Span) → slice_get r.spans p ≡ Some s → NeedsMany r.lowered r.classes r.stores r.k_limit (region_of s.region)
  over_many s there = record {
    locks = locks_of t p;
    many = x.over.0;
    different = apart_pairs (locks_of t p) x.over.1;
    needed = λ n lock at.
        let need = x.names p lock (n, at) in
        let same : need.1.0 ≡ s = some_same (sym need.1.1 ∙ there) in
        (need.0, subst (λ (k : Span). Needed r.lowered r.classes r.stores r.k_limit (region_of k.region) need.0 lock) same need.1.2);
  }

-- the answer, with the written classes for what functions may store to
module _ (r : Read) (written : TellsStores r.lowered r.classes r.stores) where
  pub flow_told : (result : Result (List RegionNeeds) FlowFault) → IfOk result (TellsAll r) → IfOk result (IsFlow r.lowered r.classes r.k_limit)
  flow_told (Ok parts) x = record { stores = r.stores; written = written; tells = x.tells; apart = x.apart; few = x.few }
  flow_told (Err fault) x = tt
