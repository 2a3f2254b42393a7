-- All that is needed is found: what is found is a closed family.
use Rattle.std.proofs.Common.{◌≡◌, ⊎_elim, ℕ, ◌≤◌, arith, List, [], ◌∷◌, Some, length, slice_get, unwrap_or, refl, ap, sym, subst, ◌∙◌, inl, inr}
use Rattle.asl_code.specs.declared.image.Function as entry
use Rattle.asl_code.specs.declared.instr.Instr.{Instr}
use Rattle.asl_code.specs.declared.instr.Instr.TheVariants as instr
use Rattle.asl_code.specs.declared.lock.Lock.{Lock}
use Rattle.asl_lower.specs.OpenSections.{FlowsTo, start_of}
use Rattle.asl_lower.specs.Regions.{Region, Body, IsIn}
use Rattle.asl_lock_expr.specs.Links.{IsOne, link, accesses, settle, renamed, dereferenced}
use Rattle.asl_backward_flow.specs.declared.region.Region.TheVariants as variant
use Rattle.asl_backward_flow.specs.declared.found.AddFault.{AddFault}
use Rattle.asl_backward_flow.specs.declared.found.AddFault.TheVariants.{OutOfMemory}
use Rattle.asl_backward_flow.specs.declared.span.Span.{Span}
use Rattle.asl_backward_flow.specs.Needed.{Needed, Accessed, Linked, Entered, Before, region_of}
use Rattle.asl_backward_flow.specs.Closed.{Family, IsClosed}
use Rattle.asl_backward_flow.specs.Found.{Table, HasFact, IsName, IsBlank, Waits, NoneWaits, locks_of}
use Rattle.asl_backward_flow.specs.Follows.{Read, IsRead, IsReady, HasAll, seen, IsAtPoint, IsSeed, Follows, Added, Stopped, IsFollowed, Overflows, IsAll}
use Rattle.asl_backward_flow.proofs.Leasts.{needed_inside, needed_least}
use Rattle.asl_backward_flow.proofs.Sound.{seed_needed}
use Rattle.asl_backward_flow.proofs.Fronts.{fronts_more, seeds_fronted}

module _ (r : Read) (read : IsRead r) (t : Table) (so : IsFollowed r t NoneWaits) where
  abbrev Is : Region → ℕ → Lock → Type 0
  Is region q m = Needed r.lowered r.classes r.stores r.k_limit region q m

  -- the lock is needed, and each span of the region has the fact
  abbrev FoundToo : Family
  FoundToo region q m = Is region q m × ((p : ℕ) (s : Span) → slice_get r.spans p ≡ Some s → region_of s.region ≡ region → HasFact t p q m)

  follow : (p q : ℕ) (m : Lock) (x y : ℕ) (n : Lock) → HasFact t p q m → Follows r p q (λ l. m ≡ l) x y n → HasFact t x y n
  follow p q m x y n has f = ⊎_elim (λ w. absurd w) (λ (all : HasAll t (Follows r p q (λ l. m ≡ l))). all x y n f) (so.closed p q has.0 m has.1 has.2)

  point : (region : Region) (f pc p : ℕ) (s : Span) → IsIn r.lowered region f pc → slice_get r.spans p ≡ Some s → region_of s.region ≡ region → (f ≡ s.function) × IsAtPoint r p pc
  point region f pc p s isin there e = let at = (read.spans.each p s there).points f pc (subst (λ x. IsIn r.lowered x f pc) (sym e) isin) in (at.0, (s, there, at.1, at.2))

  found_accessed : (region : Region) (f pc : ℕ) (i : Instr) (n : Lock) → IsIn r.lowered region f pc → slice_get r.lowered.code pc ≡ Some i → IsOne (accesses (seen r f) i) n
      → (p : ℕ) (s : Span) → slice_get r.spans p ≡ Some s → region_of s.region ≡ region → HasFact t p pc n
  found_accessed region f pc i n isin at o p s there e =
      let here = point region f pc p s isin there e in
      so.seeds p pc n (here.1, inl (record { span = s; there = there; instruction = i; stands = at; one = subst (λ g. IsOne (accesses (seen r g) i) n) here.0 o }))

  found_linked : (region : Region) (f pc next : ℕ) (i : Instr) (m n : Lock) → IsIn r.lowered region f pc → slice_get r.lowered.code pc ≡ Some i → FlowsTo i pc next
      → FoundToo region next m → IsOne (link (seen r f) i m) n → (p : ℕ) (s : Span) → slice_get r.spans p ≡ Some s → region_of s.region ≡ region → HasFact t p pc n
  found_linked region f pc next i m n isin at goes k o p s there e =
      let here = point region f pc p s isin there e in
      follow p next m p pc n (k.1 p s there e)
      (inl (refl, (i, at, goes), here.1, inl (m, refl, record { span = s; there = there; instruction = i; stands = at; one = subst (λ g. IsOne (link (seen r g) i m) n) here.0 o })))

  found_entered : (region : Region) (f pc to first g : ℕ) (callee : entry.Function) (m passed n : Lock) → IsIn r.lowered region f pc
      → slice_get r.lowered.code pc ≡ Some (instr.Call to first g) → slice_get r.lowered.functions g ≡ Some callee
      → FoundToo (Body g) (start_of r.lowered.functions g) m → IsOne (renamed first callee.params m) passed → IsOne (settle (seen r f) passed) n
      → (p : ℕ) (s : Span) → slice_get r.spans p ≡ Some s → region_of s.region ≡ region → HasFact t p pc n
  found_entered region f pc to first g callee m passed n isin at in_table k renames o p s there e =
      let here = point region f pc p s isin there e in
      let inside = needed_inside r.lowered r.classes r.stores r.k_limit (Body g) (start_of r.lowered.functions g) m k.0 in
      let body = read.spans.bodies g inside.0 (start_of r.lowered.functions g) inside.1 in
      let named : body.1.region ≡ variant.Body g = body.3 in
      follow body.0 (start_of r.lowered.functions g) m p pc n (k.1 body.0 body.1 body.2 (ap region_of named))
      (inr (
        m,
        refl,
        record {
          body = body.1;
          function = g;
          there = body.2;
          region = named;
          entry = sym ((read.spans.each body.0 body.1 body.2).entry g named);
          call = (
            (to, first, at),
            (
              refl,
              here.1,
              inl (record {
                span = s;
                there = there;
                to = to;
                first = first;
                function = g;
                callee = callee;
                stands = at;
                in_table = in_table;
                passed = passed;
                renames = renames;
                one = subst (λ h. IsOne (settle (seen r h) passed) n) here.0 o;
              }),
            ),
          );
        },
      ))

  found_before : (region : Region) (pc : ℕ) (m n : Lock) → FoundToo region pc m → IsOne (dereferenced m) n → (p : ℕ) (s : Span) → slice_get r.spans p ≡ Some s → region_of s.region ≡ region → HasFact t p pc n
  found_before region pc m n k o p s there e = so.fronts p pc m n (k.1 p s there e) o

  found_closed : IsClosed r.lowered r.classes r.stores r.k_limit FoundToo
  found_closed = record {
    accessed = λ region f pc i n isin at o. (Accessed region f pc i n isin at o, found_accessed region f pc i n isin at o);
    linked = λ region f pc next i m n isin at goes k o. (Linked region f pc next i m n isin at goes k.0 o, found_linked region f pc next i m n isin at goes k o);
    entered = λ region f pc to first g callee m p n isin at there k o q. (Entered region f pc to first g callee m p n isin at there k.0 o q, found_entered region f pc to first g callee m p n isin at there k o q);
    before = λ region pc m n k o. (Before region pc m n k.0 o, found_before region pc m n k o);
  }

  pub all_found : IsAll r t
  all_found = record {
    ready = so.ready;
    sound = so.sound;
    full = λ p q m n. (needed_least r.lowered r.classes r.stores r.k_limit FoundToo found_closed (region_of n.0.region) q m n.2).1 p n.0 n.1 refl;
    names = so.names;
  }

no_name : (t : Table) (spans : List Span) → IsBlank t spans → (p : ℕ) (m : Lock) → IsName t p m → ⊥
no_name t spans blank p m at = blank.locks p at.0 m at.1

no_fact : (t : Table) (spans : List Span) → IsBlank t spans → (p q : ℕ) (m : Lock) → HasFact t p q m → ⊥
no_fact t spans blank p q m has = blank.sets p q has.0 has.1

few_names : (l : List Lock) → ((n : ℕ) (m : Lock) → slice_get l n ≡ Some m → ⊥) → length l ≤ 4096
few_names [] none = omega arith
few_names (m ∷ l) none = absurd (none 0 m refl)

pub blank_ready : (r : Read) (t : Table) → IsBlank t r.spans → IsReady r t
blank_ready r t blank = record {
  regions = blank.regions;
  count = blank.count;
  points = λ p q at. blank.points p q at.0 at.1 at.2 at.3;
  whole = record {
    named = λ p q n h. absurd (blank.sets p q n h);
    listed = λ f at. absurd (none at.0 f (ap (λ l. slice_get l at.0) (sym blank.list) ∙ at.1));
    apart = λ p m n a at_m at_n. absurd (blank.locks p m a at_m);
    few = λ p. few_names (locks_of t p) (blank.locks p);
    found = λ p q n h. absurd (blank.fresh p q n h);
    awaited = λ p q n h. absurd (blank.fresh p q n h);
  };
}
  where
    none : (n : ℕ) (f : ℕ × ℕ) → slice_get {X = ℕ × ℕ} [] n ≡ Some f → ⊥
    none n f e = cc

-- with the seeds alone all that is found waits
pub followed_begin : (r : Read) (t new : Table) → IsRead r → IsBlank t r.spans → Added r t new (IsSeed r) → IsFollowed r new (Waits new)
followed_begin r t new read blank x = record {
  ready = x.ready;
  sound = λ p q m h. ⊎_elim (λ o. absurd (no_fact t r.spans blank p q m o)) (λ k. seed_needed r read p q m k) (x.adds.only.facts p q m h);
  names = λ p m h. ⊎_elim (λ o. absurd (no_name t r.spans blank p m o)) (λ k. (k.0, seed_needed r read p k.0 m k.1)) (x.adds.only.names p m h);
  seeds = x.has;
  fronts = fronts_more r t new (IsSeed r) (λ p q m d h k. absurd (no_fact t r.spans blank p q m h)) (seeds_fronted r) x;
  closed = λ p q n m has name. ⊎_elim (λ was. absurd (blank.sets p q n was)) (λ l. inl l) (x.lists.fresh p q n has);
}

pub seeds_over : (r : Read) (t new : Table) (fault : AddFault) → IsRead r → IsBlank t r.spans → Stopped t new (IsSeed r) fault → (x : Table) × Overflows r x fault
seeds_over r t new fault read blank x = (
  new,
  record {
    over = x.over;
    names = λ p m h. ⊎_elim (λ o. absurd (no_name t r.spans blank p m o)) (λ k. (k.0, seed_needed r read p k.0 m k.1)) (x.adds.only.names p m h);
  },
)

-- an allocation failed before anything was found
pub refused_at_first : (r : Read) (fault : AddFault) → fault ≡ OutOfMemory → (t : Table) × Overflows r t fault
refused_at_first r fault is = subst (λ f. (t : Table) × Overflows r t f) (sym is) (record { regions = []; firsts = []; locks = []; sets = []; fresh = []; list = [] }, record { over = tt; names = λ p m h. absurd (none p h.0 m h.1) })
  where
    none : (p n : ℕ) (m : Lock) → slice_get (unwrap_or (slice_get {X = List Lock} [] p) []) n ≡ Some m → ⊥
    none p n m e = cc
