-- Only what is needed is found: one line of the definition for each way in which a fact is added.
use Rattle.std.proofs.Common.{◌≡◌, ⊎_elim, inl, inr, refl, ℕ, ◌<◌, ◌≤◌, Some, slice_get, ap, sym, subst, ◌∙◌}
use Rattle.asl_code.specs.declared.instr.Instr.{Instr}
use Rattle.asl_code.specs.declared.instr.Instr.TheVariants as instr
use Rattle.asl_code.specs.declared.lock.Lock.{Lock}
use Rattle.asl_lower.specs.OpenSections.{start_of}
use Rattle.asl_lower.specs.Regions.{Body, IsIn}
use Rattle.asl_lock_expr.specs.Links.{IsOne, link, accesses, settle}
use Rattle.asl_backward_flow.specs.declared.region.Region.TheVariants as variant
use Rattle.asl_backward_flow.specs.declared.span.Span.{Span}
use Rattle.asl_backward_flow.specs.Needed.{Needed, Accessed, Linked, Entered, Before, region_of}
use Rattle.asl_backward_flow.specs.Follows.{Read, IsRead, seen, WithFronts, IsLinkedAlone, IsAccessed, IsEntered, IsAtPoint, IsSeed, IsBack, IsEntry, IsEntryOf, Follows, NeededAt}
use Rattle.asl_backward_flow.specs.Graph.{IsEdge, IsCall}
use Rattle.asl_backward_flow.proofs.Sets.{some_same}

abbrev callee_of : Instr → ℕ
callee_of (instr.Call to first k) = k
callee_of i = 0

module _ (r : Read) (read : IsRead r) where
  abbrev Is : Span → ℕ → Lock → Type 0
  Is s q m = Needed r.lowered r.classes r.stores r.k_limit (region_of s.region) q m

  inside : (p q : ℕ) (s : Span) → slice_get r.spans p ≡ Some s → s.first ≤ q → q < s.end → IsIn r.lowered (region_of s.region) s.function q
  inside p q s there first end = (read.spans.each p s there).inside q first end

  -- the dereferenced prefixes of needed locks are needed
  fronts_needed : (Such : Lock → Type 0) (p q : ℕ) (m : Lock) → ((n : Lock) → Such n → NeededAt r p q n) → WithFronts Such m → NeededAt r p q m
  fronts_needed Such p q m all (inl h) = all m h
  fronts_needed Such p q m all (inr h) = let n = all h.0 h.1 in (n.0, n.1, Before (region_of n.0.region) q h.0 m n.2 h.2)

  accessed_needed : (p q : ℕ) → IsAtPoint r p q → (m : Lock) → IsAccessed r p q m → NeededAt r p q m
  accessed_needed p q at m a =
      let s = at.0 in
      let same : a.span ≡ s = some_same (sym a.there ∙ at.1) in
      let one : IsOne (accesses (seen r s.function) a.instruction) m = subst (λ (t : Span). IsOne (accesses (seen r t.function) a.instruction) m) same a.one in
      (s, at.1, Accessed (region_of s.region) s.function q a.instruction m (inside p q s at.1 at.2 at.3) a.stands one)

  pub seed_needed : (p q : ℕ) (m : Lock) → IsSeed r p q m → NeededAt r p q m
  seed_needed p q m h = fronts_needed (IsAccessed r p q) p q m (accessed_needed p q h.0) h.1

  needed_in : (part pc : ℕ) (lock : Lock) (s : Span) → slice_get r.spans part ≡ Some s → NeededAt r part pc lock → Is s pc lock
  needed_in part pc lock s there n = subst (λ (t : Span). Is t pc lock) (some_same (sym n.1 ∙ there)) n.2

  linked_needed : (part pc : ℕ) (lock : Lock) (p q : ℕ) (m : Lock) → NeededAt r part pc lock → p ≡ part → IsEdge r.lowered pc q → IsAtPoint r p q → IsLinkedAlone r p q lock m → NeededAt r p q m
  linked_needed part pc lock p q m n part_is edge at a =
      let s = at.0 in
      let i = edge.0 in
      let same : a.span ≡ s = some_same (sym a.there ∙ at.1) in
      let code : a.instruction ≡ i = some_same (sym a.stands ∙ edge.1) in
      let one : IsOne (link (seen r s.function) i lock) m =
      subst (λ (x : Instr). IsOne (link (seen r s.function) x lock) m) code (subst (λ (t : Span). IsOne (link (seen r t.function) a.instruction lock) m) same a.one) in
      let behind : Is s pc lock = needed_in part pc lock s (ap (λ x. slice_get r.spans x) (sym part_is) ∙ at.1) n in
      (s, at.1, Linked (region_of s.region) s.function q pc i lock m (inside p q s at.1 at.2 at.3) edge.1 edge.2 behind one)

  back_needed : (part pc : ℕ) (Such : Lock → Type 0) (p q : ℕ) (m : Lock) → ((l : Lock) → Such l → NeededAt r part pc l) → IsBack r part pc Such p q m → NeededAt r p q m
  back_needed part pc Such p q m all h =
      fronts_needed (λ n. (l : Lock) × Such l × IsLinkedAlone r p q l n) p q m (λ n k. linked_needed part pc k.0 p q n (all k.0 k.1) h.0 h.1 h.2 k.2) h.3

  entered_needed : (part pc : ℕ) (lock : Lock) (p q g : ℕ) (body : Span) → slice_get r.spans part ≡ Some body → body.region ≡ variant.Body g → pc ≡ body.first → NeededAt r part pc lock → IsCall r.lowered g q → IsAtPoint r p q
      → (m : Lock) → IsEntered r p q lock m → NeededAt r p q m
  entered_needed part pc lock p q g body there region entry n called at m a =
      let s = at.0 in
      let same : a.span ≡ s = some_same (sym a.there ∙ at.1) in
      let call : instr.Call a.to a.first a.function ≡ instr.Call called.0 called.1 g = some_same (sym a.stands ∙ called.2) in
      let to_g : a.function ≡ g = ap callee_of call in
      let at_entry : Is body pc lock = needed_in part pc lock body there n in
      let first : pc ≡ start_of r.lowered.functions g = entry ∙ (read.spans.each part body there).entry g region in
      let of_body : Needed r.lowered r.classes r.stores r.k_limit (Body g) (start_of r.lowered.functions g) lock =
      subst (λ x. Needed r.lowered r.classes r.stores r.k_limit (Body g) x lock) first (subst (λ x. Needed r.lowered r.classes r.stores r.k_limit x pc lock) (ap region_of region) at_entry) in
      let of_callee : Needed r.lowered r.classes r.stores r.k_limit (Body a.function) (start_of r.lowered.functions a.function) lock =
      subst (λ k. Needed r.lowered r.classes r.stores r.k_limit (Body k) (start_of r.lowered.functions k) lock) (sym to_g) of_body in
      let one : IsOne (settle (seen r s.function) a.passed) m = subst (λ (t : Span). IsOne (settle (seen r t.function) a.passed) m) same a.one in
      (s, at.1, Entered (region_of s.region) s.function q a.to a.first a.function a.callee lock a.passed m (inside p q s at.1 at.2 at.3) a.stands a.in_table of_callee a.renames one)

  entry_needed : (part pc : ℕ) (lock : Lock) (p q : ℕ) (m : Lock) → NeededAt r part pc lock → IsEntry r part pc lock p q m → NeededAt r p q m
  entry_needed part pc lock p q m n h =
      fronts_needed (IsEntered r p q lock) p q m (entered_needed part pc lock p q h.function h.body h.there h.region h.entry n (subst (IsCall r.lowered h.function) refl h.call.0) h.call.1.1) h.call.1.2

  pub follows_needed : (part pc : ℕ) (Such : Lock → Type 0) (p q : ℕ) (m : Lock) → ((l : Lock) → Such l → NeededAt r part pc l) → Follows r part pc Such p q m → NeededAt r p q m
  follows_needed part pc Such p q m all h =
      ⊎_elim (λ k. back_needed part pc Such p q m all k) (λ (k : IsEntryOf r part pc Such p q m). entry_needed part pc k.0 p q m (all k.0 k.1) k.2) h
