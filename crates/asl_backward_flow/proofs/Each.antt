-- What each turn of the loops over regions, pcs and calls adds.
use Rattle.std.proofs.Common.{◌≡◌, ℕ, ◌+◌, ◌<◌, ◌≤◌, inl, inr, List, Some, length, slice_get, refl, ap, sym, subst, ◌∙◌, arith}
use Rattle.std.proofs.lemmas.Option.{slice_get_within}
use Rattle.asl_code.specs.declared.lock.Lock.{Lock}
use Rattle.asl_backward_flow.specs.declared.found.AddFault.{AddFault}
use Rattle.asl_backward_flow.specs.declared.region.Region.TheVariants as variant
use Rattle.asl_backward_flow.specs.declared.span.Span.{Span}
use Rattle.asl_backward_flow.specs.Graph.{IsCall}
use Rattle.asl_backward_flow.specs.Found.{Table, list_at}
use Rattle.asl_backward_flow.specs.Follows.{Read, IsRead, IsAtPoint, WithFronts, IsSeed, IsSeedIn, IsAccessed, AtCallOf, At, Added, Stopped, AddedBelow}
use Rattle.asl_backward_flow.specs.Entering.{IsEnteredOf, IsCalledAtOf}
use Rattle.asl_backward_flow.proofs.Entering.{calls_to, calls_from}
use Rattle.asl_backward_flow.proofs.Sets.{some_same}
use Rattle.asl_backward_flow.proofs.Adding.{below_more, below_end, below_stopped}

abbrev pub each_point : Read → ℕ → ℕ → ℕ → ℕ → Lock → Type 0
each_point r part j p q m = (p ≡ part) × (q ≡ j) × IsSeed r p q m

abbrev pub each_region : Read → ℕ → ℕ → ℕ → Lock → Type 0
each_region r j p q m = (p ≡ j) × IsSeed r p q m

abbrev pub each_call : Read → ℕ → (Lock → Type 0) → List ℕ → ℕ → ℕ → ℕ → Lock → Type 0
each_call r pc Such parts j p q m = (slice_get parts j ≡ Some p) × (q ≡ pc) × IsAtPoint r p q × IsEnteredOf r p q Such m

abbrev pub each_call_of : Read → (Lock → Type 0) → List ℕ → ℕ → ℕ → ℕ → Lock → Type 0
each_call_of r Such pcs j p q m = (slice_get pcs j ≡ Some q) × IsCalledAtOf r q Such p q m

module _ (r : Read) (part pc : ℕ) (these : ℕ → ℕ → Lock → Type 0) where
  -- what is at one point is so under other names of the region and the pc
  pub to_point : (p q : ℕ) (m : Lock) → At part pc (these part pc) p q m → these p q m
  to_point p q m h = subst (λ x. these x q m) (sym h.0) (subst (λ y. these part y m) (sym h.1) h.2)

  pub from_point : (p q : ℕ) (m : Lock) → p ≡ part → q ≡ pc → these p q m → At part pc (these part pc) p q m
  from_point p q m a b h = (a, b, subst (λ y. these part y m) b (subst (λ x. these x q m) a h))

pub at_point : (r : Read) (part pc : ℕ) → IsAtPoint r part pc → (p q : ℕ) → p ≡ part → q ≡ pc → IsAtPoint r p q
at_point r part pc point p q a b = subst (λ x. IsAtPoint r x q) (sym a) (subst (λ y. IsAtPoint r part y) (sym b) point)

-- the turns over the pcs of a region
pub points_more : (r : Read) (initial now new : Table) (part pc : ℕ) → IsAtPoint r part pc → AddedBelow r initial now (each_point r part) pc
    → Added r now new (At part pc (WithFronts (IsAccessed r part pc))) → AddedBelow r initial new (each_point r part) (pc + 1)
points_more r initial now new part pc point so x = below_more r initial now new (each_point r part) pc _
    (λ p q m h. (h.0, h.1, (at_point r part pc point p q h.0 h.1, to_point r part pc (λ a b. WithFronts (IsAccessed r a b)) p q m h)))
    (λ p q m h. from_point r part pc (λ a b. WithFronts (IsAccessed r a b)) p q m h.0 h.1 h.2.1) so x

pub points_stopped : (r : Read) (initial now new : Table) (part pc : ℕ) (fault : AddFault) → IsAtPoint r part pc → AddedBelow r initial now (each_point r part) pc
    → Stopped now new (At part pc (WithFronts (IsAccessed r part pc))) fault → Stopped initial new (IsSeedIn r part) fault
points_stopped r initial now new part pc fault point so x = below_stopped r initial now new (each_point r part) pc _ (IsSeedIn r part) fault
    (λ j p q m h. (h.0, h.2))
    (λ p q m h. (h.0, (at_point r part pc point p q h.0 h.1, to_point r part pc (λ a b. WithFronts (IsAccessed r a b)) p q m h))) so x

pub points_end : (r : Read) (initial now : Table) (part pc : ℕ) (s : Span) → slice_get r.spans part ≡ Some s → s.end ≤ pc → AddedBelow r initial now (each_point r part) pc → Added r initial now (IsSeedIn r part)
points_end r initial now part pc s there end so = below_end r initial now (each_point r part) pc (IsSeedIn r part)
    (λ j p q m h. (h.0, h.2))
    (λ p q m h.
    let same : h.1.0.0 ≡ s = some_same (sym h.1.0.1 ∙ ap (λ n. slice_get r.spans n) h.0 ∙ there) in
    let lt = subst (λ (t : Span). q < t.end) same h.1.0.3 in
    (q, omega (arith, lt, end), (h.0, refl, h.1))) so

-- the turns over regions
pub regions_more : (r : Read) (initial now new : Table) (part : ℕ) → AddedBelow r initial now (each_region r) part → Added r now new (IsSeedIn r part) → AddedBelow r initial new (each_region r) (part + 1)
regions_more r initial now new part so x = below_more r initial now new (each_region r) part (IsSeedIn r part) (λ p q m h. h) (λ p q m h. h) so x

pub regions_stopped : (r : Read) (initial now new : Table) (part : ℕ) (fault : AddFault) → AddedBelow r initial now (each_region r) part → Stopped now new (IsSeedIn r part) fault → Stopped initial new (IsSeed r) fault
regions_stopped r initial now new part fault so x = below_stopped r initial now new (each_region r) part _ (IsSeed r) fault (λ j p q m h. h.1) (λ p q m h. h.1) so x

pub regions_end : (r : Read) (initial now : Table) (part : ℕ) → length r.spans ≤ part → AddedBelow r initial now (each_region r) part → Added r initial now (IsSeed r)
regions_end r initial now part end so = below_end r initial now (each_region r) part (IsSeed r) (λ j p q m h. h.1)
    (λ p q m h. let lt = slice_get_within r.spans p h.0.0 h.0.1 in (p, omega (arith, lt, end), (refl, h))) so

-- where something is entered, a function is called
pub called_there : (r : Read) (p q : ℕ) (Such : Lock → Type 0) (m : Lock) → IsEnteredOf r p q Such m → (callee : ℕ) × IsCall r.lowered callee q
called_there r p q Such m (inl h) = let e = h.2 in (e.function, (e.to, e.first, e.stands))
called_there r p q Such m (inr h) = let e = h.1.2 in (e.function, (e.to, e.first, e.stands))

-- the turns over the regions that have a call
pub calls_more : (r : Read) (initial now new : Table) (j part pc : ℕ) (Such : Lock → Type 0) (parts : List ℕ) → slice_get parts j ≡ Some part → IsAtPoint r part pc → AddedBelow r initial now (each_call r pc Such parts) j
    → Added r now new (At part pc (IsEnteredOf r part pc Such)) → AddedBelow r initial new (each_call r pc Such parts) (j + 1)
calls_more r initial now new j part pc Such parts at point so x = below_more r initial now new (each_call r pc Such parts) j _
    (λ p q m h. (at ∙ ap Some (sym h.0), h.1, at_point r part pc point p q h.0 h.1, to_point r part pc (λ a b. IsEnteredOf r a b Such) p q m h))
    (λ p q m h. from_point r part pc (λ a b. IsEnteredOf r a b Such) p q m (some_same (sym h.0 ∙ at)) h.1 h.3) so x

pub calls_stopped : (r : Read) (initial now new : Table) (j part pc : ℕ) (Such : Lock → Type 0) (parts : List ℕ) (fault : AddFault) → slice_get parts j ≡ Some part → IsAtPoint r part pc → AddedBelow r initial now (each_call r pc Such parts) j
    → Stopped now new (At part pc (IsEnteredOf r part pc Such)) fault → Stopped initial new (IsCalledAtOf r pc Such) fault
calls_stopped r initial now new j part pc Such parts fault at point so x = below_stopped r initial now new (each_call r pc Such parts) j _ (IsCalledAtOf r pc Such) fault
    (λ k p q m h. (h.1, h.2, h.3))
    (λ p q m h. (h.1, at_point r part pc point p q h.0 h.1, to_point r part pc (λ a b. IsEnteredOf r a b Such) p q m h)) so x

pub calls_end : (r : Read) (initial now : Table) (j pc : ℕ) (Such : Lock → Type 0) (parts : List ℕ) → parts ≡ list_at r.regions pc → IsRead r → length parts ≤ j
    → AddedBelow r initial now (each_call r pc Such parts) j → Added r initial now (IsCalledAtOf r pc Such)
calls_end r initial now j pc Such parts is read end so = below_end r initial now (each_call r pc Such parts) j (IsCalledAtOf r pc Such) (λ k p q m h. (h.1, h.2, h.3))
    (λ p q m h.
    let point : IsAtPoint r p pc = subst (λ y. IsAtPoint r p y) h.0 h.1 in
    let call : (callee : ℕ) × IsCall r.lowered callee pc = subst (λ y. (callee : ℕ) × IsCall r.lowered callee y) h.0 (called_there r p q Such m h.2) in
    let at = read.regions.all pc p (slice_get_within r.spans p point.0 point.1) (point, call) in
    let here : slice_get parts at.0 ≡ Some p = ap (λ l. slice_get l at.0) is ∙ at.1 in
    let lt = slice_get_within parts at.0 p here in
    (at.0, omega (arith, lt, end), (here, h.0, h.1, h.2))) so

-- what is read where there is no span
abbrev pub no_span : Span
no_span = record { region = variant.Body 0; function = 0; first = 0; end = 0 }

-- the turns over the calls of a function
pub calls_of_more : (r : Read) (initial now new : Table) (j pc : ℕ) (Such : Lock → Type 0) (pcs : List ℕ) → slice_get pcs j ≡ Some pc → AddedBelow r initial now (each_call_of r Such pcs) j
    → Added r now new (IsCalledAtOf r pc Such) → AddedBelow r initial new (each_call_of r Such pcs) (j + 1)
calls_of_more r initial now new j pc Such pcs at so x = below_more r initial now new (each_call_of r Such pcs) j _
    (λ p q m h. (at ∙ ap Some (sym h.0), (refl, subst (λ y. IsAtPoint r p y) refl h.1, h.2)))
    (λ p q m h. let same : q ≡ pc = some_same (sym h.0 ∙ at) in (same, h.1.1, h.1.2)) so x

pub calls_of_stopped : (r : Read) (initial now new : Table) (j pc : ℕ) (Such : Lock → Type 0) (pcs : List ℕ) (g : ℕ) (fault : AddFault) → pcs ≡ list_at r.calls g → IsRead r → slice_get pcs j ≡ Some pc
    → AddedBelow r initial now (each_call_of r Such pcs) j → Stopped now new (IsCalledAtOf r pc Such) fault → Stopped initial new (AtCallOf r g Such) fault
calls_of_stopped r initial now new j pc Such pcs g fault is read at so x = below_stopped r initial now new (each_call_of r Such pcs) j _ (AtCallOf r g Such) fault
    (λ k p q m h. calls_to r g Such p q m (read.calls.only g q (k, ap (λ l. slice_get l k) (sym is) ∙ h.0)).1 h.1)
    (λ p q m h. calls_to r g Such p q m (read.calls.only g q (j, ap (λ l. slice_get l j) (sym is) ∙ at ∙ ap Some (sym h.0))).1 (refl, h.1, h.2)) so x

pub calls_of_end : (r : Read) (initial now : Table) (j : ℕ) (Such : Lock → Type 0) (pcs : List ℕ) (g : ℕ) → pcs ≡ list_at r.calls g → IsRead r → length pcs ≤ j
    → AddedBelow r initial now (each_call_of r Such pcs) j → Added r initial now (AtCallOf r g Such)
calls_of_end r initial now j Such pcs g is read end so = below_end r initial now (each_call_of r Such pcs) j (AtCallOf r g Such)
    (λ k p q m h. calls_to r g Such p q m (read.calls.only g q (k, ap (λ l. slice_get l k) (sym is) ∙ h.0)).1 h.1)
    (λ p q m all.
    let h = calls_from r g Such p q m all in
    let at = read.calls.all g q (slice_get_within r.lowered.code q _ h.0.2) h.0 in
    let here : slice_get pcs at.0 ≡ Some q = ap (λ l. slice_get l at.0) is ∙ at.1 in
    let lt = slice_get_within pcs at.0 q here in
    (at.0, omega (arith, lt, end), (here, h.1))) so
