-- Where all that is needed has shorter paths, the lists of an analysis are those of other lengths, too.
use Rattle.std.proofs.Common.{◌≡◌, ◌+◌, ◌<◌, ◌≤◌, ⊎_elim, ℕ, suc, List, [], ◌∷◌, ◌++◌, inl, inr, length, Some, slice_get, sym, ap, ◌∙◌, subst, arith}
use Rattle.std.proofs.lemmas.Option.{same_Some, slice_get_within}
use Rattle.std.proofs.Math.Nat.{eq-or-lt_of_le}
use Rattle.asl_code.specs.declared.lock.Lock.{Lock}
use Rattle.asl_lower.specs.Lowered.{Lowered}
use Rattle.asl_points_to.specs.Classes.{Classed}
use Rattle.asl_code.specs.declared.lock.Lock.TheVariants as lock
use Rattle.asl_lower.specs.Regions.{Region, Body, Inside}
use Rattle.asl_lock_expr.specs.Stores.{stores}
use Rattle.asl_backward_flow.specs.Needed.{Needed, RegionNeeds, IsInNeeds, AreParts}
use Rattle.asl_backward_flow.proofs.Alike.{tests_same, needed_same}
use Rattle.asl_backward_flow.proofs.Leasts.{needed_inside}
use Rattle.asl_backward_flow.specs.Flows.{IsFlow}
use Rattle.asl_emitter.specs.BuiltImage.{AreFitted}
use Rattle.asl_explain.specs.declared.explain_analysis.ExplainAnalysis.{ExplainAnalysis}
use Rattle.asl_explain.specs.declared.explained_value.Lists.{Lists}
use Rattle.asl_explain.specs.declared.explained_value.Lists.TheVariants.{Inferred}
use Rattle.asl_explain.specs.Chains.{Read, Needs}
use Rattle.asl_explain.specs.Analysed.{read, IsAnalysed, AreFittedAt, AreEachFitted}
use Rattle.asl_explain.specs.Lengths.{IsBelow, AreBelow, IsRegionBelow, AreSectionsBelow, AreBodiesBelow, AreNeedsBelow}
use Rattle.asl_explain.proofs.Ends.{get_more}
use Rattle.asl_explain.proofs.Lengthening.{same_flow}

-- the locks of the part of a region
pub region_below : (parts : List RegionNeeds) (limit : ℕ) (r : Region) → AreParts parts → (place : ℕ) (p : RegionNeeds) → slice_get parts place ≡ Some p → p.region ≡ r → AreBelow limit p.locks → IsRegionBelow parts limit r
region_below parts limit r apart place p at is below pc lock told =
    let same : told.0 ≡ place = apart.distinct told.0 place told.1 p told.2 at (told.3 ∙ sym is) in
    let part : told.1 ≡ p = same_Some _ _ (sym told.2 ∙ ap (slice_get parts) same ∙ at) in
    let names : IsInNeeds told.1 pc lock = told.4 in
    below names.0 lock (subst (λ (q : RegionNeeds). slice_get q.locks names.0 ≡ Some lock) part names.3)

-- the regions below a number and one more
pub below_more : {P : ℕ → Type 0} (k : ℕ) → ((n : ℕ) → n < k → P n) → P k → (n : ℕ) → n < k + 1 → P n
below_more {P} k all one n lt = ⊎_elim (λ (same : n ≡ k). subst P (sym same) one) (λ (less : n < k). all n less) (eq-or-lt_of_le (omega (arith, lt)))

-- paths of fewer operations than so many have fewer than more
below_greater : (limit greater : ℕ) (m : Lock) → limit ≤ greater → IsBelow limit m → IsBelow greater m
below_greater limit greater (lock.Root effect) le below = tt
below_greater limit greater (lock.Class x effect) le below = tt
below_greater limit greater (lock.Expr e effect) le below = omega (arith, le, below)

pub needs_below_greater : (x : Read) (limit greater : ℕ) → limit ≤ greater → AreNeedsBelow x limit → AreNeedsBelow x greater
needs_below_greater x limit greater le all r pc m needed = below_greater limit greater m le (all r pc m needed)

-- all that is needed is in a section or in the body of a function
pub needs_below : (a : ExplainAnalysis) (limit : ℕ) → IsAnalysed a → AreSectionsBelow a.flow limit (length a.lowering.sections) → AreBodiesBelow a.flow limit (length a.lowering.functions) → AreNeedsBelow (read a) limit
needs_below a limit known sections bodies (Inside n) pc lock needed =
    let inside = needed_inside a.lowering a.classes (stores a.writes) a.k_limit (Inside n) pc lock needed in
    sections n (slice_get_within a.lowering.sections n inside.1.is inside.1.in_table) pc lock ((known.tells (Inside n) pc lock).1 needed)
needs_below a limit known sections bodies (Body g) pc lock needed =
    let inside = needed_inside a.lowering a.classes (stores a.writes) a.k_limit (Body g) pc lock needed in
    bodies g (slice_get_within a.lowering.functions g inside.1.2.function inside.1.2.in_table) pc lock ((known.tells (Body g) pc lock).1 needed)

-- all that is needed is in a section or in the body of a function, also by a flow's own test of written classes
flow_below : (l : Lowered) (c : Classed) (k limit : ℕ) (parts : List RegionNeeds) → (flow : IsFlow l c k parts) → AreSectionsBelow parts limit (length l.sections) → AreBodiesBelow parts limit (length l.functions)
    → (r : Region) (pc : ℕ) (m : Lock) → Needed l c flow.stores k r pc m → IsBelow limit m
flow_below l c k limit parts flow sections bodies (Inside n) pc m needed =
    let inside = needed_inside l c flow.stores k (Inside n) pc m needed in
    sections n (slice_get_within l.sections n inside.1.is inside.1.in_table) pc m ((flow.tells (Inside n) pc m).1 needed)
flow_below l c k limit parts flow sections bodies (Body g) pc m needed =
    let inside = needed_inside l c flow.stores k (Body g) pc m needed in
    bodies g (slice_get_within l.functions g inside.1.2.function inside.1.2.in_table) pc m ((flow.tells (Body g) pc m).1 needed)

below_longer : (k longer : ℕ) (m : Lock) → k ≤ longer → IsBelow k m → IsBelow (suc longer) m
below_longer k longer (lock.Root effect) le below = tt
below_longer k longer (lock.Class x effect) le below = tt
below_longer k longer (lock.Expr e effect) le below = omega (arith, le, below)

-- a flow whose locks have shorter paths than there may be is that of longer ones
pub settled_flow : (l : Lowered) (c : Classed) (k : ℕ) (parts : List RegionNeeds) → IsFlow l c k parts → AreSectionsBelow parts k (length l.sections) → AreBodiesBelow parts k (length l.functions) → (longer : ℕ) → k ≤ longer → IsFlow l c longer parts
settled_flow l c k parts flow sections bodies longer le =
    let below = flow_below l c k k parts flow sections bodies in
    same_flow l c k longer parts flow below (λ r pc m h. below_longer k longer m le (below r pc m h))

-- what a flow tells to be needed by its own test of written classes
alike : (a : ExplainAnalysis) (known : IsAnalysed a) (r : Region) (pc : ℕ) (m : Lock) → Needed a.lowering a.classes known.flow.stores a.k_limit r pc m → Needs (read a) r pc m
alike a known r pc m h =
    needed_same a.lowering a.classes a.k_limit known.flow.stores (stores a.writes) (tests_same a.lowering a.classes known.flow.stores (stores a.writes) known.flow.written known.written) r pc m h

pub fitted_at : (a : ExplainAnalysis) (k : ℕ) (lists : List (List Lock)) → IsAnalysed a → AreNeedsBelow (read a) a.k_limit → AreNeedsBelow (read a) (k + 1) → AreFitted a.lowering a.classes a.flow (length a.lowering.sections) lists
    → AreFittedAt a.lowering a.classes k (Inferred lists)
fitted_at a k lists known short within fitted =
    let longer : k + 1 ≡ suc k = omega arith in (
      a.flow,
      same_flow a.lowering a.classes a.k_limit k a.flow known.flow (λ r pc m h. short r pc m (alike a known r pc m h)) (λ r pc m h. subst (λ n. IsBelow n m) longer (within r pc m (alike a known r pc m h))),
      fitted,
    )

-- lists of one length more
pub each_fitted_more : (l : Lowered) (c : Classed) (k : ℕ) (old new : List Lists) (one : Lists) → new ≡ old ++ one ∷ [] → length old ≡ k → AreFittedAt l c k one → AreEachFitted l c old → AreEachFitted l c new
each_fitted_more l c k old new one is long fitted all j other at =
    elim (get_more old one j other (subst (λ (xs : List Lists). slice_get xs j ≡ Some other) is at)) [
      | inl h ↦ all j other h
      | inr h ↦ subst (AreFittedAt l c j) h.1 (subst (λ (m : ℕ). AreFittedAt l c m one) (sym (h.0 ∙ long)) fitted)
    ]
