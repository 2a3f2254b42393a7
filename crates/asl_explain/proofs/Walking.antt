-- Ways over which a lock stays.
use Rattle.std.proofs.Common.{◌≡◌, ◌+◌, ◌<◌, ◌≤◌, ℕ, List, [], ◌∷◌, ◌++◌, length, Some, slice_get, inl, inr, refl, sym, subst, arith}
use Rattle.asl_code.specs.declared.image.Function as entry
use Rattle.asl_code.specs.declared.instr.Instr.{Instr}
use Rattle.asl_code.specs.declared.lock.Lock.{Lock}
use Rattle.asl_lower.specs.declared.section.Section.{Section}
use Rattle.asl_lower.specs.Lowered.{Lowered}
use Rattle.asl_lower.specs.OpenSections.{FlowsTo, start_of}
use Rattle.asl_lower.specs.Regions.{Region, Body, Inside, IsIn}
use Rattle.asl_lock_expr.specs.Links.{view, IsOne, before, link}
use Rattle.asl_lock_expr.specs.Stores.{stores}
use Rattle.asl_backward_flow.specs.Needed.{region_of}
use Rattle.asl_backward_flow.proofs.Leasts.{needed_inside}
use Rattle.asl_explain.specs.declared.explain_analysis.ExplainAnalysis.{ExplainAnalysis}
use Rattle.asl_explain.specs.Chains.{Read, Needs, Stays, Here, Over}
use Rattle.asl_explain.specs.declared.walk.Span.{Span}
use Rattle.asl_explain.specs.Analysed.{read, AreEach, AreFrom, IsStop}
use Rattle.asl_explain.proofs.Ends.{get_more, at_old, at_end}

-- a way goes on with another
pub stays_on : (x : Read) (r : Region) (l : Lock) (from middle to : ℕ) → Stays x r l from middle → Stays x r l middle to → Stays x r l from to
stays_on x r l from middle _ first Here = first
stays_on x r l from middle _ first (Over pc next stays keeps) = Over pc next (stays_on x r l from middle pc first stays) keeps

-- ---- the pcs of regions

module _ (a : ExplainAnalysis) where
  pub body_pcs : (function end pc : ℕ) (l : Lock) (e : entry.Function) → slice_get a.lowering.functions function ≡ Some e → end ≤ start_of a.lowering.functions function + e.len
      → Needs (read a) (Body function) pc l → (q : ℕ) → start_of a.lowering.functions function ≤ q → q < end → IsIn a.lowering (Body function) function q
  body_pcs function end pc l e at within needed q low high =
      let is = needed_inside a.lowering a.classes (stores a.writes) a.k_limit (Body function) pc l needed in
      (refl, is.1.1, record { function = e; in_table = at; start = low; before_end = omega (arith, within, high) })

  pub section_pcs : (number first : ℕ) (s : Section) → slice_get a.lowering.sections number ≡ Some s → s.acquire < first → (q : ℕ) → first ≤ q → q < s.release → IsIn a.lowering (Inside number) s.function q
  section_pcs number first s at after q low high = record { is = s; in_table = at; function = refl; behind = omega (arith, after, low); ahead = high }

-- ---- pcs that wait

-- one more that control may continue at
pub from_more : (l : Lowered) (pc : ℕ) (old before new : List ℕ) (next : ℕ) → new ≡ before ++ next ∷ [] → ((i : Instr) → slice_get l.code pc ≡ Some i → FlowsTo i pc next) → AreFrom l pc old before → AreFrom l pc old new
from_more l pc old before new next is flows from i at n x there =
    elim (get_more before next n x (subst (λ (xs : List ℕ). slice_get xs n ≡ Some x) is there)) [
      | inl h ↦ from i at n x h
      | inr h ↦ inr (subst (FlowsTo i pc) h.1 (flows i at))
    ]

pub from_none : (l : Lowered) (pc : ℕ) (old : List ℕ) → AreFrom l pc old old
from_none l pc old i at n x there = inl (n, there)

-- a way goes on to each pc at which control may continue from a stop that keeps the lock
pub each_further : (a : ExplainAnalysis) (s : Span) (l : Lock) (pc from : ℕ) (i : Instr) (old new : List ℕ) → slice_get a.lowering.code pc ≡ Some i
    → IsOne (link (view a.classes (stores a.writes) a.k_limit s.function) i l) l → IsStop (read a) s l from pc → AreFrom a.lowering pc old new
    → AreEach (Stays (read a) (region_of s.region) l from) old → AreEach (Stays (read a) (region_of s.region) l from) new
each_further a s l pc from i old new at keeps stop added each n next there =
    elim (added i at n next there) [
      | inl h ↦ each h.0 next h.1
      | inr flows ↦ Over pc next stop.stays (record { function = s.function; instruction = i; at = record { inside = stop.inside; stands = at }; goes_on = flows; keeps = keeps })
    ]

-- the last of those that wait is taken away
pub each_less : (Holds : ℕ → Type 0) (old new : List ℕ) (x : ℕ) → old ≡ new ++ x ∷ [] → AreEach Holds old → AreEach Holds new × Holds x
each_less Holds old new x is each = (
  λ n y at. each n y (subst (λ (xs : List ℕ). slice_get xs n ≡ Some y) (sym is) (at_old new x n y at)),
  each (length new) x (subst (λ (xs : List ℕ). slice_get xs (length new) ≡ Some x) (sym is) (at_end new x)),
)

-- a way that is gone on with, as far as the next stop
pub stop_on : (x : Read) (s : Span) (l : Lock) (from pc stop : ℕ) → Stays x (region_of s.region) l from pc → IsStop x s l pc stop → IsStop x s l from stop
stop_on x s l from pc stop first next = record { stays = stays_on x (region_of s.region) l from pc stop first next.stays; inside = next.inside }

pub each_none : (Holds : ℕ → Type 0) (xs : List ℕ) → xs ≡ [] → AreEach Holds xs
each_none Holds xs none n x at = absurd (empty n (subst (λ (ys : List ℕ). slice_get ys n ≡ Some x) none at))
  where
    empty : (k : ℕ) → slice_get [] k ≡ Some x → ⊥
    empty k e = cc
