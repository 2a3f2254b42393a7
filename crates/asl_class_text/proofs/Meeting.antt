-- Where two steps of a told chain meet at cells, the places by which they come there are joined by what reasons the steps.
use Rattle.std.proofs.Common.{◌≡◌, ℕ, zero, suc, ◌-◌, ◌<◌, ◌≤◌, ◌⊎◌, inl, inr, List, [], ◌∷◌, Bool, true, false, if◌then◌else◌, length, take, Option, Some, None, slice_get, refl, sym, ap, subst, ◌∙◌, arith}
use Rattle.std.proofs.lemmas.Bool.{cases_lt}
use Rattle.asl_code.specs.declared.instr.Instr.{Instr}
use Rattle.asl_code.specs.declared.instr.Instr.TheVariants as instr
use Rattle.asl_lower.specs.Lowered.{Lowered}
use Rattle.asl_class_reasons.specs.declared.place.Place.{Place}
use Rattle.asl_class_reasons.specs.declared.place.Place.TheVariants as place
use Rattle.asl_class_reasons.specs.declared.place.Cause.{Cause}
use Rattle.asl_class_reasons.specs.declared.place.Cause.TheVariants as cause
use Rattle.asl_class_reasons.specs.declared.place.Step.{Step}
use Rattle.asl_class_reasons.specs.Reasons.{Joined, IsOwed, IsDue, AreReasonedBy}
use Rattle.asl_class_reasons.proofs.Linking.{Extends, joined_within, joined_self, joined_on, joined_back}
use Rattle.asl_class_reasons.proofs.Sound.{take_at}
use Rattle.asl_class_reasons.proofs.StraightChains.{extends_taken}
use Rattle.asl_class_text.specs.declared.told.ToldStep.{ToldStep}
use Rattle.asl_class_text.specs.Kinds.{start_of, end_of}
use Rattle.asl_class_text.specs.Texts.{owner}
use Rattle.asl_class_text.specs.Chains.{IsToldChain, IsStraightChain}
use Rattle.asl_class_text.specs.Grounds.{beside, address_at, address_in, address_by, address_of, is_cells, Meet}
use Rattle.asl_class_text.specs.Made.{IsStraightAnywhere}
use Rattle.asl_class_text.proofs.Paired.{none_there, same_Some}

-- ---- steps of a chain

-- a step of a told chain is that of its number
step_at : (steps : List Step) (a b : Place) (ts : List ToldStep) (n : ℕ) (t : ToldStep) → IsToldChain steps a ts b → slice_get ts n ≡ Some t → slice_get steps t.number ≡ Some t.step
step_at steps a b [] n t h e = absurd (none_there n t e)
step_at steps a b (u ∷ ts) zero t h e = subst (λ (x : ToldStep). slice_get steps x.number ≡ Some x.step) (same_Some u t e) h.0
step_at steps a b (u ∷ ts) (suc n) t h e = step_at steps (end_of u) b ts n t h.2 e

-- the first one starts at the first place, and each other one where the one before ends
first_at : (steps : List Step) (a b : Place) (ts : List ToldStep) (t : ToldStep) → IsToldChain steps a ts b → slice_get ts 0 ≡ Some t → start_of t ≡ a
first_at steps a b [] t h e = absurd (none_there 0 t e)
first_at steps a b (u ∷ ts) t h e = subst (λ (x : ToldStep). start_of x ≡ a) (same_Some u t e) h.1

next_at : (steps : List Step) (a b : Place) (ts : List ToldStep) (n : ℕ) (t u : ToldStep) → IsToldChain steps a ts b → slice_get ts n ≡ Some t → slice_get ts (suc n) ≡ Some u → start_of u ≡ end_of t
next_at steps a b [] n t u h e f = absurd (none_there n t e)
next_at steps a b (v ∷ ts) zero t u h e f = subst (λ (x : ToldStep). start_of u ≡ end_of x) (same_Some v t e) (first_at steps (end_of v) b ts u h.2 f)
next_at steps a b (v ∷ ts) (suc n) t u h e f = next_at steps (end_of v) b ts n t u h.2 e f

-- ---- addresses

-- the one place or the other is the cells of the class of the member
abbrev AtCells : Place → Place → ℕ → Type 0
AtCells a b m = (a ≡ place.Cells m) ⊎ (b ≡ place.Cells m)

no_cells : (a b : Place) (f r g q m : ℕ) → a ≡ place.Register f r → b ≡ place.Register g q → AtCells a b m → ⊥
no_cells a b f r g q m ea eb at = elim at [
  | inl e ↦ (let no : place.Register f r ≡ place.Cells m = sym ea ∙ e in cc)
  | inr e ↦ (let no : place.Register g q ≡ place.Cells m = sym eb ∙ e in cc)
]

no_cells_made : (a b : Place) (n g q m : ℕ) → a ≡ place.Member n → b ≡ place.Register g q → AtCells a b m → ⊥
no_cells_made a b n g q m ea eb at = elim at [
  | inl e ↦ (let no : place.Member n ≡ place.Cells m = sym ea ∙ e in cc)
  | inr e ↦ (let no : place.Register g q ≡ place.Cells m = sym eb ∙ e in cc)
]

-- a load comes by its address to the cells from which it leads, and a store to those into which it leads
loads : (rs : List Step) (a b : Place) (f u v n m : ℕ) → a ≡ place.Cells n → b ≡ place.Register f u → Joined rs (place.Register f v) (place.Member n) → AtCells a b m → Joined rs (beside b v) (place.Member m)
loads rs a b f u v n m ea eb j at = elim at [
  | inl e ↦ (
      let cells : place.Cells n ≡ place.Cells m = sym ea ∙ e in
      let same : n ≡ m = cc in
      let by : place.Register f v ≡ beside b v = sym (ap (λ (p : Place). beside p v) eb) in
      subst (λ (p : Place). Joined rs p (place.Member m)) by (subst (λ (k : ℕ). Joined rs (place.Register f v) (place.Member k)) same j))
  | inr e ↦ absurd (let no : place.Register f u ≡ place.Cells m = sym eb ∙ e in cc)
]

stores : (rs : List Step) (a b : Place) (f u v n m : ℕ) → a ≡ place.Register f v → b ≡ place.Cells n → Joined rs (place.Register f u) (place.Member n) → AtCells a b m → Joined rs (beside a u) (place.Member m)
stores rs a b f u v n m ea eb j at = elim at [
  | inl e ↦ absurd (let no : place.Register f v ≡ place.Cells m = sym ea ∙ e in cc)
  | inr e ↦ (
      let cells : place.Cells n ≡ place.Cells m = sym eb ∙ e in
      let same : n ≡ m = cc in
      let by : place.Register f u ≡ beside a u = sym (ap (λ (p : Place). beside p u) ea) in
      subst (λ (p : Place). Joined rs p (place.Member m)) by (subst (λ (k : ℕ). Joined rs (place.Register f u) (place.Member k)) same j))
]

owed_comes : (l : Lowered) (rs : List Step) (f : ℕ) (i : Instr) (a b : Place) (m : ℕ) → IsOwed l rs f i a b → AtCells a b m → Joined rs (address_at i a b) (place.Member m)
owed_comes l rs f (instr.Move u v) a b m o at = absurd (no_cells a b f v f u m o.0 o.1 at)
owed_comes l rs f (instr.FieldAddress u v n) a b m o at = absurd (no_cells a b f v f u m o.0 o.1 at)
owed_comes l rs f (instr.GlobalAddress u g) a b m o at = absurd (no_cells_made a b g f u m o.0 o.2 at)
owed_comes l rs f (instr.New u n s) a b m o at = absurd (no_cells_made a b _ f u m o.0 o.2 at)
owed_comes l rs f (instr.Load u v) a b m o at = loads rs a b f u v o.0 m o.1 o.2 o.3.1 at
owed_comes l rs f (instr.Store u v) a b m o at = stores rs a b f u v o.0 m o.1 o.2 o.3.1 at
owed_comes l rs f (instr.Call u first g) a b m o at = elim o [
  | inl p ↦ absurd (no_cells a b _ _ _ _ m p.4 p.5 at)
  | inr p ↦ absurd (no_cells a b _ _ _ _ m p.4 p.5 at)
]
owed_comes l rs f i a b m o at = absurd o

-- by its address a step comes to the cells of the class to which that points
due_comes : (l : Lowered) (rs : List Step) (why : Cause) (a b : Place) (m : ℕ) → IsDue l rs why a b → AtCells a b m → Joined rs (address_by l why a b) (place.Member m)
due_comes l rs (cause.Instruction pc) a b m d at =
    subst (λ (o : Option Instr). Joined rs (address_in o a b) (place.Member m)) (sym d.3) (owed_comes l rs d.0 d.1 a b m d.4 at)
due_comes l rs cause.SameClass a b m d at =
    let from : owner a ≡ d.0 = ap owner d.2 in
    elim at [
      | inl e ↦ joined_self rs (place.Member (owner a)) (place.Member m) (ap (λ (p : Place). place.Member (owner p)) e)
      | inr e ↦ (
          let cells : place.Cells d.1 ≡ place.Cells m = sym d.3 ∙ e in
          let same : d.1 ≡ m = cc in
          subst (λ (k : ℕ). Joined rs (place.Member k) (place.Member m)) (sym from) (subst (λ (k : ℕ). Joined rs (place.Member d.0) (place.Member k)) same d.6))
    ]

-- ---- steps that meet

cells_of : (p : Place) → is_cells p ≡ true → (m : ℕ) × (p ≡ place.Cells m)
cells_of (place.Cells m) e = (m, refl)
cells_of (place.Member m) e = absurd (cc)
cells_of (place.Register f r) e = absurd (cc)

ended : (back : Bool) (x y : Place) (m : ℕ) → (if back then x else y) ≡ place.Cells m → AtCells x y m
ended true x y m e = inl e
ended false x y m e = inr e

started : (back : Bool) (x y : Place) (m : ℕ) → (if back then y else x) ≡ place.Cells m → AtCells x y m
started true x y m e = inr e
started false x y m e = inl e

meet_by : (l : Lowered) (rs steps : List Step) (a b : Place) (ts : List ToldStep) (n : ℕ) (t u : ToldStep) → AreReasonedBy l rs steps → IsToldChain steps a ts b → slice_get ts n ≡ Some t → slice_get ts (suc n) ≡ Some u → is_cells (end_of t) ≡ true → Joined rs (address_of l t) (address_of l u)
meet_by l rs steps a b ts n t u reasoned chain first next cells =
    let at = cells_of (end_of t) cells in
    let m : ℕ = at.0 in
    let there : start_of u ≡ place.Cells m = next_at steps a b ts n t u chain first next ∙ at.1 in
    let one : Joined rs (address_of l t) (place.Member m) = due_comes l rs t.step.cause t.step.from t.step.into m (reasoned t.number t.step (step_at steps a b ts n t chain first)).due (ended t.back t.step.from t.step.into m at.1) in
    let other : Joined rs (address_of l u) (place.Member m) = due_comes l rs u.step.cause u.step.from u.step.into m (reasoned u.number u.step (step_at steps a b ts (suc n) u chain next)).due (started u.back u.step.from u.step.into m there) in
    joined_on rs (address_of l t) (place.Member m) (address_of l u) one (joined_back rs (address_of l u) (place.Member m) other)

-- the first reasons are reasons
extends_all : (es : List Step) (k : ℕ) → Extends (take k es) es
extends_all es k = record { steps = λ n s e. (take_at es k n s e).1 }

-- so it is of a chain that is no circle
pub meet_joined : (l : Lowered) (es : List Step) (ts : List ToldStep) (n : ℕ) (t u : ToldStep) → IsStraightAnywhere l es ts → slice_get ts n ≡ Some t → slice_get ts (suc n) ≡ Some u → is_cells (end_of t) ≡ true → Joined es (address_of l t) (address_of l u)
meet_joined l es ts n t u s first next cells =
    let c = s.chain in
    joined_within (take c.before es) es (extends_all es c.before) (address_of l t) (address_of l u) (meet_by l (take c.before es) c.steps s.from s.into ts n t u c.reasoned c.chain first next cells)

pub met_joined : (l : Lowered) (es : List Step) (ts : List ToldStep) (number : ℕ) (t u : ToldStep) → 1 ≤ number → IsStraightAnywhere l es ts → slice_get ts (number - 1) ≡ Some t → slice_get ts number ≡ Some u → is_cells (end_of t) ≡ true → Joined es (address_of l t) (address_of l u)
met_joined l es ts number t u some s first next cells =
    let is : suc (number - 1) ≡ number = omega arith in
    meet_joined l es ts (number - 1) t u s first (subst (λ (i : ℕ). slice_get ts i ≡ Some u) (sym is) next) cells

-- a chain that fewer reasons leave apart than reason another, whose steps meet by its ends, has fewer before it
fewer_before : (l : Lowered) (es : List Step) (a b one other : Place) (ts : List ToldStep) (c : IsStraightChain l es a b ts) → Meet l ts one other → (before : ℕ) → (Joined (take before es) one other → ⊥) → before < c.before
fewer_before l es a b one other ts c m before apart =
    let j : Joined (take c.before es) (address_of l m.before) (address_of l m.after) = meet_by l (take c.before es) c.steps a b ts m.at m.before m.after c.reasoned c.chain m.first m.next m.cells in
    let k : Joined (take c.before es) one other = subst (λ (p : Place). Joined (take c.before es) p other) m.by_one (subst (λ (p : Place). Joined (take c.before es) (address_of l m.before) p) m.by_other j) in
    elim (cases_lt before c.before) [
      | inl low ↦ low
      | inr high ↦ absurd (apart (joined_within (take c.before es) (take before es) (extends_taken es c.before before high) one other k))
    ]

-- the chain of a ground rests on fewer reasons than the chain that rests on the ground, whichever way it leads
pub rests_on_less : (l : Lowered) (es : List Step) (a b one other : Place) (ts us : List ToldStep) (c : IsStraightChain l es a b ts) → Meet l ts one other → (g : IsStraightChain l es one other us) → g.before < c.before
rests_on_less l es a b one other ts us c m g = fewer_before l es a b one other ts c m g.before g.apart

pub rests_on_less_back : (l : Lowered) (es : List Step) (a b one other : Place) (ts us : List ToldStep) (c : IsStraightChain l es a b ts) → Meet l ts one other → (g : IsStraightChain l es other one us) → g.before < c.before
rests_on_less_back l es a b one other ts us c m g =
    fewer_before l es a b one other ts c m g.before (λ j. g.apart (joined_back (take g.before es) one other j))
