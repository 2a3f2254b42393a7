-- What told chains rest on: two steps that come to the same cells, one after the other, do so since the addresses by which they come
-- there point to one class (docs/ANALYSIS.md, "Why one class").
use Rattle.std.specs.Prelude.{◌≡◌, ◌≢◌, ◌≤◌, ◌⊎◌, ℕ, suc, List, Bool, true, false, length, take, Option, None, Some, slice_get}
use Rattle.asl_code.specs.declared.instr.Instr.{Instr}
use Rattle.asl_code.specs.declared.instr.Instr.TheVariants as instr
use Rattle.asl_lower.specs.Lowered.{Lowered}
use Rattle.asl_class_reasons.specs.declared.place.Place.{Place}
use Rattle.asl_class_reasons.specs.declared.place.Place.TheVariants.{Member, Register, Cells}
use Rattle.asl_class_reasons.specs.declared.place.Cause.{Cause}
use Rattle.asl_class_reasons.specs.declared.place.Cause.TheVariants.{Instruction, SameClass}
use Rattle.asl_class_reasons.specs.declared.place.Step.{Step}
use Rattle.asl_class_text.specs.declared.told.ToldStep.{ToldStep}
use Rattle.asl_class_text.specs.declared.told.ToldPair.{ToldPair}
use Rattle.asl_class_text.specs.declared.told.ToldGround.{ToldGround}
use Rattle.asl_class_text.specs.declared.told.ToldGrounds.{ToldGrounds}
use Rattle.asl_class_text.specs.Kinds.{end_of}
use Rattle.asl_class_text.specs.Texts.{owner}
use Rattle.asl_class_text.specs.Chains.{IsStraightChain}

-- ---- by what a step comes to cells

-- a register of the function of another
abbrev pub beside : Place → ℕ → Place
beside (Register f r) register = Register f register
beside p register = p

-- the register with the address by which a load or a store between these places comes to cells
abbrev pub address_at : Instr → Place → Place → Place
address_at (instr.Load a b) from into = beside into b
address_at (instr.Store a b) from into = beside from a
address_at i from into = from

-- the same, if there is an instruction; else the place from which the step leads
abbrev pub address_in : Option Instr → Place → Place → Place
address_in None from into = from
address_in (Some i) from into = address_at i from into

-- where no instruction makes the step, the member from whose cells it leads
abbrev pub address_by : Lowered → Cause → Place → Place → Place
address_by l (Instruction pc) from into = address_in (slice_get l.code pc) from into
address_by l SameClass from into = Member (owner from)

-- the place by which a step of a chain comes to cells
abbrev pub address_of : Lowered → ToldStep → Place
address_of l t = address_by l t.step.cause t.step.from t.step.into

-- whether the place is the cells of a class
abbrev pub is_cells : Place → Bool
is_cells (Cells m) = true
is_cells p = false

-- two steps of a chain, one after the other, meet at cells, to which they come by these two places
pub record Meet (l : Lowered) (ts : List ToldStep) (one other : Place) : Type 0 where
  pub at : ℕ
  pub before : ToldStep
  pub after : ToldStep
  pub first : slice_get ts at ≡ Some before
  pub next : slice_get ts (suc at) ≡ Some after
  pub cells : is_cells (end_of before) ≡ true
  pub by_one : address_of l before ≡ one
  pub by_other : address_of l after ≡ other
  pub two : one ≢ other

-- ---- grounds

-- the ground is of these two places, either way
abbrev pub IsOf : ToldGround → Place → Place → Type 0
IsOf g one other = ((g.one ≡ one) × (g.other ≡ other)) ⊎ ((g.one ≡ other) × (g.other ≡ one))

-- some ground of these is of the two places
pub record Tells (gs : List ToldGround) (one other : Place) : Type 0 where
  pub at : ℕ
  pub ground : ToldGround
  pub there : slice_get gs at ≡ Some ground
  pub of : IsOf ground one other

-- wherever two steps of the chain meet, a ground is told
pub record Covers (l : Lowered) (ts : List ToldStep) (gs : List ToldGround) : Type 0 where
  pub each : (one other : Place) → Meet l ts one other → Tells gs one other

-- the chain is that of one of these pairs, or of one of these grounds
abbrev pub IsOneOf : List ToldPair → List ToldGround → List ToldStep → Type 0
IsOneOf ps gs ts =
    ((k : ℕ) × (p : ToldPair) × (slice_get ps k ≡ Some p) × (p.chain.items ≡ ts)) ⊎ ((k : ℕ) × (g : ToldGround) × (slice_get gs k ≡ Some g) × (g.chain.items ≡ ts))

-- one of these chains rests on the ground
pub record IsNeeded (l : Lowered) (ps : List ToldPair) (gs : List ToldGround) (g : ToldGround) : Type 0 where
  pub chain : List ToldStep
  pub one_of : IsOneOf ps gs chain
  pub meet : Meet l chain g.one g.other

-- no two grounds are of the same places
abbrev pub AreOnce : List ToldGround → Type 0
AreOnce gs = (n k : ℕ) (g h : ToldGround) → slice_get gs n ≡ Some g → slice_get gs k ≡ Some h → IsOf g h.one h.other → n ≡ k

-- how many grounds are told of a class at most
abbrev pub most_grounds : Bool → ℕ
most_grounds true = 64
most_grounds false = 8

-- two steps of the chain of one of these pairs, or of one of these grounds, meet, and no ground of it is told
pub record LeavesOut (l : Lowered) (ps : List ToldPair) (gs : List ToldGround) : Type 0 where
  pub chain : List ToldStep
  pub one_of : IsOneOf ps gs chain
  pub one : Place
  pub other : Place
  pub meet : Meet l chain one other
  pub untold : ¬ Tells gs one other

-- the grounds of the chains of these pairs, and of their own chains, so many at most: each a chain that is no circle, on which a chain of
-- a pair or of a ground before it rests; each once, and all of them, unless there are more: then so many are told, and one is left out
pub record AreGrounds (l : Lowered) (reasons : List Step) (most : ℕ) (ps : List ToldPair) (gs : ToldGrounds) : Type 0 where
  pub each : (n : ℕ) (g : ToldGround) → slice_get gs.items.items n ≡ Some g → IsStraightChain l reasons g.one g.other g.chain.items
  pub needed : (n : ℕ) (g : ToldGround) → slice_get gs.items.items n ≡ Some g → IsNeeded l ps (take n gs.items.items) g
  pub once : AreOnce gs.items.items
  pub of_pairs : gs.more ≡ false → (k : ℕ) (p : ToldPair) → slice_get ps k ≡ Some p → Covers l p.chain.items gs.items.items
  pub of_grounds : gs.more ≡ false → (k : ℕ) (g : ToldGround) → slice_get gs.items.items k ≡ Some g → Covers l g.chain.items gs.items.items
  pub few : length gs.items.items ≤ most
  pub full : gs.more ≡ true → length gs.items.items ≡ most
  pub left : gs.more ≡ true → LeavesOut l ps gs.items.items
