-- Machinery of the proofs, not of the promise: the flows of instructions, as src/value_flows.rt lists them.
use Rattle.std.specs.Prelude.{◌≡◌, ◌+◌, ◌<◌, ℕ, zero, suc, List, [], ◌∷◌, ◌++◌, length, Option, None, Some, slice_get}
use Rattle.std.specs.List.{All}
use Rattle.asl_code.specs.declared.instr.Instr.{Instr}
use Rattle.asl_code.specs.declared.instr.Instr.TheVariants as instr
use Rattle.asl_lower.specs.Lowered.{Lowered}
use Rattle.asl_lower.specs.OpenSections.{InBody}
use Rattle.asl_points_to.specs.declared.value_flow.Place.{Place}
use Rattle.asl_points_to.specs.declared.value_flow.Flow.{Flow}
use Rattle.asl_points_to.specs.declared.value_flow.Flow.TheVariants as flow
use Rattle.asl_points_to.specs.Classes.{Classed, IsLegalAt}
use Rattle.asl_points_to.specs.Draft.{Holds, IsThere}

-- a register of a function
abbrev pub place : ℕ → ℕ → Place
place f r = record { function = f; register = r }

-- the flow of an instruction of the function `f` that is no call, in a program with so many globals
abbrev pub plain_flow : ℕ → ℕ → Instr → Option Flow
plain_flow globals f (instr.Move a b) = Some (flow.Copy (place f b) (place f a))
plain_flow globals f (instr.FieldAddress a b d) = Some (flow.Copy (place f b) (place f a))
plain_flow globals f (instr.GlobalAddress a g) = Some (flow.Member g (place f a))
plain_flow globals f (instr.New a n s) = Some (flow.Member (globals + s) (place f a))
plain_flow globals f (instr.Load a b) = Some (flow.Load (place f b) (place f a))
plain_flow globals f (instr.Store a b) = Some (flow.Store (place f a) (place f b))
plain_flow globals f i = None

-- the flows from so many argument registers to parameters
abbrev pub argument_flows : ℕ → ℕ → ℕ → ℕ → List Flow
argument_flows f first callee zero = []
argument_flows f first callee (suc n) =
    argument_flows f first callee n ++ flow.Copy (place f (first + n)) (place callee n) ∷ []

-- the flows of a call of a function with so many parameters that returns this register
abbrev pub call_flows : ℕ → ℕ → ℕ → ℕ → ℕ → ℕ → List Flow
call_flows f to first callee parameters returned =
    argument_flows f first callee parameters ++ flow.Copy (place callee returned) (place f to) ∷ []

-- the instruction stands in the body of the function
pub record Stands (l : Lowered) (f : ℕ) (i : Instr) : Type 0 where
  pub pc : ℕ
  pub inside : InBody l f pc
  pub there : slice_get l.code pc ≡ Some i

-- each global and each site of the program has a class
pub record HasMembers (l : Lowered) (c : Classed) : Type 0 where
  pub globals : length c.globals ≡ l.globals
  pub sites : length c.sites ≡ l.sites

-- the functions and members of all flows are there, in the program
abbrev pub AreThere : Lowered → List Flow → Type 0
AreThere l flows = All (IsThere (length l.functions) (l.globals + l.sites)) flows

-- these flows and what classes owe to the instruction of the function `f` are what they owe to the new flows
pub record AddsFlows (l : Lowered) (f : ℕ) (i : Instr) (old new : List Flow) : Type 0 where
  pub there : AreThere l old → AreThere l new
  pub holds : (c : Classed) → HasMembers l c → All (Holds c) old → IsLegalAt l c f i → All (Holds c) new
  pub held : (c : Classed) → All (Holds c) new → All (Holds c) old
  pub legal : (c : Classed) → HasMembers l c → All (Holds c) new → IsLegalAt l c f i

-- the flows are what classes owe to the instructions before the pc
pub record AreFlows (l : Lowered) (pc : ℕ) (flows : List Flow) : Type 0 where
  pub there : AreThere l flows
  pub hold : (c : Classed) → HasMembers l c → ((f at : ℕ) (i : Instr) → at < pc → InBody l f at → slice_get l.code at ≡ Some i → IsLegalAt l c f i) → All (Holds c) flows
  pub legal : (c : Classed) → HasMembers l c → All (Holds c) flows → (f at : ℕ) (i : Instr) → at < pc → InBody l f at → slice_get l.code at ≡ Some i → IsLegalAt l c f i
