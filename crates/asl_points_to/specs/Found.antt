-- Machinery of the proofs, not of the promise: what src/points_to.rt finds of a program, before and after the
-- classes have their numbers.
use Rattle.std.specs.Prelude.{◌≡◌, ◌+◌, ◌⊎◌, ℕ, List, [], length, take, drop, Option, Some, slice_get, slice_index_or}
use Rattle.std.specs.List.{Contains}
use Rattle.asl_code.specs.declared.image.Function as entry
use Rattle.asl_lower.specs.Lowered.{Lowered}
use Rattle.asl_points_to.specs.declared.class_draft.ClassDraft.{ClassDraft}
use Rattle.asl_points_to.specs.declared.value_flow.Flow.{Flow}
use Rattle.asl_points_to.specs.Classes.{Classed, IsLegal}
use Rattle.asl_points_to.specs.Draft.{IsDraft, IsForced, HasFlowed, IsIdle}
use Rattle.asl_points_to.specs.Flows.{AreFlows}
use Rattle.asl_points_to.specs.Numbers.{numbered_row, numbered_cells}

-- all flows of the program have flowed or have nothing to flow, in a draft
pub record HasSettled (l : Lowered) (s : ClassDraft) : Type 0 where
  pub flows : List Flow
  pub are : AreFlows l (length l.code) flows
  pub each : (f : Flow) → Contains flows f → HasFlowed s f ⊎ IsIdle s f

-- the draft is of the program, is settled, and what it says is so in all legal classes
pub record IsSettled (l : Lowered) (s : ClassDraft) : Type 0 where
  pub draft : IsDraft s
  pub members : length s.sets ≡ l.globals + l.sites
  pub functions : length s.registers.items ≡ length l.functions
  pub settled : HasSettled l s
  pub forced : (d : Classed) → IsLegal l d → IsForced d s

-- these are the rows of the functions' registers, with the numbers of classes
pub record AreRows (functions : List entry.Function) (numbers : List ℕ) (rows numbered_rows : List (List (Option ℕ))) : Type 0 where
  pub len : length numbered_rows ≡ length functions
  pub each : (n : ℕ) (f : entry.Function) → slice_get functions n ≡ Some f → slice_get numbered_rows n ≡ Some (numbered_row numbers (slice_index_or rows n []) f.regs)

-- the classes of a settled draft, with these numbers of its members
pub record IsNumbering (l : Lowered) (s : ClassDraft) (numbers firsts : List ℕ) (c : Classed) : Type 0 where
  pub count : c.count ≡ length firsts
  pub globals : c.globals ≡ take l.globals numbers
  pub sites : c.sites ≡ drop l.globals numbers
  pub registers : AreRows l.functions numbers s.registers.items c.registers
  pub cells : c.cells ≡ numbered_cells numbers s.cells.items firsts
