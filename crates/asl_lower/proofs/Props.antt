-- The facts of a lowering are propositions, so they come out of what a `Lowering` keeps.
use Rattle.std.proofs.Common.{◌≡◌, ℕ, ◌+◌, ◌<◌, ◌≤◌, Option, Some, slice_get, List, [], ◌∷◌, sym, ap, ◌∙◌}
use Rattle.std.specs.List.{AllByRecursion}
use Rattle.asl_code.specs.Operands.{Operand, operands}
use Rattle.asl_code.specs.Operands as operand
use Rattle.asl_code.specs.declared.image.Function as entry
use Rattle.asl_code.specs.declared.instr.Instr.{Instr}
use Rattle.asl_code.specs.declared.instr.Instr.TheVariants as instr
use Rattle.asl_lower.specs.declared.section.Section.{Section}
use Rattle.asl_lower.specs.Lowered.{Lowered}
use Rattle.asl_lower.specs.OpenSections.{open_at, start_of, IsOpenAt, InBody, InSection, IsSection}
use Rattle.asl_lower.specs.Operands.{HasCallee, HasOperand, HasOperands, AreOperandsThere}
use Rattle.asl_lower.specs.Limits.{HasMain, KeepsLimits}
use Rattle.asl_lower.specs.Facts.{IsParted, IsNested, HasSections, ReturnsLast, StaysInside, IsNumbered, HasLayout}
use mathlib.Core.HLevel.{Σ_prop_path}
use denote.Struct.Props.{props}

function_set : IsSet entry.Function
function_set = hlevel props

section_set : IsSet Section
section_set = hlevel props

instr_set : IsSet Instr
instr_set = hlevel props

-- what is read at a place of a table is one thing
one_function : (o : Option entry.Function) (f g : entry.Function) → o ≡ Some f → o ≡ Some g → f ≡ g
one_function o f g a b = let q : Some f ≡ Some g = sym a ∙ b in cc

one_section : (o : Option Section) (s t : Section) → o ≡ Some s → o ≡ Some t → s ≡ t
one_section o s t a b = let q : Some s ≡ Some t = sym a ∙ b in cc

pub InBody-prop : (l : Lowered) (number pc : ℕ) → IsProp (InBody l number pc)
InBody-prop l number pc x y =
    let P : entry.Function → Type 0 = λ f. (slice_get l.functions number ≡ Some f) × (start_of l.functions number ≤ pc) × (pc < start_of l.functions number + f.len) in
    let h : (f : entry.Function) → IsProp (P f) = hlevel (props, function_set) in
    let back : ((f : entry.Function) × P f) → InBody l number pc = λ w. record { function = w.0; in_table = w.1.0; start = w.1.1; before_end = w.1.2 } in
    let a : (f : entry.Function) × P f = (x.function, (x.in_table, x.start, x.before_end)) in
    let b : (f : entry.Function) × P f = (y.function, (y.in_table, y.start, y.before_end)) in
    let same : a ≡ b = Σ_prop_path h (one_function (slice_get l.functions number) x.function y.function x.in_table y.in_table) in
    ap back same

pub InSection-prop : (l : Lowered) (number pc : ℕ) → IsProp (InSection l number pc)
InSection-prop l number pc x y =
    let P : Section → Type 0 = λ s. (slice_get l.sections number ≡ Some s) × IsOpenAt s pc in
    let h : (s : Section) → IsProp (P s) = hlevel (props, section_set) in
    let back : ((s : Section) × P s) → InSection l number pc = λ w. (w.0, w.1.0, w.1.1) in
    let a : (s : Section) × P s = (x.0, (x.1, x.2)) in
    let b : (s : Section) × P s = (y.0, (y.1, y.2)) in
    let same : a ≡ b = Σ_prop_path h (one_section (slice_get l.sections number) x.0 y.0 x.1 y.1) in
    ap back same

pub IsSection-prop : (l : Lowered) (number : ℕ) → IsProp (IsSection l number)
IsSection-prop l number x y =
    let P : Section → Type 0 = λ s.
    (slice_get l.sections number ≡ Some s)
    × (slice_get l.code s.acquire ≡ Some (instr.Acquire number))
    × (slice_get l.code s.release ≡ Some instr.Release)
    × (s.acquire < s.release)
    × InBody l s.function s.acquire
    × InBody l s.function s.release
    × (open_at l.code s.release ≡ number ∷ open_at l.code s.acquire) in
    let h : (s : Section) → IsProp (P s) = hlevel (props, section_set, instr_set, InBody-prop) in
    let back : ((s : Section) × P s) → IsSection l number = λ w. record { section = w.0; in_table = w.1.0; enters = w.1.1; leaves = w.1.2; before = w.1.3; first_inside = w.1.4; last_inside = w.1.5; around = w.1.6 } in
    let a : (s : Section) × P s = (x.section, (x.in_table, x.enters, x.leaves, x.before, x.first_inside, x.last_inside, x.around)) in
    let b : (s : Section) × P s = (y.section, (y.in_table, y.enters, y.leaves, y.before, y.first_inside, y.last_inside, y.around)) in
    let same : a ≡ b = Σ_prop_path h (one_section (slice_get l.sections number) x.section y.section x.in_table y.in_table) in
    ap back same

HasCallee-prop : (l : Lowered) (registers first callee : ℕ) → IsProp (HasCallee l registers first callee)
HasCallee-prop l registers first callee x y =
    let P : entry.Function → Type 0 = λ f. (slice_get l.functions callee ≡ Some f) × (first + f.params ≤ registers) in
    let h : (f : entry.Function) → IsProp (P f) = hlevel (props, function_set) in
    let back : ((f : entry.Function) × P f) → HasCallee l registers first callee = λ w. record { function = w.0; in_table = w.1.0; arguments = w.1.1 } in
    let a : (f : entry.Function) × P f = (x.function, (x.in_table, x.arguments)) in
    let b : (f : entry.Function) × P f = (y.function, (y.in_table, y.arguments)) in
    let same : a ≡ b = Σ_prop_path h (one_function (slice_get l.functions callee) x.function y.function x.in_table y.in_table) in
    ap back same

HasMain-prop : (l : Lowered) → IsProp (HasMain l)
HasMain-prop l x y =
    let P : entry.Function → Type 0 = λ f. (slice_get l.functions l.main ≡ Some f) × (f.params ≡ 1) in
    let h : (f : entry.Function) → IsProp (P f) = hlevel (props, function_set) in
    let back : ((f : entry.Function) × P f) → HasMain l = λ w. record { function = w.0; in_table = w.1.0; one_parameter = w.1.1 } in
    let a : (f : entry.Function) × P f = (x.function, (x.in_table, x.one_parameter)) in
    let b : (f : entry.Function) × P f = (y.function, (y.in_table, y.one_parameter)) in
    let same : a ≡ b = Σ_prop_path h (one_function (slice_get l.functions l.main) x.function y.function x.in_table y.in_table) in
    ap back same

HasOperand-prop : (l : Lowered) (registers : ℕ) (o : Operand) → IsProp (HasOperand l registers o)
HasOperand-prop l registers (operand.Callee first callee) = HasCallee-prop l registers first callee
HasOperand-prop l registers o = hlevel props

each-prop : (l : Lowered) (registers : ℕ) (os : List Operand) → IsProp (AllByRecursion (HasOperand l registers) os)
each-prop l registers [] = hlevel props
each-prop l registers (o ∷ os) =
    let here = HasOperand-prop l registers o in
    let later = each-prop l registers os in
    hlevel (here, later)

HasOperands-prop : (l : Lowered) (registers : ℕ) (i : Instr) → IsProp (HasOperands l registers i)
HasOperands-prop l registers i = each-prop l registers (operands i)

IsParted-prop : (l : Lowered) → IsProp (IsParted l)
IsParted-prop l = hlevel (props, InBody-prop)

IsNested-prop : (l : Lowered) → IsProp (IsNested l)
IsNested-prop l = hlevel (props, InSection-prop)

HasSections-prop : (l : Lowered) → IsProp (HasSections l)
HasSections-prop l = hlevel (props, IsSection-prop)

ReturnsLast-prop : (l : Lowered) → IsProp (ReturnsLast l)
ReturnsLast-prop l = hlevel (props, instr_set)

StaysInside-prop : (l : Lowered) → IsProp (StaysInside l)
StaysInside-prop l = hlevel (props, InBody-prop, InSection-prop)

IsNumbered-prop : (l : Lowered) → IsProp (IsNumbered l)
IsNumbered-prop l = hlevel props

AreOperandsThere-prop : (l : Lowered) → IsProp (AreOperandsThere l)
AreOperandsThere-prop l = hlevel (props, HasOperands-prop)

KeepsLimits-prop : (l : Lowered) → IsProp (KeepsLimits l)
KeepsLimits-prop l = hlevel props

pub HasLayout-prop : (l : Lowered) → IsProp (HasLayout l)
HasLayout-prop l =
    hlevel (IsParted-prop, IsNested-prop, HasSections-prop, ReturnsLast-prop, StaysInside-prop, IsNumbered-prop, AreOperandsThere-prop, KeepsLimits-prop, HasMain-prop)
