use Rattle.std.proofs.Common.{◌≡◌, ℕ, List, Result, Ok, Err, IfErr, None, map, sym, ◌∙◌, subst, arith}
use Rattle.asl_syntax.specs.View.{item_of}
use Rattle.asl_syntax.specs.Tree.{Item, functions_of}
use Rattle.std.specs.Result.{IsErrAnd}
use Rattle.asl_lower.specs.declared.fault.LowerFault.{LowerFault}
use Rattle.asl_lower.specs.declared.fault.LowerFault.TheVariants.{OutOfMemory}
use Rattle.asl_lower.specs.Lowered.{Lowered, IsLowering}
use Rattle.asl_lower.specs.OpenSections.{IsBareAccess}
use Rattle.asl_lower.specs.Layout.{lowering_of}
use Rattle.asl_lower.specs.Refused.{IsRefusedLowering, first_crowded}
use Rattle.asl_lower.specs.LegalLowering.{lowered_of}
use Rattle.asl_lower.proofs.Laid.{lowering_of_is_lowering, one_lowering}
use Rattle.asl_lower.proofs.Emitted.{emitted_lowering, emitted_kept}
use Rattle.asl_lower.proofs.Layouts.{emitted_layout}
use Rattle.asl_lower.proofs.lowered_program.lower_items.Goals as goal

-- no access is outside in each lowering, where none is in the computed one
inside_all : (is : List Item) → ((function pc : ℕ) → ¬ IsBareAccess (lowering_of is) function pc) → (l : Lowered) → IsLowering is l → (function pc : ℕ) → ¬ IsBareAccess l function pc
inside_all is none l h =
    let P : Lowered → Type 0 = λ m. (function pc : ℕ) → ¬ IsBareAccess m function pc in
    subst P (one_lowering is (lowering_of is) l (lowering_of_is_lowering is) h) none

-- running out of memory is the fault
only_memory : (is : List Item) (r : Result Lowered LowerFault) → IsErrAnd r (λ e. e ≡ OutOfMemory) → IsRefusedLowering is OutOfMemory → IfErr r (IsRefusedLowering is)
only_memory is (Ok l) h k = tt
only_memory is (Err e) h k = let P : LowerFault → Type 0 = IsRefusedLowering is in subst P (sym h) k

pub first_bare_access-requires : goal.first_bare_access-requires
first_bare_access-requires c =
    let is = map item_of c.args.items.now in
    record {
      numbered = c.of-numbers.ensures;
      layout = emitted_layout is (lowering_of is) c.requires.parsed (lowering_of_is_lowering is);
      few = omega (arith, (lowering_of_is_lowering is).code, c.has_few_instructions.ensures.0 c.if-not-has_few_instructions.false);
    }

pub make_draft-requires-clause-room : goal.make_draft-requires-clause-room
make_draft-requires-clause-room c =
    record { few_registers = sym c.first_crowded.ensures ∙ c.in_default.is; few_instructions = c.has_few_instructions.ensures.0 c.if-not-has_few_instructions.false }

pub new-requires : goal.new-requires
new-requires c =
    let is = map item_of c.args.items.now in
    let d = c.in_ok-draft.draft in
    let few : first_crowded 0 (functions_of is) ≡ None = sym c.first_crowded.ensures ∙ c.in_default.is in
    emitted_kept is (lowered_of d) c.in_ok-draft.ensures c.requires.parsed few (omega (arith, d.out.fits, d.out.code.ok.0)) (inside_all is c.in_default-first_bare_access.ensures (lowered_of d) (emitted_lowering is (lowered_of d) c.in_ok-draft.ensures))

pub returns-in-Some-first_bare_access-clause-refused : goal.returns-in-Some-first_bare_access-clause-refused
returns-in-Some-first_bare_access-clause-refused c =
    let is = map item_of c.args.items.now in
    let first = rw c.in-Some-first_bare_access.is at c.first_bare_access.ensures in (
      record { few_registers = sym c.first_crowded.ensures ∙ c.in_default.is; few_instructions = c.has_few_instructions.ensures.0 c.if-not-has_few_instructions.false },
      (lowering_of is, lowering_of_is_lowering is, first),
    )

pub returns-in_err-draft-clause-refused : goal.returns-in_err-draft-clause-refused
returns-in_err-draft-clause-refused c =
    let is = map item_of c.args.items.now in
    only_memory is c.from_residual.result c.from_residual.ensures.1 (
      record { few_registers = sym c.first_crowded.ensures ∙ c.in_default.is; few_instructions = c.has_few_instructions.ensures.0 c.if-not-has_few_instructions.false },
      inside_all is c.in_default-first_bare_access.ensures,
    )

pub returns-clause-lowering : goal.returns-clause-lowering
returns-clause-lowering c =
    emitted_lowering (map item_of c.args.items.now) c.new.result (c.new.ensures ∙ c.in_ok-draft.ensures)

pub returns-clause-inside : goal.returns-clause-inside
returns-clause-inside c =
    let is = map item_of c.args.items.now in
    inside_all is c.in_default-first_bare_access.ensures c.new.result (emitted_lowering is c.new.result (c.new.ensures ∙ c.in_ok-draft.ensures))
