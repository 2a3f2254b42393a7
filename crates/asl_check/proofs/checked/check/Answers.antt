use Rattle.std.proofs.Common.{ℕ, List, length, subst}
use Rattle.std.specs.Prelude.{All}
use Rattle.std.proofs.lemmas.Result.{IfOk-weaker, IfErr-weaker, err_from_is_err_and}
use Rattle.asl_code.specs.declared.lock.Lock.{Lock}
use Rattle.asl_syntax.specs.AstView.{tree_of}
use Rattle.asl_machine.specs.State.{State}
use Rattle.asl_journal.specs.declared.event.Event.{Event}
use Rattle.asl_journal.specs.Journal.{LeadsTo, schedule_of, replies_in}
use Rattle.asl_soundness.specs.Safe.{IsSafe, NeverFaultsForLocks}
use Rattle.asl_atomicity.specs.Serial.{HasSerialRuns}
use Rattle.asl_atomicity.specs.Renamed.{HasSerialRunsUpTo}
use Rattle.asl_check.specs.declared.fault.CheckFault.TheVariants.{OtherCode}
use Rattle.asl_check.specs.Checked.{AreGuarded}
use Rattle.asl_check.specs.KnownLists.{AreCovered, IsUncovered, IsUnguarded}
use Rattle.asl_check.specs.Refused.{IsChecked, IsRefusedLists, IsOutOfMemory}
use Rattle.asl_check.proofs.Covering.{covered_analysed, covered_sound}
use Rattle.asl_check.proofs.Guarding.{guarded_serial, guarded_serial_up_to}
use Rattle.asl_emitter.proofs.Outcomes.{accepted}
use Rattle.asl_check.proofs.Complete.{only_memory}
use Rattle.asl_check.proofs.Concluding.{is_other, is_checked, is_uncovered, is_unguarded}
use Rattle.asl_check.proofs.checked.check.Goals as goal

pub returns-in-Some-clause-refused : goal.returns-in-Some-clause-refused
returns-in-Some-clause-refused c =
    let a = c.in_ok-analysis.analysis in
    let e = c.in_ok-analysis.ensures in
    is_other (tree_of c.args.ast.now) a.lowering a.classes c.args.k a.flow e.lowering e.classes e.flow e.accepted c.args.program.now c.in-Some.difference c.in-Some.ensures

pub cover-requires-clause-parts : goal.cover-requires-clause-parts
cover-requires-clause-parts c = c.in_ok-analysis.ensures.flow.apart

pub returns-in_err-cover-clause-refused : goal.returns-in_err-cover-clause-refused
returns-in_err-cover-clause-refused c =
    let a = c.in_ok-analysis.analysis in
    let e = c.in_ok-analysis.ensures in
    let p = err_from_is_err_and c.from_residual-in_err-cover.result c.from_residual-in_err-cover.ensures.1 in
    rw (p.1, p.2) (is_uncovered (tree_of c.args.ast.now) a.lowering a.classes c.args.k a.flow e.lowering e.classes e.flow e.accepted c.args.program.now c.in_default.ensures c.in_err-cover.field-0.0
    (subst (λ (ls : List (List Lock)). IsUncovered a.lowering a.classes a.flow ls c.in_err-cover.field-0.0) c.lists-lists.ensures.lists c.in_err-cover.ensures.uncovered))

pub returns-clause-checked : goal.returns-clause-checked
returns-clause-checked c =
    let a = c.in_ok-analysis.analysis in
    let e = c.in_ok-analysis.ensures in
    let covered = subst (λ (ls : List (List Lock)). AreCovered a.lowering a.classes a.flow ls (length a.lowering.sections)) c.lists-lists.ensures.lists c.in_ok-cover.ensures.covered in
    IfOk-weaker c.guard.result (λ x. AreGuarded a.lowering a.classes c.lists-lists.result.now (length a.lowering.sections)) (λ x. IsChecked (tree_of c.args.ast.now) c.args.k c.args.program.now)
    (λ x guarded. is_checked (tree_of c.args.ast.now) a.lowering a.classes c.args.k a.flow e.lowering e.classes e.flow e.accepted c.args.program.now c.in_default.ensures covered
    (subst (λ (ls : List (List Lock)). AreGuarded a.lowering a.classes ls (length a.lowering.sections)) c.lists-lists.ensures.lists guarded)) c.guard.ensures.guarded

pub returns-clause-sound : goal.returns-clause-sound
returns-clause-sound c =
    let a = c.in_ok-analysis.analysis in
    let e = c.in_ok-analysis.ensures in
    let covered = subst (λ (ls : List (List Lock)). AreCovered a.lowering a.classes a.flow ls (length a.lowering.sections)) c.lists-lists.ensures.lists c.in_ok-cover.ensures.covered in
    IfOk-weaker c.guard.result (λ x. AreGuarded a.lowering a.classes c.lists-lists.result.now (length a.lowering.sections)) (λ x. NeverFaultsForLocks c.args.program.now)
    (λ x guarded. covered_sound a.lowering a.classes c.args.k a.flow c.args.program.now e.kept e.classes c.lists-lists.ensures.verified e.flow c.in_default.ensures covered) c.guard.ensures.guarded

pub returns-clause-safe : goal.returns-clause-safe
returns-clause-safe c =
    IfOk-weaker c.guard.result (λ x. NeverFaultsForLocks c.args.program.now) (λ x. (count : ℕ) (events : List Event) (end : State) → LeadsTo c.args.program.now count events end → All IsSafe (replies_in events))
    (λ x never count events end leads. never count (schedule_of events) (replies_in events) end leads.runs) (returns-clause-sound c)

pub returns-clause-atomic : goal.returns-clause-atomic
returns-clause-atomic c =
    let a = c.in_ok-analysis.analysis in
    let e = c.in_ok-analysis.ensures in
    let covered = subst (λ (ls : List (List Lock)). AreCovered a.lowering a.classes a.flow ls (length a.lowering.sections)) c.lists-lists.ensures.lists c.in_ok-cover.ensures.covered in
    let analysed = covered_analysed a.lowering a.classes c.args.k a.flow c.args.program.now e.kept e.classes c.lists-lists.ensures.verified e.flow c.in_default.ensures covered in
    IfOk-weaker c.guard.result (λ x. AreGuarded a.lowering a.classes c.lists-lists.result.now (length a.lowering.sections)) (λ x. (count : ℕ) → HasSerialRuns c.args.program.now count)
    (λ x guarded. guarded_serial a.lowering a.classes e.flow.stores c.args.k c.args.program.now analysed
    (subst (λ (ls : List (List Lock)). AreGuarded a.lowering a.classes ls (length a.lowering.sections)) c.lists-lists.ensures.lists guarded)) c.guard.ensures.guarded

pub returns-clause-atomic_up_to_numbers : goal.returns-clause-atomic_up_to_numbers
returns-clause-atomic_up_to_numbers c =
    let a = c.in_ok-analysis.analysis in
    let e = c.in_ok-analysis.ensures in
    let covered = subst (λ (ls : List (List Lock)). AreCovered a.lowering a.classes a.flow ls (length a.lowering.sections)) c.lists-lists.ensures.lists c.in_ok-cover.ensures.covered in
    let analysed = covered_analysed a.lowering a.classes c.args.k a.flow c.args.program.now e.kept e.classes c.lists-lists.ensures.verified e.flow c.in_default.ensures covered in
    IfOk-weaker c.guard.result (λ x. AreGuarded a.lowering a.classes c.lists-lists.result.now (length a.lowering.sections)) (λ x. (count : ℕ) → HasSerialRunsUpTo c.args.program.now count)
    (λ x guarded. guarded_serial_up_to a.lowering a.classes e.flow.stores c.args.k c.args.program.now analysed
    (subst (λ (ls : List (List Lock)). AreGuarded a.lowering a.classes ls (length a.lowering.sections)) c.lists-lists.ensures.lists guarded)) c.guard.ensures.guarded

pub returns-clause-refused : goal.returns-clause-refused
returns-clause-refused c =
    let a = c.in_ok-analysis.analysis in
    let e = c.in_ok-analysis.ensures in
    let covered = subst (λ (ls : List (List Lock)). AreCovered a.lowering a.classes a.flow ls (length a.lowering.sections)) c.lists-lists.ensures.lists c.in_ok-cover.ensures.covered in
    IfErr-weaker c.guard.result (IsUnguarded a.lowering a.classes c.lists-lists.result.now) (IsRefusedLists (tree_of c.args.ast.now) c.args.k c.args.program.now)
    (λ x h. is_unguarded (tree_of c.args.ast.now) a.lowering a.classes c.args.k a.flow e.lowering e.classes e.flow e.accepted c.args.program.now c.in_default.ensures covered x
    (subst (λ (ls : List (List Lock)). IsUnguarded a.lowering a.classes ls x) c.lists-lists.ensures.lists h)) c.guard.ensures.unguarded

pub returns-in_err-analysis-clause-inferred : goal.returns-in_err-analysis-clause-inferred
returns-in_err-analysis-clause-inferred c = λ accept h.
    let p = err_from_is_err_and c.from_residual.result c.from_residual.ensures.1 in
    rw (p.1, p.2) (accepted (tree_of c.args.ast.now) c.args.k c.in_err-analysis.field-0.0 accept c.in_err-analysis.ensures.refused)

pub returns-in-Some-clause-inferred : goal.returns-in-Some-clause-inferred
returns-in-Some-clause-inferred c = λ accept h.
    only_memory (tree_of c.args.ast.now) c.in_ok-analysis.analysis.lowering c.args.k c.args.program.now c.in_ok-analysis.ensures.lowering c.in_ok-analysis.ensures.kept accept h
    (OtherCode c.in-Some.difference) (returns-in-Some-clause-refused c)

pub returns-in_err-cover-clause-inferred : goal.returns-in_err-cover-clause-inferred
returns-in_err-cover-clause-inferred c = λ accept h.
    IfErr-weaker c.from_residual-in_err-cover.result (IsRefusedLists (tree_of c.args.ast.now) c.args.k c.args.program.now) IsOutOfMemory
    (λ x r. only_memory (tree_of c.args.ast.now) c.in_ok-analysis.analysis.lowering c.args.k c.args.program.now c.in_ok-analysis.ensures.lowering c.in_ok-analysis.ensures.kept accept h x r)
    (returns-in_err-cover-clause-refused c)

pub returns-clause-inferred : goal.returns-clause-inferred
returns-clause-inferred c = λ accept h.
    IfErr-weaker c.guard.result (IsRefusedLists (tree_of c.args.ast.now) c.args.k c.args.program.now) IsOutOfMemory
    (λ x r. only_memory (tree_of c.args.ast.now) c.in_ok-analysis.analysis.lowering c.args.k c.args.program.now c.in_ok-analysis.ensures.lowering c.in_ok-analysis.ensures.kept accept h x r)
    (returns-clause-refused c)
