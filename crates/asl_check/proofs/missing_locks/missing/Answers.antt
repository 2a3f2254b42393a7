use Rattle.std.proofs.Common.{List, length, sym, subst}
use Rattle.asl_code.specs.declared.lock.Lock.{Lock}
use Rattle.asl_syntax.specs.AstView.{tree_of}
use Rattle.asl_backward_flow.specs.Needed.{IsTold}
use Rattle.asl_check.specs.declared.fault.CheckFault.{CheckFault}
use Rattle.asl_check.specs.Checked.{AreGuarded}
use Rattle.asl_check.specs.KnownLists.{AreCovered, IsFirstLack}
use Rattle.asl_check.specs.Missing.{AreAllLacks, LacksAll}
use Rattle.asl_check.proofs.Covering.{covered_analysed, covered_sound}
use Rattle.asl_check.proofs.Guarding.{guarded_serial, guarded_serial_up_to}
use Rattle.asl_check.proofs.Concluding.{is_other}
use Rattle.asl_check.proofs.Telling.{lacks_all, lacks_none, none_iff, first_refused, some_iff, some_lack}
use Rattle.asl_check.proofs.missing_locks.missing.Goals as goal

pub returns-in-Some-clause-refused : goal.returns-in-Some-clause-refused
returns-in-Some-clause-refused c =
    let a = c.in_ok-analysis.analysis in
    let e = c.in_ok-analysis.ensures in
    is_other (tree_of c.args.ast.now) a.lowering a.classes c.args.k a.flow e.lowering e.classes e.flow e.accepted c.args.program.now c.in-Some.difference c.in-Some.ensures

pub returns-in-Ok-clause-all : goal.returns-in-Ok-clause-all
returns-in-Ok-clause-all c =
    let a = c.in_ok-analysis.analysis in
    let e = c.in_ok-analysis.ensures in
    let covered = subst (λ (ls : List (List Lock)). AreCovered a.lowering a.classes a.flow ls (length a.lowering.sections)) c.lists-lists.ensures.lists c.in-Ok.ensures.covered in
    let guarded = subst (λ (ls : List (List Lock)). AreGuarded a.lowering a.classes ls (length a.lowering.sections)) c.lists-lists.ensures.lists c.in-Ok.ensures.guarded in
    subst (λ (fs : List CheckFault). LacksAll (tree_of c.args.ast.now) c.args.k c.args.program.now fs) (sym c.new.ensures.items)
    (lacks_none (tree_of c.args.ast.now) a.lowering a.classes c.args.k a.flow e.lowering e.classes e.flow e.accepted c.args.program.now c.in_default.ensures covered guarded)

pub returns-in-Ok-clause-none : goal.returns-in-Ok-clause-none
returns-in-Ok-clause-none c =
    let a = c.in_ok-analysis.analysis in
    let e = c.in_ok-analysis.ensures in
    let covered = subst (λ (ls : List (List Lock)). AreCovered a.lowering a.classes a.flow ls (length a.lowering.sections)) c.lists-lists.ensures.lists c.in-Ok.ensures.covered in
    let guarded = subst (λ (ls : List (List Lock)). AreGuarded a.lowering a.classes ls (length a.lowering.sections)) c.lists-lists.ensures.lists c.in-Ok.ensures.guarded in
    none_iff (tree_of c.args.ast.now) a.lowering a.classes c.args.k a.flow e.lowering e.classes e.flow e.accepted c.args.program.now c.in_default.ensures c.new.result.items c.new.ensures.items covered guarded

pub returns-in-Ok-lacks-clause-all : goal.returns-in-Ok-lacks-clause-all
returns-in-Ok-lacks-clause-all c =
    let a = c.in_ok-analysis.analysis in
    let e = c.in_ok-analysis.ensures in
    lacks_all (tree_of c.args.ast.now) a.lowering a.classes c.args.k a.flow e.lowering e.classes e.flow e.accepted c.args.program.now c.in_default.ensures c.in-Ok-lacks.faults.items
    (subst (λ (ls : List (List Lock)). AreAllLacks a.lowering a.classes (λ r pc x. IsTold a.flow r pc x) ls c.in-Ok-lacks.faults.items) c.lists-lists.ensures.lists c.in-Ok-lacks.ensures)

pub returns-in-Ok-lacks-clause-first : goal.returns-in-Ok-lacks-clause-first
returns-in-Ok-lacks-clause-first c =
    let a = c.in_ok-analysis.analysis in
    let e = c.in_ok-analysis.ensures in
    first_refused (tree_of c.args.ast.now) a.lowering a.classes c.args.k a.flow e.lowering e.classes e.flow e.accepted c.args.program.now c.in_default.ensures c.in-Err._first
    (subst (λ (ls : List (List Lock)). IsFirstLack a.lowering a.classes a.flow ls c.in-Err._first) c.lists-lists.ensures.lists c.in-Err.ensures.first) c.in-Ok-lacks.faults.items
    (subst (λ (ls : List (List Lock)). AreAllLacks a.lowering a.classes (λ r pc x. IsTold a.flow r pc x) ls c.in-Ok-lacks.faults.items) c.lists-lists.ensures.lists c.in-Ok-lacks.ensures)

pub returns-in-Ok-lacks-clause-none : goal.returns-in-Ok-lacks-clause-none
returns-in-Ok-lacks-clause-none c =
    let a = c.in_ok-analysis.analysis in
    let e = c.in_ok-analysis.ensures in
    some_iff (tree_of c.args.ast.now) a.lowering a.classes c.args.k a.flow e.lowering e.classes e.flow e.accepted c.args.program.now c.in_default.ensures c.in-Err._first
    (subst (λ (ls : List (List Lock)). IsFirstLack a.lowering a.classes a.flow ls c.in-Err._first) c.lists-lists.ensures.lists c.in-Err.ensures.first) c.in-Ok-lacks.faults.items
    (subst (λ (ls : List (List Lock)). AreAllLacks a.lowering a.classes (λ r pc x. IsTold a.flow r pc x) ls c.in-Ok-lacks.faults.items) c.lists-lists.ensures.lists c.in-Ok-lacks.ensures)

-- what `check` promises of a program whose lists lack nothing
pub returns-in-Ok-clause-sound : goal.returns-in-Ok-clause-sound
returns-in-Ok-clause-sound c = λ _.
    let a = c.in_ok-analysis.analysis in
    let e = c.in_ok-analysis.ensures in
    let covered = subst (λ (ls : List (List Lock)). AreCovered a.lowering a.classes a.flow ls (length a.lowering.sections)) c.lists-lists.ensures.lists c.in-Ok.ensures.covered in
    covered_sound a.lowering a.classes c.args.k a.flow c.args.program.now e.kept e.classes c.lists-lists.ensures.verified e.flow c.in_default.ensures covered

pub returns-in-Ok-clause-atomic : goal.returns-in-Ok-clause-atomic
returns-in-Ok-clause-atomic c = λ _.
    let a = c.in_ok-analysis.analysis in
    let e = c.in_ok-analysis.ensures in
    let covered = subst (λ (ls : List (List Lock)). AreCovered a.lowering a.classes a.flow ls (length a.lowering.sections)) c.lists-lists.ensures.lists c.in-Ok.ensures.covered in
    let analysed = covered_analysed a.lowering a.classes c.args.k a.flow c.args.program.now e.kept e.classes c.lists-lists.ensures.verified e.flow c.in_default.ensures covered in
    guarded_serial a.lowering a.classes e.flow.stores c.args.k c.args.program.now analysed
    (subst (λ (ls : List (List Lock)). AreGuarded a.lowering a.classes ls (length a.lowering.sections)) c.lists-lists.ensures.lists c.in-Ok.ensures.guarded)

pub returns-in-Ok-clause-atomic_up_to_numbers : goal.returns-in-Ok-clause-atomic_up_to_numbers
returns-in-Ok-clause-atomic_up_to_numbers c = λ _.
    let a = c.in_ok-analysis.analysis in
    let e = c.in_ok-analysis.ensures in
    let covered = subst (λ (ls : List (List Lock)). AreCovered a.lowering a.classes a.flow ls (length a.lowering.sections)) c.lists-lists.ensures.lists c.in-Ok.ensures.covered in
    let analysed = covered_analysed a.lowering a.classes c.args.k a.flow c.args.program.now e.kept e.classes c.lists-lists.ensures.verified e.flow c.in_default.ensures covered in
    guarded_serial_up_to a.lowering a.classes e.flow.stores c.args.k c.args.program.now analysed
    (subst (λ (ls : List (List Lock)). AreGuarded a.lowering a.classes ls (length a.lowering.sections)) c.lists-lists.ensures.lists c.in-Ok.ensures.guarded)

-- where they lack something, there is nothing to promise
pub returns-in-Ok-lacks-clause-sound : goal.returns-in-Ok-lacks-clause-sound
returns-in-Ok-lacks-clause-sound c = λ none.
    let a = c.in_ok-analysis.analysis in
    let e = c.in_ok-analysis.ensures in
    absurd (some_lack (tree_of c.args.ast.now) a.lowering a.classes c.args.k a.flow e.lowering e.classes e.flow e.accepted c.args.program.now c.in_default.ensures c.in-Err._first
    (subst (λ (ls : List (List Lock)). IsFirstLack a.lowering a.classes a.flow ls c.in-Err._first) c.lists-lists.ensures.lists c.in-Err.ensures.first) c.in-Ok-lacks.faults.items
    (subst (λ (ls : List (List Lock)). AreAllLacks a.lowering a.classes (λ r pc x. IsTold a.flow r pc x) ls c.in-Ok-lacks.faults.items) c.lists-lists.ensures.lists c.in-Ok-lacks.ensures) none)

pub returns-in-Ok-lacks-clause-atomic : goal.returns-in-Ok-lacks-clause-atomic
returns-in-Ok-lacks-clause-atomic c = λ none.
    let a = c.in_ok-analysis.analysis in
    let e = c.in_ok-analysis.ensures in
    absurd (some_lack (tree_of c.args.ast.now) a.lowering a.classes c.args.k a.flow e.lowering e.classes e.flow e.accepted c.args.program.now c.in_default.ensures c.in-Err._first
    (subst (λ (ls : List (List Lock)). IsFirstLack a.lowering a.classes a.flow ls c.in-Err._first) c.lists-lists.ensures.lists c.in-Err.ensures.first) c.in-Ok-lacks.faults.items
    (subst (λ (ls : List (List Lock)). AreAllLacks a.lowering a.classes (λ r pc x. IsTold a.flow r pc x) ls c.in-Ok-lacks.faults.items) c.lists-lists.ensures.lists c.in-Ok-lacks.ensures) none)

pub returns-in-Ok-lacks-clause-atomic_up_to_numbers : goal.returns-in-Ok-lacks-clause-atomic_up_to_numbers
returns-in-Ok-lacks-clause-atomic_up_to_numbers c = λ none.
    let a = c.in_ok-analysis.analysis in
    let e = c.in_ok-analysis.ensures in
    absurd (some_lack (tree_of c.args.ast.now) a.lowering a.classes c.args.k a.flow e.lowering e.classes e.flow e.accepted c.args.program.now c.in_default.ensures c.in-Err._first
    (subst (λ (ls : List (List Lock)). IsFirstLack a.lowering a.classes a.flow ls c.in-Err._first) c.lists-lists.ensures.lists c.in-Err.ensures.first) c.in-Ok-lacks.faults.items
    (subst (λ (ls : List (List Lock)). AreAllLacks a.lowering a.classes (λ r pc x. IsTold a.flow r pc x) ls c.in-Ok-lacks.faults.items) c.lists-lists.ensures.lists c.in-Ok-lacks.ensures) none)
