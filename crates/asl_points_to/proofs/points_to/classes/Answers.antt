use Rattle.std.proofs.Common.{ℕ, ◌<◌, length, List, Result, Ok, Err, IfOk, IfErr, sym, ap, subst, refl, arith}
use Rattle.std.specs.Prelude.{IsErrOf}
use Rattle.asl_lower.specs.LegalLowering.{IsLegalLowering}
use Rattle.asl_lower.specs.Lowered.{Lowered}
use Rattle.asl_points_to.specs.declared.class_draft.ClassDraft.{ClassDraft}
use Rattle.asl_points_to.specs.declared.fault.ClassesFault.{ClassesFault}
use Rattle.asl_points_to.specs.declared.fault.ClassesFault.TheVariants.{TooManyClasses, OutOfMemory}
use Rattle.asl_points_to.specs.Classes.{Classed, AreClasses}
use Rattle.asl_points_to.specs.Numbers.{AreNumbers}
use Rattle.asl_points_to.specs.Found.{IsSettled, IsNumbering}
use Rattle.asl_points_to.specs.Refused.{IsRefusedClasses}
use Rattle.asl_points_to.proofs.Narrow.{are_classes, some_classes}
use Rattle.asl_points_to.proofs.points_to.classes.Goals as goal

abbrev over : ClassDraft → List ℕ → ClassDraft
over s sets = record { sets = sets; registers = s.registers; cells = s.cells }

-- the classes of a settled draft are the program's
numbered_classes : (l : Lowered) (s : ClassDraft) (of firsts : List ℕ) (r : Result Classed ClassesFault) → IsLegalLowering l → IsSettled l s → AreNumbers s.sets of firsts → IfOk r (IsNumbering l s of firsts) → IfOk r (AreClasses l)
numbered_classes l s of firsts (Ok c) kept settled numbers is = are_classes l s of firsts c kept settled numbers is
numbered_classes l s of firsts (Err fault) kept settled numbers is = tt

-- and where they are too many, so are the program's
too_many : (l : Lowered) (s : ClassDraft) (of firsts : List ℕ) (r : Result Classed ClassesFault) → IsLegalLowering l → IsSettled l s → AreNumbers s.sets of firsts
    → (IsErrOf r TooManyClasses → 1024 < length firsts) → IfErr r (IsRefusedClasses l)
too_many l s of firsts (Ok c) kept settled numbers many = tt
too_many l s of firsts (Err OutOfMemory) kept settled numbers many = tt
too_many l s of firsts (Err TooManyClasses) kept settled numbers many =
    let k = some_classes l s of firsts kept settled numbers in
    let lt = many refl in
    (k.0, k.1, omega (arith, k.2, lt))

pub returns-clause-classes : goal.returns-clause-classes
returns-clause-classes c =
    let s = c.in_ok-draft.draft in
    let n = c.in_ok-numbers.ensures in
    let Settled : ClassDraft → Type 0 = λ d. IsSettled c.args.lowering.now d in
    let ClassNumbers : List ℕ → Type 0 = λ sets. AreNumbers sets c.in_ok-numbers.numbers.of.items c.in_ok-numbers.numbers.firsts.items in
    numbered_classes c.args.lowering.now (over s c.number_classes.new.sets) c.in_ok-numbers.numbers.of.items c.in_ok-numbers.numbers.firsts.items c.numbered.result c.members.ensures.kept
    (subst Settled (ap (over s) (sym n.same)) c.in_ok-draft.ensures)
    (subst ClassNumbers (sym n.same) n.numbers)
    c.numbered.ensures.classes

pub returns-clause-refused : goal.returns-clause-refused
returns-clause-refused c =
    let s = c.in_ok-draft.draft in
    let n = c.in_ok-numbers.ensures in
    let Settled : ClassDraft → Type 0 = λ d. IsSettled c.args.lowering.now d in
    let ClassNumbers : List ℕ → Type 0 = λ sets. AreNumbers sets c.in_ok-numbers.numbers.of.items c.in_ok-numbers.numbers.firsts.items in
    too_many c.args.lowering.now (over s c.number_classes.new.sets) c.in_ok-numbers.numbers.of.items c.in_ok-numbers.numbers.firsts.items c.numbered.result c.members.ensures.kept
    (subst Settled (ap (over s) (sym n.same)) c.in_ok-draft.ensures)
    (subst ClassNumbers (sym n.same) n.numbers)
    c.numbered.ensures.many.0
