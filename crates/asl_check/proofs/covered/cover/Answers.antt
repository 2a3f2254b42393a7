use Rattle.std.proofs.Common.{◌≡◌, ◌+◌, List, Some, length, slice_get, get_or, ap, sym, ◌∙◌, subst, refl, arith}
use Rattle.std.proofs.lemmas.Option.{slice_get-get_or, slice_get_read}
use Rattle.asl_lower.specs.declared.section.Section.{Section}
use Rattle.asl_lower.specs.Regions.{Inside}
use Rattle.asl_backward_flow.specs.Needed.{IsTold}
use Rattle.asl_check.specs.Checked.{AreUnder}
use Rattle.asl_check.proofs.Covering.{covered_more, bare_lock}
use Rattle.asl_check.proofs.covered.cover.Goals as goal

pub overflow_cast-number : goal.overflow_cast-number
overflow_cast-number c =
    let few = c.sections-section-items.ensures.kept.layout.limits.few_sections in
    let same = ap (length {A = Section}) c.sections-section-items.ensures.sections in
    let lt = c.loop-number-test.true in
    omega (arith, few, same, lt)

pub overflow_cast-result : goal.overflow_cast-result
overflow_cast-result c =
    let few = c.sections-section-items.ensures.kept.layout.limits.few_sections in
    let same = ap (length {A = Section}) c.sections-section-items.ensures.sections in
    let lt = c.loop-number-test.true in
    omega (arith, few, same, lt)

pub returns-in-Some-clause-uncovered : goal.returns-in-Some-clause-uncovered
returns-in-Some-clause-uncovered c =
    let l = c.args.lowering.now in
    let n = c.loop-number.number in
    let s : Section = get_or c.sections-section-items.result.now n (record { function = 0; acquire = 0; release = 0 }) in
    let there : slice_get l.sections n ≡ Some s =
    ap (λ (ss : List Section). slice_get ss n) (sym c.sections-section-items.ensures.sections)
    ∙ slice_get-get_or c.sections-section-items.result.now n (record { function = 0; acquire = 0; release = 0 }) c.loop-number-test.true in
    let many = ap (length {A = Section}) c.sections-section-items.ensures.sections in
    let lt = c.loop-number-test.true in
    let req = c.requires.count in
    let at = slice_get_read c.args.lists.now (length c.args.lists.now) n c.index-lists-number.result refl (omega (arith, many, lt, req)) c.index-lists-number.is in
    bare_lock l c.args.classes.now c.args.flow.now c.args.lists.now n s c.index-lists-number.result c.as_slice-list.result.now c.from-entry.result c.in-Some.lock c.loop-number.invariant there at c.as_slice-list.ensures
    c.from-entry.ensures c.in-Some.ensures

pub loop-number-preserved : goal.loop-number-preserved
loop-number-preserved c =
    let l = c.args.lowering.now in
    let k = c.args.classes.now in
    let n = c.loop-number.number in
    let s : Section = get_or c.sections-section-items.result.now n (record { function = 0; acquire = 0; release = 0 }) in
    let there : slice_get l.sections n ≡ Some s =
    ap (λ (ss : List Section). slice_get ss n) (sym c.sections-section-items.ensures.sections)
    ∙ slice_get-get_or c.sections-section-items.result.now n (record { function = 0; acquire = 0; release = 0 }) c.loop-number-test.true in
    let many = ap (length {A = Section}) c.sections-section-items.ensures.sections in
    let lt = c.loop-number-test.true in
    let req = c.requires.count in
    let at = slice_get_read c.args.lists.now (length c.args.lists.now) n c.index-lists-number.result refl (omega (arith, many, lt, req)) c.index-lists-number.is in
    covered_more l k c.args.flow.now c.args.lists.now n s c.index-lists-number.result c.as_slice-list.result.now c.loop-number.invariant there at c.as_slice-list.ensures
    (subst (λ q. AreUnder k s.function c.as_slice-list.result.now (IsTold c.args.flow.now (Inside n) (q + 1))) c.from-entry.ensures c.in_default.ensures)

pub returns-clause-covered : goal.returns-clause-covered
returns-clause-covered c = λ n lt.
    let past = c.loop-number-test.false in
    let many = ap (length {A = Section}) c.sections-section-items.ensures.sections in
    c.loop-number.invariant n (omega (arith, lt, past, many))
