use Rattle.std.proofs.Common.{◌≡◌, List, length, slice_get, ap, sym, ◌∙◌, subst, arith}
use Rattle.std.proofs.lemmas.Option.{slice_get-get_or}
use Rattle.asl_lower.specs.declared.section.Section.{Section}
use Rattle.asl_explain.specs.Analysed.{read}
use Rattle.asl_explain.specs.Opened.{HasEndedBelow}
use Rattle.asl_explain.proofs.Opening.{no_ended, ended_more}
use Rattle.asl_explain.proofs.opened_explanation.make_ended.Goals as goal

pub loop-number-init : goal.loop-number-init
loop-number-init c = no_ended (read c.args.analysis.now)

pub overflow_cast-number : goal.overflow_cast-number
overflow_cast-number c =
    let few = c.sections-section-items.ensures.kept.layout.limits.few_sections in
    let same = ap (length {A = Section}) c.sections-section-items.ensures.sections in
    let lt = c.loop-number-test.true in
    omega (arith, few, same, lt)

pub ended_locks-requires-clause-there : goal.ended_locks-requires-clause-there
ended_locks-requires-clause-there c =
    let n = c.loop-number.number in
    ap (λ (ss : List Section). slice_get ss n) (sym c.sections-section-items.ensures.sections)
    ∙ slice_get-get_or c.sections-section-items.result.now n (record { function = 0; acquire = 0; release = 0 }) c.loop-number-test.true

pub loop-number-preserved : goal.loop-number-preserved
loop-number-preserved c =
    ended_more (read c.args.analysis.now) c.loop-number.number c.in_ok-ended_locks.field-0.items c.in_ok-ended_locks.ensures c.loop-number.invariant

pub returns : goal.returns
returns c =
    let x = read c.args.analysis.now in
    let many = ap (length {A = Section}) c.sections-section-items.ensures.sections in
    let past = c.loop-number-test.false in
    let within = c.loop-number.auto.number-end in
    let end : c.loop-number.number ≡ length c.args.analysis.now.lowering.sections = omega (arith, many, past, within) in
    subst (HasEndedBelow x) end c.loop-number.invariant
