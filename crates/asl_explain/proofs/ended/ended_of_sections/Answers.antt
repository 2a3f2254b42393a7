use Rattle.std.proofs.Common.{◌≡◌, List, length, slice_get, ap, sym, ◌∙◌, subst, arith}
use Rattle.std.proofs.lemmas.Option.{slice_get-get_or}
use Rattle.asl_lower.specs.declared.section.Section.{Section}
use Rattle.asl_explain.specs.declared.explained_value.Ended.{Ended}
use Rattle.asl_explain.specs.Analysed.{read}
use Rattle.asl_explain.specs.Explained.{AreAllEnded}
use Rattle.asl_explain.proofs.Dropping.{below_more, below_all}
use Rattle.asl_explain.proofs.ended.ended_of_sections.Goals as goal

pub overflow_cast-number : goal.overflow_cast-number
overflow_cast-number c =
    let few = c.sections-section-items.ensures.kept.layout.limits.few_sections in
    let same = ap (length {A = Section}) c.sections-section-items.ensures.sections in
    let lt = c.loop-number-test.true in
    omega (arith, few, same, lt)

pub ended_of-requires-clause-there : goal.ended_of-requires-clause-there
ended_of-requires-clause-there c =
    let n = c.loop-number.number in
    ap (λ (ss : List Section). slice_get ss n) (sym c.sections-section-items.ensures.sections)
    ∙ slice_get-get_or c.sections-section-items.result.now n (record { function = 0; acquire = 0; release = 0 }) c.loop-number-test.true

pub loop-number-preserved : goal.loop-number-preserved
loop-number-preserved c =
    below_more (read c.args.analysis.now) c.loop-number.number c.loop-number.sections.items c.push.new.self.items c.in_ok-ended_of.field-0 c.in_ok-push.ensures.items c.loop-number.invariant c.in_ok-ended_of.ensures

pub returns : goal.returns
returns c =
    let x = read c.args.analysis.now in
    let many = ap (length {A = Section}) c.sections-section-items.ensures.sections in
    let past = c.loop-number-test.false in
    let within = c.loop-number.auto.number-end in
    let end : c.loop-number.number ≡ length c.args.analysis.now.lowering.sections = omega (arith, many, past, within) in
    subst (λ (ss : List (List Ended)). AreAllEnded x ss) (sym c.from_vec.ensures) (below_all x c.loop-number.number c.loop-number.sections.items end c.loop-number.invariant)
