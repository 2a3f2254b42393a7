use Rattle.std.proofs.Common.{◌<◌, Some, cond, is_some, bytes_eq, length, sym, ap, ◌∙◌, arith}
use Rattle.asl_syntax.specs.NumberedNamesView.{number_among}
use Rattle.asl_syntax.proofs.KnownNames.{found_at, none_more, with_renumbered}
use Rattle.asl_syntax.proofs.numbered_names.renumber.Goals as goal

pub returns-then-eq-clause-there : goal.returns-then-eq-clause-there
returns-then-eq-clause-there c =
    let low : c.loop-i.i < length c.loop-i.names = omega (arith, c.loop-i-test.true, c.loop-i.auto.names) in
    let found = found_at c.loop-i.names c.loop-i.i _ c.args.name.now low c.loop-i.invariant.none (sym c.eq.ensures ∙ c.if-eq.true) in
    sym (ap is_some (ap (λ l. number_among l c.args.name.now) (sym c.loop-i.invariant.same) ∙ found))

pub returns-then-eq-clause-set : goal.returns-then-eq-clause-set
returns-then-eq-clause-set c = λ _ q.
    let low : c.loop-i.i < length c.loop-i.names = omega (arith, c.loop-i-test.true, c.loop-i.auto.names) in
    with_renumbered c.loop-i.names c.loop-i.i _ c.args.name.now c.args.number q low c.loop-i.invariant.none (sym c.eq.ensures ∙ c.if-eq.true)
    ∙ ap (λ l. cond (bytes_eq c.args.name.now q) (Some c.args.number) (number_among l q)) c.loop-i.invariant.same

pub loop-i-preserved : goal.loop-i-preserved
loop-i-preserved c = record {
  same = c.loop-i.invariant.same;
  none = none_more c.loop-i.names c.loop-i.i _ c.args.name.now (omega (arith, c.loop-i-test.true, c.loop-i.auto.names)) c.loop-i.invariant.none (sym c.eq.ensures ∙ c.if-eq.false);
}
