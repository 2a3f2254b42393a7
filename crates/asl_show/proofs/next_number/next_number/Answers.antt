use Rattle.std.proofs.Common.{ap, sym, ◌∙◌, arith}
use Rattle.std.proofs.lemmas.List.{drop_all}
use Rattle.asl_mode_lanes.specs.declared.mode.Mode.TheVariants.{NL}
use Rattle.asl_lock_forest.specs.declared.node.Node.TheVariants.{Root}
use Rattle.asl_lock_forest.specs.Holding.{Request, asked}
use Rattle.asl_show.specs.About.{number_in}
use Rattle.asl_show.proofs.Silent.{asked_behind}
use Rattle.asl_show.proofs.next_number.next_number.Goals as goal

pub loop-ask-preserved : goal.loop-ask-preserved
loop-ask-preserved c = record {
  low = c.nearer-least.ensures.low;
  high = omega (arith, c.nearer-least.ensures.high, c.loop-ask.invariant.high);
  same = λ node n has low below.
      asked_behind c.args.nodes.now c.loop-ask.ask-index (Root, NL) node c.loop-ask-test.true
      (λ e. c.nearer-least.ensures.apart n (ap (number_in c.args.numbers) e ∙ has) low below)
      ∙ c.loop-ask.invariant.same node n has low (omega (arith, below, c.nearer-least.ensures.high));
}

pub returns-clause-none : goal.returns-clause-none
returns-clause-none c node n has low below =
    sym (c.loop-ask.invariant.same node n has low below)
    ∙ ap (λ (l : Request). asked l node) (drop_all c.loop-ask.ask-index c.args.nodes.now c.loop-ask-test.false)
