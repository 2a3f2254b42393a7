use Rattle.std.proofs.Common.{◌++◌, List, sym, ap, ◌∙◌}
use Rattle.asl_class_text.specs.declared.told.ToldStep.{ToldStep}
use Rattle.asl_class_text.specs.declared.told.ToldGround.{ToldGround}
use Rattle.asl_class_text.proofs.Paired.{there_at}
use Rattle.asl_class_text.proofs.grounds.steps_of.Goals as goal

pub returns : goal.returns
returns c = record {
  ground = c.index-grounds-number.result;
  there = there_at c.args.grounds.now c.args.number c.index-grounds-number.result c.index-grounds-number.result c.requires c.index-grounds-number.is;
  is = sym (c.in_ok-extend_from_slice.ensures.items ∙ ap (λ (xs : List ToldStep). xs ++ c.deref.result.now) c.new-steps.ensures.items ∙ c.deref.ensures.value ∙ ap (λ (g : ToldGround). g.chain.items) (sym c.index-grounds-number.is));
}
