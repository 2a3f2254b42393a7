use Rattle.asl_syntax.specs.AstView.{tree_of}
use Rattle.asl_class_text.proofs.Telling.{facts_known}
use Rattle.asl_class_text.proofs.facts.known_with.Goals as goal

pub returns-clause-known : goal.returns-clause-known
returns-clause-known c =
    facts_known c.args.source.now c.args.map (tree_of c.in-Ok.ast) c.in-Ok-lower.lowering c.in-Ok-classes.classes c.in_ok-facts.facts
    c.requires c.in-Ok.ensures.ok c.in-Ok-lower.ensures.lowering c.in-Ok-classes.ensures.classes c.in_ok-facts.ensures.facts
