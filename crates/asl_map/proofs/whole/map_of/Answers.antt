use Rattle.asl_syntax.specs.AstView.{tree_of}
use Rattle.asl_map.proofs.Mapping.{mapped_is}
use Rattle.asl_map.proofs.whole.map_of.Goals as goal

pub returns-clause-mapped : goal.returns-clause-mapped
returns-clause-mapped c =
    mapped_is c.args.source.now (tree_of c.in-Ok.ast) c.in-Ok-lower.lowering c.in-Ok-classes.classes c.in_ok-made.field-0 c.in-Ok.ensures.ok c.in-Ok-lower.ensures.lowering c.in-Ok-lower.ensures.room c.in-Ok-lower.ensures.inside c.in-Ok-classes.ensures.classes c.in-Ok-classes.ensures.few c.in_ok-made.ensures
