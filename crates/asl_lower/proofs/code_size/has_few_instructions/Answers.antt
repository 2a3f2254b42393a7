use Rattle.std.proofs.Common.{map}
use Rattle.asl_syntax.specs.View.{item_of}
use Rattle.asl_syntax.specs.Tree.{functions_of}
use Rattle.asl_lower.proofs.Sized.{enough}
use Rattle.asl_lower.proofs.code_size.has_few_instructions.Goals as goal

pub returns : goal.returns
returns c =
    enough (functions_of (map item_of c.args.items.now)) c.left_after_items.result c.is_some.result c.is_some.ensures c.left_after_items.ensures.enough c.left_after_items.ensures.short
