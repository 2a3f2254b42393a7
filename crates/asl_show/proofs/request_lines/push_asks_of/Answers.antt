use Rattle.std.proofs.Common.{arith}
use Rattle.asl_code.proofs.FitsLaws.{image_fits}
use Rattle.asl_show.proofs.request_lines.push_asks_of.Goals as goal

pub push_request-requires-clause-few : goal.push_request-requires-clause-few
push_request-requires-clause-few c =
    let fits = image_fits c.program.result.now c.classes.ensures.verified in
    omega (arith, c.classes.ensures.classes, fits.few_classes)
