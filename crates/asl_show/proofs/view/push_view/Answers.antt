use Rattle.std.proofs.Common.{arith}
use Rattle.asl_code.proofs.FitsLaws.{image_fits}
use Rattle.asl_show.proofs.view.push_view.Goals as goal

pub push_holdings-requires : goal.push_holdings-requires
push_holdings-requires c =
    let fits = image_fits c.program.result.now c.classes.ensures.verified in
    omega (arith, c.classes.ensures.classes, fits.few_classes)
