use Rattle.std.proofs.Common.{arith}
use Rattle.asl_code.proofs.FitsLaws.{image_fits}
use Rattle.asl_machine.proofs.program_code.Code.of.Goals as goal

pub firsts-requires : goal.firsts-requires
firsts-requires c =
    let fits = image_fits c.args.program.now c.functions.ensures.verified in
    let total = fits.total in
    let few = fits.few_instrs in
    let is = c.functions.ensures.functions in
    rw is (omega arith)
