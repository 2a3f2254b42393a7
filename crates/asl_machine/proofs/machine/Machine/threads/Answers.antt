use Rattle.std.proofs.Common.{arith}
use Rattle.asl_code.proofs.Versions.{few_threads}
use Rattle.asl_machine.proofs.machine.Machine.threads.Goals as goal

pub overflow_cast-result : goal.overflow_cast-result
overflow_cast-result c =
    let most = few_threads c.self.inside.code.version in
    let count = c.self.invariant.count.1 in
    omega (arith, most, count, c.len.ensures)
