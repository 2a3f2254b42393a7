use Rattle.std.proofs.Common.{List, subst}
use Rattle.asl_code.specs.declared.lock.Lock.{Lock}
use Rattle.asl_explain.specs.Analysed.{read, AreEndedOf}
use Rattle.asl_explain.proofs.Dropping.{ended_whole}
use Rattle.asl_explain.proofs.ended.ended_of.Goals as goal

pub returns : goal.returns
returns c =
    let x = read c.args.analysis.now in
    ended_whole x c.args.number c.in_ok-locks.locks.items c.in_ok-ended.ended c.in_ok-locks.ensures
    (subst (λ (xs : List Lock). AreEndedOf x c.args.number xs c.in_ok-ended.ended) c.deref.ensures.value c.in_ok-ended.ensures)
