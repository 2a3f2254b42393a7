use Rattle.std.proofs.Common.{IfSome, sym, subst}
use Rattle.asl_code.specs.declared.lock.Lock.{Lock}
use Rattle.asl_explain.specs.Explained.{IsEnding}
use Rattle.asl_explain.specs.Analysed.{read}
use Rattle.asl_explain.proofs.ended.find_ended.Goals as goal

pub returns-clause-told : goal.returns-clause-told
returns-clause-told c = subst (λ (l : Lock). IfSome c.in_ok-ending.ending (IsEnding (read c.args.analysis.now) c.args.number l)) (sym c.in_ok-copied.ensures) c.in_ok-ending.ensures
