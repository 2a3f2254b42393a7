use Rattle.std.proofs.Common.{sym, subst}
use Rattle.asl_lock_expr.specs.Links.{LinkContext, IsOne, link}
use Rattle.asl_explain.proofs.Walking.{each_further}
use Rattle.asl_explain.proofs.walk.go_on.Goals as goal

pub returns-in_ok-add_successors : goal.returns-in_ok-add_successors
returns-in_ok-add_successors c = λ from stop each.
    each_further c.args.analysis.now c.args.span c.args.lock.now c.args.pc from c.in-Some.instr c.args.waiting.now.items c.add_successors.new.waiting.items (sym c.in-Some.ensures)
    (subst (λ (v : LinkContext). IsOne (link v c.in-Some.instr c.args.lock.now) c.args.lock.now) c.view.ensures (c.in_ok-is_kept.ensures c.if-branch.true)) stop c.in_ok-add_successors.ensures each
