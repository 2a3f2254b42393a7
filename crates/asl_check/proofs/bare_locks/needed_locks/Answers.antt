use Rattle.std.proofs.Common.{◌↔◌, List, sym, subst}
use Rattle.std.proofs.lemmas.Result.{IfOk-weaker}
use Rattle.asl_code.specs.declared.lock.Lock.{Lock}
use Rattle.asl_lower.specs.Regions.{Inside}
use Rattle.asl_lock_expr.specs.Links.{IsOne}
use Rattle.asl_backward_flow.specs.Needed.{IsTold}
use Rattle.asl_emitter.proofs.Fits.{reduced_same}
use Rattle.asl_check.proofs.bare_locks.needed_locks.Goals as goal

pub returns : goal.returns
returns c =
    let tells = c.in_ok-needed.ensures.locks in
    IfOk-weaker c.reduce.result _ _
    (λ v r. reduced_same c.args.classes.now c.args.function (IsOne c.deref.result.now) (λ a. IsTold c.args.flow.now (Inside c.args.number) c.args.pc a) v.items
    (λ a. subst (λ (xs : List Lock). IsOne xs a ↔ IsTold c.args.flow.now (Inside c.args.number) c.args.pc a) (sym c.deref.ensures.value) (tells a)) r) c.reduce.ensures
