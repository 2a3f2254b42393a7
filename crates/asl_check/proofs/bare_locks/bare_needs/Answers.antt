use Rattle.std.proofs.Common.{◌+◌, List, subst}
use Rattle.std.proofs.lemmas.Result.{IfOk-weaker}
use Rattle.asl_code.specs.declared.lock.Lock.{Lock}
use Rattle.asl_lower.specs.Regions.{Inside}
use Rattle.asl_backward_flow.specs.Needed.{IsTold}
use Rattle.asl_emitter.specs.Lists.{IsReduced}
use Rattle.asl_check.specs.KnownLists.{AreBare}
use Rattle.asl_check.proofs.Bare.{bare_of_free}
use Rattle.asl_check.proofs.bare_locks.bare_needs.Goals as goal

pub returns : goal.returns
returns c =
    let f = c.args.section.now.function in
    let free = c.in_ok-needed.needed.items in
    let reduced =
    subst (λ n. IsReduced c.args.classes.now f (λ a. IsTold c.args.flow.now (Inside c.args.number) (n + 1) a) free) c.from-entry.ensures c.in_ok-needed.ensures in
    IfOk-weaker c.bare_locks.result _ _
    (λ v h. bare_of_free c.args.classes.now f c.args.list.now (λ a. IsTold c.args.flow.now (Inside c.args.number) (c.args.section.now.acquire + 1) a) free v.keys reduced
    (subst (λ (xs : List Lock). AreBare c.args.classes.now f c.args.list.now xs v.keys) c.deref.ensures.value h)) c.bare_locks.ensures
