use Rattle.std.proofs.Common.{List, IfOk, sym, subst}
use Rattle.asl_code.specs.declared.lock.Lock.{Lock}
use Rattle.asl_lock_expr.specs.Links.{IsOne}
use Rattle.asl_lock_expr.specs.Order.{AreInOrder}
use Rattle.asl_emitter.specs.Lists.{IsFree, IsReduced}
use Rattle.asl_emitter.proofs.Reducing.{all_kept}
use Rattle.asl_emitter.proofs.reduced.reduce_in_order.Goals as goal

pub are_free-requires : goal.are_free-requires
are_free-requires c = subst AreInOrder (sym c.deref.ensures.value) c.requires

pub returns-then-are_free : goal.returns-then-are_free
returns-then-are_free c =
    all_kept c.args.classes.now c.args.function c.args.given.items c.requires
    (subst (λ (l : List Lock). (a : Lock) → IsOne l a → IsFree c.args.classes.now c.args.function (IsOne l) a) c.deref.ensures.value (c.are_free.ensures c.if-are_free.true))

pub keep_free-requires : goal.keep_free-requires
keep_free-requires c = subst AreInOrder (sym c.deref-2.ensures.value) c.requires

pub returns : goal.returns
returns c = subst (λ (l : List Lock). IfOk c.keep_free.result (λ v. IsReduced c.args.classes.now c.args.function (IsOne l) v.items)) c.deref-2.ensures.value c.keep_free.ensures
