use Rattle.std.proofs.Common.{List, sym, subst}
use Rattle.asl_code.specs.declared.lock.Lock.{Lock}
use Rattle.asl_lock_expr.specs.Links.{IsOne}
use Rattle.asl_explain.specs.Analysed.{read}
use Rattle.asl_explain.specs.Endings.{Has, EndsSomewhere}
use Rattle.asl_explain.proofs.Dropping.{added_more, added_all, one_ended}
use Rattle.asl_explain.proofs.ended.ended_at.Goals as goal

pub add_if_ended-requires-clause-news : goal.add_if_ended-requires-clause-news
add_if_ended-requires-clause-news c pc to made = subst (Has pc) (sym c.deref.ensures.value) (c.in_ok-news.ensures pc to made)

pub loop-which-preserved : goal.loop-which-preserved
loop-which-preserved c =
    added_more (EndsSomewhere (read c.args.analysis.now) c.args.at.number) c.locks-all.result.now _ c.loop-which.locks.items c.add_if_ended.new.locks.items c.loop-which.which c.index-all-which.result c.index-all-which.result c.loop-which-test.true
    (sym c.index-all-which.is) c.loop-which.invariant c.in_ok-add_if_ended.ensures

pub returns : goal.returns
returns c =
    let a = c.args.analysis.now in
    let at = c.args.at in
    let p = c.requires.placed.0 in
    added_all (EndsSomewhere (read a) at.number) c.locks-all.result.now _ c.loop-which.locks.items c.loop-which.which c.loop-which-test.false
    (λ m ends. subst (λ (ls : List Lock). IsOne ls m) (sym (c.locks-all.ensures p c.requires.placed.1)) (one_ended a at.number at.section c.requires.there c.requires.analysed at.place p m c.requires.placed.1 c.requires.placed.2 ends))
    c.loop-which.invariant
