use Rattle.std.proofs.Common.{length, sym, ap, ◌∙◌, subst, arith}
use Rattle.std.proofs.lemmas.Option.{slice_get_within}
use Rattle.asl_code.specs.declared.lock.Lock.{Lock}
use Rattle.asl_lower.specs.Regions.{Inside}
use Rattle.asl_backward_flow.specs.Needed.{IsInNeeds}
use Rattle.asl_check.specs.Checked.{LacksFirst}
use Rattle.asl_check.proofs.Judging.{its_lock, under_told, lacks_told}
use Rattle.asl_check.proofs.lacking.lacking.Goals as goal

pub returns-in_err-first : goal.returns-in_err-first
returns-in_err-first c =
    let p = c.in_ok-place.ensures in
    rw c.from_residual-in_err-first.ensures (under_told c.args.flow.now c.requires (Inside c.args.number) c.in_ok-place.place p.0 p.1 p.2 c.args.pc c.args.classes.now c.args.function c.args.list.now (c.in_err-first.ensures p.0 p.1))

pub returns-in_err-lock : goal.returns-in_err-lock
returns-in_err-lock c =
    let p = c.in_ok-place.ensures in
    let l = c.in_ok-first.ensures p.0 p.1 in
    let within = slice_get_within p.0.locks c.in_ok-first.first l.0 l.1 in
    let past = c.in_err-lock.ensures.lookup.3 in
    let same = ap (length {A = Lock}) (c.locks.ensures p.0 p.1) in
    absurd (omega (arith, within, past, same))

pub returns : goal.returns
returns c =
    let p = c.in_ok-place.ensures in
    let l = c.in_ok-first.ensures p.0 p.1 in
    let same = its_lock c.locks.result.now p.0.locks c.in_ok-first.first c.in_ok-lock.lock.now l.0 (c.locks.ensures p.0 p.1) c.in_ok-lock.ensures.lookup.3.0 c.in_ok-lock.ensures.lookup.1 l.1 in
    lacks_told c.args.flow.now c.requires (Inside c.args.number) c.in_ok-place.place p.0 p.1 p.2 c.args.pc c.args.classes.now c.args.function c.args.list.now c.copied.result
    (subst (LacksFirst c.args.classes.now c.args.function c.args.list.now (IsInNeeds p.0 c.args.pc)) (sym (c.copied.ensures ∙ same)) l.2)
