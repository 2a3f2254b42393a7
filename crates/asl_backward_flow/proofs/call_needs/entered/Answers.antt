use Rattle.std.proofs.Common.{◌≡◌, ◌∙◌, Some, [], slice_get, ap, sym, arith}
use Rattle.std.proofs.lemmas.Option.{slice_get-get_or}
use Rattle.asl_code.specs.declared.lock.Lock.{Lock}
use Rattle.asl_backward_flow.specs.Follows.{read}
use Rattle.asl_backward_flow.proofs.Listing.{lists_more}
use Rattle.asl_backward_flow.proofs.Entering.{each_entered, entered_more, entered_end}
use Rattle.asl_backward_flow.proofs.call_needs.entered.Goals as goal

pub loop-lock-preserved : goal.loop-lock-preserved
loop-lock-preserved c =
    let r = read c.args.analysis.now in
    let lock : Lock = c.lock-item.result in
    let at : slice_get c.args.locks.now c.loop-lock.lock-index ≡ Some lock = slice_get-get_or c.args.locks.now c.loop-lock.lock-index lock c.loop-lock-test.true ∙ ap Some (sym c.lock-item.is) in
    lists_more (each_entered r c.args.part c.args.pc c.args.locks.now) [] c.loop-lock.lock-index c.loop-lock.all.items c.add_one.new.into.items c.loop-lock.invariant
    (entered_more r c.args.part c.args.pc c.args.locks.now c.loop-lock.lock-index lock at c.loop-lock.all.items c.add_one.new.into.items c.in_ok-add_one.ensures)

pub returns : goal.returns
returns c =
    let end = c.loop-lock-test.false in
    entered_end (read c.args.analysis.now) c.args.part c.args.pc c.args.locks.now c.loop-lock.lock-index c.loop-lock.all.items (omega (arith, end)) c.loop-lock.invariant
