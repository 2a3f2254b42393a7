use Rattle.std.proofs.Common.{arith}
use Rattle.std.proofs.lemmas.Option.{slice_get-get_or}
use Rattle.asl_backward_flow.proofs.Each.{no_span}
use Rattle.asl_backward_flow.proofs.Blanks.{made_none, made_more, made_blank}
use Rattle.asl_backward_flow.proofs.found.Found.new.Goals as goal

pub loop-span-init : goal.loop-span-init
loop-span-init c = made_none c.args.spans.now _ c.in_ok-parts.ensures.items

pub loop-span-preserved : goal.loop-span-preserved
loop-span-preserved c =
    made_more c.args.spans.now c.loop-span.span-index c.loop-span.parts.items _ _ _
    (slice_get-get_or c.args.spans.now c.loop-span.span-index no_span c.loop-span-test.true) c.in_ok-new.ensures c.in_ok-push.ensures.items c.loop-span.invariant

pub returns : goal.returns
returns c =
    let end = c.loop-span-test.false in
    let most = c.loop-span.auto.span-index-end in
    made_blank c.args.spans.now c.loop-span.span-index c.loop-span.parts.items _ c.new-2.ensures (omega (arith, end, most)) c.loop-span.invariant
