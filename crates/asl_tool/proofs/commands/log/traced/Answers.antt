use Rattle.std.proofs.Common.{ℕ, ◌<◌, List, get_or, string_bytes, subst, sym}
use Rattle.asl_machine.specs.Run.{start_of}
use Rattle.asl_machine.specs.declared.reply.Reply.TheVariants.{Ran}
use Rattle.asl_tool.proofs.Traces.{HasTraced, none_traced, one_traced, all_traced, traced_journal}
use Rattle.asl_tool.specs.Output.{AreTraced}
use Rattle.asl_tool.proofs.commands.log.traced.Goals as goal

pub loop-number-init : goal.loop-number-init
loop-number-init c =
    subst (HasTraced c.args.program.now c.args.threads c.args.events.now c.in_ok-machine.machine 0) (sym c.new-text.ensures.bytes)
    (none_traced c.args.program.now c.args.threads c.args.events.now c.in_ok-machine.machine c.in_ok-machine.ensures.image c.in_ok-machine.ensures.start)

pub push_trace_line-requires : goal.push_trace_line-requires
push_trace_line-requires c =
    subst (λ (n : ℕ). (get_or c.args.events.now c.loop-number.number (record { thread = 0; reply = Ran })).thread < n) (sym c.loop-number.invariant.count)
    (c.requires.there c.loop-number.number (record { thread = 0; reply = Ran }) c.loop-number-test.true)

pub loop-number-preserved : goal.loop-number-preserved
loop-number-preserved c =
    one_traced c.args.program.now c.args.threads c.args.events.now c.loop-number.machine c.make_step.new.machine c.loop-number.number (record { thread = 0; reply = Ran })
    (string_bytes c.loop-number.text) (string_bytes c.push_trace_line.new.text) c.loop-number-test.true c.loop-number.invariant
    c.in_ok-make_step.ensures.image c.in_ok-make_step.ensures.step c.in_ok-push_trace_line.ensures

pub returns : goal.returns
returns c =
    let image = c.args.program.now in
    let events = c.args.events.now in
    let all = all_traced image c.args.threads events c.loop-number.machine c.loop-number.number (string_bytes c.loop-number.text) c.loop-number-test.false c.loop-number.invariant in
    subst (λ (text : List ℕ). AreTraced image (start_of image c.args.threads) 0 events text) (sym all) (traced_journal image c.args.threads events c.requires)
