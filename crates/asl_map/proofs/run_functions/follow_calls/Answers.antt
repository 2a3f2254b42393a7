use Rattle.std.proofs.Common.{◌+◌, ◌<◌, true, length, get_or, slice_set, refl, ◌∙◌, arith}
use Rattle.asl_lower.specs.Reach.{Anywhere}
use Rattle.asl_lower.proofs.Marks.{set_fewer}
use Rattle.asl_lower.proofs.Reaching.{body_within, done_begin, done_more, all_done}
use Rattle.asl_map.proofs.Calls.{read_of}
use Rattle.asl_map.proofs.run_functions.follow_calls.Goals as goal

pub loop-function-init : goal.loop-function-init
loop-function-init c = done_begin c.args.lowering.now Anywhere 256 c.args.marks.now

pub mark_callees-requires-clause-within : goal.mark_callees-requires-clause-within
mark_callees-requires-clause-within c =
    let l = c.args.lowering.now in
    let low : c.in-Some.function < length l.functions = omega (arith, c.in-Some.ensures.0, c.count_functions-count.ensures.count) in
    let table = read_of l.functions c.functions.result.now c.in-Some.function (record { params = 0; regs = 0; len = 0 }) c.functions.ensures.functions low in
    omega (arith, body_within l c.functions.ensures.kept.layout c.in-Some.function _ table, c.start.ensures, c.from-start.ensures)

pub loop-function-smaller : goal.loop-function-smaller
loop-function-smaller c =
    omega (arith, set_fewer c.loop-function.followed c.in-Some.function c.in-Some.ensures.2)

pub loop-function-preserved : goal.loop-function-preserved
loop-function-preserved c =
    let l = c.args.lowering.now in
    let body = get_or c.functions.result.now c.in-Some.function (record { params = 0; regs = 0; len = 0 }) in
    let low : c.in-Some.function < length l.functions = omega (arith, c.in-Some.ensures.0, c.count_functions-count.ensures.count) in
    let table = read_of l.functions c.functions.result.now c.in-Some.function (record { params = 0; regs = 0; len = 0 }) c.functions.ensures.functions low in
    done_more l Anywhere c.in-Some.function body c.from-start.result (c.from-start.result + body.len) c.args.marks.now c.loop-function.marks c.mark_callees.new.marks c.loop-function.followed (slice_set c.loop-function.followed c.in-Some.function true) table (c.from-start.ensures ∙ c.start.ensures) refl c.in-Some.ensures.1 refl
    (record { kept = c.mark_callees.ensures.kept; called = c.mark_callees.ensures.called; only = c.mark_callees.ensures.only })
    c.loop-function.invariant

pub returns-clause-followed : goal.returns-clause-followed
returns-clause-followed c =
    all_done c.args.lowering.now Anywhere c.count_functions-count.result c.args.marks.now c.loop-function.marks c.loop-function.followed c.count_functions-count.ensures.count c.loop-function.invariant c.in_default.ensures
