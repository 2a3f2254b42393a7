use Rattle.std.proofs.Common.{◌≡◌, ◌+◌, ◌<◌, true, length, slice_set, refl, ap, ◌∙◌, arith}
use Rattle.asl_lower.specs.OpenSections.{open_at}
use Rattle.asl_lower.specs.LegalLowering.{lowered_of}
use Rattle.asl_lower.specs.Reach.{where_of}
use Rattle.asl_lower.proofs.Marks.{set_fewer}
use Rattle.asl_lower.proofs.Reaching.{read_at, done_begin, done_more, all_done}
use Rattle.asl_lower.proofs.section_reach.follow_calls.Goals as goal

pub loop-function-init : goal.loop-function-init
loop-function-init c = done_begin (lowered_of c.args.draft.now) (where_of c.args.calls) 256 c.args.marks.now

pub mark_callees-requires-clause-none_open : goal.mark_callees-requires-clause-none_open
mark_callees-requires-clause-none_open c =
    let l = lowered_of c.args.draft.now in
    let low : c.in-Some.function < length l.functions = omega (arith, c.in-Some.ensures.0, c.len.ensures, c.args.draft.now.functions.ok.0) in
    ap (open_at l.code) c.start-start.ensures
    ∙ c.requires.nested.starts c.in-Some.function c.index.result.now (read_at l.functions c.in-Some.function c.index.result.now low c.index.ensures)

pub loop-function-smaller : goal.loop-function-smaller
loop-function-smaller c =
    omega (arith, set_fewer c.loop-function.followed c.in-Some.function c.in-Some.ensures.2)

pub loop-function-preserved : goal.loop-function-preserved
loop-function-preserved c =
    let l = lowered_of c.args.draft.now in
    let low : c.in-Some.function < length l.functions = omega (arith, c.in-Some.ensures.0, c.len.ensures, c.args.draft.now.functions.ok.0) in
    done_more l (where_of c.args.calls) c.in-Some.function c.index.result.now c.start-start.result (c.start-start.result + c.index.result.now.len) c.args.marks.now c.loop-function.marks c.mark_callees.new.marks c.loop-function.followed (slice_set c.loop-function.followed c.in-Some.function true) (read_at l.functions c.in-Some.function c.index.result.now low c.index.ensures) c.start-start.ensures refl c.in-Some.ensures.1 refl
    (record { kept = c.mark_callees.ensures.kept; called = c.mark_callees.ensures.called; only = c.mark_callees.ensures.only })
    c.loop-function.invariant

pub returns-clause-followed : goal.returns-clause-followed
returns-clause-followed c =
    let l = lowered_of c.args.draft.now in
    let same : c.len.result ≡ length l.functions = omega (arith, c.len.ensures, c.args.draft.now.functions.ok.0) in
    all_done l (where_of c.args.calls) c.len.result c.args.marks.now c.loop-function.marks c.loop-function.followed same c.loop-function.invariant c.in_default.ensures
