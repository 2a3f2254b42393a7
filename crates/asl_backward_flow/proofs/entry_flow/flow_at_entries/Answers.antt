use Rattle.std.proofs.Common.{length, ap, sym, subst, arith}
use Rattle.asl_lower.specs.declared.section.Section.{Section}
use Rattle.asl_backward_flow.specs.Follows.{read}
use Rattle.asl_backward_flow.specs.Grouped.{TellsAllEntries}
use Rattle.asl_backward_flow.proofs.Grouping.{entries_placed, entries_told}
use Rattle.asl_backward_flow.proofs.entry_flow.flow_at_entries.Goals as goal

pub flow_of-requires : goal.flow_of-requires
flow_of-requires c = entries_placed (read c.args.analysis.now) c.args.analysis.now.spans.now c.requires.spans c.loop-alloc.parts.items c.loop-alloc.invariant.0

pub returns-clause-ok : goal.returns-clause-ok
returns-clause-ok c =
    let end = c.loop-alloc-test.false in
    let len = c.len.ensures in
    let count = ap (length {A = Section}) c.sections-count.ensures.sections in
    subst (TellsAllEntries (read c.args.analysis.now)) (sym c.flow_of.ensures)
    (entries_told (read c.args.analysis.now) c.args.analysis.now.spans.now c.requires.spans c.loop-alloc.parts.items c.loop-alloc.invariant.0
    (omega (arith, end, len, count, c.loop-alloc.parts.ok.0)) c.loop-alloc.invariant.1)
