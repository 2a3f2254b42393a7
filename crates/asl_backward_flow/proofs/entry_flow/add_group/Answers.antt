use Rattle.std.proofs.Common.{List, ◌-◌, length, ap, sym, subst, ◌∙◌, arith}
use Rattle.asl_backward_flow.specs.declared.span.Span.{Span}
use Rattle.asl_backward_flow.specs.Follows.{read}
use Rattle.asl_backward_flow.specs.Grouped.{AreEntryParts}
use Rattle.asl_backward_flow.proofs.Grouping.{parts_more, entries_taken}
use Rattle.asl_backward_flow.proofs.entry_flow.add_group.Goals as goal

pub keep_entries-requires : goal.keep_entries-requires
keep_entries-requires c =
    subst (AreEntryParts (read c.args.analysis.now) c.as_slice-2.result.now) (sym c.truncate.ensures.items)
    (entries_taken (read c.args.analysis.now) c.as_slice-2.result.now c.in_ok-found.found.items (c.args.end - c.len-first.result)
    (subst (λ (xs : List Span). AreEntryParts (read c.args.analysis.now) xs c.in_ok-found.found.items) (c.as_slice.ensures.value ∙ sym c.as_slice-2.ensures.value) c.in_ok-found.ensures.parts))

pub returns-clause-parts : goal.returns-clause-parts
returns-clause-parts c =
    let cut = c.truncate.ensures.len in
    let same = c.in_ok-keep_entries.ensures.count in
    subst (AreEntryParts (read c.args.analysis.now) c.args.analysis.now.spans.now) (sym c.in_ok-append.ensures.items)
    (parts_more (read c.args.analysis.now) c.args.analysis.now.spans.now c.in_ok-group.group.items c.args.parts.now.items c.keep_entries.new.parts.items c.len-first.result (c.args.end - c.len-first.result)
    (let len = c.len-first.ensures in omega (arith, len, c.args.parts.now.ok.0)) c.in_ok-group.ensures (omega (arith, cut, same, c.keep_entries.new.parts.ok.0)) c.requires.parts
    (subst (λ (xs : List Span). AreEntryParts (read c.args.analysis.now) xs c.keep_entries.new.parts.items) c.as_slice-2.ensures.value c.in_ok-keep_entries.ensures.parts))

pub returns-clause-count : goal.returns-clause-count
returns-clause-count c =
    let cut = c.truncate.ensures.len in
    let same = c.in_ok-keep_entries.ensures.count in
    let added = c.in_ok-append.ensures.len in
    let found = c.in_ok-found.ensures.count in
    let group = ap (length {A = Span}) c.as_slice.ensures.value in
    let many = c.in_ok-group.ensures.many in
    let first = c.len-first.ensures in
    let order = c.requires.order in
    omega (arith, cut, same, added, found, group, many, first, order, c.in_ok-found.found.ok.0)
