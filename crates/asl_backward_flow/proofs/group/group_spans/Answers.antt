use Rattle.std.proofs.Common.{List, ◌-◌, ◌++◌, length, take, drop, ap, sym, subst, ◌∙◌}
use Rattle.std.proofs.lemmas.List.{take_rest}
use Rattle.asl_lower.specs.declared.section.Section.{Section}
use Rattle.asl_backward_flow.specs.declared.span.Span.{Span}
use Rattle.asl_backward_flow.specs.Spans.{IsGroup}
use Rattle.asl_backward_flow.proofs.Grouping.{group_made}
use Rattle.asl_backward_flow.proofs.group.group_spans.Goals as goal

pub returns : goal.returns
returns c =
    let spans = c.args.spans.now in
    let front = take (c.args.end - c.args.first) (drop c.args.first spans) in
    let first = c.in_ok-extend_from_slice.ensures.items ∙ ap (λ (xs : List Span). xs ++ front) c.in_ok-group.ensures.items in
    let both =
    c.in_ok-extend_from_slice-2.ensures.items ∙ ap (λ (xs : List Span). c.extend_from_slice.new.self.items ++ xs) (take_rest spans (length c.sections-count.result.now))
    ∙ ap (λ (xs : List Span). xs ++ drop (length c.sections-count.result.now) spans) first in
    let is = both ∙ ap (λ (xs : List Section). front ++ drop (length xs) spans) c.sections-count.ensures.sections in
    subst (IsGroup c.args.lowering.now spans c.args.first (c.args.end - c.args.first)) (sym is) (group_made c.args.lowering.now spans c.args.first c.args.end c.requires.spans c.requires.order c.requires.within)
