use Rattle.std.proofs.Common.{ℕ, length, None, replicate, ap, ◌∙◌}
use Rattle.std.specs.List.{range_with_len}
use Rattle.asl_points_to.proofs.Begins.{new_draft, flows_there, is_settled}
use Rattle.asl_points_to.proofs.points_to.settled.Goals as goal

pub settle-requires-clause-draft : goal.settle-requires-clause-draft
settle-requires-clause-draft c =
    let h = c.in_ok-draft.ensures in
    new_draft c.in_ok-draft.draft c.members.result (length c.functions.result.now) (record { sets = h.sets; functions_are = h.functions; nothing = h.nothing; cells = h.cells })

pub settle-requires-clause-there : goal.settle-requires-clause-there
settle-requires-clause-there c =
    let l = c.args.lowering.now in
    let h = c.in_ok-draft.ensures in
    flows_there l c.in_ok-draft.draft c.in_ok-flows.flows.items c.in_ok-flows.ensures (record {
      sets = h.sets ∙ ap (range_with_len 0) c.members.ensures.count;
      functions_are = h.functions ∙ ap length c.functions.ensures.functions;
      nothing = h.nothing;
      cells = h.cells ∙ ap (λ (n : ℕ). replicate n None) c.members.ensures.count;
    })

pub returns : goal.returns
returns c =
    let l = c.args.lowering.now in
    let h = c.in_ok-draft.ensures in
    let s = c.in_ok-settle.ensures in
    is_settled l c.in_ok-draft.draft c.settle.new.draft c.in_ok-flows.flows.items c.in_ok-flows.ensures (record {
      sets = h.sets ∙ ap (range_with_len 0) c.members.ensures.count;
      functions_are = h.functions ∙ ap length c.functions.ensures.functions;
      nothing = h.nothing;
      cells = h.cells ∙ ap (λ (n : ℕ). replicate n None) c.members.ensures.count;
    }) s.draft s.keeps s.settled s.forced
