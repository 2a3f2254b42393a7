use Rattle.std.proofs.Common.{List, Bool, [], ◌∷◌, ◌++◌, refl, ap, ◌∙◌}
use Rattle.asl_backward_flow.proofs.Grouping.{shorter}
use Rattle.asl_backward_flow.proofs.entry_flow.keep_entry.Goals as goal

pub returns : goal.returns
returns c =
    shorter c.args.pc c.args.part.now _ c.in_ok-set_at.field-0 c.in_ok-set_at.ensures refl refl refl
    (c.in_ok-push.ensures.items ∙ ap (λ (xs : List (List Bool)). xs ++ c.in_ok-set_at.field-0 ∷ []) c.in_ok-needs.ensures.items)
