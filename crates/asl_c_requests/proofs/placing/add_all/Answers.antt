use Rattle.std.proofs.Common.{◌∙◌}
use Rattle.asl_c_requests.proofs.WordLaws.{drop_further}
use Rattle.asl_c_requests.proofs.placing.add_all.Goals as goal

pub returns-in-Leaf-clause-rest : goal.returns-in-Leaf-clause-rest
returns-in-Leaf-clause-rest c =
    let above = c.add-above-in-Leaf.ensures.rest ∙ drop_further _ _ _ _ c.add-above-in-Leaf.ensures.more c.add-root.ensures.rest in
    c.add-in-Leaf.ensures.rest ∙ drop_further _ _ _ _ c.add-in-Leaf.ensures.more above
