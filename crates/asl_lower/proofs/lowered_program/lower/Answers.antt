use Rattle.std.proofs.Common.{IfErr, List, subst}
use Rattle.asl_syntax.specs.Tree.{Item}
use Rattle.asl_lower.specs.Refused.{IsRefusedLowering}
use Rattle.asl_lower.proofs.lowered_program.lower.Goals as goal

pub returns-clause-refused : goal.returns-clause-refused
returns-clause-refused c =
    let P : List Item → Type 0 = λ is. IfErr c.lower_items.result (IsRefusedLowering is) in
    subst P c.items.ensures.items c.lower_items.ensures.refused
