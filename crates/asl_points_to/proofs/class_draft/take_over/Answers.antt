use Rattle.std.proofs.Common.{None, get_or, ◌∙◌}
use Rattle.asl_points_to.proofs.Cells.{read, both_taken, none_taken, one_taken}
use Rattle.std.proofs.Common.{set}
use Rattle.asl_points_to.proofs.class_draft.take_over.Goals as goal

pub returns-in-Some-Some : goal.returns-in-Some-Some
returns-in-Some-Some c =
    let xs = c.args.cells.now in
    both_taken xs c.args.kept c.args.gone _ _ c.requires.different c.requires.gone_there
    (read (set xs c.args.gone None) c.args.kept ∙ c.in-Some-Some.is-0) (read xs c.args.gone ∙ c.in-Some-Some.is-1)

pub returns-in-Some-None : goal.returns-in-Some-None
returns-in-Some-None c =
    let xs = c.args.cells.now in
    none_taken xs c.args.kept c.args.gone c.requires.different c.requires.gone_there (read xs c.args.gone ∙ c.in-Some-None.is-1)

pub returns-in-None-default : goal.returns-in-None-default
returns-in-None-default c =
    let xs = c.args.cells.now in
    one_taken xs c.args.kept c.args.gone (get_or xs c.args.gone None) c.requires.different c.requires.kept_there c.requires.gone_there
    (read (set xs c.args.gone None) c.args.kept ∙ c.in-None-default.is-0) (read xs c.args.gone)
