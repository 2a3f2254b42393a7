use Rattle.std.proofs.Common.{◌∙◌, ap, sym, length, arith}
use Rattle.asl_class_reasons.proofs.Making.{owed_there, is_settled}
use Rattle.asl_class_reasons.proofs.reasons.settled.Goals as goal

pub overflow_cast-count : goal.overflow_cast-count
overflow_cast-count c =
    let h = c.functions.ensures.kept.layout in
    omega (arith, h.limits.few_functions, ap length c.functions.ensures.functions)

pub new-requires-clause-functions : goal.new-requires-clause-functions
new-requires-clause-functions c =
    let h = c.functions.ensures.kept.layout in
    omega (arith, h.limits.few_functions, ap length c.functions.ensures.functions)

pub settle-requires-clause-there : goal.settle-requires-clause-there
settle-requires-clause-there c =
    let l = c.args.lowering.now in
    owed_there l c.in_ok-draft.draft (c.in_ok-draft.ensures.founded l c.members.ensures.count (ap length c.functions.ensures.functions)) c.args.owed.now c.requires

pub returns-clause-settled : goal.returns-clause-settled
returns-clause-settled c = λ l like owed. (
    let f = c.in_ok-draft.ensures.founded l (omega (arith, c.members.ensures.count, like.globals, like.sites)) (ap length c.functions.ensures.functions ∙ ap length (sym like.functions)) in
    let s = c.in_ok-settle.ensures in
    is_settled l c.settle.new.draft c.args.owed.now owed s.grown.sized (s.founded l f owed.each) (s.holds l f owed.each))
