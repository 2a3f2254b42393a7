use Rattle.std.proofs.Common.{sym, ◌∙◌, arith}
use Rattle.asl_lower.proofs.item_numbers.ItemNumbers.global.Goals as goal

pub returns-in-Some-clause-number : goal.returns-in-Some-clause-number
returns-in-Some-clause-number c =
    omega (arith, (c.requires.globals c.args.name.now c.in-Some.number (sym c.find.ensures ∙ c.in-Some.is)).number)

pub returns-in-Some-clause-bound : goal.returns-in-Some-clause-bound
returns-in-Some-clause-bound c =
    let p = c.requires.globals c.args.name.now c.in-Some.number (sym c.find.ensures ∙ c.in-Some.is) in
    omega (arith, p.number, p.bound)
