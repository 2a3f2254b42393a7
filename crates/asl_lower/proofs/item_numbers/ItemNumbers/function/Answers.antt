use Rattle.std.proofs.Common.{map, sym, ◌∙◌, arith}
use Rattle.std.proofs.lemmas.List.{length-map}
use Rattle.asl_syntax.specs.Tree.{Function, functions_of}
use Rattle.asl_syntax.specs.View.{item_of}
use Rattle.asl_lower.proofs.item_numbers.ItemNumbers.function.Goals as goal

pub returns-in-Some-clause-number : goal.returns-in-Some-clause-number
returns-in-Some-clause-number c =
    omega (arith, (c.requires.functions c.args.name.now c.in-Some.number (sym c.find.ensures ∙ c.in-Some.is)).number)

pub returns-in-Some-clause-bound : goal.returns-in-Some-clause-bound
returns-in-Some-clause-bound c =
    let p = c.requires.functions c.args.name.now c.in-Some.number (sym c.find.ensures ∙ c.in-Some.is) in
    omega (arith, p.number, p.bound, length-map (functions_of (map item_of c.args.items.now)) (λ (f : Function). f.name))
