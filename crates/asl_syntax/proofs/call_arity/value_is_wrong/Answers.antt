use Rattle.std.proofs.Common.{◌≡◌, ◌∷◌, ◌∙◌, length, map, sym, ap, rules}
use Rattle.std.specs.List.{list_any}
use Rattle.asl_syntax.specs.Mentions.{CallsFunction, UsesLocal, value_mentions}
use Rattle.asl_syntax.specs.Rules.{differs, is_wrong_call}
use Rattle.asl_syntax.specs.View.{value_of}
use Rattle.asl_syntax.specs.NumberedNamesView.{counts_in}
use Rattle.asl_syntax.proofs.Bodies.{one_of_call}
use Rattle.asl_syntax.proofs.call_arity.value_is_wrong.Goals as goal

pub returns-in-Call : goal.returns-in-Call
returns-in-Call c =
    let names = c.in-Call.arguments.items in
    let counts = counts_in c.args.counts.now in
    let told : c.is_wrong.result ≡ differs (counts c.in-Call.function) (length names) = search rules in
    let mentioned : value_mentions (value_of c.args.value.now) ≡ CallsFunction c.in-Call.function (length names) ∷ map UsesLocal names = search rules in
    told ∙ sym (one_of_call counts c.in-Call.function (length names) names) ∙ ap (list_any (is_wrong_call counts)) (sym mentioned)
