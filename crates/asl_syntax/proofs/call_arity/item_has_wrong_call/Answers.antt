use Rattle.std.proofs.Common.{◌≡◌, ◌∙◌, sym, ap, rules}
use Rattle.std.specs.List.{list_any}
use Rattle.asl_syntax.specs.Mentions.{block_mentions, function_mentions, item_mentions}
use Rattle.asl_syntax.specs.Rules.{is_wrong_call}
use Rattle.asl_syntax.specs.View.{block_of, function_of, item_of}
use Rattle.asl_syntax.specs.NumberedNamesView.{counts_in}
use Rattle.asl_syntax.proofs.Bodies.{one_of_body}
use Rattle.asl_syntax.proofs.call_arity.item_has_wrong_call.Goals as goal

pub returns-in-Function : goal.returns-in-Function
returns-in-Function c =
    let counts = counts_in c.args.counts.now in
    let function = c.in-Function.function in
    let told : c.block_has_wrong_call.result ≡ list_any (is_wrong_call counts) (block_mentions (block_of function.body.items)) = search rules in
    let mentioned : item_mentions (item_of c.args.item.now) ≡ function_mentions (function_of function) = search rules in
    told ∙ sym (one_of_body counts (function_of function)) ∙ ap (list_any (is_wrong_call counts)) (sym mentioned)
