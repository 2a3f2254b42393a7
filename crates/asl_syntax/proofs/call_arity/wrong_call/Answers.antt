use Rattle.std.proofs.Common.{◌≡◌, ◌∙◌, false, map, sym, ap, rules}
use Rattle.std.specs.List.{list_any}
use Rattle.asl_grammar.specs.Lex.{tokens_of}
use Rattle.asl_syntax.specs.Mentions.{mentions}
use Rattle.asl_syntax.specs.Rules.{Counts, parameter_counts, is_wrong_call, wrong_call_from, name_places}
use Rattle.asl_syntax.specs.View.{item_of}
use Rattle.asl_syntax.specs.NumberedNamesView.{counts_in}
use Rattle.asl_syntax.proofs.Bodies.{none_wrong}
use Rattle.asl_syntax.proofs.call_arity.wrong_call.Goals as goal

pub returns-then-not-has_wrong_call : goal.returns-then-not-has_wrong_call
returns-then-not-has_wrong_call c =
    let items = map item_of c.args.items.now in
    let places = name_places (tokens_of c.args.text.now) in
    let counts = counts_in c.in_ok-counts.counts in
    let counted : counts ≡ parameter_counts items = search rules in
    let none : list_any (is_wrong_call counts) (mentions items) ≡ false = search rules in
    sym (none_wrong counts (mentions items) places none) ∙ ap (λ (k : Counts). wrong_call_from k (mentions items) places) counted
