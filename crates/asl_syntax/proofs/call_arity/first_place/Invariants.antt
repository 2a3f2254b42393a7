-- what is left gives the answer
use Rattle.std.proofs.Common.{◌≡◌, drop}
use Rattle.asl_grammar.specs.Lex.{tokens_of}
use Rattle.asl_grammar.specs.Reader.{spots_left}
use Rattle.asl_syntax.specs.MentionView.{mentions_of}
use Rattle.asl_syntax.specs.NumberedNamesView.{counts_in}
use Rattle.asl_syntax.specs.Rules.{wrong_call_from, name_places}
use Rattle.asl_syntax.proofs.call_arity.first_place.Given as goal

abbrev pub invariant-loop-mention : goal.invariant-loop-mention
invariant-loop-mention l =
    wrong_call_from (counts_in l.counts) (mentions_of (drop l.mention-index l.mentions)) (name_places (spots_left l.tokens)) ≡ wrong_call_from (counts_in l.counts) (mentions_of l.mentions) (name_places (tokens_of l.fn.text))
