use Rattle.std.proofs.Common.{[], ap, ◌∙◌}
use Rattle.asl_grammar.specs.Lex.{tokens_of}
use Rattle.asl_syntax.specs.Limit.{limit_from, first_place}
use Rattle.asl_syntax.proofs.source_limits.first_limit.Goals as goal

pub returns : goal.returns
returns c =
    c.first_place.ensures
    ∙ ap (λ o. first_place o c.byte_over.result) c.requires
    ∙ ap (first_place (limit_from [] (tokens_of c.args.text.now))) c.byte_over.ensures
