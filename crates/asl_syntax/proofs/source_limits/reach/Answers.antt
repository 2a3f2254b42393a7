use Rattle.std.proofs.Common.{◌≡◌, [], List, ap, ◌∙◌}
use Rattle.asl_grammar.specs.Token.{Spot}
use Rattle.asl_grammar.specs.Lex.{tokens_of}
use Rattle.asl_grammar.specs.Reader.{spots_left}
use Rattle.asl_syntax.specs.Limit.{Tally, tally_of}
use Rattle.asl_syntax.proofs.Tallying.{over_from, over_is_limit}
use Rattle.asl_syntax.proofs.source_limits.reach.Goals as goal

pub reading-init : goal.reading-init
reading-init c =
    let whole : spots_left c.new-tokens.result ≡ tokens_of c.args.text.now = c.new-tokens.ensures.tokens in
    let same =
    ap (λ (y : Tally). over_from y (spots_left c.new-tokens.result)) c.new-counts.ensures
    ∙ ap (λ (ss : List Spot). over_from (tally_of []) ss) whole
    ∙ over_is_limit (tokens_of c.args.text.now) [] in
    (same, c.new-tokens.ensures.bad)
