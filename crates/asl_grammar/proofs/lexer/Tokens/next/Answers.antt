use Rattle.std.proofs.Common.{◌<◌, sym, ◌∙◌, arith}
use Rattle.asl_grammar.specs.Reader.{bytes_left}
use Rattle.asl_grammar.proofs.Scan.{front_fits, spots_after_token, bad_after_token, shorter_after_token}
use Rattle.asl_grammar.proofs.lexer.Tokens.next.Goals as goal

pub pass-requires : goal.pass-requires
pass-requires c = (front_fits _ _ _ (sym c.in-Some.ensures)).1

pub returns-in-Some-clause-found : goal.returns-in-Some-clause-found
returns-in-Some-clause-found c = (
  sym c.skip_blanks.ensures.tokens
      ∙ spots_after_token _ _ _ _ _ _ c.skip_blanks.ensures.at_token c.in-Some.ensures c.pass.ensures.rest c.pass.ensures.at,
  sym c.skip_blanks.ensures.bad
      ∙ bad_after_token _ _ _ _ _ _ c.skip_blanks.ensures.at_token c.in-Some.ensures c.pass.ensures.rest c.pass.ensures.at,
)

pub returns-in-Some-clause-shorter : goal.returns-in-Some-clause-shorter
returns-in-Some-clause-shorter c =
    let less : bytes_left c.pass.new.self < bytes_left c.skip_blanks.new.self = shorter_after_token _ _ _ _ c.in-Some.ensures c.pass.ensures.rest in
    omega (arith, c.skip_blanks.ensures.shorter)
