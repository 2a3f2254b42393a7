use Rattle.asl_grammar.proofs.Scan.{spots_after_blanks, bad_after_blanks, at_token_after_blanks}
use Rattle.asl_grammar.proofs.lexer.Tokens.skip_blanks.Goals as goal

pub returns-clause-tokens : goal.returns-clause-tokens
returns-clause-tokens c =
    spots_after_blanks _ _ _ _ _ c.blanks_len-blanks.ensures.count c.pass.ensures.rest c.pass.ensures.at

pub returns-clause-bad : goal.returns-clause-bad
returns-clause-bad c =
    bad_after_blanks _ _ _ _ _ c.blanks_len-blanks.ensures.count c.pass.ensures.rest c.pass.ensures.at

pub returns-clause-at_token : goal.returns-clause-at_token
returns-clause-at_token c =
    at_token_after_blanks _ _ _ c.blanks_len-blanks.ensures.count c.pass.ensures.rest
