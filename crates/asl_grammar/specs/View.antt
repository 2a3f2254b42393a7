-- The code's tokens (src/token.rt) as the values that definitions speak of, the tokens of docs/SOURCE.md.
use Rattle.std.specs.Prelude.{ℕ}
use Rattle.asl_grammar.specs.Lex.{number_value}
use Rattle.asl_grammar.specs.declared.token.Token as code
use Rattle.asl_grammar.specs.declared.token.Token.TheVariants as tokens
use Rattle.asl_grammar.specs.declared.token.Spot as spot
use Rattle.asl_grammar.specs.declared.lexeme.Lexeme as lexeme
use Rattle.asl_grammar.specs.Token.{Token, Fixed, Name, Number, Spot}

-- a token with the bytes that its slice holds, a number with its value
abbrev pub token_of : code.Token → Token
token_of (tokens.Fixed m) = Fixed m
token_of (tokens.Name s) = Name s.now
token_of (tokens.Number s) = Number (number_value s.now)

-- a token with its place
abbrev pub spot_of : spot.Spot → Spot
spot_of s = record { token = token_of s.token; at = s.at }

-- a token and its length
abbrev pub front_view : lexeme.Lexeme → Token × ℕ
front_view f = (token_of f.token, f.len)
