-- Machinery of the proofs, not of the promise: what a reader of a text's tokens (docs/SOURCE.md) has left, and what one
-- call of it does.
use Rattle.std.specs.Prelude.{◌≡◌, ℕ, ◌<◌, List, [], ◌∷◌, Option, Some, None, length}
use Rattle.asl_grammar.specs.declared.lexer.Tokens as reader
use Rattle.asl_grammar.specs.declared.lexer.Found as answer
use Rattle.asl_grammar.specs.declared.lexer.Found.TheVariants as found
use Rattle.asl_grammar.specs.Token.{Spot}
use Rattle.asl_grammar.specs.Lex.{spots, bad_from}
use Rattle.asl_grammar.specs.View.{spot_of}

-- the tokens that a reader has left, up to a place where none stands
abbrev pub spots_left : reader.Tokens → List Spot
spots_left r = spots r.rest.now 0 r.at

-- the place among them where no token stands, if there is one
abbrev pub bad_left : reader.Tokens → Option ℕ
bad_left r = bad_from r.rest.now 0 r.at

-- how much a reader has left
abbrev pub bytes_left : reader.Tokens → ℕ
bytes_left r = length r.rest.now

-- what the next call answers, and what is left then
abbrev pub IsFound : reader.Tokens → answer.Found → reader.Tokens → Type 0
IsFound old (found.Token s) new =
    (spots_left old ≡ spot_of s ∷ spots_left new) × (bad_left old ≡ bad_left new)
IsFound old found.End new = (spots_left old ≡ []) × (bad_left old ≡ None)
IsFound old (found.Bad at) new = (spots_left old ≡ []) × (bad_left old ≡ Some at)

-- where it finds no token, it leaves what it had
abbrev pub IsStill : answer.Found → reader.Tokens → reader.Tokens → Type 0
IsStill (found.Token s) old new = Unit {0}
IsStill found.End old new = (spots_left new ≡ spots_left old) × (bad_left new ≡ bad_left old)
IsStill (found.Bad at) old new = (spots_left new ≡ spots_left old) × (bad_left new ≡ bad_left old)

-- a token takes bytes away
abbrev pub IsShorter : answer.Found → reader.Tokens → reader.Tokens → Type 0
IsShorter (found.Token s) old new = bytes_left new < bytes_left old
IsShorter found.End old new = Unit {0}
IsShorter (found.Bad at) old new = Unit {0}
