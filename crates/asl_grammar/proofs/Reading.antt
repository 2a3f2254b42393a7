-- What the answers of a reader of tokens tell.
use Rattle.std.proofs.Common.{◌≡◌, [], refl}
use Rattle.asl_grammar.specs.declared.lexer.Tokens as reader
use Rattle.asl_grammar.specs.declared.lexer.Found as answer
use Rattle.asl_grammar.specs.declared.lexer.Found.TheVariants as found
use Rattle.asl_grammar.specs.declared.token.Spot as spot
use Rattle.asl_grammar.specs.Reader.{spots_left, IsFound}

-- where no token is found, none is left
pub none_left : (old new : reader.Tokens) (o : answer.Found) → IsFound old o new → ((s : spot.Spot) → o ≡ found.Token s → ⊥) → spots_left old ≡ []
none_left old new (found.Token s) f n = absurd (n s refl)
none_left old new found.End f n = f.0
none_left old new (found.Bad at) f n = f.0
