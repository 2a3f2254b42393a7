-- Machinery of the proofs, not of the promise: what the walk over a text (docs/SOURCE.md, "The map") takes of its tokens.
use Rattle.std.specs.Prelude.{◌≡◌, ℕ, ◌+◌, ◌<◌, ◌^◌, List, [], ◌∷◌, Bool, true, false, if◌then◌else◌, Option, Some, None}
use Rattle.asl_grammar.specs.declared.lexer.Tokens as reader
use Rattle.asl_grammar.specs.declared.token.Spot as spot
use Rattle.asl_grammar.specs.declared.token.Mark.TheVariants as mark
use Rattle.asl_grammar.specs.Token.{Token, Fixed, Spot}
use Rattle.asl_grammar.specs.View.{spot_of}
use Rattle.asl_grammar.specs.Reader.{spots_left, bytes_left}
use Rattle.asl_map.specs.declared.text_piece.Kind.{Kind}
use Rattle.asl_map.specs.declared.text_piece.Piece.{Piece}
use Rattle.asl_map.specs.Pieces.{first_place}

-- a semicolon or an opening brace
abbrev pub is_end : Token → Bool
is_end (Fixed mark.Semicolon) = true
is_end (Fixed mark.OpenBrace) = true
is_end _ = false

-- the place after the first of these, 0 where there is none
abbrev pub end_place : List Spot → ℕ
end_place [] = 0
end_place (s ∷ ss) = if is_end s.token then s.at + 1 else end_place ss

-- the tokens after it
abbrev pub past_end : List Spot → List Spot
past_end [] = []
past_end (s ∷ ss) = if is_end s.token then ss else past_end ss

-- from the first token to the first semicolon or opening brace
abbrev pub piece_of : Kind → List Spot → Piece
piece_of k ss = record { from = first_place ss; to = end_place ss; kind = k }

-- the first token, which is a brace
abbrev pub brace_of : Kind → List Spot → Piece
brace_of k ss = record { from = first_place ss; to = first_place ss + 1; kind = k }

-- the next token is taken, if there is one
abbrev pub IsTaken : reader.Tokens → Option spot.Spot → reader.Tokens → Type 0
IsTaken old None new = (spots_left old ≡ []) × (spots_left new ≡ [])
IsTaken old (Some s) new =
    (spots_left old ≡ spot_of s ∷ spots_left new) × (s.at + 1 < 2 ^ 64) × (bytes_left new < bytes_left old)

-- the word `else`
abbrev pub is_else_token : Token → Bool
is_else_token (Fixed mark.Else) = true
is_else_token _ = false

-- the first token is `else`
abbrev pub is_else : List Spot → Bool
is_else [] = false
is_else (s ∷ ss) = is_else_token s.token
