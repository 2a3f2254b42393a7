-- Pieces of a text, by its tokens (docs/SOURCE.md, "The map").
use Rattle.std.specs.Prelude.{ℕ, ◌+◌, ◌-◌, List, [], ◌∷◌, length, drop}
use Rattle.asl_grammar.specs.Token.{Token, Spot}
use Rattle.asl_map.specs.declared.text_piece.Kind.{Kind}
use Rattle.asl_map.specs.declared.text_piece.Piece.{Piece}

-- the place of the first token, 0 where there is none
abbrev pub first_place : List Spot → ℕ
first_place [] = 0
first_place (s ∷ ss) = s.at

-- the first n tokens as a piece of the text; the last of them takes one byte
abbrev pub piece : Kind → ℕ → List Spot → Piece
piece k n ss = record { from = first_place ss; to = first_place (drop (n - 1) ss) + 1; kind = k }

-- the tokens after these tokens
abbrev pub behind : List Token → List Spot → List Spot
behind ts ss = drop (length ts) ss
