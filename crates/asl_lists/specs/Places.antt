-- Where something stands in the text (docs/PROOFS.md, "The lists as data").
use Rattle.std.specs.Prelude.{ℕ, List, [], ◌∷◌, Option, None, Some, codes, encode_utf8_all, slice_get, unwrap_or}
use Rattle.serde_json.specs.Data.{Data, number, string, object, unsigned, member, no_members}
use Rattle.asl_map.specs.declared.map.Map.{Map}
use Rattle.asl_map.specs.declared.text_piece.Area.{Area}
use Rattle.asl_map.specs.declared.text_piece.Piece.{Piece}
use Rattle.asl_map.specs.Names.{function_name}
use Rattle.asl_warnings.specs.Lacking.{owner_at}
use Rattle.asl_lists.specs.declared.facts.Facts.{Facts}

-- a number, as data
abbrev pub count : ℕ → Data
count n = number (unsigned n)

-- the line of a place of the text
abbrev pub line_of : List ℕ → ℕ → ℕ
line_of lines place = unwrap_or (slice_get lines place) 0

-- a name, which is ASCII
abbrev pub name_words : Option (List ℕ) → List ℕ
name_words None = []
name_words (Some name) = encode_utf8_all name

-- the name of the function of this number
abbrev pub function_words : Map → ℕ → List ℕ
function_words m function = name_words (function_name m function)

-- where something stands: its function, its line from 1, its first byte and the one after its last
abbrev pub area_data : Facts → Area → Data
area_data f a = object
    (member (codes "from") (count a.from)
    (member (codes "function") (string (function_words f.map a.function))
    (member (codes "line") (count (line_of f.lines.items a.from))
    (member (codes "to") (count a.to) no_members))))

-- where the statement of an instruction stands
abbrev pub piece_area : ℕ → Option Piece → Area
piece_area function None = record { function = function; from = 0; to = 0 }
piece_area function (Some p) = record { function = function; from = p.from; to = p.to }

-- where the statement of the instruction at the pc stands, and in which function
abbrev pub area_at : Facts → ℕ → Area
area_at f pc = piece_area (owner_at f.lowering pc) (slice_get f.map.pieces.items pc)
