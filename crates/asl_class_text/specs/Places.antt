-- Where something stands in the text.
use Rattle.std.specs.Prelude.{ℕ, List, [], ◌∷◌, Bool, ◌&&◌, ◌||◌, ◌==◌, ◌+◌, ◌-◌, if◌then◌else◌, nat_lt, length, take, drop, Option, None, Some, slice_get, unwrap_or}
use Rattle.asl_map.specs.declared.text_piece.Area.{Area}
use Rattle.asl_map.specs.declared.text_piece.Piece.{Piece}
use Rattle.asl_class_text.specs.declared.facts.Facts.{Facts}

-- the line of a place of the text
abbrev pub line_of : List ℕ → ℕ → ℕ
line_of lines place = unwrap_or (slice_get lines place) 0

-- the bytes of a text from a place on, without the last one before another; none where there are none
abbrev pub stretch : List ℕ → ℕ → ℕ → List ℕ
stretch source from to =
    if nat_lt from to && nat_lt to (length source + 1) then take (to - 1 - from) (drop from source) else []

-- a blank of the language
abbrev pub is_blank : ℕ → Bool
is_blank byte = byte == 32 || byte == 9 || byte == 10 || byte == 13

-- where a site stands
abbrev pub area_of_site : Facts → ℕ → Area
area_of_site f site = unwrap_or (slice_get f.map.sites.items site) (record { function = 0; from = 0; to = 0 })

-- the line of the statement of an instruction
abbrev pub piece_line : List ℕ → Option Piece → ℕ
piece_line lines None = 0
piece_line lines (Some p) = line_of lines p.from

-- the line of the statement of the instruction at the pc, and 0 where there is none
abbrev pub line_at : Facts → ℕ → ℕ
line_at f pc = piece_line f.lines.items (slice_get f.map.pieces.items pc)

-- its bytes, without the semicolon
abbrev pub piece_stretch : List ℕ → Option Piece → List ℕ
piece_stretch source None = []
piece_stretch source (Some p) = stretch source p.from p.to

-- the bytes of the statement of the instruction at the pc, without the semicolon
abbrev pub stretch_at : Facts → ℕ → List ℕ
stretch_at f pc = piece_stretch f.source.now (slice_get f.map.pieces.items pc)
