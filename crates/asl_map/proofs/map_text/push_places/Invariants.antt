use Rattle.std.proofs.Common.{string_bytes}
use Rattle.asl_map.specs.Text.{place_line}
use Rattle.asl_map.proofs.Told.{Told}
use Rattle.asl_map.proofs.map_text.push_places.Given as goal

abbrev pub invariant-loop-number : goal.invariant-loop-number
invariant-loop-number l = Told place_line l.pieces l.number (string_bytes l.initial.text) (string_bytes l.text)
