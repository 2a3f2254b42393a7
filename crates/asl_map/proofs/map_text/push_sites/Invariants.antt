use Rattle.std.proofs.Common.{string_bytes}
use Rattle.asl_map.specs.Text.{site_line}
use Rattle.asl_map.proofs.Told.{Told}
use Rattle.asl_map.proofs.map_text.push_sites.Given as goal

abbrev pub invariant-loop-number : goal.invariant-loop-number
invariant-loop-number l = Told site_line l.sites l.number (string_bytes l.initial.text) (string_bytes l.text)
