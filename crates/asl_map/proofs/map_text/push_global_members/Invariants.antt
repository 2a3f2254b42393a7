use Rattle.std.proofs.Common.{string_bytes}
use Rattle.asl_map.specs.Text.{global_member}
use Rattle.asl_map.proofs.Told.{Told}
use Rattle.asl_map.proofs.map_text.push_global_members.Given as goal

abbrev pub invariant-loop-number : goal.invariant-loop-number
invariant-loop-number l = Told (global_member l.class) l.members l.number (string_bytes l.initial.text) (string_bytes l.text)
