use Rattle.std.proofs.Common.{string_bytes}
use Rattle.asl_map.specs.Text.{members_text}
use Rattle.asl_map.proofs.Told.{Written}
use Rattle.asl_map.proofs.map_text.push_classes.Given as goal

abbrev pub invariant-loop-class : goal.invariant-loop-class
invariant-loop-class l = Written (members_text l.map) l.class l.map.classes (string_bytes l.initial.text) (string_bytes l.text)
