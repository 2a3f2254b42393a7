use Rattle.std.proofs.Common.{string_bytes}
use Rattle.asl_class_text.specs.Texts.{listed_words}
use Rattle.asl_class_text.proofs.Made.{Made}
use Rattle.asl_class_text.proofs.class_text.push_members.Given as goal

abbrev pub invariant-loop-number : goal.invariant-loop-number
invariant-loop-number l = Made (listed_words l.facts) l.members l.number (string_bytes l.initial.text) (string_bytes l.text)
