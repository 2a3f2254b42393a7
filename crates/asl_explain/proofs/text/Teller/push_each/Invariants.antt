use Rattle.std.proofs.Common.{string_bytes}
use Rattle.asl_class_text.specs.Texts.{listed_words}
use Rattle.asl_class_text.proofs.Made.{Made}
use Rattle.asl_explain.specs.Telling.{given}
use Rattle.asl_explain.proofs.text.Teller.push_each.Given as goal

abbrev pub invariant-loop-number : goal.invariant-loop-number
invariant-loop-number l = Made (listed_words (given l.self).facts) l.members l.number (string_bytes l.initial.text) (string_bytes l.text)
