use Rattle.std.proofs.Common.{string_bytes}
use Rattle.asl_explain.specs.Told.{under_lines}
use Rattle.asl_explain.specs.Telling.{given}
use Rattle.asl_explain.specs.TellingChains.{under_now}
use Rattle.asl_explain.proofs.Piecing.{TellsSome}
use Rattle.asl_explain.proofs.text.Teller.push_chains.Given as goal

abbrev pub invariant-loop-number : goal.invariant-loop-number
invariant-loop-number l = TellsSome (λ n u. under_lines l.self.all (given l.self).facts l.function l.listed.lock n (under_now u)) l.shown l.number (string_bytes l.initial.text) (string_bytes l.text)
