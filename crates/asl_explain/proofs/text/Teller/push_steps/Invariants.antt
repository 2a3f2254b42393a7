use Rattle.std.proofs.Common.{◌+◌, string_bytes}
use Rattle.asl_explain.specs.Told.{line_of, step_before}
use Rattle.asl_explain.specs.Telling.{given}
use Rattle.asl_explain.proofs.Piecing.{TellsSome}
use Rattle.asl_explain.proofs.text.Teller.push_steps.Given as goal

abbrev pub invariant-loop-behind : goal.invariant-loop-behind
invariant-loop-behind l =
    TellsSome (λ n s. line_of (given l.self).facts (step_before l.steps (l.first + n)) s) l.some l.behind (string_bytes l.initial.text) (string_bytes l.text)
