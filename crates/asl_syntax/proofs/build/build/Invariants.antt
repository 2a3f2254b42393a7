-- what is left builds the answer, and what was read of the line fits
use Rattle.std.proofs.Common.{◌≡◌, []}
use Rattle.asl_grammar.specs.Automaton.{ItemStart}
use Rattle.asl_grammar.specs.Lex.{tokens_of, bad_place}
use Rattle.asl_grammar.specs.Reader.{spots_left, bad_left, bytes_left}
use Rattle.asl_grammar.specs.ControlView.{control_of}
use Rattle.asl_syntax.specs.Limit.{tally_of}
use Rattle.asl_syntax.specs.TallyView.{tally_in}
use Rattle.asl_syntax.specs.Built.{no_stack}
use Rattle.asl_syntax.specs.BuilderView.{stack_of}
use Rattle.asl_syntax.proofs.Whole.{read_from}
use Rattle.asl_syntax.proofs.Fitting.{ControlFits}
use Rattle.asl_syntax.proofs.build.build.Given as goal

abbrev pub invariant-reading : goal.invariant-reading
invariant-reading l = record {
  same : read_from (tally_in l.counts) (control_of l.control) (stack_of l.builder) (spots_left l.tokens) (bad_left l.tokens)
      ≡ read_from (tally_of []) ItemStart no_stack (tokens_of l.fn.text) (bad_place l.fn.text);
  fits : ControlFits (control_of l.control) (tally_in l.counts).last;
}

abbrev pub decreases-reading : goal.decreases-reading
decreases-reading l = bytes_left l.tokens
