use Rattle.std.proofs.Common.{◌≤◌, ◌-◌, string_bytes}
use Rattle.asl_show.specs.About.{line_about}
use Rattle.asl_show.specs.Nodes.{leaf_lines}
use Rattle.asl_show.proofs.Lines.{Written}
use Rattle.asl_show.proofs.nodes.push_leaves.Given as goal

abbrev pub invariant-loop-object : goal.invariant-loop-object
invariant-loop-object l = record {
  within : l.object ≤ l.objects;
  written : Written (leaf_lines l.machine.state (line_about l.machine.state l.t l.about)) l.object l.objects (string_bytes l.initial.text) (string_bytes l.text);
}

abbrev pub decreases-loop-object : goal.decreases-loop-object
decreases-loop-object l = l.objects - l.object
