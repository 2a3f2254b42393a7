use Rattle.std.proofs.Common.{◌≤◌, ◌-◌, string_bytes}
use Rattle.asl_lock_forest.specs.declared.node.Node.TheVariants.{Class}
use Rattle.asl_show.specs.About.{line_about}
use Rattle.asl_show.proofs.Lines.{Written}
use Rattle.asl_show.proofs.nodes.push_classes.Given as goal

abbrev pub invariant-loop-class : goal.invariant-loop-class
invariant-loop-class l = record {
  within : l.class ≤ l.classes;
  written : Written (λ class. line_about l.machine.state l.t l.about (Class class)) l.class l.classes (string_bytes l.initial.text) (string_bytes l.text);
}

abbrev pub decreases-loop-class : goal.decreases-loop-class
decreases-loop-class l = l.classes - l.class
