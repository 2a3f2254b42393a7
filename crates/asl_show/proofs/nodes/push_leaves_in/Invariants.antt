use Rattle.std.proofs.Common.{◌≤◌, ◌-◌, string_bytes}
use Rattle.asl_lock_forest.specs.declared.node.Node.TheVariants.{Leaf}
use Rattle.asl_show.specs.About.{line_about}
use Rattle.asl_show.specs.Objects.{cell_of}
use Rattle.asl_show.proofs.Lines.{Written}
use Rattle.asl_show.proofs.nodes.push_leaves_in.Given as goal

abbrev pub invariant-loop-offset : goal.invariant-loop-offset
invariant-loop-offset l = record {
  within : l.offset ≤ l.cells;
  written : Written (λ i. line_about l.machine.state l.t l.about (Leaf (cell_of l.object i) l.class)) l.offset l.cells (string_bytes l.initial.text) (string_bytes l.text);
}

abbrev pub decreases-loop-offset : goal.decreases-loop-offset
decreases-loop-offset l = l.cells - l.offset
