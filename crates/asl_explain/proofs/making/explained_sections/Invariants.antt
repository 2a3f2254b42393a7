use Rattle.asl_explain.specs.Analysed.{read, AreSections}
use Rattle.asl_explain.specs.Known.{AreKnown}
use Rattle.asl_explain.proofs.making.explained_sections.Given as goal

abbrev pub invariant-loop-number : goal.invariant-loop-number
invariant-loop-number l = record {
  sections : AreSections (read l.analysis) l.lists l.number l.sections.items;
  known : AreKnown (read l.analysis) l.known;
}
