use Rattle.asl_explain.specs.Analysed.{read}
use Rattle.asl_explain.proofs.making.explanation_of.Goals as goal

pub explained_sections-requires-clause-known : goal.explained_sections-requires-clause-known
explained_sections-requires-clause-known c = c.new-known.ensures (read c.args.analysis.now)
