use Rattle.asl_explain.proofs.Short.{needs_below}
use Rattle.asl_explain.proofs.short_paths.are_needs_below.Goals as goal

pub returns-then-are_sections_below : goal.returns-then-are_sections_below
returns-then-are_sections_below c = λ all. needs_below c.args.analysis.now c.args.limit c.requires (c.are_sections_below.ensures c.if-are_sections_below.true) (c.are_bodies_below.ensures all)
