use Rattle.asl_explain.proofs.Short.{settled_flow}
use Rattle.asl_explain.proofs.short_paths.is_settled.Goals as goal

pub returns-then-are_sections_below : goal.returns-then-are_sections_below
returns-then-are_sections_below c = λ all longer le.
    settled_flow c.args.lowering.now c.args.classes.now c.args.k_limit c.args.flow.now c.requires (c.are_sections_below.ensures c.if-are_sections_below.true) (c.are_bodies_below.ensures all) longer le
