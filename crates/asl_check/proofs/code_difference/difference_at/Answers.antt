use Rattle.std.proofs.Common.{List, sym, subst}
use Rattle.asl_code.specs.declared.instr.Instr.{Instr}
use Rattle.asl_emitter.specs.BuiltImage.{HasSites}
use Rattle.asl_emitter.proofs.Verifying.{has_sites}
use Rattle.asl_check.proofs.code_difference.difference_at.Goals as goal

pub classed_at-source-requires : goal.classed_at-source-requires
classed_at-source-requires c = subst (λ (is : List Instr). HasSites is c.args.classes.now) (sym c.code.ensures.code) (has_sites c.args.lowering.now c.args.classes.now c.code.ensures.kept c.requires)
