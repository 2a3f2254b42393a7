use Rattle.std.proofs.Common.{◌<◌, length, arith, sym, ap, ◌∙◌}
use Rattle.std.proofs.lemmas.Bool.{eqb-false}
use Rattle.asl_syntax.specs.View.{block_of}
use Rattle.asl_diagnose_text.specs.declared.code_walk.Passed.{Passed}
use Rattle.asl_diagnose_text.specs.AccessView.{after_block}
use Rattle.asl_diagnose_text.proofs.AccessCounts.{jumped}
use Rattle.asl_diagnose_text.proofs.code_walk.past_jump.Goals as goal

pub returns-else-is_empty-clause-is : goal.returns-else-is_empty-clause-is
returns-else-is_empty-clause-is c =
    let some : 0 < length c.args.second.now = omega (arith, eqb-false (length c.args.second.now) 0 (sym c.is_empty.ensures ∙ c.if-is_empty.false)) in
    ap (λ (a : Passed). after_block a (block_of c.args.second.now)) c.past.ensures.is ∙ jumped c.args.passed c.args.second.now some
