use Rattle.std.proofs.Common.{◌<◌, length, arith, sym, ◌∙◌}
use Rattle.std.proofs.lemmas.Bool.{eqb-false}
use Rattle.asl_grammar.specs.Reader.{spots_left}
use Rattle.asl_map.proofs.Walking.{second_walked}
use Rattle.asl_map.proofs.code_walk.+walk.Goals as goal

pub walk_second-returns : goal.walk_second-returns
walk_second-returns t c =
    let some : 0 < length c.args.second.now = omega (arith, eqb-false (length c.args.second.now) 0 (sym c.is_empty.ensures ∙ c.if-is_empty.false)) in
    let w = second_walked c.args.second.now (spots_left c.args.walker.now.tokens) (spots_left c.walk_brace.new.walker.tokens) (spots_left c.pass_end.new.tokens) (spots_left c.walk_block.new.walker.tokens) (spots_left c.pass.new.tokens) c.args.walker.now.pieces.items c.walk_brace.new.walker.pieces.items c.walk_block.new.walker.pieces.items some c.in_ok-walk_brace.ensures.pieces c.in_ok-walk_brace.ensures.tokens c.pass_end.ensures.tokens c.in_ok-walk_block.ensures.pieces c.in_ok-walk_block.ensures.tokens c.pass.ensures.tokens in
    record { pieces = w.0; tokens = w.1 }
