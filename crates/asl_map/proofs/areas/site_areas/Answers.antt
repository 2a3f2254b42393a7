use Rattle.std.proofs.Common.{◌∙◌, ap, Vec, Global, arith}
use Rattle.asl_map.specs.declared.text_piece.Area.{Area}
use Rattle.asl_map.proofs.Sites.{more_found, same_found, area_is}
use Rattle.asl_map.proofs.areas.site_areas.Goals as goal
use Rattle.asl_map.proofs.areas.site_areas.Goals.{then-is_new+in_ok-push, else-is_new}

pub loop-pc-preserved : goal.loop-pc-preserved
loop-pc-preserved c =
    let l = c.args.lowering.now in
    let numbered = c.numbers_follow_the_code.ensures.kept l c.code-instr-items.ensures.kept in
    elim c.if-is_new.branch [
      | then-is_new+in_ok-push w ↦ more_found l c.args.pieces.now c.loop-pc.pc c.code-instr-items.result.now _ c.is_new.result _ c.loop-pc.areas.items c.if-is_new.areas.items numbered c.code-instr-items.ensures.code (omega arith) c.is_new.ensures w.if-is_new.true
          (area_is _ _ _ _ _ _ w.owner.ensures.owner w.from_at.ensures w.to_at.ensures)
          (ap (λ (v : Vec Area Global). v.items) w.areas-is ∙ w.in_ok-push.ensures.items) c.loop-pc.invariant
      | else-is_new w ↦ same_found l c.args.pieces.now c.loop-pc.pc c.code-instr-items.result.now _ c.is_new.result c.loop-pc.areas.items c.if-is_new.areas.items c.code-instr-items.ensures.code (omega arith) c.is_new.ensures w.if-is_new.false (ap (λ (v : Vec Area Global). v.items) w.areas-is) c.loop-pc.invariant
    ]
