use Rattle.std.proofs.Common.{rules, ◌≡◌, ◌+◌, [], length, refl, arith, ◌∙◌, sym}
use Rattle.std.proofs.lemmas.List.{nil_from_length}
use Rattle.asl_assembler.specs.Words.{lines_of}
use Rattle.asl_assembler.specs.declared.image_draft.Place.TheVariants.{Version}
use Rattle.asl_assembler.specs.Reading.{blank_image}
use Rattle.asl_assembler.proofs.Texts.{image_spelled, bad_line}
use Rattle.asl_assembler.proofs.Turns.{goes_on, stops, ends, too_early}
use Rattle.asl_assembler.proofs.line_order.wrong_line.Goals as goal

pub loop-rest-init : goal.loop-rest-init
loop-rest-init c = record { at = record { at = Version; so_far = blank_image; turn = refl; same = refl }; counted = omega arith }

pub returns-in-None : goal.returns-in-None
returns-in-None c =
    bad_line (lines_of c.args.text.now) (c.loop-rest.number + 1)
    (stops c.loop-rest.turn c.loop-rest.number c.split_line.result.0.now c.loop-rest.rest.now c.split_line.result.1.now c.args.text.now c.loop-rest.invariant.at c.split_line.ensures.lines (sym c.turn_after_bytes.ensures ∙ c.in-None.is))

pub loop-rest-preserved : goal.loop-rest-preserved
loop-rest-preserved c = record {
  at = goes_on c.loop-rest.turn c.in-Some.next c.loop-rest.number c.split_line.result.0.now c.loop-rest.rest.now c.split_line.result.1.now c.args.text.now c.loop-rest.invariant.at c.split_line.ensures.lines (sym c.turn_after_bytes.ensures ∙ c.in-Some.is);
  counted = omega (arith, c.split_line.ensures.shorter, c.loop-rest.invariant.counted);
}

pub returns-then-may_end : goal.returns-then-may_end
returns-then-may_end c =
    let zero : length c.loop-rest.rest.now ≡ 0 = search rules in
    let none : c.loop-rest.rest.now ≡ [] = nil_from_length c.loop-rest.rest.now zero in
    let end = ends c.loop-rest.turn c.loop-rest.number c.loop-rest.rest.now c.args.text.now c.loop-rest.invariant.at none (sym c.may_end.ensures ∙ c.if-may_end.true) in
    (end.0, image_spelled c.args.text.now end.0 end.1)

pub returns-else-may_end : goal.returns-else-may_end
returns-else-may_end c =
    let zero : length c.loop-rest.rest.now ≡ 0 = search rules in
    let none : c.loop-rest.rest.now ≡ [] = nil_from_length c.loop-rest.rest.now zero in
    bad_line (lines_of c.args.text.now) (c.loop-rest.number + 1)
    (too_early c.loop-rest.turn c.loop-rest.number c.loop-rest.rest.now c.args.text.now c.loop-rest.invariant.at none (sym c.may_end.ensures ∙ c.if-may_end.false))
