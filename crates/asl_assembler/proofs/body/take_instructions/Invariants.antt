use Rattle.std.proofs.Common.{◌≡◌, ◌+◌, ◌≤◌, length}
use Rattle.asl_assembler.specs.Words.{lines_of}
use Rattle.asl_assembler.specs.Reading.{image_from}
use Rattle.asl_assembler.specs.declared.image_draft.Place.TheVariants.{Body}
use Rattle.asl_assembler.proofs.body.take_instructions.Given as goal

-- what is left gives what the whole text gives
abbrev pub invariant-loop-image : goal.invariant-loop-image
invariant-loop-image l = record {
  same : image_from l.number (Body l.function) l.image (lines_of l.rest) ≡ image_from l.fn.number (Body l.fn.function) l.fn.image (lines_of l.text);
  shorter : length l.rest ≤ length l.text;
  counted : l.number + length l.rest ≤ l.fn.number + length l.text;
}

abbrev pub decreases-loop-image : goal.decreases-loop-image
decreases-loop-image l = length l.rest
