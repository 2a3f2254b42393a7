use Rattle.std.proofs.Common.{◌≡◌, ◌+◌, ◌≤◌, length}
use Rattle.asl_assembler.specs.Words.{lines_of}
use Rattle.asl_assembler.specs.Reading.{image_from, blank_image}
use Rattle.asl_assembler.specs.declared.image_draft.Place.TheVariants.{Version}
use Rattle.asl_assembler.proofs.read.read.Given as goal

-- what is left gives what the whole text gives
abbrev pub invariant-loop-rest : goal.invariant-loop-rest
invariant-loop-rest l = record {
  same : image_from l.number l.place l.image (lines_of l.rest) ≡ image_from 0 Version blank_image (lines_of l.text);
  counted : l.number + length l.rest ≤ length l.text;
}

abbrev pub decreases-loop-rest : goal.decreases-loop-rest
decreases-loop-rest l = length l.rest
