use Rattle.std.proofs.Common.{◌≡◌, [], length}
use Rattle.asl_assembler.specs.Words.{words_of}
use Rattle.asl_assembler.specs.Reading.{path_of}
use Rattle.asl_assembler.proofs.line.with_path.Given as goal

-- what is left of the words gives what all of them give
abbrev pub invariant-loop-word : goal.invariant-loop-word
invariant-loop-word l = path_of l.path (words_of l.rest) ≡ path_of [] (words_of l.line)

abbrev pub decreases-loop-word : goal.decreases-loop-word
decreases-loop-word l = length l.rest
