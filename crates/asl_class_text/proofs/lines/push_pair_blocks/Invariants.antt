use Rattle.std.proofs.Common.{string_bytes}
use Rattle.asl_class_text.specs.Texts.{pair_block}
use Rattle.asl_class_text.proofs.Made.{Flat}
use Rattle.asl_class_text.proofs.lines.push_pair_blocks.Given as goal

abbrev pub invariant-loop-pair : goal.invariant-loop-pair
invariant-loop-pair l = Flat (pair_block l.facts) l.pairs l.pair-index (string_bytes l.initial.text) (string_bytes l.text)
