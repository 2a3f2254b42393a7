use Rattle.std.proofs.Common.{string_bytes}
use Rattle.asl_show.specs.Stack.{frame_text}
use Rattle.asl_show.proofs.Lines.{Written}
use Rattle.asl_show.proofs.stack.push_frames.Given as goal

abbrev pub invariant-loop-index : goal.invariant-loop-index
invariant-loop-index l = Written (frame_text l.machine.state l.t) l.index (256) (string_bytes l.initial.text) (string_bytes l.text)
