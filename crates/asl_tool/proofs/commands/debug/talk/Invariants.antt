use Rattle.std.proofs.Common.{string_bytes}
use Rattle.asl_tool.proofs.Sessions.{Told}
use Rattle.asl_tool.proofs.commands.debug.talk.Given as goal

abbrev pub invariant-loop-word : goal.invariant-loop-word
invariant-loop-word l = Told l.initial.debugger l.debugger l.words l.word-index (string_bytes l.text)
