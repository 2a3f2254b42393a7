use Rattle.std.proofs.Common.{string_bytes}
use Rattle.asl_tool.proofs.Traces.{HasTraced}
use Rattle.asl_tool.proofs.commands.log.traced.Given as goal

abbrev pub invariant-loop-number : goal.invariant-loop-number
invariant-loop-number l = HasTraced l.program l.threads l.events l.machine l.number (string_bytes l.text)
