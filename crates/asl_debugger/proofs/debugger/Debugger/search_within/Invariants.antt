use Rattle.std.proofs.Common.{◌≡◌}
use Rattle.asl_debugger.specs.Search.{IsFound}
use Rattle.asl_debugger.specs.Computed.{machine_before}
use Rattle.asl_debugger.proofs.debugger.Debugger.search_within.Given as goal

abbrev pub invariant-loop-k : goal.invariant-loop-k
invariant-loop-k g l = record { at : l.machine ≡ machine_before l.self.image l.self.log l.k; found : IsFound l.self l.start l.k l.found }
