-- What a machine's refusal is to a debugger (docs/JOURNAL.md, "The debugger").
use Rattle.asl_machine.specs.declared.fault.MachineFault.{MachineFault}
use Rattle.asl_machine.specs.declared.fault.MachineFault.TheVariants as machine
use Rattle.asl_debugger.specs.declared.fault.DebugFault.{DebugFault}
use Rattle.asl_debugger.specs.declared.fault.DebugFault.TheVariants as debug

-- the fault of the same name; a debugger steps threads of its journal alone, which are there, so it has no name for
-- another thread
abbrev pub debug_fault : MachineFault → DebugFault
debug_fault machine.BadCount = debug.BadCount
debug_fault machine.BadThread = debug.OutOfMemory
debug_fault machine.OutOfMemory = debug.OutOfMemory
