-- Why a journal is not opened (docs/JOURNAL.md, "The debugger").
use Rattle.std.specs.Prelude.{◌<◌, ◌≤◌}
use Rattle.asl_code.specs.Versions.{most_threads}
use Rattle.asl_code.specs.declared.image.Image.{Image}
use Rattle.asl_journal.specs.Journal.{Log}
use Rattle.asl_journal.specs.Replay.{DiffersAt}
use Rattle.asl_debugger.specs.declared.fault.DebugFault.{DebugFault}
use Rattle.asl_debugger.specs.declared.fault.DebugFault.TheVariants.{BadCount, Differs, OutOfMemory}

-- that the program cannot start so many threads; else the first event that differs from its run, or running out of memory
abbrev pub IsOpenFault : Image → Log → DebugFault → Type 0
IsOpenFault image log BadCount = most_threads image.version < log.threads
IsOpenFault image log (Differs index) = (log.threads ≤ most_threads image.version) × DiffersAt image log.threads log.events index
IsOpenFault image log OutOfMemory = log.threads ≤ most_threads image.version
IsOpenFault image log fault = ⊥
