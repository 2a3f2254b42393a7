-- What a machine's refusal is to a journal (docs/JOURNAL.md, "Refusals").
use Rattle.asl_machine.specs.declared.fault.MachineFault.{MachineFault}
use Rattle.asl_machine.specs.declared.fault.MachineFault.TheVariants as machine
use Rattle.asl_journal.specs.declared.fault.JournalFault.{JournalFault}
use Rattle.asl_journal.specs.declared.fault.JournalFault.TheVariants as journal

-- the fault of the same name
abbrev pub journal_fault : MachineFault → JournalFault
journal_fault machine.BadCount = journal.BadCount
journal_fault machine.BadThread = journal.BadThread
journal_fault machine.OutOfMemory = journal.OutOfMemory
