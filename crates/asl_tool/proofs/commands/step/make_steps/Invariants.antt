use Rattle.std.proofs.Common.{◌≡◌, ◌+◌, ◌++◌, length, take}
use Rattle.asl_journal.specs.Journal.{schedule_of}
use Rattle.asl_tool.proofs.commands.step.make_steps.Given as goal

-- the steps so far are made
abbrev pub invariant-loop-thread : goal.invariant-loop-thread
invariant-loop-thread l = record {
  image : l.journaled.image ≡ l.initial.journaled.image;
  count : l.journaled.count ≡ l.initial.journaled.count;
  made : schedule_of l.journaled.events ≡ schedule_of l.initial.journaled.events ++ take l.thread-index l.schedule;
  length_is : length l.journaled.events ≡ length l.initial.journaled.events + l.thread-index;
}
