use Rattle.std.proofs.Common.{length, take, drop, ◌-◌, ◌≤◌, List}
use Rattle.clap.specs.Walk.{texts}
use Rattle.asl_command_line.specs.declared.debug_word.DebugWord.{DebugWord}
use Rattle.asl_command_line.specs.Words.{AreDebugWords}
use Rattle.asl_command_line.proofs.debug_words.debug_words.Given as goal

abbrev pub invariant-loop-done : goal.invariant-loop-done
invariant-loop-done l = (l.done ≤ length l.all) × AreDebugWords (texts (take l.done l.all)) l.words.items
    × ((words : List DebugWord) → AreDebugWords (texts l.all) words → (more : List DebugWord) × AreDebugWords (texts (drop l.done l.all)) more)

abbrev pub decreases-loop-done : goal.decreases-loop-done
decreases-loop-done l = length l.all - l.done
