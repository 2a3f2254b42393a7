use Rattle.std.proofs.Common.{◌≡◌, ◌<◌, take}
use Rattle.asl_diagnose_text.specs.Position.{line_behind}
use Rattle.asl_diagnose_text.proofs.text_lines.line_begin.Given as goal

abbrev pub invariant-loop-i : goal.invariant-loop-i
invariant-loop-i l =
    record { line : l.line ≡ line_behind (take l.i l.text); later : 0 < l.number → l.line < l.number }
