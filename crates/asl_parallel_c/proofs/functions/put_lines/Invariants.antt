use Rattle.std.proofs.Common.{◌≡◌, ◌+◌, ◌++◌, drop}
use Rattle.asl_parallel_c.specs.Functions.{lines_from}
use Rattle.asl_parallel_c.proofs.functions.put_lines.Given as goal

-- the place of the next line, and what is left to be written
abbrev pub invariant-loop-instr : goal.invariant-loop-instr
invariant-loop-instr g l = record {
  place : l.at ≡ l.place + l.instr-index;
  written : l.text.items ++ lines_from l.program l.options l.regs l.at (drop l.instr-index l.code) ≡ l.fn.text.items ++ lines_from l.program l.options l.regs l.place l.code;
}
