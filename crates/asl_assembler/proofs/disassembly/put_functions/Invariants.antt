use Rattle.std.proofs.Common.{◌≡◌, take, drop}
use Rattle.asl_code.specs.Bodies.{total_len}
use Rattle.asl_assembler.specs.Text.{Body}
use Rattle.asl_assembler.specs.Canonical.{bodies}
use Rattle.asl_assembler.specs.Writing.{WritesEach, FitsBodyLines, body_text}
use Rattle.asl_assembler.proofs.disassembly.put_functions.Given as goal

-- the functions so far are written, and the code after their bodies is left
abbrev pub invariant-loop-function : goal.invariant-loop-function
invariant-loop-function l = record {
  rest : l.rest ≡ drop (total_len (take l.function-index l.functions)) l.code;
  written : WritesEach Body FitsBodyLines body_text l.initial.text.items l.text.items (bodies (take l.function-index l.functions) l.code);
}
