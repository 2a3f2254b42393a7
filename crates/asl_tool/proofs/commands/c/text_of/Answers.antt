use Rattle.asl_tool.proofs.Printing.{unknown_of}
use Rattle.asl_tool.proofs.commands.c.text_of.Goals as goal

pub returns-in-Err-clause-err : goal.returns-in-Err-clause-err
returns-in-Err-clause-err c = unknown_of c.args.source.now c.in-Ok.map c.args.externs.now _ c.in-Ok.ensures.mapped c.in-Err.ensures.err

pub returns-in-Ok-put_program-clause-ok : goal.returns-in-Ok-put_program-clause-ok
returns-in-Ok-put_program-clause-ok c = record {
  is = c.in-Ok.map;
  mapped = c.in-Ok.ensures.mapped;
  options = c.in-Ok-options_of.options;
  are_options = c.in-Ok-options_of.ensures.ok;
  written = rw c.new-text.ensures.items at c.in-Ok-put_program.ensures.written;
}
