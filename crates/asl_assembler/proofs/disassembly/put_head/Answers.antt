use Rattle.std.proofs.lemmas.Result.{on_ok_weaker}
use Rattle.asl_assembler.proofs.Prints.{head_written}
use Rattle.asl_assembler.proofs.disassembly.put_head.Goals as goal

pub returns : goal.returns
returns c =
    on_ok_weaker c.add_to.result
    (λ w. head_written c.args.text.now.items c.add_to.new.text.items c.args.version c.args.classes c.requires.version c.requires.classes (rw c.head_lines-lines.ensures at w))
    c.add_to.ensures
