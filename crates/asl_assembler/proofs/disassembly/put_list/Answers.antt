use Rattle.std.proofs.Common.{List}
use Rattle.std.proofs.lemmas.Result.{on_ok_weaker}
use Rattle.asl_code.specs.declared.lock.Lock.{Lock}
use Rattle.asl_assembler.specs.declared.line.Line.TheVariants as line
use Rattle.asl_assembler.specs.Text.{list_lines}
use Rattle.asl_assembler.proofs.Prints.{line_then, lines_mapped, as_one}
use Rattle.asl_assembler.proofs.disassembly.put_list.Goals as goal

pub returns : goal.returns
returns c =
    let old = c.args.text.now.items in
    let mid = c.extend_from_slice.new.self.items in
    let new = c.put_locks.new.text.items in
    on_ok_weaker c.put_locks.result
    (λ w. as_one (List Lock) list_lines old new c.args.locks.now
    (line_then old mid new line.List _ (record { fits = record { fields = (tt, tt); kept = tt }; added = c.in_ok-extend_from_slice.ensures.items }) (lines_mapped Lock line.Lock mid new c.args.locks.now w)))
    c.put_locks.ensures
