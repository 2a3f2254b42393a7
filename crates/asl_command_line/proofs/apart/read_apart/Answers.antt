use Rattle.std.proofs.Common.{map, string_bytes, subst}
use Rattle.asl_command_line.specs.Words.{AsksFor}
use Rattle.asl_command_line.specs.declared.command.Invocation.TheVariants.{Alone}
use Rattle.asl_command_line.proofs.ReadApart.{apart_by}
use Rattle.asl_command_line.proofs.apart.read_apart.Goals as goal

pub returns-then-branch : goal.returns-then-branch
returns-then-branch c =
    let read = c.in-Alone-Step in
    let front = map string_bytes c.split_at.result.0.now in
    let asked = subst (λ cmd. AsksFor front (Alone cmd)) read.field-0-is (subst (AsksFor front) read.is c.in_ok-threads.ensures) in
    apart_by string_bytes c.args.words.now c.split_at.result.0.now c.split_at.result.1.now c.in-Some.count read.threads read.schedule c.add_numbers.new.numbers read.record
    c.split_at.ensures.front c.split_at.ensures.back c.in-Some.ensures (c.in_ok-add_numbers-in-Alone-Step.ensures c.if-branch.true) asked
