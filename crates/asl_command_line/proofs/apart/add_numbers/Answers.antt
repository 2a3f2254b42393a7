use Rattle.std.proofs.Common.{string_bytes}
use Rattle.asl_command_line.proofs.ReadApart.{more_added}
use Rattle.asl_command_line.proofs.apart.add_numbers.Goals as goal

pub loop-word-preserved : goal.loop-word-preserved
loop-word-preserved c =
    more_added string_bytes c.args.words.now c.loop-word.word-index c.word-item.result c.as_str.result.now c.args.numbers.now.items c.loop-word.numbers.items c.push.new.self.items
    c.in-Some.number c.loop-word-test.true c.word-item.is c.as_str.ensures.value c.in-Some.ensures c.in_ok-push.ensures.items c.loop-word.invariant
