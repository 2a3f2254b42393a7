use Rattle.std.proofs.Common.{rules, ◌≡◌, ◌++◌, ◌∷◌, []}
use Rattle.asl_command_line.proofs.Numbers.{more_first_numbers, one_is_none}
use Rattle.asl_command_line.proofs.number_words.numbers.Goals as goal

pub returns-in_default-clause-err : goal.returns-in_default-clause-err
returns-in_default-clause-err c = one_is_none c.args.words.now c.loop-word.word-index _ c.loop-word-test.true c.in_default.ensures

pub loop-word-preserved : goal.loop-word-preserved
loop-word-preserved c =
    let pushed : c.push.new.self.items ≡ c.loop-word.numbers.items ++ c.in-Some.number ∷ [] = search rules in
    more_first_numbers c.args.words.now c.loop-word.word-index _ c.loop-word.numbers.items c.push.new.self.items c.in-Some.number
    c.loop-word-test.true c.loop-word.invariant c.in-Some.ensures pushed
