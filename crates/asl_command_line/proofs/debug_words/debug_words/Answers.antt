use Rattle.std.proofs.Common.{rules, ◌≡◌, ◌++◌, ◌∷◌, []}
use Rattle.std.proofs.lemmas.Result.{err_from_is_err_and}
use Rattle.asl_command_line.proofs.Named.{named_of_all}
use Rattle.asl_command_line.proofs.Talks.{more_first_words, rest_asks, fault_of_all}
use Rattle.asl_command_line.proofs.debug_words.debug_words.Goals as goal

pub returns-in_err-word-clause-err : goal.returns-in_err-word-clause-err
returns-in_err-word-clause-err c =
    let p = err_from_is_err_and c.from_residual.result c.from_residual.ensures.1 in
    rw (p.1, p.2) (fault_of_all c.args.all.now c.loop-done.done c.in_err-word.field-0.0 c.in_err-word.ensures.err c.loop-done.invariant.2)

pub loop-done-preserved : goal.loop-done-preserved
loop-done-preserved c =
    let pushed : c.push.new.self.items ≡ c.loop-done.words.items ++ c.in_ok-word.word ∷ [] = search rules in
    let more =
    more_first_words c.args.all.now c.loop-done.done c.in_ok-word.count c.loop-done.words.items c.push.new.self.items c.in_ok-word.word
    c.loop-done.invariant.0 c.in_ok-word.ensures.some.1 c.loop-done.invariant.1 c.in_ok-word.ensures.front pushed in (
      more.0,
      more.1,
      rest_asks c.args.all.now c.loop-done.done c.in_ok-word.count c.in_ok-word.word c.loop-done.invariant.0 c.in_ok-word.ensures.some.1
          c.in_ok-word.ensures.front c.loop-done.invariant.2,
    )

pub returns-in_err-word-clause-named : goal.returns-in_err-word-clause-named
returns-in_err-word-clause-named c =
    let p = err_from_is_err_and c.from_residual.result c.from_residual.ensures.1 in
    rw (p.1, p.2) (named_of_all c.args.all.now c.loop-done.done c.loop-done.words.items c.loop-done.invariant.1 c.in_err-word.field-0.0 c.in_err-word.ensures.named)
