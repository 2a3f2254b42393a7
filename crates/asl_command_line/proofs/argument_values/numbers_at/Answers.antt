use Rattle.std.proofs.Common.{sym, subst, List}
use Rattle.std.specs.Prelude.{IfOk, IfErr}
use Rattle.clap.specs.Words.{Text, found_of}
use Rattle.clap.specs.Walk.{texts}
use Rattle.asl_command_line.specs.Number.{AreNumbers}
use Rattle.asl_command_line.specs.Reading.{IsNamedNumber, IsNumbersFault}
use Rattle.asl_command_line.proofs.Numbers.{no_numbers}
use Rattle.asl_command_line.proofs.Values.{some_words, none_words}
use Rattle.asl_command_line.proofs.argument_values.numbers_at.Goals as goal

pub returns-in-Some-clause-ok : goal.returns-in-Some-clause-ok
returns-in-Some-clause-ok c =
    subst (λ (ws : List Text). IfOk c.numbers.result (λ numbers. AreNumbers ws numbers.items))
    (sym (some_words (found_of c.args.values.now) c.args.name.now (texts c.in-Some.words.now) c.in-Some.ensures)) c.numbers.ensures.ok

pub returns-in-Some-clause-err : goal.returns-in-Some-clause-err
returns-in-Some-clause-err c =
    subst (λ (ws : List Text). IfErr c.numbers.result (IsNumbersFault ws))
    (sym (some_words (found_of c.args.values.now) c.args.name.now (texts c.in-Some.words.now) c.in-Some.ensures)) c.numbers.ensures.err

pub returns-in-None-clause-ok : goal.returns-in-None-clause-ok
returns-in-None-clause-ok c =
    subst (λ (ws : List Text). AreNumbers ws c.new.result.items)
    (sym (none_words (found_of c.args.values.now) c.args.name.now c.in-None.ensures)) (no_numbers c.new.result.items c.new.ensures.items)

pub returns-in-Some-clause-named : goal.returns-in-Some-clause-named
returns-in-Some-clause-named c =
    subst (λ (ws : List Text). IfErr c.numbers.result (IsNamedNumber ws))
    (sym (some_words (found_of c.args.values.now) c.args.name.now (texts c.in-Some.words.now) c.in-Some.ensures)) c.numbers.ensures.named
