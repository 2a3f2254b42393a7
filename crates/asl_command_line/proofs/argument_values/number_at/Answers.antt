use Rattle.std.proofs.Common.{sym, subst, Option}
use Rattle.std.specs.Prelude.{IsSomeAnd}
use Rattle.clap.specs.Words.{Text, found_of}
use Rattle.asl_command_line.specs.Number.{IsNumber}
use Rattle.asl_command_line.proofs.Values.{some_first, none_first, some_value, none_value}
use Rattle.asl_command_line.proofs.argument_values.number_at.Goals as goal

pub returns-in-Some-number-clause-ok : goal.returns-in-Some-number-clause-ok
returns-in-Some-number-clause-ok c =
    subst (λ (o : Option Text). IsSomeAnd o (λ text. IsNumber text c.in-Some-number.number))
    (sym (some_first (found_of c.args.values.now) c.args.name.now c.in-Some.word.now c.in-Some.ensures)) c.in-Some-number.ensures

pub returns-in-None-number-clause-err : goal.returns-in-None-number-clause-err
returns-in-None-number-clause-err c = λ number at. c.in-None-number.ensures number
    (subst (λ (o : Option Text). IsSomeAnd o (λ text. IsNumber text number))
    (some_first (found_of c.args.values.now) c.args.name.now c.in-Some.word.now c.in-Some.ensures) at)

pub returns-in-None-clause-err : goal.returns-in-None-clause-err
returns-in-None-clause-err c = λ number at.
    subst (λ (o : Option Text). IsSomeAnd o (λ text. IsNumber text number))
    (none_first (found_of c.args.values.now) c.args.name.now c.in-None.ensures) at

pub returns-in-None-number-clause-named : goal.returns-in-None-number-clause-named
returns-in-None-number-clause-named c = sym (some_value (found_of c.args.values.now) c.args.name.now c.in-Some.word.now c.in-Some.ensures)

pub returns-in-None-clause-named : goal.returns-in-None-clause-named
returns-in-None-clause-named c = sym (none_value (found_of c.args.values.now) c.args.name.now c.in-None.ensures)
