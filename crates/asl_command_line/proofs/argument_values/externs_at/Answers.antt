use Rattle.std.proofs.Common.{List, codes, subst, sym}
use Rattle.std.specs.Prelude.{IfOk, IfErr}
use Rattle.clap.specs.Words.{Text, found_of}
use Rattle.clap.specs.Walk.{texts}
use Rattle.asl_command_line.specs.Externs.{AreExterns, IsExternsFault}
use Rattle.asl_command_line.proofs.Values.{some_words, none_words}
use Rattle.asl_command_line.proofs.Externs.{none_are_right}
use Rattle.asl_command_line.proofs.argument_values.externs_at.Goals as goal

pub returns-in-Some-clause-ok : goal.returns-in-Some-clause-ok
returns-in-Some-clause-ok c =
    subst (λ (ws : List Text). IfOk c.externs.result (λ pairs. AreExterns ws pairs.items))
    (sym (some_words (found_of c.args.values.now) (codes "extern") (texts c.in-Some.words.now) c.in-Some.ensures)) c.externs.ensures.ok

pub returns-in-Some-clause-err : goal.returns-in-Some-clause-err
returns-in-Some-clause-err c =
    subst (λ (ws : List Text). IfErr c.externs.result (IsExternsFault ws))
    (sym (some_words (found_of c.args.values.now) (codes "extern") (texts c.in-Some.words.now) c.in-Some.ensures)) c.externs.ensures.err

pub returns-in-None-clause-ok : goal.returns-in-None-clause-ok
returns-in-None-clause-ok c = none_are_right _ _ (none_words (found_of c.args.values.now) (codes "extern") c.in-None.ensures) c.new.ensures.items
