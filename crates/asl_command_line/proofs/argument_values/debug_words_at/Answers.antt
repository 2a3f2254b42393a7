use Rattle.std.proofs.Common.{sym, subst, List, codes}
use Rattle.std.specs.Prelude.{IfOk, IfErr}
use Rattle.clap.specs.Words.{Text, found_of, rows_of}
use Rattle.clap.specs.Walk.{texts}
use Rattle.asl_command_line.specs.declared.debug_word.DebugWord.{DebugWord}
use Rattle.asl_command_line.specs.Words.{AreDebugWords, words_at}
use Rattle.asl_command_line.specs.Reading.{IsDebugWordsFault, IsNamedWord}
use Rattle.asl_command_line.proofs.Values.{some_words, none_words}
use Rattle.asl_command_line.proofs.argument_values.debug_words_at.Goals as goal

pub returns-in-Some-clause-ok : goal.returns-in-Some-clause-ok
returns-in-Some-clause-ok c =
    subst (λ (ws : List Text). IfOk c.debug_words.result (λ words. AreDebugWords ws words.items))
    (sym (some_words (found_of c.args.values.now) (codes "words") (texts c.in-Some.words.now) c.in-Some.ensures)) c.debug_words.ensures.ok

pub returns-in-Some-clause-err : goal.returns-in-Some-clause-err
returns-in-Some-clause-err c =
    subst (λ (ws : List Text). IfErr c.debug_words.result (IsDebugWordsFault ws))
    (sym (some_words (found_of c.args.values.now) (codes "words") (texts c.in-Some.words.now) c.in-Some.ensures)) c.debug_words.ensures.err

pub returns-in-None-clause-ok : goal.returns-in-None-clause-ok
returns-in-None-clause-ok c =
    let none = none_words (found_of c.args.values.now) (codes "words") c.in-None.ensures in
    subst (λ (words : List DebugWord). AreDebugWords (words_at (codes "words") (rows_of (found_of c.args.values.now))) words) (sym c.new.ensures.items) none

pub returns-in-Some-clause-named : goal.returns-in-Some-clause-named
returns-in-Some-clause-named c =
    subst (λ (ws : List Text). IfErr c.debug_words.result (IsNamedWord ws))
    (sym (some_words (found_of c.args.values.now) (codes "words") (texts c.in-Some.words.now) c.in-Some.ensures)) c.debug_words.ensures.named
