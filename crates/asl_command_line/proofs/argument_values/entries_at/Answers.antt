use Rattle.std.proofs.Common.{◌≡◌, ◌∙◌, true, List, [], ap, map, string_bytes, codes, sym, subst, arith}
use Rattle.std.specs.Prelude.{IfErr}
use Rattle.std.specs.List.{All}
use Rattle.std.proofs.lemmas.Result.{IfOk-weaker}
use Rattle.clap.specs.Words.{Text, found_of}
use Rattle.clap.specs.Walk.{texts}
use Rattle.asl_command_line.specs.Reading.{IsEntriesFault}
use Rattle.asl_command_line.specs.Names.{is_name}
use Rattle.asl_command_line.proofs.Values.{some_words, none_words}
use Rattle.asl_command_line.proofs.argument_values.entries_at.Goals as goal

pub returns-in-Some-clause-ok : goal.returns-in-Some-clause-ok
returns-in-Some-clause-ok c =
    IfOk-weaker c.entries.result _ _ (λ v h. (h.0 ∙ sym (some_words (found_of c.args.values.now) (codes "entry") (texts c.in-Some.words.now) c.in-Some.ensures), h.1)) c.entries.ensures.ok

pub returns-in-Some-clause-err : goal.returns-in-Some-clause-err
returns-in-Some-clause-err c =
    subst (λ (ws : List Text). IfErr c.entries.result (IsEntriesFault ws))
    (sym (some_words (found_of c.args.values.now) (codes "entry") (texts c.in-Some.words.now) c.in-Some.ensures)) c.entries.ensures.err

none_are : (es : List Text) → es ≡ [] → All (λ entry. is_name entry ≡ true) es
none_are es none = subst (All (λ entry. is_name entry ≡ true)) (sym none) (λ k d lt. absurd (omega (arith, lt)))

pub returns-in-None-clause-ok : goal.returns-in-None-clause-ok
returns-in-None-clause-ok c =
    let none = ap (map string_bytes) c.new.ensures.items in
    (none ∙ sym (none_words (found_of c.args.values.now) (codes "entry") c.in-None.ensures), none_are _ none)
