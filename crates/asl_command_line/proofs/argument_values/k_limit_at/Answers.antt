use Rattle.std.proofs.Common.{◌≡◌, ℕ, sym, subst, codes, Option}
use Rattle.std.specs.Prelude.{MatchOption}
use Rattle.clap.specs.Words.{Text, found_of}
use Rattle.asl_command_line.specs.Number.{IsNumber}
use Rattle.asl_command_line.proofs.Values.{some_first, none_first, some_value}
use Rattle.asl_command_line.proofs.argument_values.k_limit_at.Goals as goal

-- how long paths may be, by the value of `--k`
abbrev IsLength : ℕ → Option Text → Type 0
IsLength k_limit o = MatchOption o (k_limit ≡ 3) (λ text. IsNumber text k_limit)

pub returns-in-Some-length-clause-ok : goal.returns-in-Some-length-clause-ok
returns-in-Some-length-clause-ok c =
    subst (IsLength c.in-Some-length.k_limit)
    (sym (some_first (found_of c.args.values.now) (codes "k") c.in-Some.word.now c.in-Some.ensures)) c.in-Some-length.ensures

pub returns-in-None-length-clause-err : goal.returns-in-None-length-clause-err
returns-in-None-length-clause-err c = λ k_limit short at. c.in-None-length.ensures k_limit short
    (subst (IsLength k_limit) (some_first (found_of c.args.values.now) (codes "k") c.in-Some.word.now c.in-Some.ensures) at)

pub returns-in-None-clause-ok : goal.returns-in-None-clause-ok
returns-in-None-clause-ok c =
    subst (IsLength c.usual.result) (sym (none_first (found_of c.args.values.now) (codes "k") c.in-None.ensures)) c.usual.ensures

pub returns-in-None-length-clause-named : goal.returns-in-None-length-clause-named
returns-in-None-length-clause-named c = sym (some_value (found_of c.args.values.now) (codes "k") c.in-Some.word.now c.in-Some.ensures)
