use Rattle.std.proofs.Common.{◌≡◌, ℕ, List, Some, None, Option, ap, sym, subst, codes}
use Rattle.std.specs.Prelude.{MatchOption}
use Rattle.clap.specs.Words.{Row, Text, first_of, found_of, rows_of}
use Rattle.asl_command_line.specs.Number.{IsNumber}
use Rattle.asl_command_line.specs.Reading.{IsLimit}
use Rattle.asl_command_line.specs.Words.{IsLimitAt}
use Rattle.asl_command_line.proofs.Values.{some_first, none_first, some_value}
use Rattle.asl_command_line.proofs.argument_values.some_k_limit_at.Goals as goal

-- how long paths may be, by the value of `--k`
abbrev IsAt : Option ℕ → Option Text → Type 0
IsAt None o = o ≡ Some (codes "auto")
IsAt (Some k_limit) o = MatchOption o (k_limit ≡ 3) (λ text. IsNumber text k_limit)

limit_at : (k_limit : Option ℕ) (text : Text) → IsLimit text k_limit → IsAt k_limit (Some text)
limit_at None text h = ap (λ t. Some t) h
limit_at (Some k_limit) text h = h

at_limit : (k_limit : Option ℕ) (text : Text) → IsAt k_limit (Some text) → IsLimit text k_limit
at_limit None text h = cc
at_limit (Some k_limit) text h = h

is_limit : (rows : List Row) (k_limit : Option ℕ) → IsAt k_limit (first_of (codes "k") rows) → IsLimitAt rows k_limit
is_limit rows None h = h
is_limit rows (Some k_limit) h = h

of_limit : (rows : List Row) (k_limit : Option ℕ) → IsLimitAt rows k_limit → IsAt k_limit (first_of (codes "k") rows)
of_limit rows None h = h
of_limit rows (Some k_limit) h = h

pub returns-in-Some-limit-clause-ok : goal.returns-in-Some-limit-clause-ok
returns-in-Some-limit-clause-ok c =
    is_limit (rows_of (found_of c.args.values.now)) c.in-Some-limit.k_limit (subst (IsAt c.in-Some-limit.k_limit)
    (sym (some_first (found_of c.args.values.now) (codes "k") c.in-Some.word.now c.in-Some.ensures)) (limit_at c.in-Some-limit.k_limit c.in-Some.word.now c.in-Some-limit.ensures))

pub returns-in-None-limit-clause-err : goal.returns-in-None-limit-clause-err
returns-in-None-limit-clause-err c = λ k_limit short at. c.in-None-limit.ensures k_limit short
    (at_limit k_limit c.in-Some.word.now (subst (IsAt k_limit) (some_first (found_of c.args.values.now) (codes "k") c.in-Some.word.now c.in-Some.ensures) (of_limit (rows_of (found_of c.args.values.now)) k_limit at)))

pub returns-in-None-clause-ok : goal.returns-in-None-clause-ok
returns-in-None-clause-ok c =
    subst (IsAt (Some c.usual.result)) (sym (none_first (found_of c.args.values.now) (codes "k") c.in-None.ensures)) c.usual.ensures

pub returns-in-None-limit-clause-named : goal.returns-in-None-limit-clause-named
returns-in-None-limit-clause-named c = sym (some_value (found_of c.args.values.now) (codes "k") c.in-Some.word.now c.in-Some.ensures)
