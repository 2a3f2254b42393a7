use Rattle.std.proofs.Common.{◌≡◌, ◌-◌, Bool, true, false, length, take}
use Rattle.std.specs.Prelude.{MatchBool}
use Rattle.asl_command_line.proofs.reading.says_where_help_is.Goals as goal

where_true : (b : Bool) (A B : Type 0) → MatchBool b A B → b ≡ true → A
where_true true A B m e = m
where_true false A B m e = cc

pub returns : goal.returns
returns c = λ e. let found = where_true c.ends_with.result _ _ c.ends_with.ensures.cases e in (take (length c.args.text.now - found.0) c.args.text.now, found.1.1)
