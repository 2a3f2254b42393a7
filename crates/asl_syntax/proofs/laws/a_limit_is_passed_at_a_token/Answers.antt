use Rattle.asl_syntax.proofs.LimitPlaces.{first_over, all_kept}
use Rattle.asl_syntax.proofs.laws.a_limit_is_passed_at_a_token.Goals as goal

pub returns-clause-passed : goal.returns-clause-passed
returns-clause-passed c = first_over

pub returns-clause-kept : goal.returns-clause-kept
returns-clause-kept c = all_kept
