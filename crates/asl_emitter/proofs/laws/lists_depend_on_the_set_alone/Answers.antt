use Rattle.asl_lock_expr.specs.Links.{IsOne}
use Rattle.asl_emitter.proofs.Fits.{reduced_one, fitted_one, fitted_short}
use Rattle.asl_emitter.proofs.laws.lists_depend_on_the_set_alone.Goals as goal

pub returns-clause-reduced : goal.returns-clause-reduced
returns-clause-reduced c k f given other xs ys same p q = reduced_one k f (IsOne given) (IsOne other) xs ys same p q

pub returns-clause-fitted : goal.returns-clause-fitted
returns-clause-fitted c k f most given other xs ys same p q = fitted_one k f most (IsOne given) (IsOne other) xs ys same p q

pub returns-clause-short : goal.returns-clause-short
returns-clause-short c k f most given list some p = fitted_short k f most (IsOne given) list some p
