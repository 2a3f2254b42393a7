-- nothing is changed, and none of those so far is the name
use Rattle.std.proofs.Common.{◌≡◌, take, None}
use Rattle.asl_syntax.specs.NumberedNamesView.{number_among}
use Rattle.asl_syntax.proofs.numbered_names.renumber.Given as goal

abbrev pub invariant-loop-i : goal.invariant-loop-i
invariant-loop-i l = record { same : l.names ≡ l.fn.names; none : number_among (take l.i l.names) l.name ≡ None }
