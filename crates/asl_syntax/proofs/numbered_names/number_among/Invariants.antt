-- what is left gives the answer
use Rattle.std.proofs.Common.{◌≡◌, drop}
use Rattle.asl_syntax.specs.NumberedNamesView.{number_among}
use Rattle.asl_syntax.proofs.numbered_names.number_among.Given as goal

abbrev pub invariant-loop-bytes : goal.invariant-loop-bytes
invariant-loop-bytes l = number_among (drop l.bytes-index l.names) l.name ≡ number_among l.names l.name
