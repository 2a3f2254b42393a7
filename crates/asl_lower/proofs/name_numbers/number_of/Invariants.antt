-- the number so far and the number in what is left are the number in all
use Rattle.std.proofs.Common.{◌≡◌, ◌+◌, length, drop}
use Rattle.asl_lower.specs.Names.{number_of}
use Rattle.asl_lower.specs.NamesView.{names_of}
use Rattle.asl_lower.proofs.name_numbers.number_of.Given as goal

abbrev pub invariant-loop-other : goal.invariant-loop-other
invariant-loop-other l =
    (l.number + number_of (names_of (drop l.other-index l.names)) l.name ≡ number_of (names_of l.names) l.name)
    × (l.number + length (names_of (drop l.other-index l.names)) ≡ length (names_of l.names))
