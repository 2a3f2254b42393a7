-- what was copied and what is left are all
use Rattle.std.proofs.Common.{◌≡◌, ◌++◌, drop}
use Rattle.asl_map.proofs.map_names.copies.Given as goal

abbrev pub invariant-loop-name : goal.invariant-loop-name
invariant-loop-name l = l.all.items ++ drop l.name-index l.names ≡ l.names
