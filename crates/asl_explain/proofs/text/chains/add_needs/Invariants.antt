use Rattle.std.proofs.Common.{◌≡◌, ◌++◌, take}
use Rattle.std.specs.List.{filter}
use Rattle.asl_explain.specs.TellingChains.{is_chosen, needs_of}
use Rattle.asl_explain.proofs.text.chains.add_needs.Given as goal

abbrev pub invariant-loop-number : goal.invariant-loop-number
invariant-loop-number l = needs_of l.needs.items ≡ needs_of l.initial.needs.items ++ filter (is_chosen l.own l.lock) (take l.number l.all)
