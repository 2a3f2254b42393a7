use Rattle.std.proofs.Common.{◌≡◌, take}
use Rattle.std.specs.List.{flat_map}
use Rattle.asl_explain.specs.declared.text.chains.Numbered.{Numbered}
use Rattle.asl_explain.specs.Told.{chains_of}
use Rattle.asl_explain.specs.TellingChains.{under_of}
use Rattle.asl_explain.proofs.text.chains.chains_under.Given as goal

abbrev pub invariant-loop-one : goal.invariant-loop-one
invariant-loop-one l = under_of l.found.items ≡ flat_map (λ (n : Numbered). chains_of n.need.now) (take l.one-index l.one-items)
