use Rattle.std.proofs.Common.{◌≡◌, ◌++◌, take, map}
use Rattle.asl_explain.specs.declared.explained_value.Chain.{Chain}
use Rattle.asl_explain.specs.TellingChains.{under_of}
use Rattle.asl_explain.proofs.text.chains.add_chains.Given as goal

abbrev pub invariant-loop-chain : goal.invariant-loop-chain
invariant-loop-chain l = under_of l.found.items ≡ under_of l.initial.found.items ++ map (λ (c : Chain). record { need = l.need; chain = c }) (take l.chain-index l.chain-items)
