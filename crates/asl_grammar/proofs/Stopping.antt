-- Where the automaton without trees stops.
use Rattle.std.proofs.Common.{ℕ, List, [], ◌∷◌, Option, Some, None}
use Rattle.asl_grammar.specs.Token.{Spot}
use Rattle.asl_grammar.specs.Seen.{Place, next_place, fault_at_end}

-- the place itself, or what is answered after a token
abbrev pub fault_with : Option Place → ℕ → (Place → Option ℕ) → Option ℕ
fault_with None at go = Some at
fault_with (Some p) at go = go p

-- the place where tokens stop being the beginning of a program, from a place on
abbrev pub fault_from : Place → List Spot → ℕ → Option ℕ
fault_from p [] end = fault_at_end p.control end
fault_from p (s ∷ ss) end = fault_with (next_place p s.token) s.at (λ q. fault_from q ss end)
