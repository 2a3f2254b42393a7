-- What tokens build: within the limits, and whether they pass limits or not.
use Rattle.std.proofs.Common.{ℕ, List, [], ◌∷◌, Option, Some, None, if◌then◌else◌}
use Rattle.asl_grammar.specs.Token.{Spot}
use Rattle.asl_grammar.specs.Automaton.{Control}
use Rattle.asl_syntax.specs.Tree.{Item}
use Rattle.asl_syntax.specs.Limit.{Tally, is_over}
use Rattle.asl_syntax.specs.Tallied.{noted}
use Rattle.asl_syntax.specs.Built.{Stack, State, next, whole_at}

-- continues from a state, if there is one
abbrev pub built_with : Option State → (Control → Stack → Option (List Item)) → Option (List Item)
built_with None go = None
built_with (Some w) go = go w.control w.stack

-- the items that the tokens build, from a state on
abbrev pub built_from : Control → Stack → List Spot → Option (List Item)
built_from c s [] = whole_at c s
built_from c s (x ∷ xs) = built_with (next c s x.token) (λ d r. built_from d r xs)

-- the items, where the text ends and not at a place where no token stands
abbrev pub whole_text : Control → Stack → Option ℕ → Option (List Item)
whole_text c s None = whole_at c s
whole_text c s (Some at) = None

-- the items that are built from a tally and a state on, up to the end of the text, if no token passes a limit before
abbrev pub read_from : Tally → Control → Stack → List Spot → Option ℕ → Option (List Item)
read_from y c s [] bad = whole_text c s bad
read_from y c s (x ∷ xs) bad =
    if is_over y x.token then None else built_with (next c s x.token) (λ d r. read_from (noted y x.token) d r xs bad)
