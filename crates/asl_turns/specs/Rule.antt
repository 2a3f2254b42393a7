-- The rule of the shared word (docs/WORKERS.md, "Tickets"): what the word and the seats' hands have to do with one another.
use Rattle.std.specs.Prelude.{◌≡◌, ℕ, ◌+◌, ◌-◌, ◌<◌, ◌≤◌, ◌⊎◌, List, [], ◌∷◌, ◌++◌, if◌then◌else◌, nat_lt, min, sum_by}
use mathlib.Core.Option.{some}
use lib.ListN.{get_elem?}
use Rattle.atomic_table.specs.Table.{State, Me, Step}
use Rattle.asl_turns.specs.declared.rule.Hand.{Hand}
use Rattle.asl_turns.specs.Turn.{times, once_below}

-- a hand, from its limit, its passes left and spent, and its tickets
abbrev pub hand : ℕ → ℕ → ℕ → List ℕ → Hand
hand limit left spent tickets = record { limit = limit; left = left; spent = spent; tickets = tickets }

-- the first seat has 64 passes and no ticket
abbrev pub first_hand : ℕ → Hand
first_hand limit = hand limit 64 0 []

-- all passes of a hand, left and spent
abbrev pub passes : Hand → ℕ
passes v = v.left + v.spent

-- what a seat is left with that was joined to another
abbrev pub nothing_left : Hand
nothing_left = hand 0 0 0 []

-- a hand is of the limit and has a pass, left or spent; or its seat was joined to another
abbrev pub IsOf : ℕ → Hand → Type 0
IsOf limit v = ((0 < passes v) × (v.limit ≡ limit)) ⊎ (v ≡ nothing_left)

-- where the word is at a number: the tickets of all hands are the numbers below the lesser of word and limit, each once;
-- there are 64 passes, and those spent are the word's excess over the limit
pub record IsBalanced (limit word : ℕ) (hands : List Hand) : Type 0 where
  pub of : (k : ℕ) (v : Hand) → get_elem? hands k ≡ some v → IsOf limit v
  pub drawn : (number : ℕ) → sum_by (λ (v : Hand). times number v.tickets) hands ≡ once_below number (min word limit)
  pub all : sum_by passes hands ≡ 64
  pub over : sum_by (λ (v : Hand). v.spent) hands ≡ word - limit

-- there is one word, and it is in balance with the hands
abbrev pub IsTicketed : ℕ → State (Unit {0}) Hand → Type 0
IsTicketed limit s = (limit ≤ 16777216) × ((word : ℕ) × (s.words ≡ word ∷ []) × IsBalanced limit word s.views)

-- a hand after a draw that found the number: below the limit one ticket more, else a pass goes from left to spent
abbrev pub after_draw : ℕ → Hand → Hand
after_draw found v =
    if nat_lt found v.limit then hand v.limit v.left v.spent (v.tickets ++ found ∷ [])
    else hand v.limit (v.left - 1) (v.spent + 1) v.tickets

-- what a draw that found the number makes of the hand; the rest of what the seat knows stays
abbrev pub Drawn : Step (Unit {0}) → Me (Unit {0}) Hand → ℕ → Me (Unit {0}) Hand → Type 0
Drawn s me found now = now ≡ (after_draw found me.0, me.1)

-- a look changes nothing, and shows that no hand has more than all passes
abbrev pub Looked : Step (Unit {0}) → Me (Unit {0}) Hand → ℕ → Me (Unit {0}) Hand → Type 0
Looked s me found now = (now ≡ me) × (me.0.left ≤ 64)

-- a split moves one of the passes left
abbrev pub one_pass_less : Hand → Hand
one_pass_less v = hand v.limit (v.left - 1) v.spent v.tickets

-- the hand of the new seat after a split: one pass left, and no ticket
abbrev pub one_pass : Hand → Hand
one_pass v = hand v.limit 1 0 []

-- a join moves all that the other has
abbrev pub together : Hand → Hand → Hand
together v w = hand v.limit (v.left + w.left) (v.spent + w.spent) (v.tickets ++ w.tickets)
