-- Tickets and seats, as contracts see them (docs/WORKERS.md, "Tickets").
use Rattle.std.specs.Prelude.{ℕ, List, if◌then◌else◌, nat_lt, nat_eq, count_by}
use Rattle.atomic_table.specs.Seated.{TableId}

-- the word that tickets are drawn from: which table it is in, and the number at which tickets end
pub record Word : Type 0 where
  pub table : TableId
  pub limit : ℕ

-- a seat: the word that it draws from, the passes that it has left and has spent, and its tickets in the order drawn
pub record Turn : Type 0 where
  pub of : Word
  pub left : ℕ
  pub spent : ℕ
  pub tickets : List ℕ

-- the seat of these parts
abbrev pub turn : TableId → ℕ → ℕ → ℕ → List ℕ → Turn
turn table limit left spent tickets =
    record { of = record { table = table; limit = limit }; left = left; spent = spent; tickets = tickets }

-- how often a number is in a list
abbrev pub times : ℕ → List ℕ → ℕ
times number tickets = count_by (λ ticket. nat_eq ticket number) tickets

-- once for a number below the bound, and else not at all
abbrev pub once_below : ℕ → ℕ → ℕ
once_below number bound = if nat_lt number bound then 1 else 0
