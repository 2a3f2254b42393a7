-- Machinery of the proofs, not of the promise: which numbers of names of docs/SOURCE.md the code's maps hold
-- (src/item_numbers.rt).
use Rattle.std.specs.Prelude.{◌≡◌, ◌≤◌, ℕ, suc, ◌+◌, List, [], ◌∷◌, length, Some}
use Rattle.asl_syntax.specs.Rules.{Counts, no_count, with_count}
use Rattle.asl_syntax.specs.NumberedNamesView.{counts_in}
use Rattle.asl_syntax.specs.Tree.{Item, globals_of, functions_of}
use Rattle.asl_lower.specs.declared.item_numbers.ItemNumbers as code
use Rattle.asl_lower.specs.Names.{number_of, function_names}

-- the names with their places, from a number on; of equal names the first one counts
abbrev pub numbers_from : ℕ → List (List ℕ) → Counts
numbers_from n [] = no_count
numbers_from n (x ∷ xs) = with_count x n (numbers_from (suc n) xs)

-- a number that is the place of the name
pub record IsPlace (n k : ℕ) (names : List (List ℕ)) (x : List ℕ) : Type 0 where
  pub number : k ≡ n + number_of names x
  pub bound : number_of names x ≤ length names

-- each number beside a name is its place
abbrev pub IsNumbering : Counts → List (List ℕ) → Type 0
IsNumbering m names = (x : List ℕ) (k : ℕ) → m x ≡ Some k → IsPlace 0 k names x

-- the numbers that there are are those of a program's names
pub record AreNumbered (n : code.ItemNumbers) (is : List Item) : Type 0 where
  pub globals : IsNumbering (counts_in n.globals) (globals_of is)
  pub functions : IsNumbering (counts_in n.functions) (function_names (functions_of is))
