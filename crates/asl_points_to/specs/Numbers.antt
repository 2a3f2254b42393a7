-- Machinery of the proofs, not of the promise: the numbers of classes, as src/class_numbers.rt gives them.
use Rattle.std.specs.Prelude.{◌≡◌, ◌<◌, ℕ, List, length, Option, Some, map, option_map, slice_get, slice_index}
use Rattle.std.specs.List.{range_with_len}
use Rattle.asl_points_to.specs.Classes.{AreNumbered, some_at}

-- the numbers of the classes of the members, and the first member of each class, where the members have these first members
pub record AreNumbers (sets numbers firsts : List ℕ) : Type 0 where
  pub len : length numbers ≡ length sets
  pub back : (m : ℕ) → m < length sets → slice_get firsts (slice_index numbers m) ≡ Some (slice_index sets m)
  pub on : (k m : ℕ) → slice_get firsts k ≡ Some m → (m < length sets) × (slice_index numbers m ≡ k)
  pub numbered : AreNumbered (length firsts) 0 numbers

-- the number of the class of a member, if there is one
abbrev pub numbered : List ℕ → Option ℕ → Option ℕ
numbered numbers m = option_map (slice_index numbers) m

-- the classes to which the cells of the classes point
abbrev pub numbered_cells : List ℕ → List (Option ℕ) → List ℕ → List (Option ℕ)
numbered_cells numbers cells firsts = map (λ m. numbered numbers (some_at cells m)) firsts

-- the classes to which so many registers of a row point
abbrev pub numbered_row : List ℕ → List (Option ℕ) → ℕ → List (Option ℕ)
numbered_row numbers row registers =
    map (λ r. numbered numbers (some_at row r)) (range_with_len 0 registers)
