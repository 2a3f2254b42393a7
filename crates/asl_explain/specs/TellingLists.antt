-- Machinery of the proofs, not of the promise: the table of lists as the code goes through it (src/text/lists.rt).
use Rattle.std.specs.Prelude.{◌≡◌, ◌≤◌, ◌<◌, ◌++◌, ℕ, suc, List, Option, Some, length, slice_get}
use Rattle.asl_code.specs.declared.lock.Lock.{Lock}
use Rattle.asl_backward_flow.specs.declared.region.Region.{Region}
use Rattle.asl_explain.specs.declared.explained_value.Lists.{Lists}
use Rattle.asl_explain.specs.declared.explained_value.Lists.TheVariants.{Inferred, TooManyLocks}
use Rattle.asl_explain.specs.Told.{Given, AreRows}

-- the list of a section, or the region that needs too many locks
pub data ListAt : Type 0 where
  Of : (list : Option (List Lock)) → ListAt
  None : (region : Region) → ListAt

abbrev pub list_at : ℕ → Lists → ListAt
list_at section (Inferred lists) = Of (slice_get lists section)
list_at section (TooManyLocks region) = None region

-- the text so far has rows for the lengths below the first; from there on up to the next length, the lists are the same
pub record RowsSoFar (g : Given) (section first at : ℕ) (old now : List ℕ) : Type 0 where
  pub more : List ℕ
  pub added : now ≡ old ++ more
  pub order : first ≤ at
  pub rows : (ends : List ℕ) (rest : List ℕ) → AreRows g section first ends rest → (all : List ℕ) × AreRows g section 0 all (more ++ rest)
  pub same : (k : ℕ) (lists others : Lists) → first ≤ k → k < at → slice_get g.by_length k ≡ Some lists → slice_get g.by_length (suc k) ≡ Some others → list_at section lists ≡ list_at section others
  pub whole : length g.by_length ≤ at → first ≡ at
