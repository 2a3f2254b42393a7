-- Machinery of the proofs, not of the promise: the rows of leaves, what a slab and an index of its keys tell of
-- each leaf (docs/LOCKS.md, "Lawful holdings").
use Rattle.std.specs.Prelude.{ℕ, Bool, ◌≡◌, ◌≢◌, ◌≤◌, ◌&&◌, nat_eq, List, replicate, length, Option, None, Some, unwrap_or}
use Rattle.slab.specs.Slab as slab
use Rattle.indexmap.specs.IndexMap as index
use Rattle.asl_code.specs.Versions.{newest_threads}
use Rattle.asl_mode_lanes.specs.Row.{IsRow}
use Rattle.asl_lock_forest.specs.declared.leaves.Leaves.{Leaves}

-- a leaf: an object, a place in it and a class
abbrev pub Leaf : Type 0
Leaf = ℕ × ℕ × ℕ

-- whether two leaves are the same in all three parts
abbrev pub leaf_eq : Leaf → Leaf → Bool
leaf_eq a b = (nat_eq a.0 b.0 && nat_eq a.1 b.1) && nat_eq a.2 b.2

-- for how many threads a row has a code
abbrev pub width : ℕ
width = newest_threads

-- a row in which no thread holds anything
abbrev pub zeros : List ℕ
zeros = replicate width 0

-- a row of so many codes
abbrev pub IsWhole : List ℕ → Type 0
IsWhole row = (length row ≡ width) × IsRow row

-- the row under a key, if there is one
abbrev pub row_under : Leaves → Option ℕ → List ℕ
row_under leaves None = zeros
row_under leaves (Some key) = unwrap_or (slab.get leaves.rows key) zeros

-- the key of the leaf's row
abbrev pub key_of_leaf : Leaves → Leaf → Option ℕ
key_of_leaf leaves leaf = index.get leaf_eq leaves.index leaf

-- the row of a leaf
abbrev pub leaf_row : Leaves → Leaf → List ℕ
leaf_row leaves leaf = row_under leaves (key_of_leaf leaves leaf)

-- a row of so many codes, not all of NL
pub record IsHeldRow (row : List ℕ) : Type 0 where
  pub len : length row ≡ width
  pub codes : IsRow row
  pub some : row ≢ zeros

-- each leaf in the index has a row of its own in the slab, and the slab has no other
pub record IsKept (leaves : Leaves) : Type 0 where
  pub there : (leaf : Leaf) (key : ℕ) → key_of_leaf leaves leaf ≡ Some key
      → (row : List ℕ) × ((slab.get leaves.rows key ≡ Some row) × IsHeldRow row)
  pub apart : (a b : Leaf) (key : ℕ) → key_of_leaf leaves a ≡ Some key → key_of_leaf leaves b ≡ Some key → a ≡ b
  pub count : index.index_map_len leaves.index ≡ slab.slab_len leaves.rows

-- so many more rows fit with no allocation
pub record HasRoom (leaves : Leaves) (more : ℕ) : Type 0 where
  pub rows : slab.HasRoomFor leaves.rows more
  pub index : more ≤ index.spare leaves.index

-- every leaf keeps its row
abbrev pub SameLeaves : Leaves → Leaves → Type 0
SameLeaves old new = (leaf : Leaf) → leaf_row new leaf ≡ leaf_row old leaf

-- no leaf is held
abbrev pub IsBare : Leaves → Type 0
IsBare leaves = (leaf : Leaf) → leaf_row leaves leaf ≡ zeros
