-- Machinery of the proofs, not of the promise: the accesses and the calls of a program outside its sections, as
-- src/outside.rt finds them in the tree. What contracts promise are `IsBare` and `IsFirstBareAccess` of specs/OpenSections.
use Rattle.std.specs.Prelude.{◌≡◌, ℕ, suc, ◌+◌, ◌<◌, ◌⊎◌, Bool, IsTrue, List, [], ◌∷◌, ◌++◌, length, Option, Some, None}
use Rattle.asl_syntax.specs.Tree.{Value, LoadValue, CallValue, Statement, AssignStatement, StoreStatement, OutStatement, IfStatement, WhileStatement, AtomicStatement, Block, NoMore, Then}
use Rattle.asl_lower.specs.Names.{number_of}
use Rattle.asl_lower.specs.Size.{stmt_size, block_size}
use Rattle.asl_lower.specs.OpenSections.{is_among}
use Rattle.asl_lower.specs.Reach.{IsMarked, KeepsMarks}

-- the first, or else the second
abbrev pub or_else : Option ℕ → Option ℕ → Option ℕ
or_else None other = other
or_else (Some pc) other = Some pc

-- the pc of the first access outside sections, where the code of a value, a statement or a block begins at a pc
abbrev pub value_access : Value → ℕ → Option ℕ
value_access (LoadValue y) pc = Some pc
value_access v pc = None

abbrev mutual
  pub stmt_access : Statement → ℕ → Option ℕ
  stmt_access (AssignStatement x v) pc = value_access v pc
  stmt_access (StoreStatement x y) pc = Some pc
  stmt_access (OutStatement x) pc = None
  stmt_access (IfStatement x a e) pc = or_else (block_access a (suc pc)) (else_access e (suc pc + block_size a))
  stmt_access (WhileStatement x a) pc = block_access a (suc pc)
  stmt_access (AtomicStatement a) pc = None

  pub block_access : Block → ℕ → Option ℕ
  block_access NoMore pc = None
  block_access (Then s b) pc = or_else (stmt_access s pc) (block_access b (pc + stmt_size s))

  pub else_access : Block → ℕ → Option ℕ
  else_access NoMore pc = None
  else_access (Then s b) pc = or_else (stmt_access s (suc pc)) (block_access b (suc pc + stmt_size s))

-- the numbers of the functions that a value, a statement or a block calls outside sections
abbrev pub value_callees : List (List ℕ) → Value → List ℕ
value_callees names (CallValue f args) = number_of names f ∷ []
value_callees names v = []

abbrev mutual
  pub stmt_callees : List (List ℕ) → Statement → List ℕ
  stmt_callees names (AssignStatement x v) = value_callees names v
  stmt_callees names (StoreStatement x y) = []
  stmt_callees names (OutStatement x) = []
  stmt_callees names (IfStatement x a e) = block_callees names a ++ block_callees names e
  stmt_callees names (WhileStatement x a) = block_callees names a
  stmt_callees names (AtomicStatement a) = []

  pub block_callees : List (List ℕ) → Block → List ℕ
  block_callees names NoMore = []
  block_callees names (Then s b) = stmt_callees names s ++ block_callees names b

-- these numbers have marks as far as there is a place for one, and no other has a new one
pub record MarksThese (numbers : List ℕ) (old new : List Bool) : Type 0 where
  pub kept : KeepsMarks old new
  pub marked : (n : ℕ) → IsTrue (is_among numbers n) → n < length old → IsMarked new n
  pub only : (n : ℕ) → IsMarked new n → IsMarked old n ⊎ IsTrue (is_among numbers n)
  pub len : length new ≡ length old
