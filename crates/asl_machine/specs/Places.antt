-- Machinery of the proofs, not of the promise: in which chains the nodes of a request are, and where (src/places.rt).
use Rattle.std.specs.Prelude.{◌≡◌, ◌≢◌, ◌<◌, ◌≤◌, ◌+◌, ◌*◌, ◌%◌, ℕ, suc, false, length, slice_index, slice_index_or}
use Rattle.asl_mode_lanes.specs.declared.mode.Mode.TheVariants.{NL}
use Rattle.asl_lock_forest.specs.declared.node.Node.{Node}
use Rattle.asl_lock_forest.specs.declared.node.Node.TheVariants.{Root, Class, Leaf}
use Rattle.asl_lock_forest.specs.Node.{same_node}
use Rattle.asl_lock_forest.specs.Holding.{Request}
use Rattle.asl_machine.specs.declared.places.Places.{Places}

-- in which chain a node is
abbrev pub chain_of : Node → ℕ
chain_of Root = 0
chain_of (Class class) = class % 512
chain_of (Leaf cell class) = (cell.object + 37 * cell.offset) % 512

-- the node at which the ask of a place is
abbrev pub node_at : Request → ℕ → Node
node_at request place = (slice_index_or request place (Root, NL)).0

-- a number is one more than the last place of a chain below a bound, or 0 where the chain has none there
pub record IsLast (request : Request) (chain bound next : ℕ) : Type 0 where
  pub within : next ≤ bound
  pub own : (place : ℕ) → next ≡ suc place → chain_of (node_at request place) ≡ chain
  pub others : (place : ℕ) → next ≤ place → place < bound → chain_of (node_at request place) ≢ chain

-- the chains have the places of the nodes of a request, each of which stands once
pub record ArePlaces (places : Places) (request : Request) : Type 0 where
  pub few : length request ≤ 768
  pub chains : length places.last ≡ 512
  pub room : length places.before ≡ 768
  pub last : (chain : ℕ) → chain < 512 → IsLast request chain (length request) (slice_index places.last chain)
  pub before : (place : ℕ) → place < length request → IsLast request (chain_of (node_at request place)) place (slice_index places.before place)
  pub apart : (i j : ℕ) → i < j → j < length request → same_node (node_at request i) (node_at request j) ≡ false

-- a search for a node comes to a number: the place below it is of the node's chain, and from it on the node is not
pub record IsSought (request : Request) (node : Node) (next : ℕ) : Type 0 where
  pub within : next ≤ length request
  pub own : (place : ℕ) → next ≡ suc place → chain_of (node_at request place) ≡ chain_of node
  pub none : (place : ℕ) → next ≤ place → place < length request → same_node (node_at request place) node ≡ false
