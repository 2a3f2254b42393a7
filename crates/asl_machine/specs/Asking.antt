-- Machinery of the proofs, not of the promise: what a lock asks by its own node, and whether others are in its way
-- (docs/LOCKS.md, "Requests").
use Rattle.std.specs.Prelude.{ℕ, ◌⊎◌, List, [], ◌∷◌, Option, None, Some, option_map}
use Rattle.asl_code.specs.declared.value.Value.{Value}
use Rattle.asl_code.specs.declared.value.Cell.{Cell}
use Rattle.asl_code.specs.declared.value.Effect.{Effect}
use Rattle.asl_code.specs.declared.lock.Lock.{Lock}
use Rattle.asl_code.specs.declared.lock.Lock.TheVariants as lock
use Rattle.asl_expression.specs.Expression.{cell_denoted}
use Rattle.asl_lock_forest.specs.declared.node.Node.{Node}
use Rattle.asl_lock_forest.specs.declared.node.Node.TheVariants.{Root, Class, Leaf}
use Rattle.asl_lock_forest.specs.Holding.{Holding, Request, covering_mode}
use Rattle.asl_lock_forest.specs.Request.{GoesWithOthers, IsKeptFrom}
use Rattle.asl_machine.specs.State.{Object, class_of}
use Rattle.asl_machine.specs.Request.{heap_of, upper_mode, leaf_asks}

-- the leaf of the cell that an expression denotes
abbrev pub leaf_of : List Object → Option Cell → Option Node
leaf_of objects None = None
leaf_of objects (Some cell) = option_map (λ class. Leaf cell class) (class_of objects cell.object)

-- the lock's own node, if it has one
abbrev pub node_of : List Object → List Value → Lock → Option Node
node_of objects regs (lock.Root effect) = Some Root
node_of objects regs (lock.Class class effect) = Some (Class class)
node_of objects regs (lock.Expr expr effect) = leaf_of objects (cell_denoted (heap_of objects) regs expr)

-- the asks of a lock on the node
abbrev pub asks_at : Effect → Node → Request
asks_at effect Root = (Root, covering_mode effect) ∷ []
asks_at effect (Class class) = (Root, upper_mode effect) ∷ (Class class, covering_mode effect) ∷ []
asks_at effect (Leaf cell class) = leaf_asks cell effect class

-- each ask goes with what others hold
abbrev pub AreFree : Holding → ℕ → Request → Type 0
AreFree h t [] = Unit {0}
AreFree h t (ask ∷ asks) = GoesWithOthers h t ask.0 ask.1 × AreFree h t asks

-- some ask does not
abbrev pub IsHeldUp : Holding → ℕ → Request → Type 0
IsHeldUp h t [] = ⊥
IsHeldUp h t (ask ∷ asks) = IsKeptFrom h t ask.0 ask.1 ⊎ IsHeldUp h t asks
