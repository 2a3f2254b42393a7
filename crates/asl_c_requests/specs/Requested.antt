-- The request of a list over what C shows, and the cells that must be told to know it (docs/EMBEDDING.md, "The request of a list from C").
use Rattle.std.specs.Prelude.{◌≡◌, ℕ, IsTrue, List, [], ◌∷◌, ◌++◌, None, Some, slice_get, IsSome}
use Rattle.asl_code.specs.declared.value.Value.{Value}
use Rattle.asl_code.specs.declared.value.Cell.{Cell}
use Rattle.asl_code.specs.declared.value.Effect.{Effect}
use Rattle.asl_code.specs.declared.lock.Expr.{Expr}
use Rattle.asl_code.specs.declared.lock.Lock.{Lock}
use Rattle.asl_code.specs.declared.lock.Lock.TheVariants as lock
use Rattle.asl_code.specs.declared.path.Op.{Op}
use Rattle.asl_code.specs.declared.path.Op.TheVariants.{Deref}
use Rattle.asl_expression.specs.Expression.{base_cell, path_cell}
use Rattle.asl_lock_forest.specs.declared.node.Node.{Node}
use Rattle.asl_lock_forest.specs.Holding.{Request, asked}
use Rattle.asl_lock_forest.specs.Request.{asks_modes}
use Rattle.asl_lock_queue.specs.Order.{is_rising}
use Rattle.asl_machine.specs.State.{Object, cell_at}
use Rattle.asl_machine.specs.Request.{all_asks, heap_of, joined_all}
use Rattle.asl_c_requests.specs.Shown.{IsShown, numbered, told_at}
use Rattle.asl_c_requests.specs.declared.shown.ShownCell.{ShownCell}
use Rattle.asl_c_requests.specs.declared.shown.ShownObject.{ShownObject}
use Rattle.asl_c_requests.specs.declared.shown.ShownValue.{ShownValue}

-- asks of nodes as they are locked
abbrev pub all_numbered : List ShownObject → Request → Request
all_numbered objects [] = []
all_numbered objects (ask ∷ asks) = (numbered objects ask.0, ask.1) ∷ all_numbered objects asks

-- the words rise, none of them asks NL, and in all registers and objects that are as shown they ask at each node for the join of what the
-- locks of the list ask there
pub record IsRequest (registers : List ShownValue) (objects : List ShownObject) (cells : List ShownCell) (locks : List Lock) (words : Request) : Type 0 where
  pub rises : IsTrue (is_rising words)
  pub modes : IsTrue (asks_modes words)
  pub asks : (regs : List Value) (heap : List Object) → IsShown registers objects cells regs heap → (node : Node)
      → asked words node ≡ asked (joined_all [] (all_numbered objects (all_asks heap regs locks))) node

-- the evaluation of a lock of the list reads the cell, which is there: the path of its expression comes to it and follows the address in it
pub record IsRead (heap : List Object) (regs : List Value) (locks : List Lock) (cell : Cell) : Type 0 where
  pub number : ℕ
  pub expr : Expr
  pub effect : Effect
  pub before : List Op
  pub after : List Op
  pub listed : slice_get locks number ≡ Some (lock.Expr expr effect)
  pub path : expr.path ≡ before ++ Deref ∷ after
  pub comes : path_cell (heap_of heap) before (base_cell regs expr.base) ≡ Some cell
  pub there : IsSome (cell_at heap cell)

-- nothing is told of the cell, and in all registers and objects that are as shown the evaluation of the list reads it
pub record IsNeeded (registers : List ShownValue) (objects : List ShownObject) (cells : List ShownCell) (locks : List Lock) (cell : Cell) : Type 0 where
  pub untold : told_at cells cell ≡ None
  pub read : (regs : List Value) (heap : List Object) → IsShown registers objects cells regs heap → IsRead heap regs locks cell
