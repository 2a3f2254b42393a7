-- The automaton with what it reads: a stack of open blocks, and the trees that its acts build.
use Rattle.std.proofs.Common.{ℕ, List, [], ◌∷◌, ◌++◌, Option, Some, None}
use Rattle.asl_grammar.specs.declared.token.Mark.TheVariants as mark
use Rattle.asl_grammar.specs.declared.control.Kind.{Kind}
use Rattle.asl_grammar.specs.declared.control.Kind.TheVariants.{Body, Then, Inner}
use Rattle.asl_grammar.specs.Token.{Token, Fixed}
use Rattle.asl_grammar.specs.Written.{Calls, Stmt, Simple, IfStmt, WhileStmt, AtomicStmt, Block, End, More, NoElse, Otherwise, Item, GlobalItem, FunctionItem}
use Rattle.asl_grammar.specs.Automaton.{Opening, OfIf, OfElse, OfWhile, OfAtomic, Control, Act, Keep, Declare, Start, Parameter, Argument, Emit, EmitCall, Begin, Close, Finish, ItemStart, StatementStart, AfterThen, step}

-- whose block an open block is, with what came before its brace
pub data Header : Type 0 where
  ThenBlock : List ℕ → Header
  ElseBlock : List ℕ → Block → Header
  WhileBlock : List ℕ → Header
  AtomicBlock : Header

-- the statements of a block so far, and an `if` whose `else` may still follow
pub record Part : Type 0 where
  pub done : List Stmt
  pub pending : Option (List ℕ × Block)

-- an open block: its header, and the statements before it in the block around it
pub record Frame : Type 0 where
  pub header : Header
  pub outer : List Stmt

-- what has been read: the items; of the present function its name, parameters and innermost block, with the
-- blocks around it; the arguments of the present call
pub record Stack : Type 0 where
  pub items : List Item
  pub name : List ℕ
  pub parameters : List (List ℕ)
  pub arguments : List (List ℕ)
  pub top : Part
  pub frames : List Frame

-- the control and what has been read
pub record State : Type 0 where
  pub control : Control
  pub stack : Stack

-- a block with no statement yet
abbrev pub no_part : Part
no_part = record { done = []; pending = None }

-- nothing after these items
abbrev pub stack_of : List Item → Stack
stack_of is = record { items = is; name = []; parameters = []; arguments = []; top = no_part; frames = [] }

-- where a program starts, and where it may end
abbrev pub state_of : List Item → State
state_of is = record { control = ItemStart; stack = stack_of is }

-- a list of statements as a block
abbrev pub to_block : List Stmt → Block
to_block [] = End
to_block (s ∷ ss) = More s (to_block ss)

-- the `if` that waits, if any, as a statement without `else`
abbrev pub settle_pending : List Stmt → Option (List ℕ × Block) → List Stmt
settle_pending ss None = ss
settle_pending ss (Some (x, a)) = ss ++ IfStmt x a NoElse ∷ []

-- no `if` waits for an `else` any more
abbrev pub settle_part : Part → Part
settle_part p = record { done = settle_pending p.done p.pending; pending = None }

-- the same of all that has been read
abbrev pub settle : Stack → Stack
settle s = record s { top = settle_part s.top }

-- one more statement in a block
abbrev pub put_part : Stmt → Part → Part
put_part x p = record { done = p.done ++ x ∷ []; pending = p.pending }

-- one more statement in the innermost block
abbrev pub put : Stmt → Stack → Stack
put x s = record s { top = put_part x s.top }

-- a new block inside the present one
abbrev pub push : Header → Stack → Stack
push h s = record s { top = no_part; frames = record { header = h; outer = s.top.done } ∷ s.frames }

-- the header of an `else`, of the `if` that waits
abbrev pub else_header : Option (List ℕ × Block) → Header
else_header None = ElseBlock [] End
else_header (Some (x, a)) = ElseBlock x a

-- the block of an opening
abbrev pub open_block : Opening → Stack → Stack
open_block (OfIf x) s = push (ThenBlock x) s
open_block OfElse s = push (else_header s.top.pending) s
open_block (OfWhile x) s = push (WhileBlock x) s
open_block OfAtomic s = push AtomicBlock s

-- the statements around a block, with the block
abbrev pub closed : Header → Block → List Stmt → Part
closed (ThenBlock x) b outer = record { done = outer; pending = Some (x, b) }
closed (ElseBlock x a) b outer = record { done = outer ++ IfStmt x a (Otherwise b) ∷ []; pending = None }
closed (WhileBlock x) b outer = record { done = outer ++ WhileStmt x b ∷ []; pending = None }
closed AtomicBlock b outer = record { done = outer ++ AtomicStmt b ∷ []; pending = None }

-- without the innermost block, which its header puts into the one around it
abbrev pub close_frames : List Frame → Stack → Stack
close_frames [] s = s
close_frames (f ∷ fs) s = record s { top = closed f.header (to_block s.top.done) f.outer; frames = fs }

-- the present function, which returns x
abbrev pub function_of : List ℕ → Stack → Item
function_of x s =
    FunctionItem (record { name = s.name; parameters = s.parameters; body = to_block s.top.done; returned = x })

-- what an act does
abbrev pub apply : Act → Stack → Stack
apply Keep s = s
apply (Declare x) s = record s { items = s.items ++ GlobalItem x ∷ [] }
apply (Start x) s = record s { name = x; parameters = [] }
apply (Parameter x) s = record s { parameters = s.parameters ++ x ∷ [] }
apply (Argument a) s = record s { arguments = s.arguments ++ a ∷ [] }
apply (Emit l) s = put (Simple l) s
apply (EmitCall x f) s = record (put (Simple (Calls x f s.arguments)) s) { arguments = [] }
apply (Begin o) s = open_block o s
apply Close s = close_frames s.frames s
apply (Finish x) s =
    record (stack_of (s.items ++ function_of x s ∷ [])) { arguments = s.arguments; frames = s.frames }

-- the kind of a block
abbrev pub header_kind : Header → Kind
header_kind (ThenBlock x) = Then
header_kind (ElseBlock x a) = Inner
header_kind (WhileBlock x) = Inner
header_kind AtomicBlock = Inner

-- the kind of the innermost open block
abbrev pub kind_of : List Frame → Kind
kind_of [] = Body
kind_of (f ∷ fs) = header_kind f.header

-- after the block of an `if` any token but `else` begins a new statement
abbrev pub ready_then : Token → Stack → State
ready_then (Fixed mark.Else) s = record { control = AfterThen; stack = s }
ready_then _ s = record { control = StatementStart; stack = settle s }

-- what stands after the last block, once the next token is known
abbrev pub ready : Control → Token → Stack → State
ready AfterThen t s = ready_then t s
ready c t s = record { control = c; stack = s }

-- a step, if there is one
abbrev pub moved : Option (Control × Act) → Stack → Option State
moved None s = None
moved (Some (c, a)) s = Some (record { control = c; stack = apply a s })

-- one token, where no `if` waits for it
abbrev pub next_ready : State → Token → Option State
next_ready w t = moved (step w.control (kind_of w.stack.frames) t) w.stack

-- one token
abbrev pub next : State → Token → Option State
next w t = next_ready (ready w.control t w.stack) t

-- continues from a state, if there is one
abbrev pub run_with : Option State → (State → Option State) → Option State
run_with None go = None
run_with (Some w) go = go w

-- many tokens
abbrev pub run : State → List Token → Option State
run w [] = Some w
run w (t ∷ ts) = run_with (next w t) (λ n. run n ts)

-- the items, where a program may end
abbrev pub whole_at : Control → Stack → Option (List Item)
whole_at ItemStart s = Some s.items
whole_at _ s = None

-- the program that has been read, if it may end here
abbrev pub whole : Option State → Option (List Item)
whole None = None
whole (Some w) = whole_at w.control w.stack
