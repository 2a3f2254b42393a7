-- Machinery of the proofs, not of the promise: the automaton of docs/SOURCE.md's grammar with the trees that the code
-- builds. What contracts cite is `Spells` of specs/Spelled. The proofs of asl_grammar build other trees, those of its
-- specs/Written, which keep an empty `else`.
use Rattle.std.specs.Prelude.{ℕ, List, [], ◌∷◌, ◌++◌, Option, Some, None}
use Rattle.asl_grammar.specs.declared.token.Mark.TheVariants as mark
use Rattle.asl_grammar.specs.declared.control.Kind.{Kind}
use Rattle.asl_grammar.specs.declared.control.Kind.TheVariants as kind
use Rattle.asl_grammar.specs.Token.{Token, Fixed}
use Rattle.asl_grammar.specs.Automaton.{Opening, OfIf, OfElse, OfWhile, OfAtomic, Control, ItemStart, AfterThen, Act, Keep, Declare, Start, Parameter, Argument, Emit, EmitCall, Begin, Close, Finish, step}
use Rattle.asl_grammar.specs.Seen.{settled}
use Rattle.asl_syntax.specs.Tree.{Statement, IfStatement, WhileStatement, AtomicStatement, AssignStatement, CallValue, Block, NoMore, Function, Item, GlobalItem, FunctionItem}
use Rattle.asl_syntax.specs.View.{block}
use Rattle.asl_syntax.specs.Spelled.{line_meaning}

-- whose block an open block is
pub data Header : Type 0 where
  ThenBlock : List ℕ → Header
  ElseBlock : List ℕ → Block → Header
  WhileBlock : List ℕ → Header
  AtomicBlock : Header

-- the statements of a block so far, and an `if` whose `else` may still follow
pub record Part : Type 0 where
  pub done : List Statement
  pub pending : Option (List ℕ × Block)

-- an open block, with the statements before it in the block around it
pub record Frame : Type 0 where
  pub header : Header
  pub outer : List Statement

-- what has been built
pub record Stack : Type 0 where
  pub items : List Item
  pub name : List ℕ
  pub parameters : List (List ℕ)
  pub arguments : List (List ℕ)
  pub top : Part
  pub frames : List Frame

-- a block with no statement yet
abbrev pub no_part : Part
no_part = record { done = []; pending = None }

-- nothing has been built
abbrev pub no_stack : Stack
no_stack = record { items = []; name = []; parameters = []; arguments = []; top = no_part; frames = [] }

-- the `if` that waits, if any, as a statement without `else`
abbrev pub settle_pending : List Statement → Option (List ℕ × Block) → List Statement
settle_pending ss None = ss
settle_pending ss (Some (x, a)) = ss ++ IfStatement x a NoMore ∷ []

-- no `if` waits any more
abbrev pub settle_part : Part → Part
settle_part p = record { done = settle_pending p.done p.pending; pending = None }

-- one more statement in a block
abbrev pub put_part : Statement → Part → Part
put_part x p = record { done = p.done ++ x ∷ []; pending = p.pending }

-- one more statement in the innermost block
abbrev pub put : Statement → Stack → Stack
put x s = record s { top = put_part x s.top }

-- the header of an `else`, of the `if` that waits
abbrev pub else_header : Option (List ℕ × Block) → Header
else_header None = ElseBlock [] NoMore
else_header (Some (x, a)) = ElseBlock x a

-- whose block opens
abbrev pub header_of : Opening → Option (List ℕ × Block) → Header
header_of (OfIf x) p = ThenBlock x
header_of OfElse p = else_header p
header_of (OfWhile x) p = WhileBlock x
header_of OfAtomic p = AtomicBlock

-- the statements around a block, with the block
abbrev pub closed : Header → Block → List Statement → Part
closed (ThenBlock x) b outer = record { done = outer; pending = Some (x, b) }
closed (ElseBlock x a) b outer = record { done = outer ++ IfStatement x a b ∷ []; pending = None }
closed (WhileBlock x) b outer = record { done = outer ++ WhileStatement x b ∷ []; pending = None }
closed AtomicBlock b outer = record { done = outer ++ AtomicStatement b ∷ []; pending = None }

-- without the innermost block, which its header puts into the one around it
abbrev pub close_frames : List Frame → Stack → Stack
close_frames [] s = s
close_frames (f ∷ fs) s = record s { top = closed f.header (block s.top.done) f.outer; frames = fs }

-- the present function, which returns x
abbrev pub built_function : List ℕ → Stack → Function
built_function x s = record { name = s.name; parameters = s.parameters; body = block s.top.done; returned = x }

-- what an act builds
abbrev pub apply : Act → Stack → Stack
apply Keep s = s
apply (Declare x) s = record s { items = s.items ++ GlobalItem x ∷ [] }
apply (Start x) s = record s { name = x; parameters = [] }
apply (Parameter x) s = record s { parameters = s.parameters ++ x ∷ [] }
apply (Argument a) s = record s { arguments = s.arguments ++ a ∷ [] }
apply (Emit l) s = put (line_meaning l) s
apply (EmitCall x f) s =
    record (put (AssignStatement x (CallValue f s.arguments)) s) { arguments = [] }
apply (Begin o) s =
    record s { top = no_part; frames = record { header = header_of o s.top.pending; outer = s.top.done } ∷ s.frames }
apply Close s = close_frames s.frames s
apply (Finish x) s =
    record s { items = s.items ++ FunctionItem (built_function x s) ∷ []; name = []; parameters = []; top = no_part }

-- the kind of a block
abbrev pub header_kind : Header → Kind
header_kind (ThenBlock x) = kind.Then
header_kind (ElseBlock x a) = kind.Inner
header_kind (WhileBlock x) = kind.Inner
header_kind AtomicBlock = kind.Inner

-- the kind of the innermost open block
abbrev pub kind_of : List Frame → Kind
kind_of [] = kind.Body
kind_of (f ∷ fs) = header_kind f.header

-- after the block of an `if` any token but `else` begins a new statement
abbrev pub ready_then : Token → Stack → Stack
ready_then (Fixed mark.Else) s = s
ready_then _ s = record s { top = settle_part s.top }

-- what has been built, once the next token is known
abbrev pub ready : Control → Token → Stack → Stack
ready AfterThen t s = ready_then t s
ready c t s = s

-- the control and what has been built
pub record State : Type 0 where
  pub control : Control
  pub stack : Stack

-- a step, if there is one
abbrev pub moved : Option (Control × Act) → Stack → Option State
moved None s = None
moved (Some (c, a)) s = Some (record { control = c; stack = apply a s })

-- one token
abbrev pub next_ready : Control → Stack → Token → Option State
next_ready c s t = moved (step c (kind_of s.frames) t) s

-- one token after any control
abbrev pub next : Control → Stack → Token → Option State
next c s t = next_ready (settled c t) (ready c t s) t

-- the items that are built, where a program may end
abbrev pub whole_at : Control → Stack → Option (List Item)
whole_at ItemStart s = Some s.items
whole_at _ s = None
