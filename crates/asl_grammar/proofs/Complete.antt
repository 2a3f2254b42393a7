-- The automaton reads what a written program spells.
use Rattle.std.proofs.Common.{◌≡◌, ℕ, List, [], ◌∷◌, ◌++◌, true, false, Some, None, refl, sym, ap, ◌∙◌, append_assoc}
use Rattle.std.proofs.lemmas.List.{append-nil}
use Rattle.asl_grammar.specs.declared.token.Mark.TheVariants as mark
use Rattle.asl_grammar.specs.declared.control.Operator.TheVariants.{Add, Subtract, IsLess, IsEqual}
use Rattle.asl_grammar.specs.Token.{Token, Fixed, Name}
use Rattle.asl_grammar.specs.Written.{Literal, NullValue, Copied, Binary, GlobalAddress, FieldAddress, Loaded, Created, Line, Assigns, Calls, Stores, Shows, Stmt, Simple, IfStmt, WhileStmt, AtomicStmt, Block, End, More, Else, NoElse, Otherwise, Function, Item, GlobalItem, FunctionItem}
use Rattle.asl_grammar.specs.Spelling.{later_names_on, names_on, line_on, stmt_on, block_on, else_on, function_on, item_on, program_on}
use Rattle.asl_grammar.specs.Automaton.{Control, FirstParameter, AfterParameter, BodyStart, StatementStart, AfterThen, FirstArgument, AfterArgument, CallEnd}
use Rattle.asl_grammar.proofs.Stacks.{Header, ThenBlock, ElseBlock, WhileBlock, AtomicBlock, Frame, Stack, State, state_of, to_block, settle, run}

-- inside a function: no call is open and no `if` waits
abbrev pub stack_in : List Item → List ℕ → List (List ℕ) → List Stmt → List Frame → Stack
stack_in is n ps d fs =
    record { items = is; name = n; parameters = ps; arguments = []; top = record { done = d; pending = None }; frames = fs }

abbrev pub at : Control → Stack → State
at c s = record { control = c; stack = s }

-- an `if` with its block waits for an `else`
abbrev pub waiting : List ℕ → Block → Stack → State
waiting x a s = at AfterThen (record s { top = record { done = s.top.done; pending = Some (x, a) } })

-- there is a token, and it is not `else`
abbrev pub GoesOn : List Token → Type 0
GoesOn [] = ⊥
GoesOn (Fixed mark.Else ∷ ts) = ⊥
GoesOn (t ∷ ts) = Unit {0}

-- such a token is read the same whether or not an `if` waits
pub settles : (s : Stack) (ts : List Token) → GoesOn ts → run (at AfterThen s) ts ≡ run (at StatementStart (settle s)) ts
settles s [] g = absurd g
settles s (Fixed mark.Else ∷ ts) g = absurd g
settles s (t ∷ ts) g = refl

-- statements, and what follows, do not begin with `else`
pub block_goes_on : (b : Block) (ts : List Token) → GoesOn ts → GoesOn (block_on b ts)
block_goes_on End ts g = g
block_goes_on (More (Simple (Assigns x r)) b) ts g = tt
block_goes_on (More (Simple (Calls x f args)) b) ts g = tt
block_goes_on (More (Simple (Stores x y)) b) ts g = tt
block_goes_on (More (Simple (Shows x)) b) ts g = tt
block_goes_on (More (IfStmt x a e) b) ts g = tt
block_goes_on (More (WhileStmt x a) b) ts g = tt
block_goes_on (More (AtomicStmt a) b) ts g = tt

-- the parameters after the first
later_parameters : (is : List Item) (n : List ℕ) (d : List Stmt) (fs : List Frame) (ps xs : List (List ℕ)) (ts : List Token) → run (at AfterParameter (stack_in is n ps d fs)) (later_names_on xs (Fixed mark.CloseParen ∷ ts)) ≡ run (at BodyStart (stack_in is n (ps ++ xs) d fs)) ts
later_parameters is n d fs ps [] ts =
    ap (λ (p : List (List ℕ)). run (at BodyStart (stack_in is n p d fs)) ts) (sym (append-nil ps))
later_parameters is n d fs ps (x ∷ xs) ts =
    later_parameters is n d fs (ps ++ x ∷ []) xs ts
    ∙ ap (λ (p : List (List ℕ)). run (at BodyStart (stack_in is n p d fs)) ts) (append_assoc ps (x ∷ []) xs)

parameters_read : (is : List Item) (n : List ℕ) (d : List Stmt) (fs : List Frame) (xs : List (List ℕ)) (ts : List Token) → run (at FirstParameter (stack_in is n [] d fs)) (names_on xs (Fixed mark.CloseParen ∷ ts)) ≡ run (at BodyStart (stack_in is n xs d fs)) ts
parameters_read is n d fs [] ts = refl
parameters_read is n d fs (x ∷ xs) ts = later_parameters is n d fs (x ∷ []) xs ts

-- the same stack, with these arguments of a call
abbrev with_arguments : Stack → List (List ℕ) → Stack
with_arguments s xs = record s { arguments = xs }

later_arguments : (x f : List ℕ) (s : Stack) (ps xs : List (List ℕ)) (ts : List Token) → run (at (AfterArgument x f) (with_arguments s ps)) (later_names_on xs (Fixed mark.CloseParen ∷ ts)) ≡ run (at (CallEnd x f) (with_arguments s (ps ++ xs))) ts
later_arguments x f s ps [] ts =
    ap (λ (p : List (List ℕ)). run (at (CallEnd x f) (with_arguments s p)) ts) (sym (append-nil ps))
later_arguments x f s ps (a ∷ xs) ts =
    later_arguments x f s (ps ++ a ∷ []) xs ts
    ∙ ap (λ (p : List (List ℕ)). run (at (CallEnd x f) (with_arguments s p)) ts) (append_assoc ps (a ∷ []) xs)

arguments_read : (x f : List ℕ) (s : Stack) (xs : List (List ℕ)) (ts : List Token) → run (at (FirstArgument x f) (with_arguments s [])) (names_on xs (Fixed mark.CloseParen ∷ ts)) ≡ run (at (CallEnd x f) (with_arguments s xs)) ts
arguments_read x f s [] ts = refl
arguments_read x f s (a ∷ xs) ts = later_arguments x f s (a ∷ []) xs ts

line_reads : (l : Line) (is : List Item) (n : List ℕ) (ps : List (List ℕ)) (d : List Stmt) (fs : List Frame) (ts : List Token) → run (at StatementStart (stack_in is n ps d fs)) (line_on l (Fixed mark.Semicolon ∷ ts)) ≡ run (at StatementStart (stack_in is n ps (d ++ Simple l ∷ []) fs)) ts
line_reads (Assigns x (Literal true k)) is n ps d fs ts = refl
line_reads (Assigns x (Literal false k)) is n ps d fs ts = refl
line_reads (Assigns x NullValue) is n ps d fs ts = refl
line_reads (Assigns x (Copied y)) is n ps d fs ts = refl
line_reads (Assigns x (Binary y Add z)) is n ps d fs ts = refl
line_reads (Assigns x (Binary y Subtract z)) is n ps d fs ts = refl
line_reads (Assigns x (Binary y IsLess z)) is n ps d fs ts = refl
line_reads (Assigns x (Binary y IsEqual z)) is n ps d fs ts = refl
line_reads (Assigns x (GlobalAddress y)) is n ps d fs ts = refl
line_reads (Assigns x (FieldAddress y k)) is n ps d fs ts = refl
line_reads (Assigns x (Loaded y)) is n ps d fs ts = refl
line_reads (Assigns x (Created k)) is n ps d fs ts = refl
line_reads (Calls x f args) is n ps d fs ts =
    arguments_read x f (stack_in is n ps d fs) args (Fixed mark.Semicolon ∷ ts)
line_reads (Stores x y) is n ps d fs ts = refl
line_reads (Shows x) is n ps d fs ts = refl

-- statements after others
abbrev added : List Stmt → Block → List Stmt
added d End = d
added d (More s b) = added (d ++ s ∷ []) b

abbrev onto : List Stmt → Block → Block
onto [] b = b
onto (s ∷ ss) b = More s (onto ss b)

onto-push : (d : List Stmt) (s : Stmt) (b : Block) → onto (d ++ s ∷ []) b ≡ onto d (More s b)
onto-push [] s b = refl
onto-push (x ∷ d) s b = ap (More x) (onto-push d s b)

to_block-onto : (d : List Stmt) → to_block d ≡ onto d End
to_block-onto [] = refl
to_block-onto (s ∷ d) = ap (More s) (to_block-onto d)

to_block_added : (b : Block) (d : List Stmt) → to_block (added d b) ≡ onto d b
to_block_added End d = to_block-onto d
to_block_added (More s b) d = to_block_added b (d ++ s ∷ []) ∙ onto-push d s b

to_block-added : (b : Block) → to_block (added [] b) ≡ b
to_block-added b = to_block_added b []

-- an open block around others
abbrev framed : Header → List Stmt → List Frame → List Frame
framed h d fs = record { header = h; outer = d } ∷ fs

mutual
  stmt_reads : (s : Stmt) (is : List Item) (n : List ℕ) (ps : List (List ℕ)) (d : List Stmt) (fs : List Frame) (ts : List Token) → GoesOn ts → run (at StatementStart (stack_in is n ps d fs)) (stmt_on s ts) ≡ run (at StatementStart (stack_in is n ps (d ++ s ∷ []) fs)) ts
  stmt_reads (Simple l) is n ps d fs ts g = line_reads l is n ps d fs ts
  stmt_reads (IfStmt x a e) is n ps d fs ts g =
      block_reads a is n ps [] (framed (ThenBlock x) d fs) (Fixed mark.CloseBrace ∷ else_on e ts) tt
      ∙ ap (λ (b : Block). run (waiting x b (stack_in is n ps d fs)) (else_on e ts)) (to_block-added a)
      ∙ else_reads e x a is n ps d fs ts g
  stmt_reads (WhileStmt x a) is n ps d fs ts g =
      block_reads a is n ps [] (framed (WhileBlock x) d fs) (Fixed mark.CloseBrace ∷ ts) tt
      ∙ ap (λ (b : Block). run (at StatementStart (stack_in is n ps (d ++ WhileStmt x b ∷ []) fs)) ts) (to_block-added a)
  stmt_reads (AtomicStmt a) is n ps d fs ts g =
      block_reads a is n ps [] (framed AtomicBlock d fs) (Fixed mark.CloseBrace ∷ ts) tt
      ∙ ap (λ (b : Block). run (at StatementStart (stack_in is n ps (d ++ AtomicStmt b ∷ []) fs)) ts) (to_block-added a)

  block_reads : (b : Block) (is : List Item) (n : List ℕ) (ps : List (List ℕ)) (d : List Stmt) (fs : List Frame) (ts : List Token) → GoesOn ts → run (at StatementStart (stack_in is n ps d fs)) (block_on b ts) ≡ run (at StatementStart (stack_in is n ps (added d b) fs)) ts
  block_reads End is n ps d fs ts g = refl
  block_reads (More s b) is n ps d fs ts g =
      stmt_reads s is n ps d fs (block_on b ts) (block_goes_on b ts g)
      ∙ block_reads b is n ps (d ++ s ∷ []) fs ts g

  else_reads : (e : Else) (x : List ℕ) (a : Block) (is : List Item) (n : List ℕ) (ps : List (List ℕ)) (d : List Stmt) (fs : List Frame) (ts : List Token) → GoesOn ts → run (waiting x a (stack_in is n ps d fs)) (else_on e ts) ≡ run (at StatementStart (stack_in is n ps (d ++ IfStmt x a e ∷ []) fs)) ts
  else_reads NoElse x a is n ps d fs ts g = settles (waiting x a (stack_in is n ps d fs)).stack ts g
  else_reads (Otherwise b) x a is n ps d fs ts g =
      block_reads b is n ps [] (framed (ElseBlock x a) d fs) (Fixed mark.CloseBrace ∷ ts) tt
      ∙ ap (λ (c : Block). run (at StatementStart (stack_in is n ps (d ++ IfStmt x a (Otherwise c) ∷ []) fs)) ts) (to_block-added b)

function_reads : (f : Function) (is : List Item) (ts : List Token) → run (state_of is) (function_on f ts) ≡ run (state_of (is ++ FunctionItem f ∷ [])) ts
function_reads f is ts =
    parameters_read is f.name [] [] f.parameters (Fixed mark.OpenBrace ∷ block_on f.body (Fixed mark.Return ∷ Name f.returned ∷ Fixed mark.Semicolon ∷ Fixed mark.CloseBrace ∷ ts))
    ∙ block_reads f.body is f.name f.parameters [] [] (Fixed mark.Return ∷ Name f.returned ∷ Fixed mark.Semicolon ∷ Fixed mark.CloseBrace ∷ ts) tt
    ∙ ap (λ (b : Block). run (state_of (is ++ FunctionItem (record { name = f.name; parameters = f.parameters; body = b; returned = f.returned }) ∷ [])) ts) (to_block-added f.body)

item_reads : (i : Item) (is : List Item) (ts : List Token) → run (state_of is) (item_on i ts) ≡ run (state_of (is ++ i ∷ [])) ts
item_reads (GlobalItem x) is ts = refl
item_reads (FunctionItem f) is ts = function_reads f is ts

items_read : (gs is : List Item) → run (state_of is) (program_on gs []) ≡ Some (state_of (is ++ gs))
items_read [] is = ap (λ (p : List Item). Some (state_of p)) (sym (append-nil is))
items_read (g ∷ gs) is =
    item_reads g is (program_on gs [])
    ∙ items_read gs (is ++ g ∷ [])
    ∙ ap (λ (p : List Item). Some (state_of p)) (append_assoc is (g ∷ []) gs)

-- a written program is read back from its tokens
pub run_program : (gs : List Item) → run (state_of []) (program_on gs []) ≡ Some (state_of gs)
run_program gs = items_read gs []
