-- The tokens that a state of the automaton has read, and which parts of its stack each control leaves empty. A run keeps both.
use Rattle.std.proofs.Common.{◌≡◌, ℕ, List, [], ◌∷◌, Option, Some, None}
use Rattle.asl_grammar.specs.declared.token.Mark.TheVariants as mark
use Rattle.asl_grammar.specs.Token.{Token, Fixed, Name, Number}
use Rattle.asl_grammar.specs.Written.{Stmt, Block}
use Rattle.asl_grammar.specs.Spelling.{symbol_of, names_on, line_on, stmt_on, block_on, program_on}
use Rattle.asl_grammar.specs.Automaton.{Opening, OfIf, OfElse, OfWhile, OfAtomic, Control, ItemStart, AfterGlobal, GlobalNamed, AfterFn, FunctionNamed, FirstParameter, AfterParameter, NextParameter, BodyStart, StatementStart, AfterThen, Target, AfterBecomes, AfterMinus, AfterValue, AfterOperator, AfterAmpersand, AfterAddress, AfterBracket, AfterIndex, AfterStar, AfterNew, FirstArgument, AfterArgument, NextArgument, CallEnd, LineEnd, StoreStart, StoreTarget, StoreValue, AfterOut, AfterIf, AfterWhile, AfterHeader, AfterReturn, Returned, BodyEnd}
use Rattle.asl_grammar.proofs.Stacks.{Header, ThenBlock, ElseBlock, WhileBlock, AtomicBlock, Part, Frame, Stack, no_part}

-- the tokens of a list of statements
abbrev pub stmts_on : List Stmt → List Token → List Token
stmts_on [] rest = rest
stmts_on (s ∷ ss) rest = stmt_on s (stmts_on ss rest)

-- the tokens of an `if` that waits for its `else`
abbrev pub pending_on : Option (List ℕ × Block) → List Token → List Token
pending_on None rest = rest
pending_on (Some (x, a)) rest =
    Fixed mark.If ∷ Name x ∷ Fixed mark.OpenBrace ∷ block_on a (Fixed mark.CloseBrace ∷ rest)

abbrev pub part_on : Part → List Token → List Token
part_on p rest = stmts_on p.done (pending_on p.pending rest)

-- the tokens up to the brace that opened a block
abbrev pub header_on : Header → List Token → List Token
header_on (ThenBlock x) rest = Fixed mark.If ∷ Name x ∷ Fixed mark.OpenBrace ∷ rest
header_on (ElseBlock x a) rest =
    Fixed mark.If ∷ Name x ∷ Fixed mark.OpenBrace ∷ block_on a (Fixed mark.CloseBrace ∷ Fixed mark.Else ∷ Fixed mark.OpenBrace ∷ rest)
header_on (WhileBlock x) rest = Fixed mark.While ∷ Name x ∷ Fixed mark.OpenBrace ∷ rest
header_on AtomicBlock rest = Fixed mark.Atomic ∷ Fixed mark.OpenBrace ∷ rest

abbrev pub frames_on : List Frame → List Token → List Token
frames_on [] rest = rest
frames_on (f ∷ fs) rest = frames_on fs (stmts_on f.outer (header_on f.header rest))

-- the tokens up to the bracket of the present function's parameters
abbrev pub head_on : Stack → List Token → List Token
head_on s rest = program_on s.items (Fixed mark.Fn ∷ Name s.name ∷ Fixed mark.OpenParen ∷ rest)

-- the tokens up to the present line
abbrev pub body_on : Stack → List Token → List Token
body_on s rest =
    head_on s (names_on s.parameters (Fixed mark.CloseParen ∷ Fixed mark.OpenBrace ∷ frames_on s.frames (part_on s.top rest)))

abbrev pub opening_on : Opening → List Token → List Token
opening_on (OfIf x) rest = Fixed mark.If ∷ Name x ∷ rest
opening_on OfElse rest = Fixed mark.Else ∷ rest
opening_on (OfWhile x) rest = Fixed mark.While ∷ Name x ∷ rest
opening_on OfAtomic rest = Fixed mark.Atomic ∷ rest

abbrev pub call_on : List ℕ → List ℕ → Stack → List Token → List Token
call_on x f s rest =
    body_on s (Name x ∷ Fixed mark.Becomes ∷ Name f ∷ Fixed mark.OpenParen ∷ names_on s.arguments rest)

-- all tokens read so far, and after them `rest`
abbrev pub state_on : Control → Stack → List Token → List Token
state_on ItemStart s rest = program_on s.items rest
state_on AfterGlobal s rest = program_on s.items (Fixed mark.Global ∷ rest)
state_on (GlobalNamed x) s rest = program_on s.items (Fixed mark.Global ∷ Name x ∷ rest)
state_on AfterFn s rest = program_on s.items (Fixed mark.Fn ∷ rest)
state_on (FunctionNamed x) s rest = program_on s.items (Fixed mark.Fn ∷ Name x ∷ rest)
state_on FirstParameter s rest = head_on s rest
state_on AfterParameter s rest = head_on s (names_on s.parameters rest)
state_on NextParameter s rest = head_on s (names_on s.parameters (Fixed mark.Comma ∷ rest))
state_on BodyStart s rest = head_on s (names_on s.parameters (Fixed mark.CloseParen ∷ rest))
state_on StatementStart s rest = body_on s rest
state_on AfterThen s rest = body_on s rest
state_on (Target x) s rest = body_on s (Name x ∷ rest)
state_on (AfterBecomes x) s rest = body_on s (Name x ∷ Fixed mark.Becomes ∷ rest)
state_on (AfterMinus x) s rest = body_on s (Name x ∷ Fixed mark.Becomes ∷ Fixed mark.Minus ∷ rest)
state_on (AfterValue x y) s rest = body_on s (Name x ∷ Fixed mark.Becomes ∷ Name y ∷ rest)
state_on (AfterOperator x y o) s rest =
    body_on s (Name x ∷ Fixed mark.Becomes ∷ Name y ∷ Fixed (symbol_of o) ∷ rest)
state_on (AfterAmpersand x) s rest = body_on s (Name x ∷ Fixed mark.Becomes ∷ Fixed mark.Ampersand ∷ rest)
state_on (AfterAddress x y) s rest =
    body_on s (Name x ∷ Fixed mark.Becomes ∷ Fixed mark.Ampersand ∷ Name y ∷ rest)
state_on (AfterBracket x y) s rest =
    body_on s (Name x ∷ Fixed mark.Becomes ∷ Fixed mark.Ampersand ∷ Name y ∷ Fixed mark.OpenBracket ∷ rest)
state_on (AfterIndex x y n) s rest =
    body_on s (Name x ∷ Fixed mark.Becomes ∷ Fixed mark.Ampersand ∷ Name y ∷ Fixed mark.OpenBracket ∷ Number n ∷ rest)
state_on (AfterStar x) s rest = body_on s (Name x ∷ Fixed mark.Becomes ∷ Fixed mark.Star ∷ rest)
state_on (AfterNew x) s rest = body_on s (Name x ∷ Fixed mark.Becomes ∷ Fixed mark.New ∷ rest)
state_on (FirstArgument x f) s rest =
    body_on s (Name x ∷ Fixed mark.Becomes ∷ Name f ∷ Fixed mark.OpenParen ∷ rest)
state_on (AfterArgument x f) s rest = call_on x f s rest
state_on (NextArgument x f) s rest = call_on x f s (Fixed mark.Comma ∷ rest)
state_on (CallEnd x f) s rest = call_on x f s (Fixed mark.CloseParen ∷ rest)
state_on (LineEnd l) s rest = body_on s (line_on l rest)
state_on StoreStart s rest = body_on s (Fixed mark.Star ∷ rest)
state_on (StoreTarget x) s rest = body_on s (Fixed mark.Star ∷ Name x ∷ rest)
state_on (StoreValue x) s rest = body_on s (Fixed mark.Star ∷ Name x ∷ Fixed mark.Becomes ∷ rest)
state_on AfterOut s rest = body_on s (Fixed mark.Out ∷ rest)
state_on AfterIf s rest = body_on s (Fixed mark.If ∷ rest)
state_on AfterWhile s rest = body_on s (Fixed mark.While ∷ rest)
state_on (AfterHeader o) s rest = body_on s (opening_on o rest)
state_on AfterReturn s rest = body_on s (Fixed mark.Return ∷ rest)
state_on (Returned x) s rest = body_on s (Fixed mark.Return ∷ Name x ∷ rest)
state_on (BodyEnd x) s rest = body_on s (Fixed mark.Return ∷ Name x ∷ Fixed mark.Semicolon ∷ rest)

-- no body is open
pub record IsOutside (s : Stack) : Type 0 where
  pub top : s.top ≡ no_part
  pub frames : s.frames ≡ []
  pub arguments : s.arguments ≡ []

-- a line is open, and no `if` waits
pub record IsInside (s : Stack) : Type 0 where
  pub pending : s.top.pending ≡ None
  pub arguments : s.arguments ≡ []

abbrev pub IsFilled : List (List ℕ) → Type 0
IsFilled [] = ⊥
IsFilled (x ∷ xs) = Unit {0}

abbrev pub IsThere : Option (List ℕ × Block) → Type 0
IsThere None = ⊥
IsThere (Some p) = Unit {0}

abbrev pub IsWaiting : Stack → Type 0
IsWaiting s = IsThere s.top.pending × s.arguments ≡ []

abbrev pub OpeningFits : Opening → Stack → Type 0
OpeningFits OfElse s = IsWaiting s
OpeningFits _ s = IsInside s

-- which parts of the stack a control leaves empty
abbrev pub Fits : Control → Stack → Type 0
Fits ItemStart s = IsOutside s
Fits AfterGlobal s = IsOutside s
Fits (GlobalNamed x) s = IsOutside s
Fits AfterFn s = IsOutside s
Fits (FunctionNamed x) s = IsOutside s
Fits FirstParameter s = IsOutside s × s.parameters ≡ []
Fits AfterParameter s = IsOutside s × IsFilled s.parameters
Fits NextParameter s = IsOutside s × IsFilled s.parameters
Fits BodyStart s = IsOutside s
Fits AfterThen s = IsWaiting s
Fits (FirstArgument x f) s = IsInside s
Fits (AfterArgument x f) s = s.top.pending ≡ None × IsFilled s.arguments
Fits (NextArgument x f) s = s.top.pending ≡ None × IsFilled s.arguments
Fits (CallEnd x f) s = s.top.pending ≡ None
Fits (AfterHeader o) s = OpeningFits o s
Fits AfterReturn s = IsInside s × s.frames ≡ []
Fits (Returned x) s = IsInside s × s.frames ≡ []
Fits (BodyEnd x) s = IsInside s × s.frames ≡ []
Fits _ s = IsInside s
