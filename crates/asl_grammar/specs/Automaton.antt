-- Machinery of the proofs, not of the promise: the grammar of docs/SOURCE.md as an automaton: one step for each token,
-- without looking ahead or back. Contracts about texts cite specs/Grammar, which knows no automaton.
use Rattle.std.specs.Prelude.{ℕ, List, true, false, Option, Some, None}
use Rattle.asl_grammar.specs.declared.token.Mark.TheVariants as mark
use Rattle.asl_grammar.specs.declared.control.Operator.{Operator}
use Rattle.asl_grammar.specs.declared.control.Operator.TheVariants.{Add, Subtract, IsLess, IsEqual}
use Rattle.asl_grammar.specs.declared.control.Kind.{Kind}
use Rattle.asl_grammar.specs.declared.control.Kind.TheVariants.{Body, Then, Inner}
use Rattle.asl_grammar.specs.Token.{Token, Fixed, Name, Number}
use Rattle.asl_grammar.specs.Written.{Literal, NullValue, Copied, Binary, GlobalAddress, FieldAddress, Loaded, Created, Line, Assigns, Stores, Shows}

-- whose block the next brace opens
pub data Opening : Type 0 where
  OfIf : List ℕ → Opening
  OfElse : Opening
  OfWhile : List ℕ → Opening
  OfAtomic : Opening

-- what has been read of the present line
pub data Control : Type 0 where
  ItemStart : Control
  AfterGlobal : Control
  GlobalNamed : List ℕ → Control
  AfterFn : Control
  FunctionNamed : List ℕ → Control
  FirstParameter : Control
  AfterParameter : Control
  NextParameter : Control
  BodyStart : Control
  StatementStart : Control
  AfterThen : Control
  Target : List ℕ → Control
  AfterBecomes : List ℕ → Control
  AfterMinus : List ℕ → Control
  AfterValue : List ℕ → List ℕ → Control
  AfterOperator : List ℕ → List ℕ → Operator → Control
  AfterAmpersand : List ℕ → Control
  AfterAddress : List ℕ → List ℕ → Control
  AfterBracket : List ℕ → List ℕ → Control
  AfterIndex : List ℕ → List ℕ → ℕ → Control
  AfterStar : List ℕ → Control
  AfterNew : List ℕ → Control
  FirstArgument : List ℕ → List ℕ → Control
  AfterArgument : List ℕ → List ℕ → Control
  NextArgument : List ℕ → List ℕ → Control
  CallEnd : List ℕ → List ℕ → Control
  LineEnd : Line → Control
  StoreStart : Control
  StoreTarget : List ℕ → Control
  StoreValue : List ℕ → Control
  AfterOut : Control
  AfterIf : Control
  AfterWhile : Control
  AfterHeader : Opening → Control
  AfterReturn : Control
  Returned : List ℕ → Control
  BodyEnd : List ℕ → Control

-- what a token completes
pub data Act : Type 0 where
  Keep : Act
  Declare : List ℕ → Act
  Start : List ℕ → Act
  Parameter : List ℕ → Act
  Argument : List ℕ → Act
  Emit : Line → Act
  EmitCall : List ℕ → List ℕ → Act
  Begin : Opening → Act
  Close : Act
  Finish : List ℕ → Act

-- The six tables give the control after a token and what the token completes, or nothing where the token may not
-- stand; each continues with the one above it.

-- the arguments of a call
abbrev pub argument_step : Control → Token → Option (Control × Act)
argument_step (FirstArgument x f) (Name a) = Some (AfterArgument x f, Argument a)
argument_step (FirstArgument x f) (Fixed mark.CloseParen) = Some (CallEnd x f, Keep)
argument_step (AfterArgument x f) (Fixed mark.Comma) = Some (NextArgument x f, Keep)
argument_step (AfterArgument x f) (Fixed mark.CloseParen) = Some (CallEnd x f, Keep)
argument_step (NextArgument x f) (Name a) = Some (AfterArgument x f, Argument a)
argument_step (CallEnd x f) (Fixed mark.Semicolon) = Some (StatementStart, EmitCall x f)
argument_step _ _ = None

-- inside a value
abbrev pub operand_step : Control → Token → Option (Control × Act)
operand_step (AfterMinus x) (Number n) = Some (LineEnd (Assigns x (Literal true n)), Keep)
operand_step (AfterOperator x y o) (Name z) = Some (LineEnd (Assigns x (Binary y o z)), Keep)
operand_step (AfterAmpersand x) (Name y) = Some (AfterAddress x y, Keep)
operand_step (AfterAddress x y) (Fixed mark.Semicolon) = Some (StatementStart, Emit (Assigns x (GlobalAddress y)))
operand_step (AfterAddress x y) (Fixed mark.OpenBracket) = Some (AfterBracket x y, Keep)
operand_step (AfterBracket x y) (Number n) = Some (AfterIndex x y n, Keep)
operand_step (AfterIndex x y n) (Fixed mark.CloseBracket) = Some (LineEnd (Assigns x (FieldAddress y n)), Keep)
operand_step (AfterStar x) (Name y) = Some (LineEnd (Assigns x (Loaded y)), Keep)
operand_step (AfterNew x) (Number n) = Some (LineEnd (Assigns x (Created n)), Keep)
operand_step c t = argument_step c t

-- what may follow a name at the beginning of a value
abbrev pub name_step : Control → Token → Option (Control × Act)
name_step (AfterValue x y) (Fixed mark.Semicolon) = Some (StatementStart, Emit (Assigns x (Copied y)))
name_step (AfterValue x y) (Fixed mark.Plus) = Some (AfterOperator x y Add, Keep)
name_step (AfterValue x y) (Fixed mark.Minus) = Some (AfterOperator x y Subtract, Keep)
name_step (AfterValue x y) (Fixed mark.Less) = Some (AfterOperator x y IsLess, Keep)
name_step (AfterValue x y) (Fixed mark.Same) = Some (AfterOperator x y IsEqual, Keep)
name_step (AfterValue x y) (Fixed mark.OpenParen) = Some (FirstArgument x y, Keep)
name_step c t = operand_step c t

-- the beginning of a value
abbrev pub value_step : Control → Token → Option (Control × Act)
value_step (AfterBecomes x) (Fixed mark.Minus) = Some (AfterMinus x, Keep)
value_step (AfterBecomes x) (Fixed mark.Null) = Some (LineEnd (Assigns x NullValue), Keep)
value_step (AfterBecomes x) (Fixed mark.Ampersand) = Some (AfterAmpersand x, Keep)
value_step (AfterBecomes x) (Fixed mark.Star) = Some (AfterStar x, Keep)
value_step (AfterBecomes x) (Fixed mark.New) = Some (AfterNew x, Keep)
value_step (AfterBecomes x) (Name y) = Some (AfterValue x y, Keep)
value_step (AfterBecomes x) (Number n) = Some (LineEnd (Assigns x (Literal false n)), Keep)
value_step c t = name_step c t

-- globals, the head of a function and its last line
abbrev pub item_step : Control → Token → Option (Control × Act)
item_step ItemStart (Fixed mark.Global) = Some (AfterGlobal, Keep)
item_step ItemStart (Fixed mark.Fn) = Some (AfterFn, Keep)
item_step AfterGlobal (Name x) = Some (GlobalNamed x, Keep)
item_step (GlobalNamed x) (Fixed mark.Semicolon) = Some (ItemStart, Declare x)
item_step AfterFn (Name x) = Some (FunctionNamed x, Keep)
item_step (FunctionNamed x) (Fixed mark.OpenParen) = Some (FirstParameter, Start x)
item_step FirstParameter (Name x) = Some (AfterParameter, Parameter x)
item_step FirstParameter (Fixed mark.CloseParen) = Some (BodyStart, Keep)
item_step AfterParameter (Fixed mark.Comma) = Some (NextParameter, Keep)
item_step AfterParameter (Fixed mark.CloseParen) = Some (BodyStart, Keep)
item_step NextParameter (Name x) = Some (AfterParameter, Parameter x)
item_step BodyStart (Fixed mark.OpenBrace) = Some (StatementStart, Keep)
item_step AfterReturn (Name x) = Some (Returned x, Keep)
item_step (Returned x) (Fixed mark.Semicolon) = Some (BodyEnd x, Keep)
item_step (BodyEnd x) (Fixed mark.CloseBrace) = Some (ItemStart, Finish x)
item_step c t = value_step c t

-- statements and the braces of their blocks
abbrev pub step : Control → Kind → Token → Option (Control × Act)
step StatementStart k (Name x) = Some (Target x, Keep)
step StatementStart k (Fixed mark.Star) = Some (StoreStart, Keep)
step StatementStart k (Fixed mark.Out) = Some (AfterOut, Keep)
step StatementStart k (Fixed mark.If) = Some (AfterIf, Keep)
step StatementStart k (Fixed mark.While) = Some (AfterWhile, Keep)
step StatementStart k (Fixed mark.Atomic) = Some (AfterHeader OfAtomic, Keep)
step StatementStart Body (Fixed mark.Return) = Some (AfterReturn, Keep)
step StatementStart Then (Fixed mark.CloseBrace) = Some (AfterThen, Close)
step StatementStart Inner (Fixed mark.CloseBrace) = Some (StatementStart, Close)
step AfterThen k (Fixed mark.Else) = Some (AfterHeader OfElse, Keep)
step (Target x) k (Fixed mark.Becomes) = Some (AfterBecomes x, Keep)
step (LineEnd l) k (Fixed mark.Semicolon) = Some (StatementStart, Emit l)
step StoreStart k (Name x) = Some (StoreTarget x, Keep)
step (StoreTarget x) k (Fixed mark.Becomes) = Some (StoreValue x, Keep)
step (StoreValue x) k (Name y) = Some (LineEnd (Stores x y), Keep)
step AfterOut k (Name x) = Some (LineEnd (Shows x), Keep)
step AfterIf k (Name x) = Some (AfterHeader (OfIf x), Keep)
step AfterWhile k (Name x) = Some (AfterHeader (OfWhile x), Keep)
step (AfterHeader o) k (Fixed mark.OpenBrace) = Some (StatementStart, Begin o)
step c k t = item_step c t
