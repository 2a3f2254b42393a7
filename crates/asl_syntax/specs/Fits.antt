-- Machinery of the proofs, not of the promise: which names and numbers the code's tree has capacity for. Texts within the
-- limits of docs/SOURCE.md, which are those of specs/Limit, have no others.
use Rattle.std.specs.Prelude.{ℕ, ◌≤◌, List, true, false, Option, Some, None, length}
use Rattle.asl_grammar.specs.Token.{Token}
use Rattle.asl_grammar.specs.Written.{Right, Line, Literal, NullValue, Copied, Binary, GlobalAddress, FieldAddress, Loaded, Created, Assigns, Calls, Stores, Shows}
use Rattle.asl_grammar.specs.Automaton.{Opening, Control, Act, OfIf, OfElse, OfWhile, OfAtomic, Keep, Declare, Start, Parameter, Argument, Emit, EmitCall, Begin, Close, Finish, step}
use Rattle.asl_grammar.specs.Seen.{settled}
use Rattle.asl_syntax.specs.Built.{Stack, kind_of, ready}

-- a name is short enough
abbrev pub NameFits : List ℕ → Type 0
NameFits x = length x ≤ 64

-- the names and the number of a value
abbrev pub RightFits : Right → Type 0
RightFits (Literal true n) = n ≤ 2147483648
RightFits (Literal false n) = n ≤ 2147483647
RightFits NullValue = Unit {0}
RightFits (Copied x) = NameFits x
RightFits (Binary x y z) = NameFits x × NameFits z
RightFits (GlobalAddress x) = NameFits x
RightFits (FieldAddress x y) = NameFits x × y ≤ 255
RightFits (Loaded x) = NameFits x
RightFits (Created x) = x ≤ 255

-- those of a statement without blocks
abbrev pub LineFits : Line → Type 0
LineFits (Assigns x y) = NameFits x × RightFits y
LineFits (Calls x y z) = NameFits x × NameFits y
LineFits (Stores x y) = NameFits x × NameFits y
LineFits (Shows x) = NameFits x

-- the name before a block
abbrev pub OpeningFits : Opening → Type 0
OpeningFits (OfIf x) = NameFits x
OpeningFits OfElse = Unit {0}
OpeningFits (OfWhile x) = NameFits x
OpeningFits OfAtomic = Unit {0}

-- those of what a token completes
abbrev pub ActFits : Act → Type 0
ActFits Keep = Unit {0}
ActFits (Declare x) = NameFits x
ActFits (Start x) = NameFits x
ActFits (Parameter x) = NameFits x
ActFits (Argument x) = NameFits x
ActFits (Emit x) = LineFits x
ActFits (EmitCall x y) = NameFits x × NameFits y
ActFits (Begin x) = OpeningFits x
ActFits Close = Unit {0}
ActFits (Finish x) = NameFits x

-- the act of a step fits, if there is one
abbrev pub StepFits : Option (Control × Act) → Type 0
StepFits None = Unit {0}
StepFits (Some (c, a)) = ActFits a

-- the act at the next token fits
abbrev pub NextFits : Control → Stack → Token → Type 0
NextFits c s t = StepFits (step (settled c t) (kind_of (ready c t s).frames) t)
