-- Machinery of the proofs, not of the promise: the code's controls and acts (src/control.rt) as the values that the
-- automaton of docs/SOURCE.md's grammar speaks of.
use Rattle.asl_grammar.specs.Lex.{number_value}
use Rattle.asl_grammar.specs.declared.control.Right as right
use Rattle.asl_grammar.specs.declared.control.Right.TheVariants as rights
use Rattle.asl_grammar.specs.declared.control.Line as line
use Rattle.asl_grammar.specs.declared.control.Line.TheVariants as lines
use Rattle.asl_grammar.specs.declared.control.Opening as opening
use Rattle.asl_grammar.specs.declared.control.Opening.TheVariants as openings
use Rattle.asl_grammar.specs.declared.control.Control as control
use Rattle.asl_grammar.specs.declared.control.Control.TheVariants as controls
use Rattle.asl_grammar.specs.declared.control.Act as act
use Rattle.asl_grammar.specs.declared.control.Act.TheVariants as acts
use Rattle.asl_grammar.specs.declared.control.Transition as code
use Rattle.asl_grammar.specs.Written.{Right, Line, Literal, NullValue, Copied, Binary, GlobalAddress, FieldAddress, Loaded, Created, Assigns, Stores, Shows}
use Rattle.asl_grammar.specs.Automaton.{Opening, Control, Act, OfIf, OfElse, OfWhile, OfAtomic, ItemStart, AfterGlobal, GlobalNamed, AfterFn, FunctionNamed, FirstParameter, AfterParameter, NextParameter, BodyStart, StatementStart, AfterThen, Target, AfterBecomes, AfterMinus, AfterValue, AfterOperator, AfterAmpersand, AfterAddress, AfterBracket, AfterIndex, AfterStar, AfterNew, FirstArgument, AfterArgument, NextArgument, CallEnd, LineEnd, StoreStart, StoreTarget, StoreValue, AfterOut, AfterIf, AfterWhile, AfterHeader, AfterReturn, Returned, BodyEnd, Keep, Declare, Start, Parameter, Argument, Emit, EmitCall, Begin, Close, Finish}

-- the right side of an assignment
abbrev pub right_of : right.Right → Right
right_of (rights.Literal x y) = Literal x (number_value y.now)
right_of rights.NullValue = NullValue
right_of (rights.Copied x) = Copied x.now
right_of (rights.Binary x y z) = Binary x.now y z.now
right_of (rights.GlobalAddress x) = GlobalAddress x.now
right_of (rights.FieldAddress x y) = FieldAddress x.now (number_value y.now)
right_of (rights.Loaded x) = Loaded x.now
right_of (rights.Created x) = Created (number_value x.now)

-- a statement without blocks
abbrev pub line_of : line.Line → Line
line_of (lines.Assigns x y) = Assigns x.now (right_of y)
line_of (lines.Stores x y) = Stores x.now y.now
line_of (lines.Shows x) = Shows x.now

-- whose block opens
abbrev pub opening_of : opening.Opening → Opening
opening_of (openings.OfIf x) = OfIf x.now
opening_of openings.OfElse = OfElse
opening_of (openings.OfWhile x) = OfWhile x.now
opening_of openings.OfAtomic = OfAtomic

-- what has been read of a line
abbrev pub control_of : control.Control → Control
control_of controls.ItemStart = ItemStart
control_of controls.AfterGlobal = AfterGlobal
control_of (controls.GlobalNamed x) = GlobalNamed x.now
control_of controls.AfterFn = AfterFn
control_of (controls.FunctionNamed x) = FunctionNamed x.now
control_of controls.FirstParameter = FirstParameter
control_of controls.AfterParameter = AfterParameter
control_of controls.NextParameter = NextParameter
control_of controls.BodyStart = BodyStart
control_of controls.StatementStart = StatementStart
control_of controls.AfterThen = AfterThen
control_of (controls.Target x) = Target x.now
control_of (controls.AfterBecomes x) = AfterBecomes x.now
control_of (controls.AfterMinus x) = AfterMinus x.now
control_of (controls.AfterValue x y) = AfterValue x.now y.now
control_of (controls.AfterOperator x y z) = AfterOperator x.now y.now z
control_of (controls.AfterAmpersand x) = AfterAmpersand x.now
control_of (controls.AfterAddress x y) = AfterAddress x.now y.now
control_of (controls.AfterBracket x y) = AfterBracket x.now y.now
control_of (controls.AfterIndex x y z) = AfterIndex x.now y.now (number_value z.now)
control_of (controls.AfterStar x) = AfterStar x.now
control_of (controls.AfterNew x) = AfterNew x.now
control_of (controls.FirstArgument x y) = FirstArgument x.now y.now
control_of (controls.AfterArgument x y) = AfterArgument x.now y.now
control_of (controls.NextArgument x y) = NextArgument x.now y.now
control_of (controls.CallEnd x y) = CallEnd x.now y.now
control_of (controls.LineEnd x) = LineEnd (line_of x)
control_of controls.StoreStart = StoreStart
control_of (controls.StoreTarget x) = StoreTarget x.now
control_of (controls.StoreValue x) = StoreValue x.now
control_of controls.AfterOut = AfterOut
control_of controls.AfterIf = AfterIf
control_of controls.AfterWhile = AfterWhile
control_of (controls.AfterHeader x) = AfterHeader (opening_of x)
control_of controls.AfterReturn = AfterReturn
control_of (controls.Returned x) = Returned x.now
control_of (controls.BodyEnd x) = BodyEnd x.now

-- what a token completes
abbrev pub act_of : act.Act → Act
act_of acts.Keep = Keep
act_of (acts.Declare x) = Declare x.now
act_of (acts.Start x) = Start x.now
act_of (acts.Parameter x) = Parameter x.now
act_of (acts.Argument x) = Argument x.now
act_of (acts.Emit x) = Emit (line_of x)
act_of (acts.EmitCall x y) = EmitCall x.now y.now
act_of (acts.Begin x) = Begin (opening_of x)
act_of acts.Close = Close
act_of (acts.Finish x) = Finish x.now

-- the control after a token, and what it completes
abbrev pub transition_of : code.Transition → Control × Act
transition_of s = (control_of s.control, act_of s.act)
