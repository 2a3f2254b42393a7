-- Machinery of the proofs, not of the promise: the code's control and stack of kinds as a place of the automaton of
-- docs/SOURCE.md's grammar.
use Rattle.std.specs.Prelude.{List, ◌++◌, reverse}
use Rattle.asl_grammar.specs.declared.control.Control as control
use Rattle.asl_grammar.specs.declared.kinds.Kinds as kinds
use Rattle.asl_grammar.specs.declared.control.Kind.{Kind}
use Rattle.asl_grammar.specs.Seen.{Place}
use Rattle.asl_grammar.specs.ControlView.{control_of}

-- the kinds of the open blocks, the innermost last
abbrev pub kinds_in : kinds.Kinds → List Kind
kinds_in k = k.shallow.items ++ k.deep.items

-- a control, and the kinds of the open blocks with the innermost last
abbrev pub place_in : control.Control → List Kind → Place
place_in c kinds = record { control = control_of c; kinds = reverse kinds }
