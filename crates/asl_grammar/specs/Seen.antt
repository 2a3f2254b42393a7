-- Machinery of the proofs, not of the promise: the automaton of docs/SOURCE.md's grammar without the trees: the control
-- and the kinds of the open blocks, and where it may end. What contracts about texts say of the place where it stops is
-- `IsGrammarFault` of specs/Grammar.
use Rattle.std.specs.Prelude.{ℕ, List, [], ◌∷◌, Option, Some, None}
use Rattle.asl_grammar.specs.declared.token.Mark.TheVariants as mark
use Rattle.asl_grammar.specs.declared.control.Kind.{Kind}
use Rattle.asl_grammar.specs.declared.control.Kind.TheVariants.{Body, Then, Inner}
use Rattle.asl_grammar.specs.Token.{Token, Fixed}
use Rattle.asl_grammar.specs.Automaton.{Opening, OfIf, OfElse, OfWhile, OfAtomic, Control, ItemStart, StatementStart, AfterThen, Act, Begin, Close, step}

-- a control, and the kinds of the open blocks, the innermost first
pub record Place : Type 0 where
  pub control : Control
  pub kinds : List Kind

-- before a program
abbrev pub start_place : Place
start_place = record { control = ItemStart; kinds = [] }

-- the kind of the innermost block
abbrev pub innermost : List Kind → Kind
innermost [] = Body
innermost (k ∷ ks) = k

-- the control after the block of an `if`, once the next token is known
abbrev pub settled_by : Token → Control
settled_by (Fixed mark.Else) = AfterThen
settled_by _ = StatementStart

-- the control, once the next token is known
abbrev pub settled : Control → Token → Control
settled AfterThen t = settled_by t
settled c t = c

-- the kind of a block that opens
abbrev pub opening_kind : Opening → Kind
opening_kind (OfIf x) = Then
opening_kind OfElse = Inner
opening_kind (OfWhile x) = Inner
opening_kind OfAtomic = Inner

-- without the innermost block
abbrev pub outer_kinds : List Kind → List Kind
outer_kinds [] = []
outer_kinds (k ∷ ks) = ks

-- what an act does to the open blocks
abbrev pub kinds_after : Act → List Kind → List Kind
kinds_after (Begin o) ks = opening_kind o ∷ ks
kinds_after Close ks = outer_kinds ks
kinds_after _ ks = ks

-- a step, if there is one
abbrev pub placed : Option (Control × Act) → List Kind → Option Place
placed None ks = None
placed (Some (c, a)) ks = Some (record { control = c; kinds = kinds_after a ks })

-- the step at a token
abbrev pub step_at : Place → Token → Option (Control × Act)
step_at p t = step (settled p.control t) (innermost p.kinds) t

-- one token
abbrev pub next_place : Place → Token → Option Place
next_place p t = placed (step_at p t) p.kinds

-- a program may end only before an item
abbrev pub fault_at_end : Control → ℕ → Option ℕ
fault_at_end ItemStart end = None
fault_at_end _ end = Some end
