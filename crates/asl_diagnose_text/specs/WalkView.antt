-- Machinery of the proofs, not of the promise: a reader of tokens as a place of the automaton of docs/SOURCE.md's grammar.
use Rattle.std.specs.Prelude.{◌≡◌, ◌↔◌, List, [], ◌∷◌, ◌++◌, Bool, IsTrue, None, is_some}
use Rattle.std.specs.List.{Contains}
use Rattle.asl_grammar.specs.Token.{Token, Fixed, Name, Number, Spot}
use Rattle.asl_grammar.specs.Grammar.{IsProgram, IsViable, bare}
use Rattle.asl_grammar.specs.Automaton.{Control, ItemStart}
use Rattle.asl_grammar.specs.Seen.{Place, step_at, next_place}
use Rattle.asl_grammar.specs.SeenView.{place_in}
use Rattle.asl_diagnose_text.specs.declared.token_walk.Walk as walk
use Rattle.asl_diagnose_text.specs.declared.kind.TokenKind.{TokenKind}
use Rattle.asl_diagnose_text.specs.declared.kind.TokenKind.TheVariants as kind

-- where a reader is
abbrev pub walk_place : walk.Walk → Place
walk_place w = place_in w.control w.kinds.items

-- a token of a kind
abbrev pub sample_of : TokenKind → Token
sample_of (kind.Fixed m) = Fixed m
sample_of kind.Name = Name (120 ∷ [])
sample_of kind.Number = Number 1

-- whether the automaton continues with a token
abbrev pub is_accepted : Place → Token → Bool
is_accepted p t = is_some (step_at p t)

-- the listed kinds are those with which the automaton continues
abbrev pub ListsAccepted : Place → List TokenKind → Type 0
ListsAccepted p kinds = (k : TokenKind) → Contains kinds k ↔ IsTrue (is_accepted p (sample_of k))

-- the automaton may end there
abbrev pub MayEndAt : Control → Type 0
MayEndAt ItemStart = Unit {0}
MayEndAt _ = ⊥

-- the automaton may end at the place
abbrev pub MayEnd : Place → Type 0
MayEnd p = MayEndAt p.control

-- no token is left, or the automaton does not continue with the next one
abbrev pub IsStuck : Place → List Spot → Type 0
IsStuck p [] = Unit {0}
IsStuck p (s ∷ ss) = next_place p s.token ≡ None

-- the automaton continues with a token exactly where some program begins with these tokens and it, and may end exactly where they
-- are a program
pub record Stands (before : List Token) (p : Place) : Type 0 where
  pub begins : IsViable before
  pub goes : (t : Token) → IsTrue (is_accepted p t) ↔ IsViable (before ++ t ∷ [])
  pub ends : MayEnd p ↔ IsProgram before

-- where the automaton stops
pub record IsStopped (all : List Spot) (p : Place) : Type 0 where
  pub before : List Spot
  pub rest : List Spot
  pub split : all ≡ before ++ rest
  pub stands : Stands (bare before) p
  pub stuck : IsStuck p rest
