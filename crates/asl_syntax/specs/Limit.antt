-- The limits of a source text, each at the token that goes past it (docs/SOURCE.md, "Refusals"). Contracts cite
-- `first_limit`; what it means of a tree is said by the law limits_are_of_the_tree.
use Rattle.std.specs.Prelude.{ℕ, suc, List, [], ◌∷◌, Bool, false, Option, Some, None, if◌then◌else◌, ◌==◌, nat_lt, nat_le, ◌||◌, ◌-◌, length, min}
use Rattle.asl_grammar.specs.declared.token.Mark.TheVariants as mark
use Rattle.asl_grammar.specs.Token.{Token, Fixed, Name, Number, Spot}
use Rattle.asl_grammar.specs.Lex.{tokens_of}

-- In each definition the tokens before a place stand with the last one first.

-- how many `fn`, `global` and `atomic` there are
abbrev pub functions_in : List Token → ℕ
functions_in [] = 0
functions_in (Fixed mark.Fn ∷ ts) = suc (functions_in ts)
functions_in (t ∷ ts) = functions_in ts

-- how many `global` there are
abbrev pub globals_in : List Token → ℕ
globals_in [] = 0
globals_in (Fixed mark.Global ∷ ts) = suc (globals_in ts)
globals_in (t ∷ ts) = globals_in ts

-- how many `atomic` there are
abbrev pub atomics_in : List Token → ℕ
atomics_in [] = 0
atomics_in (Fixed mark.Atomic ∷ ts) = suc (atomics_in ts)
atomics_in (t ∷ ts) = atomics_in ts

-- how many braces are open
abbrev pub open_braces : List Token → ℕ
open_braces [] = 0
open_braces (Fixed mark.OpenBrace ∷ ts) = suc (open_braces ts)
open_braces (Fixed mark.CloseBrace ∷ ts) = open_braces ts - 1
open_braces (t ∷ ts) = open_braces ts

-- one more name, in the head of a function
abbrev pub one_more : Option ℕ → Option ℕ
one_more None = None
one_more (Some n) = Some (suc n)

-- how many names stand in the head of a function, its own name first, where only a head's tokens stand after its `fn`
abbrev pub names_in_head : List Token → Option ℕ
names_in_head [] = None
names_in_head (Fixed mark.Fn ∷ ts) = Some 0
names_in_head (Fixed mark.OpenParen ∷ ts) = names_in_head ts
names_in_head (Fixed mark.Comma ∷ ts) = names_in_head ts
names_in_head (Name x ∷ ts) = one_more (names_in_head ts)
names_in_head (t ∷ ts) = None

-- the last token
abbrev pub last_of : List Token → Option Token
last_of [] = None
last_of (t ∷ ts) = Some t

-- a function's name and four parameters stand before
abbrev pub is_fifth : Option ℕ → Bool
is_fifth None = false
is_fifth (Some n) = nat_le 5 n

-- an index is at most 255, a size is 1 to 255, and other numbers are of 32 bits with a sign
abbrev pub number_over : Option Token → ℕ → Bool
number_over (Some (Fixed mark.OpenBracket)) n = nat_lt 255 n
number_over (Some (Fixed mark.New)) n = n == 0 || nat_lt 255 n
number_over (Some (Fixed mark.Minus)) n = nat_lt 2147483648 n
number_over _ n = nat_lt 2147483647 n

-- what limits count, of the tokens before a place
pub record Tally : Type 0 where
  pub last : Option Token
  pub functions : ℕ
  pub globals : ℕ
  pub atomics : ℕ
  pub braces : ℕ
  pub head : Option ℕ

-- what they count, of these tokens
abbrev pub tally_of : List Token → Tally
tally_of before = record {
  last = last_of before;
  functions = functions_in before;
  globals = globals_in before;
  atomics = atomics_in before;
  braces = open_braces before;
  head = names_in_head before;
}

-- the token goes past a limit
abbrev pub is_over : Tally → Token → Bool
is_over y (Fixed mark.Fn) = nat_le 256 y.functions
is_over y (Fixed mark.Global) = nat_le 1024 y.globals
is_over y (Fixed mark.Atomic) = nat_le 1024 y.atomics
is_over y (Fixed mark.OpenBrace) = nat_le 64 y.braces
is_over y (Fixed m) = false
is_over y (Name x) = nat_lt 64 (length x) || is_fifth y.head
is_over y (Number n) = number_over y.last n

-- the place of the first token that goes past a limit
abbrev pub limit_from : List Token → List Spot → Option ℕ
limit_from before [] = None
limit_from before (s ∷ ss) =
    if is_over (tally_of before) s.token then Some s.at else limit_from (s.token ∷ before) ss

-- the most bytes that a text has
abbrev pub most_bytes : ℕ
most_bytes = 1048576

-- the first byte of a text that is too many
abbrev pub byte_over : ℕ → Option ℕ
byte_over n = if nat_lt most_bytes n then Some most_bytes else None

-- the first of two places
abbrev pub first_place : Option ℕ → Option ℕ → Option ℕ
first_place None b = b
first_place (Some a) None = Some a
first_place (Some a) (Some b) = Some (min a b)

-- the first place of a text where a limit is passed
abbrev pub first_limit : List ℕ → Option ℕ
first_limit text = first_place (limit_from [] (tokens_of text)) (byte_over (length text))
