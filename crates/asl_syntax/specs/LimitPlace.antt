-- Which first tokens of a text keep its limits (docs/SOURCE.md, "Refusals"). The law a_limit_is_passed_at_a_token ties to this the place
-- that `limit_from` of specs/Limit gives.
use Rattle.std.specs.Prelude.{◌≡◌, ◌≤◌, ℕ, suc, List, Option, Some, length, reverse, take, drop, slice_get}
use Rattle.asl_grammar.specs.declared.token.Mark.TheVariants as mark
use Rattle.asl_grammar.specs.Token.{Token, Fixed, Name, Number, Spot}
use Rattle.asl_grammar.specs.Grammar.{bare}
use Rattle.asl_syntax.specs.Limit.{functions_in, globals_in, atomics_in, open_braces, names_in_head}

-- the number is in its range, by the token before it
abbrev pub IsInRangeAfter : Option Token → ℕ → Type 0
IsInRangeAfter (Some (Fixed mark.OpenBracket)) n = n ≤ 255
IsInRangeAfter (Some (Fixed mark.New)) n = (1 ≤ n) × (n ≤ 255)
IsInRangeAfter (Some (Fixed mark.Minus)) n = n ≤ 2147483648
IsInRangeAfter _ n = n ≤ 2147483647

-- the tokens, the last one first, keep all limits
pub record KeepLimits (ts : List Token) : Type 0 where
  pub functions : functions_in ts ≤ 256
  pub globals : globals_in ts ≤ 1024
  pub sections : atomics_in ts ≤ 1024
  pub braces : (n : ℕ) → open_braces (drop n ts) ≤ 64
  pub parameters : (n names : ℕ) → names_in_head (drop n ts) ≡ Some names → names ≤ 5
  pub names : (n : ℕ) (x : List ℕ) → slice_get ts n ≡ Some (Name x) → length x ≤ 64
  pub numbers : (n number : ℕ) → slice_get ts n ≡ Some (Number number) → IsInRangeAfter (slice_get ts (suc n)) number

-- the first tokens, so many of them, the last one first
abbrev pub front : List Spot → ℕ → List Token
front ss count = reverse (bare (take count ss))

-- a limit is passed first at this place: the tokens before it keep all limits, and with the token there they do not
pub record IsFirstOver (ss : List Spot) (at : ℕ) : Type 0 where
  pub number : ℕ
  pub spot : Spot
  pub there : slice_get ss number ≡ Some spot
  pub place : spot.at ≡ at
  pub kept : KeepLimits (front ss number)
  pub passed : ¬ KeepLimits (front ss (suc number))
