-- The tokens of a text pass no limit exactly where they pass none of the seven, each counted on its own.
use Rattle.std.proofs.Common.{◌≡◌, ◌↔◌, ℕ, zero, suc, ◌+◌, ◌-◌, ◌<◌, ◌≤◌, List, [], ◌∷◌, false, nat_lt, Option, Some, None, length, refl, sym, ◌∙◌, subst, arith}
use Rattle.std.specs.List.{AllByRecursion}
use Rattle.std.proofs.lemmas.Bool.{cond-false, leb-false, lt-leb, ltb-false, le-ltb, or_parts, or_from}
use Rattle.asl_grammar.specs.declared.token.Mark.TheVariants as mark
use Rattle.asl_grammar.specs.Token.{Token, Fixed, Name, Number, Spot}
use Rattle.asl_grammar.specs.Grammar.{bare}
use Rattle.asl_syntax.specs.TokenNames.{token_names}
use Rattle.asl_syntax.specs.Limit.{Tally, functions_in, globals_in, atomics_in, one_more, number_over, tally_of, is_over, is_fifth, limit_from}
use Rattle.asl_syntax.specs.Tallied.{head_after, noted}
use Rattle.asl_syntax.proofs.Tallying.{over_from, over_is_limit}
use Rattle.asl_syntax.proofs.Few.{goes_on}

-- ---- one limit each

-- each name is short enough
abbrev pub NamesPass : List Token → Type 0
NamesPass ts = AllByRecursion (λ (x : List ℕ). length x ≤ 64) (token_names ts)

-- a token, where it says the range of a number after it
abbrev pub ranging : Token → Option Token
ranging (Fixed mark.OpenBracket) = Some (Fixed mark.OpenBracket)
ranging (Fixed mark.New) = Some (Fixed mark.New)
ranging (Fixed mark.Minus) = Some (Fixed mark.Minus)
ranging t = None

abbrev pub ranging_last : Option Token → Option Token
ranging_last None = None
ranging_last (Some t) = ranging t

-- each number is in its range, after such a token or another one
abbrev pub NumbersPass : List Token → Option Token → Type 0
NumbersPass [] o = Unit {0}
NumbersPass (Number n ∷ ts) o = (number_over o n ≡ false) × NumbersPass ts None
NumbersPass (t ∷ ts) o = NumbersPass ts (ranging t)

-- there is no fifth parameter, after so many names in a head
abbrev pub HeadsPass : List Token → Option ℕ → Type 0
HeadsPass [] h = Unit {0}
HeadsPass (Name x ∷ ts) None = HeadsPass ts None
HeadsPass (Name x ∷ ts) (Some n) = (n < 5) × HeadsPass ts (Some (suc n))
HeadsPass (t ∷ ts) h = HeadsPass ts (head_after h t)

abbrev less_one : ℕ → ℕ
less_one zero = zero
less_one (suc n) = n

-- no brace is the 65th, after so many open ones
abbrev pub BracesPass : List Token → ℕ → Type 0
BracesPass [] n = Unit {0}
BracesPass (Fixed mark.OpenBrace ∷ ts) n = (n < 64) × BracesPass ts (suc n)
BracesPass (Fixed mark.CloseBrace ∷ ts) n = BracesPass ts (less_one n)
BracesPass (t ∷ ts) n = BracesPass ts n

-- all seven, after a tally
pub record EachPasses (y : Tally) (ts : List Token) : Type 0 where
  pub functions : y.functions + functions_in ts ≤ 256
  pub globals : y.globals + globals_in ts ≤ 1024
  pub atomics : y.atomics + atomics_in ts ≤ 1024
  pub names : NamesPass ts
  pub numbers : NumbersPass ts (ranging_last y.last)
  pub heads : HeadsPass ts y.head
  pub braces : BracesPass ts y.braces

-- ---- one more token

same_range : (last : Option Token) (n : ℕ) → number_over (ranging_last last) n ≡ number_over last n
same_range None n = refl
same_range (Some (Fixed mark.OpenBracket)) n = refl
same_range (Some (Fixed mark.New)) n = refl
same_range (Some (Fixed mark.Minus)) n = refl
same_range _ n = refl

one_less : (n : ℕ) → n - 1 ≡ less_one n
one_less zero = omega arith
one_less (suc n) = omega arith

head_by_name : (h : Option ℕ) (x : List ℕ) (ts : List Token) → is_fifth h ≡ false → HeadsPass ts (one_more h) → HeadsPass (Name x ∷ ts) h
head_by_name None x ts e r = r
head_by_name (Some n) x ts e r = (leb-false 5 n e, r)

name_by_head : (h : Option ℕ) (x : List ℕ) (ts : List Token) → HeadsPass (Name x ∷ ts) h → (is_fifth h ≡ false) × HeadsPass ts (one_more h)
name_by_head None x ts r = (refl, r)
name_by_head (Some n) x ts r = (lt-leb 5 n r.0, r.1)

-- what passes before a token that goes past no limit
each_step : (t : Token) (ts : List Token) (y : Tally) → is_over y t ≡ false → EachPasses (noted y t) ts → EachPasses y (t ∷ ts)
each_step (Fixed mark.Fn) ts y e r =
    record { functions = omega (arith, r.functions); globals = r.globals; atomics = r.atomics; names = r.names; numbers = r.numbers; heads = r.heads; braces = r.braces }
each_step (Fixed mark.Global) ts y e r =
    record { functions = r.functions; globals = omega (arith, r.globals); atomics = r.atomics; names = r.names; numbers = r.numbers; heads = r.heads; braces = r.braces }
each_step (Fixed mark.Atomic) ts y e r =
    record { functions = r.functions; globals = r.globals; atomics = omega (arith, r.atomics); names = r.names; numbers = r.numbers; heads = r.heads; braces = r.braces }
each_step (Fixed mark.OpenBrace) ts y e r =
    record { functions = r.functions; globals = r.globals; atomics = r.atomics; names = r.names; numbers = r.numbers; heads = r.heads; braces = (leb-false 64 y.braces e, r.braces) }
each_step (Fixed mark.CloseBrace) ts y e r =
    record { functions = r.functions; globals = r.globals; atomics = r.atomics; names = r.names; numbers = r.numbers; heads = r.heads; braces = subst (BracesPass ts) (one_less y.braces) r.braces }
each_step (Fixed m) ts y e r =
    record { functions = r.functions; globals = r.globals; atomics = r.atomics; names = r.names; numbers = r.numbers; heads = r.heads; braces = r.braces }
each_step (Name x) ts y e r =
    let k = or_parts (nat_lt 64 (length x)) (is_fifth y.head) e in
    record { functions = r.functions; globals = r.globals; atomics = r.atomics; names = (ltb-false 64 (length x) k.0, r.names); numbers = r.numbers; heads = head_by_name y.head x ts k.1 r.heads; braces = r.braces }
each_step (Number n) ts y e r =
    record { functions = r.functions; globals = r.globals; atomics = r.atomics; names = r.names; numbers = (same_range y.last n ∙ e, r.numbers); heads = r.heads; braces = r.braces }

-- a token before what passes goes past no limit
one_step : (t : Token) (ts : List Token) (y : Tally) → EachPasses y (t ∷ ts) → (is_over y t ≡ false) × EachPasses (noted y t) ts
one_step (Fixed mark.Fn) ts y r =
    (lt-leb 256 y.functions (omega (arith, r.functions)), record { functions = omega (arith, r.functions); globals = r.globals; atomics = r.atomics; names = r.names; numbers = r.numbers; heads = r.heads; braces = r.braces })
one_step (Fixed mark.Global) ts y r =
    (lt-leb 1024 y.globals (omega (arith, r.globals)), record { functions = r.functions; globals = omega (arith, r.globals); atomics = r.atomics; names = r.names; numbers = r.numbers; heads = r.heads; braces = r.braces })
one_step (Fixed mark.Atomic) ts y r =
    (lt-leb 1024 y.atomics (omega (arith, r.atomics)), record { functions = r.functions; globals = r.globals; atomics = omega (arith, r.atomics); names = r.names; numbers = r.numbers; heads = r.heads; braces = r.braces })
one_step (Fixed mark.OpenBrace) ts y r =
    (lt-leb 64 y.braces r.braces.0, record { functions = r.functions; globals = r.globals; atomics = r.atomics; names = r.names; numbers = r.numbers; heads = r.heads; braces = r.braces.1 })
one_step (Fixed mark.CloseBrace) ts y r =
    (refl, record { functions = r.functions; globals = r.globals; atomics = r.atomics; names = r.names; numbers = r.numbers; heads = r.heads; braces = subst (BracesPass ts) (sym (one_less y.braces)) r.braces })
one_step (Fixed m) ts y r =
    (refl, record { functions = r.functions; globals = r.globals; atomics = r.atomics; names = r.names; numbers = r.numbers; heads = r.heads; braces = r.braces })
one_step (Name x) ts y r =
    let k = name_by_head y.head x ts r.heads in
    (or_from (nat_lt 64 (length x)) (is_fifth y.head) (le-ltb 64 (length x) r.names.0) k.0, record { functions = r.functions; globals = r.globals; atomics = r.atomics; names = r.names.1; numbers = r.numbers; heads = k.1; braces = r.braces })
one_step (Number n) ts y r =
    (sym (same_range y.last n) ∙ r.numbers.0, record { functions = r.functions; globals = r.globals; atomics = r.atomics; names = r.names; numbers = r.numbers.1; heads = r.heads; braces = r.braces })

-- ---- all tokens

-- what the counts of a tally are at the most, where no limit is passed
record Few (y : Tally) : Type 0 where
  functions : y.functions ≤ 256
  globals : y.globals ≤ 1024
  atomics : y.atomics ≤ 1024

few_step : (t : Token) (y : Tally) → is_over y t ≡ false → Few y → Few (noted y t)
few_step (Fixed mark.Fn) y e f =
    record { functions = omega (arith, leb-false 256 y.functions e); globals = f.globals; atomics = f.atomics }
few_step (Fixed mark.Global) y e f =
    record { functions = f.functions; globals = omega (arith, leb-false 1024 y.globals e); atomics = f.atomics }
few_step (Fixed mark.Atomic) y e f =
    record { functions = f.functions; globals = f.globals; atomics = omega (arith, leb-false 1024 y.atomics e) }
few_step _ y e f = record { functions = f.functions; globals = f.globals; atomics = f.atomics }

each_from : (ss : List Spot) (y : Tally) → Few y → over_from y ss ≡ None → EachPasses y (bare ss)
each_from [] y f e =
    record { functions = omega (arith, f.functions); globals = omega (arith, f.globals); atomics = omega (arith, f.atomics); names = tt; numbers = tt; heads = tt; braces = tt }
each_from (s ∷ ss) y f e =
    let k = goes_on (is_over y s.token) s.at (over_from (noted y s.token) ss) e in
    each_step s.token (bare ss) y k.0 (each_from ss (noted y s.token) (few_step s.token y k.0 f) k.1)

none_from : (ss : List Spot) (y : Tally) → EachPasses y (bare ss) → over_from y ss ≡ None
none_from [] y r = refl
none_from (s ∷ ss) y r =
    let k = one_step s.token (bare ss) y r in
    cond-false (is_over y s.token) _ _ k.0 ∙ none_from ss (noted y s.token) k.1

pub each_limit : (ss : List Spot) → (limit_from [] ss ≡ None) ↔ EachPasses (tally_of []) (bare ss)
each_limit ss =
    let few : Few (tally_of []) = record { functions = omega arith; globals = omega arith; atomics = omega arith } in
    (λ e. each_from ss (tally_of []) few (over_is_limit ss [] ∙ e), λ r. sym (over_is_limit ss []) ∙ none_from ss (tally_of []) r)
