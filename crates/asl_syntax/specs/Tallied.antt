-- Machinery of the proofs, not of the promise: the limits of docs/SOURCE.md counted token by token, as src/source_limits.rt
-- counts them. What public contracts cite is specs/Limit.
use Rattle.std.specs.Prelude.{ℕ, suc, ◌-◌, Option, Some, None}
use Rattle.asl_grammar.specs.declared.token.Mark.TheVariants as mark
use Rattle.asl_grammar.specs.Token.{Token, Fixed, Name}
use Rattle.asl_syntax.specs.Limit.{Tally, one_more}

-- the names in a head after one more token
abbrev pub head_after : Option ℕ → Token → Option ℕ
head_after h (Fixed mark.Fn) = Some 0
head_after h (Fixed mark.OpenParen) = h
head_after h (Fixed mark.Comma) = h
head_after h (Name x) = one_more h
head_after h _ = None

-- how many `fn` there are after one more token, where there were n
abbrev pub functions_after : ℕ → Token → ℕ
functions_after n (Fixed mark.Fn) = suc n
functions_after n _ = n

-- how many `global` there are after one more token, where there were n
abbrev pub globals_after : ℕ → Token → ℕ
globals_after n (Fixed mark.Global) = suc n
globals_after n _ = n

-- how many `atomic` there are after one more token, where there were n
abbrev pub atomics_after : ℕ → Token → ℕ
atomics_after n (Fixed mark.Atomic) = suc n
atomics_after n _ = n

-- how many braces are open after one more token, where there were n
abbrev pub braces_after : ℕ → Token → ℕ
braces_after n (Fixed mark.OpenBrace) = suc n
braces_after n (Fixed mark.CloseBrace) = n - 1
braces_after n _ = n

-- one more token
abbrev pub noted : Tally → Token → Tally
noted y t = record {
  last = Some t;
  functions = functions_after y.functions t;
  globals = globals_after y.globals t;
  atomics = atomics_after y.atomics t;
  braces = braces_after y.braces t;
  head = head_after y.head t;
}
