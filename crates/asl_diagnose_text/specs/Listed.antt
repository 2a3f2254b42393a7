-- Words of what is told with a refusal: with which kinds of token a program continues (docs/SOURCE.md, "Reading a refusal").
use Rattle.std.specs.Prelude.{ℕ, List, [], ◌∷◌, ◌++◌, Bool, true, false, codes}
use Rattle.std.specs.List.{flat_map}
use Rattle.asl_grammar.specs.Bytes.{mark_bytes}
use Rattle.asl_diagnose_text.specs.declared.kind.TokenKind.{TokenKind}
use Rattle.asl_diagnose_text.specs.declared.kind.TokenKind.TheVariants as kind

-- a kind of token
abbrev pub kind_word : TokenKind → List ℕ
kind_word (kind.Fixed m) = mark_bytes m
kind_word kind.Name = codes "a name"
kind_word kind.Number = codes "a number"

-- what stands before the kinds, by those after the first: whether there is one kind or more
abbrev pub list_head : List TokenKind → List ℕ
list_head [] = codes "expected"
list_head (k ∷ kinds) = codes "expected one of:"

-- each of some kinds
abbrev pub kind_text : TokenKind → List ℕ
kind_text k = codes " " ++ kind_word k

-- all of some kinds, one after the other
abbrev pub kinds_text : List TokenKind → List ℕ
kinds_text = flat_map kind_text

-- what stands behind the kinds: whether the program may end there, too
abbrev pub list_end : Bool → List ℕ
list_end true = codes ", or the end\n"
list_end false = codes "\n"

-- the kinds with which a program continues, each, and whether it may end there; nothing where there are none
abbrev pub expected_text : List TokenKind → Bool → List ℕ
expected_text [] may_end = []
expected_text (k ∷ kinds) may_end =
    list_head kinds ++ (kinds_text (k ∷ kinds) ++ list_end may_end)
