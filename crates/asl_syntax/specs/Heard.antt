-- Machinery of the proofs, not of the promise: the names of docs/SOURCE.md's tokens, each with what it does where it stands,
-- as src/words.rt reads them with no tree. For a tree that the tokens spell they are `mentions` of specs/Mentions.
use Rattle.std.specs.Prelude.{◌≡◌, ℕ, suc, List, [], ◌∷◌, Bool, true, false, Option, Some, None, if◌then◌else◌, ◌==◌, ◌||◌, ◌&&◌, codes}
use Rattle.asl_grammar.specs.declared.token.Mark.TheVariants as mark
use Rattle.asl_grammar.specs.Token.{Token, Fixed, Name}
use Rattle.asl_syntax.specs.declared.words.Before.{Before}
use Rattle.asl_syntax.specs.declared.words.Before.TheVariants.{Plain, Global, Fn, Head, Star, Ampersand}
use Rattle.asl_syntax.specs.declared.names.Space.{Space}
use Rattle.asl_syntax.specs.declared.names.Space.TheVariants.{Globals, Functions, Locals, Parameters}
use Rattle.asl_syntax.specs.Mentions.{Mention, DeclaresGlobal, DeclaresFunction, DeclaresParameter, AssignsLocal, UsesLocal, UsesGlobal, CallsFunction}
use Rattle.asl_syntax.specs.Rules.{Counts, no_name, declared_in, with_declared, names_in, unknown_use, or_name}

-- what a token tells of the next, outside of heads and in a function's head
abbrev pub told : Token → Before
told (Fixed mark.Global) = Global
told (Fixed mark.Fn) = Fn
told (Fixed mark.Star) = Star
told (Fixed mark.Ampersand) = Ampersand
told _ = Plain

-- what a token of a function's head tells of the next: it is in the head, too, up to the opening brace
abbrev pub in_head : Token → Before
in_head (Fixed mark.OpenBrace) = Plain
in_head _ = Head

-- what stands before the next token, after one more
abbrev pub after : Before → Token → Before
after Head t = in_head t
after Fn t = Head
after _ t = told t

-- how many names stand before the next closing parenthesis
abbrev pub names_to_close : List Token → ℕ
names_to_close [] = 0
names_to_close (Fixed mark.CloseParen ∷ ts) = 0
names_to_close (Name x ∷ ts) = suc (names_to_close ts)
names_to_close (t ∷ ts) = names_to_close ts

-- what a name does, by the tokens after it
abbrev pub address_mention : List ℕ → List Token → Mention
address_mention x (Fixed mark.OpenBracket ∷ ts) = UsesLocal x
address_mention x _ = UsesGlobal x

-- what a name does where what stands before it says nothing, by the tokens after it
abbrev pub plain_mention : List ℕ → List Token → Mention
plain_mention x (Fixed mark.Becomes ∷ ts) = AssignsLocal x
plain_mention x (Fixed mark.OpenParen ∷ ts) = CallsFunction x (names_to_close ts)
plain_mention x _ = UsesLocal x

-- what a name does, by what stands before it
abbrev pub mention_at : Before → List ℕ → List Token → Mention
mention_at Global x ts = DeclaresGlobal x
mention_at Fn x ts = DeclaresFunction x
mention_at Head x ts = DeclaresParameter x
mention_at Star x ts = UsesLocal x
mention_at Ampersand x ts = address_mention x ts
mention_at Plain x ts = plain_mention x ts

-- the names of tokens in order
abbrev pub heard : Before → List Token → List Mention
heard b [] = []
heard b (Name x ∷ ts) = mention_at b x ts ∷ heard (after b (Name x)) ts
heard b (t ∷ ts) = heard (after b t) ts

-- ---- the rules of names over mentions alone

-- it declares a function
abbrev pub is_function : Mention → Bool
is_function (DeclaresFunction x) = true
is_function _ = false

-- it declares the name in a name space
abbrev pub declares : Space → Mention → List ℕ → Bool
declares space m q = with_declared (declared_in space m) no_name q

-- it declares a name that is declared before, among all mentions or those of its function
abbrev pub is_repeated : List Mention → List Mention → Mention → Bool
is_repeated all own (DeclaresGlobal x) = names_in Globals all x
is_repeated all own (DeclaresFunction x) = names_in Functions all x
is_repeated all own (DeclaresParameter x) = names_in Parameters own x
is_repeated all own _ = false

-- the mentions of a function with a place among them, after one more: a function's begin after its name
abbrev pub IsOwnAfter : Mention → List Mention → List Mention → ℕ → List Mention → ℕ → Type 0
IsOwnAfter (DeclaresFunction x) rest own k new j = (new ≡ rest) × (j ≡ 0)
IsOwnAfter _ rest own k new j = (new ≡ own) × (j ≡ suc k)

-- up to the next function
abbrev pub own_part : List Mention → List Mention
own_part [] = []
own_part (m ∷ ms) = if is_function m then [] else m ∷ own_part ms

-- a used name that its name space does not have, by all mentions and those of its function
abbrev pub is_unheard : List Mention → List Mention → Mention → Option (List ℕ)
is_unheard all own m = unknown_use (names_in Globals all) (names_in Functions all) (names_in Locals (own_part own)) m

-- those of the function after one more
abbrev pub own_after : Mention → List Mention → List Mention → List Mention
own_after m own rest = if is_function m then rest else own

-- the first used name that its name space does not have (`is_unheard`)
abbrev pub first_unheard : List Mention → List Mention → List Mention → Option (List ℕ)
first_unheard all own [] = None
first_unheard all own (m ∷ ms) = or_name (is_unheard all own m) (first_unheard all (own_after m own ms) ms)

-- how many parameters are declared first
abbrev pub parameters_first : List Mention → ℕ
parameters_first (DeclaresParameter x ∷ ms) = suc (parameters_first ms)
parameters_first _ = 0

-- how many parameters a function has, by its name
abbrev pub heard_count : List Mention → Counts
heard_count [] q = None
heard_count (m ∷ ms) q = if declares Functions m q then Some (parameters_first ms) else heard_count ms q

-- there is a function `main` of one parameter
abbrev pub heard_main : List Mention → Bool
heard_main [] = false
heard_main (m ∷ ms) = (declares Functions m (codes "main") && parameters_first ms == 1) || heard_main ms
