-- The assignments and the stores of a text, and the blocks that they stand in (docs/SOURCE.md, "Grammar").
use Rattle.std.specs.Prelude.{◌≡◌, ℕ, suc, ◌-◌, ◌<◌, List, [], ◌∷◌, Bool, true, false, if◌then◌else◌, ◌&&◌, ◌||◌, nat_le, nat_lt, map, count_by}
use Rattle.std.specs.List.{Contains, filter}
use Rattle.asl_grammar.specs.declared.token.Mark.TheVariants as mark
use Rattle.asl_grammar.specs.Token.{Token, Fixed, Name, Spot}
use Rattle.asl_grammar.specs.Lex.{tokens_of}

-- a `;`
abbrev pub is_semicolon : Token → Bool
is_semicolon (Fixed mark.Semicolon) = true
is_semicolon t = false

-- a `{`
abbrev pub is_opening : Token → Bool
is_opening (Fixed mark.OpenBrace) = true
is_opening t = false

-- a `}`
abbrev pub is_closing : Token → Bool
is_closing (Fixed mark.CloseBrace) = true
is_closing t = false

-- a statement may begin after it
abbrev pub is_edge : Token → Bool
is_edge t = is_semicolon t || is_opening t || is_closing t

-- an assignment begins with a name, and a store with a `*`
abbrev pub is_first : Token → Bool
is_first (Name x) = true
is_first (Fixed mark.Star) = true
is_first t = false

-- an assignment or a store: where it begins, and the place after its `;`
pub record Statement : Type 0 where
  pub from : ℕ
  pub to : ℕ

-- the place after the first `;`, and 0 where there is none
abbrev pub end_in : List Spot → ℕ
end_in [] = 0
end_in (s ∷ ss) = if is_semicolon s.token then suc s.at else end_in ss

-- the assignments and the stores among the tokens of a program: each begins with a name or a `*` that stands right after a `;`, a `{` or
-- a `}`, and ends with the next `;`
abbrev pub statements_in : List Spot → List Statement
statements_in [] = []
statements_in (s ∷ []) = []
statements_in (s ∷ (t ∷ ss)) =
    if is_edge s.token && is_first t.token then record { from = t.at; to = end_in ss } ∷ statements_in (t ∷ ss) else statements_in (t ∷ ss)

-- where the assignments and the stores of a text begin
abbrev pub beginnings : List ℕ → List ℕ
beginnings text = map (λ s. s.from) (statements_in (tokens_of text))

-- where they end
abbrev pub endings : List ℕ → List ℕ
endings text = map (λ s. s.to) (statements_in (tokens_of text))

-- from the one place on, and before the other
abbrev pub is_between : ℕ → ℕ → ℕ → Bool
is_between from to at = nat_le from at && nat_lt at to

-- assignments and stores from one place to another: one begins at the first place, one ends at the second, and so many begin between
pub record AreStatements (text : List ℕ) (from to count : ℕ) : Type 0 where
  pub order : from < to
  pub first : Contains (beginnings text) from
  pub last : Contains (endings text) to
  pub counted : count ≡ count_by (is_between from to) (beginnings text)

-- how many braces are open after a token
abbrev pub braces_after : ℕ → Token → ℕ
braces_after depth t = if is_opening t then suc depth else if is_closing t then depth - 1 else depth

-- a `}` among tokens closes the last brace that is open, where so many are open before them
abbrev pub closes : ℕ → List Spot → Bool
closes depth [] = false
closes depth (s ∷ ss) = is_closing s.token && nat_le depth 1 || closes (braces_after depth s.token) ss

-- the tokens of a text from the one place on, and before the other
abbrev pub tokens_between : ℕ → ℕ → List ℕ → List Spot
tokens_between from to text = filter (λ s. is_between from to s.at) (tokens_of text)
