-- Places of names and words among the tokens of a text.
use Rattle.std.specs.Prelude.{◌≡◌, ◌≢◌, ◌<◌, ◌≤◌, ℕ, List, [], ◌∷◌, ◌++◌, suc, Bool, true, false, bytes_eq, if◌then◌else◌, length, take, count_by}
use Rattle.std.specs.List.{All, Contains}
use Rattle.asl_code.specs.declared.instr.Instr.{Instr}
use Rattle.asl_grammar.specs.declared.token.Mark.TheVariants as mark
use Rattle.asl_grammar.specs.Token.{Token, Fixed, Name, Spot}
use Rattle.asl_grammar.specs.Lex.{tokens_of}
use Rattle.asl_syntax.specs.Tree.{Item, functions_of}
use Rattle.asl_lower.specs.Place.{origin, past_functions}
use Rattle.asl_lower.specs.OpenSections.{is_access}
use Rattle.asl_diagnose_text.specs.declared.word_place.Word.{Word}
use Rattle.asl_diagnose_text.specs.declared.word_place.Word.TheVariants as word
use Rattle.asl_diagnose_text.specs.declared.declared.Declares.{Declares}
use Rattle.asl_diagnose_text.specs.declared.declared.Declares.TheVariants.{Global, Function, Parameter, Nothing}

-- the token is the name
abbrev pub is_named : List ℕ → Token → Bool
is_named x (Name y) = bytes_eq y x
is_named x t = false

-- the name as a token at a place
abbrev pub named : List ℕ → ℕ → Spot
named x at = record { token = Name x; at = at }

-- a token that is the name stands there
abbrev pub IsNameAt : List Spot → List ℕ → ℕ → Type 0
IsNameAt ss x at = Contains ss (named x at)

-- the token is the word
abbrev pub is_word : Word → Token → Bool
is_word word.Fn (Fixed mark.Fn) = true
is_word word.Atomic (Fixed mark.Atomic) = true
is_word word.Star (Fixed mark.Star) = true
is_word w t = false

-- how many of the word there are
abbrev pub words_in : Word → List Spot → ℕ
words_in w [] = 0
words_in w (s ∷ ss) = if is_word w s.token then suc (words_in w ss) else words_in w ss

-- the word stands there, and so many of it before
pub record IsWordAt (ss : List Spot) (w : Word) (number at : ℕ) : Type 0 where
  pub before : List Spot
  pub here : Spot
  pub behind : List Spot
  pub split : ss ≡ before ++ here ∷ behind
  pub word : is_word w here.token ≡ true
  pub place : here.at ≡ at
  pub counted : words_in w before ≡ number

-- how many loads and stores stand before the pc
abbrev pub accesses_before : List Instr → ℕ → ℕ
accesses_before code pc = count_by is_access (take pc code)

-- what the next name declares: after `global` a global, after `fn` a function, and from a function's name to the parenthesis that
-- closes a parameter
abbrev pub declares_after : Declares → Token → Declares
declares_after next (Fixed mark.Global) = Global
declares_after next (Fixed mark.Fn) = Function
declares_after next (Fixed mark.CloseParen) = Nothing
declares_after Function (Name x) = Parameter
declares_after Parameter (Name x) = Parameter
declares_after next (Name x) = Nothing
declares_after next t = next

-- the same after tokens
abbrev pub declares_from : Declares → List Spot → Declares
declares_from next [] = next
declares_from next (s ∷ ss) = declares_from (declares_after next s.token) ss

-- what a name after these tokens declares
abbrev pub declares : List Spot → Declares
declares before = declares_from Nothing before

-- a function of the name is declared there
pub record IsFunctionAt (ss : List Spot) (x : List ℕ) (at : ℕ) : Type 0 where
  pub before : List Spot
  pub behind : List Spot
  pub split : ss ≡ before ++ named x at ∷ behind
  pub function : declares before ≡ Function

-- a parameter's function continues over these tokens: no `fn` stands among them; others have no such bound
abbrev pub SameFunction : Declares → List Spot → Type 0
SameFunction Parameter ss = All (λ (s : Spot). is_word word.Fn s.token ≡ false) ss
SameFunction what ss = Unit {0}

-- the name is declared at two places, first at the first of them, in one name space: as globals, as functions, or as parameters of
-- one function
pub record AreDeclaredAt (ss : List Spot) (x : List ℕ) (first second : ℕ) : Type 0 where
  pub before : List Spot
  pub between : List Spot
  pub behind : List Spot
  pub split : ss ≡ before ++ named x first ∷ (between ++ named x second ∷ behind)
  pub real : declares before ≢ Nothing
  pub same : declares (before ++ named x first ∷ between) ≡ declares before
  pub function : SameFunction (declares before) between

-- these are the name's first two declarations in one name space: before the second there are no such two
pub record AreFirstDeclaredAt (ss : List Spot) (x : List ℕ) (first second : ℕ) : Type 0 where
  pub pair : AreDeclaredAt ss x first second
  pub earliest : (one other : ℕ) → ¬ AreDeclaredAt (pair.before ++ named x first ∷ pair.between) x one other

-- the code of the functions before the one of this number has at most 65,535 instructions, and with that function it has more
pub record IsOverfull (tree : List Item) (number : ℕ) : Type 0 where
  pub there : number < length (functions_of tree)
  pub fits : (past_functions (take number (functions_of tree)) origin).pc ≤ 65535
  pub passes : 65535 < (past_functions (take (suc number) (functions_of tree)) origin).pc
