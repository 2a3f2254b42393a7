-- Machinery of the proofs, not of the promise: what src/declared.rt remembers of a name.
use Rattle.std.specs.Prelude.{ℕ, List, [], ◌∷◌, Bool, false, ◌||◌, Option, Some, None, is_some, if◌then◌else◌}
use Rattle.asl_grammar.specs.Token.{Token, Spot}
use Rattle.asl_diagnose_text.specs.declared.declared.Seen.{Seen}
use Rattle.asl_diagnose_text.specs.declared.word_place.Word.TheVariants as word
use Rattle.asl_diagnose_text.specs.declared.declared.Declares.{Declares}
use Rattle.asl_diagnose_text.specs.declared.declared.Declares.TheVariants.{Global, Function, Parameter, Nothing}
use Rattle.asl_diagnose_text.specs.Places.{is_named, is_word, declares_after}

-- the name stands nowhere
abbrev pub seen_nothing : Seen
seen_nothing = record { next = Nothing; global = None; function = None; parameter = None }

-- where it was declared so
abbrev pub cell : Seen → Declares → Option ℕ
cell s Global = s.global
cell s Function = s.function
cell s Parameter = s.parameter
cell s Nothing = None

-- with a declaration as what is next, at a place
abbrev pub noted_as : Seen → ℕ → Declares → Seen
noted_as s at Global = record s { global = Some at }
noted_as s at Function = record s { function = Some at }
noted_as s at Parameter = record s { parameter = Some at }
noted_as s at Nothing = s

-- with the name declared at this place, as what the next name declares
abbrev pub noted : Seen → ℕ → Seen
noted s at = noted_as s at s.next

-- after the name, if it is the name
abbrev pub noted_if : Bool → Seen → ℕ → Seen
noted_if b s at = if b then noted s at else s

-- in the next function, if it is `fn`
abbrev pub entered_if : Bool → Seen → Seen
entered_if b s = if b then record s { parameter = None } else s

-- after one more token
abbrev pub passed : List ℕ → Seen → Spot → Seen
passed x s spot =
    let t = entered_if (is_word word.Fn spot.token) (noted_if (is_named x spot.token) s spot.at) in
    record t { next = declares_after s.next spot.token }

-- the next name is a function's, and the token is the name
abbrev pub is_function : List ℕ → Declares → Token → Bool
is_function x Function t = is_named x t
is_function x next t = false

-- the place of the first function of the name
abbrev pub first_function : List ℕ → Declares → List Spot → Option ℕ
first_function x next [] = None
first_function x next (s ∷ ss) =
    if is_function x next s.token then Some s.at else first_function x (declares_after next s.token) ss

-- where the name was declared before, if the token declares it again
abbrev pub again : List ℕ → Seen → Token → Option ℕ
again x s t = if is_named x t then cell s s.next else None

-- some token does
abbrev pub is_twice : List ℕ → Seen → List Spot → Bool
is_twice x s [] = false
is_twice x s (t ∷ ss) = is_some (again x s t.token) || is_twice x (passed x s t) ss
