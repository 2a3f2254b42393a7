-- Pairs of a function of a source and of a C function as words: `F=NAME` (docs/PARALLEL.md, "C in place of a function").
use Rattle.std.specs.Prelude.{◌≡◌, ◌==◌, ◌&&◌, ◌||◌, ℕ, Bool, true, false, List, [], ◌∷◌, Some, codes, map, slice_get, string_bytes, take}
use Rattle.std.specs.List.{after_first, before_first, list_all, list_any}
use Rattle.std.specs.Str.{bytes_eq}
use Rattle.std.specs.Char.{is_ascii_digit}
use Rattle.clap.specs.Words.{Text}
use Rattle.asl_command_line.specs.declared.command.Replacement.{Replacement}
use Rattle.asl_command_line.specs.declared.extern_words.ExternsFault.{ExternsFault}
use Rattle.asl_command_line.specs.declared.extern_words.ExternsFault.TheVariants as fault
use Rattle.asl_command_line.specs.declared.extern_words.TheConstants.{KEYWORDS}
use Rattle.asl_command_line.specs.declared.extern_words.WhyNot.{WhyNot}
use Rattle.asl_command_line.specs.declared.extern_words.WhyNot.TheVariants as why
use Rattle.asl_command_line.specs.Names.{is_name}

-- what stands before the first `=` (61) of a word
abbrev pub function_in : Text → Text
function_in word = before_first (λ b. b == 61) word

-- what stands behind it; nothing where there is none
abbrev pub c_name_in : Text → Text
c_name_in word = after_first (λ b. b == 61) word

-- one of the words is this one
abbrev pub is_among : List Text → Text → Bool
is_among words word = list_any (λ one. bytes_eq one word) words

-- digits, one or more
abbrev pub is_decimal : Text → Bool
is_decimal [] = false
is_decimal (first ∷ rest) = is_ascii_digit first && list_all is_ascii_digit rest

-- `r` (114) and a number
abbrev pub is_register : Text → Bool
is_register [] = false
is_register (first ∷ rest) = (first == 114) && is_decimal rest

-- the printed text, the runtime or the library has a name of this form
abbrev pub is_taken : Text → Bool
is_taken name =
    bytes_eq name (codes "main") || (bytes_eq name (codes "t") || (bytes_eq (take 4 name) (codes "asl_") || (bytes_eq (take 5 name) (codes "aslr_") || is_register name)))

-- the words of C
abbrev pub keywords : List Text
keywords = map (λ s. s.now) KEYWORDS

-- what is wrong with a word, after these words
abbrev pub IsWrong : List Text → Text → WhyNot → Type 0
IsWrong before word why.NoPair = (is_name (function_in word) && is_name (c_name_in word)) ≡ false
IsWrong before word why.IsMain = bytes_eq (function_in word) (codes "main") ≡ true
IsWrong before word why.IsKeyword = is_among keywords (c_name_in word) ≡ true
IsWrong before word why.IsTaken = is_taken (c_name_in word) ≡ true
IsWrong before word why.FunctionTwice = is_among (map function_in before) (function_in word) ≡ true
IsWrong before word why.NameTwice = is_among (map c_name_in before) (c_name_in word) ≡ true

-- nothing is wrong with the words, each after those before it
abbrev pub AreRight : List Text → Type 0
AreRight words = (i : ℕ) (word : Text) → slice_get words i ≡ Some word → (why : WhyNot) → ¬ IsWrong (take i words) word why

-- the words are these pairs
pub record AreExterns (words : List Text) (pairs : List Replacement) : Type 0 where
  pub right : AreRight words
  pub functions : map (λ (e : Replacement). string_bytes e.function) pairs ≡ map function_in words
  pub names : map (λ (e : Replacement). string_bytes e.name) pairs ≡ map c_name_in words

-- what is told of it
abbrev pub why_text : WhyNot → Text
why_text why.NoPair = codes "not F=NAME with the name of a function and that of a C function"
why_text why.IsMain = codes "no C function is called in place of main"
why_text why.IsKeyword = codes "a C function cannot have the name of a word of C"
why_text why.IsTaken = codes "the printed program has that name itself"
why_text why.FunctionTwice = codes "a C function is called in place of the function already"
why_text why.NameTwice = codes "the C function is called in place of another function already"

-- this is wrong with one of the words
abbrev pub IsWrongOf : List Text → Text → WhyNot → Type 0
IsWrongOf words word why = (i : ℕ) × (slice_get words i ≡ Some word) × IsWrong (take i words) word why

-- what a fault says of the words
abbrev pub IsExternsFault : List Text → ExternsFault → Type 0
IsExternsFault words (fault.NoExtern word why) = IsWrongOf words word.now why
IsExternsFault words fault.OutOfMemory = Unit {0}
