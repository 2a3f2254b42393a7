-- Names in the text: C functions in place of those of the program, functions that C calls, and comments.
use Rattle.std.specs.declared.alloc.Global.{Global}
use Rattle.std.specs.Prelude.{ℕ, ◌==◌, ◌||◌, Bool, String, Vec, List, [], ◌∷◌, ◌++◌, Option, None, Some, codes, slice_get, string_bytes, unwrap_or, if◌then◌else◌}
use Rattle.std.specs.List.{list_all}
use Rattle.std.specs.Option.{option_map}
use Rattle.std.specs.Char.{is_ascii_alphanumeric}
use Rattle.asl_parallel_c.specs.declared.options.Extern.{Extern}
use Rattle.asl_parallel_c.specs.declared.options.Options.{Options}
use Rattle.asl_parallel_c.specs.Template.{filled}

-- the name that the first of them has for the function, if one does
abbrev pub name_in : List Extern → ℕ → Option (List ℕ)
name_in [] function = None
name_in (e ∷ es) function = if e.function == function then Some (string_bytes e.name) else name_in es function

-- the first of two names that is there
abbrev pub first_name : Option (List ℕ) → Option (List ℕ) → Option (List ℕ)
first_name (Some name) other = Some name
first_name None other = other

-- the name of the C function that stands for the function, if one does
abbrev pub stand_in : Options → ℕ → Option (List ℕ)
stand_in options function = name_in options.externs.items function

-- the name of its own that the function has in C: that of the C function which stands for it, or by which C calls it
abbrev pub name_of : Options → ℕ → Option (List ℕ)
name_of options function = first_name (stand_in options function) (name_in options.entries.items function)

-- a function has the name that it is given, and else `aslr_f` and its number
abbrev pub named : Option (List ℕ) → ℕ → List ℕ
named (Some name) function = name
named None function = filled (codes "aslr_f@") (function ∷ [])

-- the C name of a function
abbrev pub callee : Options → ℕ → List ℕ
callee options function = named (name_of options function) function

-- a letter, a digit or `_` (95)
abbrev pub is_word_byte : ℕ → Bool
is_word_byte b = is_ascii_alphanumeric b || (b == 95)

-- the comment of a name that has only letters, digits and `_`, so that it ends no comment; another name has none
abbrev pub comment_of : List ℕ → List ℕ
comment_of name = if list_all is_word_byte name then codes " /* " ++ (name ++ codes " */") else []

-- the comment of the name of this number, where there is one
abbrev pub comment_at : List (String Global) → ℕ → List ℕ
comment_at names number = unwrap_or (option_map (λ name. comment_of (string_bytes name)) (slice_get names number)) []

-- the comment of a function: its name in the source, where it is known
abbrev pub comment : Options → ℕ → List ℕ
comment options function = comment_at options.names.items function

-- the comment of a local of a function, by its register: its name in the source, where it is known
abbrev pub local_comment : Options → ℕ → ℕ → List ℕ
local_comment options function register =
    unwrap_or (option_map (λ (names : Vec (String Global) Global). comment_at names.items register) (slice_get options.locals.items function)) []
