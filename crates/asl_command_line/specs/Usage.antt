-- The texts of wrong usage (docs/CLI.md, "Status"). Some are the program's own; the others are those of `clap`, of which is known how
-- they end.
use Rattle.std.specs.Prelude.{◌≡◌, ◌++◌, codes}
use Rattle.clap.specs.Words.{Text}

-- where help is
abbrev pub help_is_there : Text
help_is_there = codes "For more information, try '--help'.\n"

-- the text ends by saying where help is
abbrev pub SaysWhereHelpIs : Text → Type 0
SaysWhereHelpIs text = (front : Text) × (text ≡ front ++ help_is_there)

-- what is wrong, and where help is
abbrev pub usage_text : Text → Text
usage_text why = codes "error: " ++ why ++ codes "\n\n" ++ help_is_there

-- which value is none of its place, and why
abbrev pub invalid_text : Text → Text → Text → Text
invalid_text value place why = usage_text (codes "invalid value '" ++ value ++ codes "' for '" ++ place ++ codes "': " ++ why)

-- what a number must be
abbrev pub a_number : Text
a_number = codes "not a number from 0 to 4294967295"

-- what the length of a path must be
abbrev pub a_length : Text
a_length = codes "not a number from 0 to 8"

-- what the length of a path must be where there is a longest one, too
abbrev pub a_length_or_auto : Text
a_length_or_auto = codes "neither a number from 0 to 8 nor auto"

-- what an entry must be
abbrev pub a_name : Text
a_name = codes "not the name of a function"

-- what a word of the debugger must be
abbrev pub a_word : Text
a_word = codes "not one of goto, forward, back, next, prev, break, clear, view, asks, stack, objects"
