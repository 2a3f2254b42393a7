-- The first value of an argument, as rows tell it.
use Rattle.std.proofs.Common.{◌≡◌, ◌∙◌, ap, sym, List, [], Option, None, Some, option_map}
use Rattle.clap.specs.declared.parser.matches.Found.{Found}
use Rattle.std.specs.Prelude.{unwrap_or}
use Rattle.clap.specs.Words.{Text, first_of, first_value, rows_of}
use Rattle.clap.specs.Words.{matched_of, raw_values}
use Rattle.clap.proofs.WalkLemmas.{first_value-rows, raw_values-rows}
use Rattle.asl_command_line.specs.Words.{value_at, words_at}

-- a value that is there
pub some_first : (f : Found) (name text : Text) → Some text ≡ first_value f name → first_of name (rows_of f) ≡ Some text
some_first f name text e = sym (first_value-rows f name) ∙ sym e

-- a value that is not
pub none_first : (f : Found) (name : Text) → None ≡ first_value f name → first_of name (rows_of f) ≡ None
none_first f name e = sym (first_value-rows f name) ∙ sym e

-- the same of the value itself
pub some_value : (f : Found) (name text : Text) → Some text ≡ first_value f name → value_at name (rows_of f) ≡ text
some_value f name text e = ap (λ (o : Option Text). unwrap_or o []) (some_first f name text e)

pub none_value : (f : Found) (name : Text) → None ≡ first_value f name → value_at name (rows_of f) ≡ []
none_value f name e = ap (λ (o : Option Text). unwrap_or o []) (none_first f name e)

-- words that are there
pub some_words : (f : Found) (name : Text) (words : List Text) → Some words ≡ option_map raw_values (matched_of f name) → words_at name (rows_of f) ≡ words
some_words f name words e = ap (λ (o : Option (List Text)). unwrap_or o []) (sym (raw_values-rows f name) ∙ sym e)

-- words that are not
pub none_words : (f : Found) (name : Text) → None ≡ option_map raw_values (matched_of f name) → words_at name (rows_of f) ≡ []
none_words f name e = ap (λ (o : Option (List Text)). unwrap_or o []) (sym (raw_values-rows f name) ∙ sym e)
