-- A word that does not begin with a hyphen is no flag, so `step` takes it for a value.
use Rattle.std.proofs.Common.{◌≡◌, ◌&&◌, ◌==◌, ℕ, Bool, true, false, cond, List, [], ◌∷◌, Some, None, refl, ap}
use Rattle.std.specs.Str.{bytes_eq}
use Rattle.clap.specs.Lexer.{long_of, short_of}
use Rattle.clap.specs.Walk.{Held, Rule, Text, Waiting, idle, option, positional, plain_word, word_met}
use Rattle.asl_command_line.specs.Apart.{IsPlain}

some_is_none : (b : Bool) (xs : List ℕ) → cond b (Some xs) None ≡ None → b ≡ false
some_is_none true xs e = cc
some_is_none false xs e = refl

-- it is not `--`
pub no_dashes : (word : Text) → IsPlain word → bytes_eq word (45 ∷ 45 ∷ []) ≡ false
no_dashes [] plain = refl
no_dashes (x ∷ xs) plain = ap (λ b. b && bytes_eq xs (45 ∷ [])) (some_is_none (x == 45) xs plain)

pub no_long : (word : Text) → IsPlain word → long_of word ≡ None
no_long word plain = rw plain refl

pub no_short : (word : Text) → IsPlain word → short_of word ≡ None
no_short word plain = rw plain refl

-- what it is, where it may be a flag
pub plain_met : (c : List Rule) (waiting : Waiting) (position : ℕ) (word : Text) (h : Held) → IsPlain word
    → word_met c [] false waiting position word h ≡ plain_word c waiting word h
plain_met c idle position word h plain = rw (no_dashes word plain, no_long word plain, no_short word plain) refl
plain_met c (option id) position word h plain = rw (no_dashes word plain, no_long word plain, no_short word plain) refl
plain_met c positional position word h plain = rw (no_dashes word plain, no_long word plain, no_short word plain) refl
