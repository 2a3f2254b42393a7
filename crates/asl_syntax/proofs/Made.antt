-- What is built is what the text spells, and a program within the limits is built.
use Rattle.std.proofs.Common.{◌≡◌, ℕ, ◌<◌, ◌≤◌, List, [], Option, Some, None, nat_lt, refl, sym, ap, ◌∙◌, length, MatchOption}
use Rattle.std.specs.Option.{option_map}
use Rattle.std.proofs.lemmas.Bool.{cond-true, cond-false, lt-ltb, le-ltb}
use Rattle.asl_grammar.specs.Automaton.{ItemStart}
use Rattle.asl_grammar.specs.Lex.{tokens_of, bad_place}
use Rattle.asl_syntax.specs.Tree.{Item}
use Rattle.asl_syntax.specs.Limit.{tally_of, limit_from, first_place, byte_over, most_bytes}
use Rattle.asl_syntax.specs.Built.{no_stack}
use Rattle.asl_syntax.specs.Parsed.{IsSpelled}
use Rattle.asl_syntax.specs.Checked.{IsWritten}
use Rattle.asl_syntax.proofs.Ascii.{ascii}
use Rattle.asl_syntax.proofs.Whole.{read_from}
use Rattle.asl_syntax.proofs.Building.{read_whole, read_built}
use Rattle.asl_syntax.proofs.Tallying.{over_is_limit}
use Rattle.asl_syntax.proofs.Plain.{built_meaning, spells_built}

pub none_first : (a b : Option ℕ) → first_place a b ≡ None → a ≡ None
none_first None b e = refl
none_first (Some a) None e = cc
none_first (Some a) (Some b) e = cc

none_second : (a b : Option ℕ) → first_place a b ≡ None → b ≡ None
none_second None b e = e
none_second (Some a) None e = cc
none_second (Some a) (Some b) e = cc

within : (o : Option ℕ) (n : ℕ) → o ≡ None → n ≤ most_bytes → first_place o (byte_over n) ≡ None
within o n e h =
    ap (λ p. first_place p (byte_over n)) e ∙ cond-false (nat_lt most_bytes n) _ _ (le-ltb most_bytes n h)

-- a text that is read whole
pub spelled : (text : List ℕ) (tree : List Item) → length text ≤ most_bytes → Some tree ≡ read_from (tally_of []) ItemStart no_stack (tokens_of text) (bad_place text) → IsSpelled text tree
spelled text tree b e =
    let h = read_whole (tokens_of text) (tally_of []) ItemStart no_stack (bad_place text) tree (sym e) in
    record {
      lexed = record { ascii = ascii text h.tokens; tokens = h.tokens };
      spelled = spells_built (tokens_of text) tree h.built;
      limits = within (limit_from [] (tokens_of text)) (length text) (sym (over_is_limit (tokens_of text) []) ∙ h.limits) b;
    }

-- a program within the limits has no byte too many, and none that is not ASCII
pub never_long : (text : List ℕ) → most_bytes < length text → IsWritten text → ⊥
never_long text h w =
    let n : byte_over (length text) ≡ None = none_second (limit_from [] (tokens_of text)) (byte_over (length text)) w.limits in
    let s : byte_over (length text) ≡ Some most_bytes = cond-true (nat_lt most_bytes (length text)) _ _ (lt-ltb most_bytes (length text) h) in
    cc

-- it is built
pub never : (text : List ℕ) → None ≡ read_from (tally_of []) ItemStart no_stack (tokens_of text) (bad_place text) → IsWritten text → ⊥
never text e w =
    let within = over_is_limit (tokens_of text) [] ∙ none_first (limit_from [] (tokens_of text)) (byte_over (length text)) w.limits in
    let tokens = ap (λ (bad : Option ℕ). read_from (tally_of []) ItemStart no_stack (tokens_of text) bad) w.lexed.tokens in
    let m = e ∙ tokens ∙ read_built (tokens_of text) (tally_of []) ItemStart no_stack within ∙ built_meaning (tokens_of text) w.program.program w.program.spelled in
    cc

-- what is answered of a text with as many bytes as it may have
pub told : {A : Type 0} (view : A → List Item) (text : List ℕ) (o : Option A) → length text ≤ most_bytes → option_map view o ≡ read_from (tally_of []) ItemStart no_stack (tokens_of text) (bad_place text) → MatchOption o (IsWritten text → ⊥) (λ v. IsSpelled text (view v))
told view text None b e = never text e
told view text (Some v) b e = spelled text (view v) b e
