-- The text of a parsed tree parses to the tree, or is too long.
use Rattle.std.proofs.Common.{◌≡◌, ℕ, ◌<◌, ◌≤◌, List, [], true, nat_lt, Option, Some, None, is_none, IsTrue, length, refl, sym, ap, ◌∙◌, subst}
use Rattle.std.proofs.Math.Bool.{Bool-set}
use Rattle.std.proofs.Math.Logic.{∥∥₁_elim}
use Rattle.std.proofs.lemmas.Bool.{cond-true, cond-false, lt-ltb, le-ltb}
use Rattle.asl_grammar.specs.Lex.{tokens_of, are_tokens}
use Rattle.asl_grammar.specs.Grammar.{bare}
use Rattle.asl_grammar.specs.Spelling.{program_on}
use Rattle.asl_syntax.specs.Tree.{Item}
use Rattle.asl_syntax.specs.Spelled.{Spells}
use Rattle.asl_syntax.specs.Writing.{writing}
use Rattle.asl_syntax.specs.Printed.{printed}
use Rattle.asl_syntax.specs.Limit.{tally_of, limit_from, most_bytes, byte_over, first_place}
use Rattle.asl_syntax.specs.Rules.{twice, unknown, wrong_call, has_main}
use Rattle.asl_syntax.specs.Parsed.{Parses, IsParsed}
use Rattle.asl_syntax.specs.Fault.{IsPastLimit}
use Rattle.asl_syntax.proofs.Made.{none_first}
use Rattle.asl_syntax.proofs.Mentioned.{arity_kept}
use Rattle.asl_syntax.proofs.Printing.{printed_lexed, printed_tokens, parsed_names}
use Rattle.asl_syntax.proofs.Spaced.{writing_spells}
use Rattle.asl_syntax.proofs.Within.{are_within, within_kept, limits_from_within}

-- what is known of a tree that some text spells without breaking a rule: each part is the answer of a test
pub record IsSound (tree : List Item) : Type 0 where
  pub real : IsTrue (are_tokens (program_on (writing tree) []))
  pub within : IsTrue (are_within (tally_of []) (program_on (writing tree) []))
  pub twice : IsTrue (is_none (twice tree))
  pub unknown : IsTrue (is_none (unknown tree))
  pub arity : IsTrue (is_none (wrong_call tree (tokens_of (printed tree))))
  pub main : IsTrue (has_main tree)

IsSound-prop : (tree : List Item) → IsProp (IsSound tree)
IsSound-prop tree = hlevel (Bool-set)

none_is : {A : Type 0} (o : Option A) → is_none o ≡ true → o ≡ None
none_is None e = refl
none_is (Some x) e = cc

-- the tree's own spelling is that of its printed text
spelled_back : (tree : List Item) → IsTrue (are_tokens (program_on (writing tree) [])) → Spells tree (bare (tokens_of (printed tree)))
spelled_back tree real = subst (Spells tree) (sym (printed_tokens tree real)) (writing_spells tree)

pub sound : (text : List ℕ) (tree : List Item) → Parses text tree → IsSound tree
sound text tree p =
    let real : IsTrue (are_tokens (program_on (writing tree) [])) = parsed_names text tree p.spelled.spelled in
    let limits : limit_from [] (tokens_of text) ≡ None = none_first (limit_from [] (tokens_of text)) (byte_over (length text)) p.spelled.limits in
    record {
      real = real;
      within = within_kept tree (tokens_of text) p.spelled.spelled limits;
      twice = ap is_none p.twice;
      unknown = ap is_none p.unknown;
      arity = ap is_none (arity_kept tree (tokens_of text) (tokens_of (printed tree)) p.spelled.spelled (spelled_back tree real) p.arity);
      main = p.main;
    }

-- also where the text is not at hand
pub sound_ever : (tree : List Item) → ∥ IsParsed tree ∥₁ → IsSound tree
sound_ever tree h = ∥∥₁_elim h (IsSound-prop tree) (λ p. sound p.text tree p.parses)

-- no token of the printed text goes past a limit
limits_back : (tree : List Item) → IsSound tree → limit_from [] (tokens_of (printed tree)) ≡ None
limits_back tree s =
    limits_from_within (tokens_of (printed tree)) (program_on (writing tree) []) (printed_tokens tree s.real) s.within

pub read_back : (tree : List Item) → IsSound tree → length (printed tree) ≤ 1048576 → Parses (printed tree) tree
read_back tree s small =
    let short : byte_over (length (printed tree)) ≡ None = cond-false (nat_lt most_bytes (length (printed tree))) _ _ (le-ltb most_bytes (length (printed tree)) small) in
    record {
      spelled = record {
        lexed = printed_lexed tree s.real;
        spelled = spelled_back tree s.real;
        limits = ap (λ (o : Option ℕ). first_place o (byte_over (length (printed tree)))) (limits_back tree s) ∙ short;
      };
      twice = none_is (twice tree) s.twice;
      unknown = none_is (unknown tree) s.unknown;
      arity = none_is (wrong_call tree (tokens_of (printed tree))) s.arity;
      main = s.main;
    }

pub too_long : (tree : List Item) → IsSound tree → 1048576 < length (printed tree) → IsPastLimit (printed tree) 1048576
too_long tree s great =
    let long : byte_over (length (printed tree)) ≡ Some 1048576 = cond-true (nat_lt most_bytes (length (printed tree))) _ _ (lt-ltb most_bytes (length (printed tree)) great) in
    record {
      lexed = printed_lexed tree s.real;
      program = record { program = writing tree; spelled = sym (printed_tokens tree s.real) };
      place = ap (λ (o : Option ℕ). first_place o (byte_over (length (printed tree)))) (limits_back tree s) ∙ long;
    }
