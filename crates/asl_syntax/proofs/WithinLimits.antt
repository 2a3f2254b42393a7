-- A program's text passes no limit exactly where its tree is within the limits.
use Rattle.std.proofs.Common.{◌≡◌, ◌↔◌, ℕ, ◌≤◌, List, [], ◌∷◌, Option, None, Some, nat_lt, length, map, refl, sym, ap, ◌∙◌, subst, arith}
use Rattle.std.specs.List.{AllByRecursion}
use Rattle.std.proofs.lemmas.Bool.{ltb-false, le-ltb, cond-false}
use Rattle.std.proofs.lemmas.List.Elements.{All-from_recursion, recursion_from_All}
use Rattle.asl_grammar.specs.Token.{Token}
use Rattle.asl_grammar.specs.Grammar.{bare}
use Rattle.asl_grammar.specs.Lex.{tokens_of}
use Rattle.asl_grammar.specs.Written as w
use Rattle.asl_grammar.specs.Spelling.{program_on}
use Rattle.asl_syntax.specs.Tree.{Function, Item, functions_of}
use Rattle.asl_syntax.specs.Mentions.{Mention, mentions}
use Rattle.asl_syntax.specs.TokenNames.{token_names, mention_name}
use Rattle.asl_syntax.specs.Spelled.{item_meaning, Spells}
use Rattle.asl_syntax.specs.Limit.{tally_of, limit_from, most_bytes, byte_over, first_place, first_limit}
use Rattle.asl_syntax.specs.WithinLimits.{block_depth, AreNumbersInRange, IsWithinLimits}
use Rattle.asl_syntax.proofs.Few.{goes_on}
use Rattle.asl_syntax.proofs.Made.{none_first}
use Rattle.asl_syntax.proofs.Mentioned.{mentioned}
use Rattle.asl_syntax.proofs.EachLimit.{EachPasses, each_limit}
use Rattle.asl_syntax.proofs.LimitCounts.{counted, few_parameters}
use Rattle.asl_syntax.proofs.LimitNumbers.{numbers_in_range}
use Rattle.asl_syntax.proofs.LimitBraces.{blocks_in_one_another}

-- ---- names

short_mentions : (ms : List Mention) → AllByRecursion (λ (x : List ℕ). length x ≤ 64) (map mention_name ms) ↔ AllByRecursion (λ (m : Mention). length (mention_name m) ≤ 64) ms
short_mentions [] = (λ h. h, λ h. h)
short_mentions (m ∷ ms) =
    let k = short_mentions ms in
    (λ h. (h.0, k.0 h.1), λ h. (h.0, k.1 h.1))

-- ---- tokens

abbrev AreShort : List (List ℕ) → Type 0
AreShort xs = AllByRecursion (λ (x : List ℕ). length x ≤ 64) xs

names_same : (is : List w.Item) → token_names (program_on is []) ≡ map mention_name (mentions (map item_meaning is))
names_same is =
    mentioned (map item_meaning is) (program_on is []) (record { written = is; meaning = refl; spelled = refl })

within_from : (is : List w.Item) → EachPasses (tally_of []) (program_on is []) → IsWithinLimits (map item_meaning is)
within_from is r =
    let t = map item_meaning is in
    let c = counted is in
    record {
      functions = omega (arith, r.functions, c.functions);
      globals = omega (arith, r.globals, c.globals);
      sections = omega (arith, r.atomics, c.sections);
      parameters = All-from_recursion (λ (f : Function). length f.parameters ≤ 4) (functions_of t) ((few_parameters is).0 r.heads);
      blocks = All-from_recursion (λ (f : Function). block_depth f.body ≤ 63) (functions_of t) ((blocks_in_one_another is).0 r.braces);
      names = All-from_recursion (λ (m : Mention). length (mention_name m) ≤ 64) (mentions t) ((short_mentions (mentions t)).0 (subst AreShort (names_same is) r.names));
      numbers = All-from_recursion (λ (f : Function). AreNumbersInRange f.body) (functions_of t) ((numbers_in_range is).0 r.numbers);
    }

each_from : (is : List w.Item) → IsWithinLimits (map item_meaning is) → EachPasses (tally_of []) (program_on is [])
each_from is h =
    let t = map item_meaning is in
    let c = counted is in
    record {
      functions = omega (arith, h.functions, c.functions);
      globals = omega (arith, h.globals, c.globals);
      atomics = omega (arith, h.sections, c.sections);
      heads = (few_parameters is).1 (recursion_from_All (λ (f : Function). length f.parameters ≤ 4) (functions_of t) h.parameters);
      braces = (blocks_in_one_another is).1 (recursion_from_All (λ (f : Function). block_depth f.body ≤ 63) (functions_of t) h.blocks);
      names = subst AreShort (sym (names_same is)) ((short_mentions (mentions t)).1 (recursion_from_All (λ (m : Mention). length (mention_name m) ≤ 64) (mentions t) h.names));
      numbers = (numbers_in_range is).1 (recursion_from_All (λ (f : Function). AreNumbersInRange f.body) (functions_of t) h.numbers);
    }

-- ---- the text

abbrev Passing : List Token → Type 0
Passing ts = EachPasses (tally_of []) ts

second_none : (a b : Option ℕ) → first_place a b ≡ None → b ≡ None
second_none None b e = e
second_none (Some a) None e = cc
second_none (Some a) (Some b) e = cc

few_bytes : (n : ℕ) → byte_over n ≡ None → n ≤ most_bytes
few_bytes n e = ltb-false most_bytes n (goes_on (nat_lt most_bytes n) most_bytes None e).0

no_place : (a : Option ℕ) (n : ℕ) → a ≡ None → n ≤ most_bytes → first_place a (byte_over n) ≡ None
no_place a n e h =
    ap (λ p. first_place p (byte_over n)) e ∙ cond-false (nat_lt most_bytes n) _ _ (le-ltb most_bytes n h)

pub limits_of_tree : (t : List Item) (text : List ℕ) → Spells t (bare (tokens_of text)) → (first_limit text ≡ None) ↔ ((length text ≤ 1048576) × IsWithinLimits t)
limits_of_tree t text s =
    let over : Option ℕ = limit_from [] (tokens_of text) in
    let bytes : Option ℕ = byte_over (length text) in
    let tokens = each_limit (tokens_of text) in (
      λ e. (few_bytes (length text) (second_none over bytes e), subst IsWithinLimits s.meaning (within_from s.written (subst Passing (sym s.spelled) (tokens.0 (none_first over bytes e))))),
      λ h. no_place over (length text) (tokens.1 (subst Passing s.spelled (each_from s.written (subst IsWithinLimits (sym s.meaning) h.1)))) h.0,
    )
