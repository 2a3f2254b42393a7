-- The names of a text within the limits are short.
use Rattle.std.proofs.Common.{◌≡◌, inl, inr, ℕ, ◌≤◌, List, [], ◌∷◌, ◌++◌, length, Some, None, refl, sym, subst, false}
use Rattle.asl_grammar.specs.Token.{Token, Fixed, Name, Number, Spot}
use Rattle.asl_grammar.specs.Grammar.{bare}
use Rattle.asl_grammar.specs.Lex.{tokens_of}
use Rattle.asl_syntax.specs.Tree.{Item, functions_of}
use Rattle.asl_syntax.specs.Mentions.{Mention, function_mentions, mentions}
use Rattle.asl_syntax.specs.Rules.{twice, unknown}
use Rattle.asl_syntax.specs.TokenNames.{token_names, mention_name}
use Rattle.asl_syntax.specs.Limit.{Tally, tally_of, is_over, limit_from, byte_over}
use Rattle.asl_syntax.specs.Parsed.{IsSpelled}
use Rattle.asl_syntax.proofs.Among.{Among, among_mapped, among_right}
use Rattle.asl_syntax.proofs.Few.{goes_on}
use Rattle.asl_syntax.proofs.Made.{none_first}
use Rattle.asl_syntax.proofs.Fitting.{token_fits}
use Rattle.asl_syntax.proofs.Mentioned.{mentioned}
use Rattle.asl_syntax.proofs.Used.{in_program}
use Rattle.asl_syntax.proofs.FirstTwice.{twice_first}
use Rattle.asl_syntax.proofs.FirstUnknown.{unknown_first}

abbrev AreShort : List (List ℕ) → Type 0
AreShort xs = (x : List ℕ) → Among xs x → length x ≤ 64

one_short : (y : Tally) (t : Token) (ts : List Token) → is_over y t ≡ false → AreShort (token_names ts) → AreShort (token_names (t ∷ ts))
one_short y (Fixed m) ts e h x a = h x a
one_short y (Number n) ts e h x a = h x a
one_short y (Name z) ts e h x (inl same) =
    subst (λ (w : List ℕ). length w ≤ 64) same (token_fits y (Name z) e)
one_short y (Name z) ts e h x (inr there) = h x there

short_from : (ss : List Spot) (before : List Token) → limit_from before ss ≡ None → AreShort (token_names (bare ss))
short_from [] before e x a = absurd a
short_from (s ∷ ss) before e x a =
    let k = goes_on (is_over (tally_of before) s.token) s.at (limit_from (s.token ∷ before) ss) e in
    one_short (tally_of before) s.token (bare ss) k.0 (λ y b. short_from ss (s.token ∷ before) k.1 y b) x a

-- so are those that the tree mentions
short_mention : (text : List ℕ) (t : List Item) → IsSpelled text t → (m : Mention) → Among (mentions t) m → length (mention_name m) ≤ 64
short_mention text t s m h =
    let within : limit_from [] (tokens_of text) ≡ None = none_first _ (byte_over (length text)) s.limits in
    let named : Among (token_names (bare (tokens_of text))) (mention_name m) = subst (λ (xs : List (List ℕ)). Among xs (mention_name m)) (sym (mentioned t (bare (tokens_of text)) s.spelled)) (among_mapped mention_name (mentions t) m h) in
    short_from (tokens_of text) [] within (mention_name m) named

-- an element of a list is among it
at_split : {X : Type 0} (xs before behind : List X) (x : X) → xs ≡ before ++ x ∷ behind → Among xs x
at_split {X} xs before behind x e =
    subst (λ (ys : List X). Among ys x) (sym e) (among_right before (x ∷ behind) x (inl refl))

pub short_twice : (text : List ℕ) (t : List Item) (x : List ℕ) → IsSpelled text t → twice t ≡ Some x → length x ≤ 64
short_twice text t x s e =
    let k = twice_first t x e in
    subst (λ (w : List ℕ). length w ≤ 64) k.named (short_mention text t s k.mention (at_split (mentions t) k.before k.behind k.mention k.split))

pub short_unknown : (text : List ℕ) (t : List Item) (x : List ℕ) → IsSpelled text t → unknown t ≡ Some x → length x ≤ 64
short_unknown text t x s e =
    let k = unknown_first t x e in
    let f = k.first_function in
    let m = k.first_mention in
    let user : Among (functions_of t) k.function = at_split (functions_of t) f.before f.behind k.function f.split in
    let used : Among (function_mentions k.function) k.mention = at_split (function_mentions k.function) m.before m.behind k.mention m.split in
    subst (λ (w : List ℕ). length w ≤ 64) k.named (short_mention text t s k.mention (in_program t k.function k.mention user used))
