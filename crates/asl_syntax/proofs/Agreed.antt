-- The rules of names over mentions alone say of a tree's mentions what the rules of names say of the tree.
use Rattle.std.proofs.Common.{◌≡◌, ℕ, suc, List, [], ◌∷◌, ◌++◌, map, length, Bool, true, false, ◌||◌, ◌&&◌, ◌==◌, Option, Some, None, if◌then◌else◌, bytes_eq, codes, refl, ap, ◌∙◌, append_assoc}
use Rattle.std.proofs.Math.Path.{fun_ext}
use Rattle.std.specs.List.{AllByRecursion}
use Rattle.asl_syntax.specs.declared.names.Space.TheVariants.{Globals, Functions, Locals}
use Rattle.asl_syntax.specs.Tree.{Function, Item, GlobalItem, FunctionItem}
use Rattle.asl_syntax.specs.Mentions.{Mention, DeclaresFunction, DeclaresParameter, UsesLocal, block_mentions, mentions}
use Rattle.asl_syntax.specs.Rules.{Names, no_name, declared_in, with_declared, names_in, or_name, first_unknown_use, first_unknown, parameter_counts, has_main}
use Rattle.asl_syntax.specs.Heard.{own_part, is_unheard, first_unheard, parameters_first, heard_count, heard_main}
use Rattle.asl_syntax.proofs.Declarers.{Inside, both_inside, block_inside}

-- ---- a function's mentions after its name

abbrev tail_of : Function → List Mention
tail_of f = block_mentions f.body ++ UsesLocal f.returned ∷ []

abbrev body_of : Function → List Mention
body_of f = map DeclaresParameter f.parameters ++ tail_of f

-- a mention that declares no function
abbrev IsNoFunction : Mention → Type 0
IsNoFunction (DeclaresFunction x) = ⊥
IsNoFunction _ = Unit {0}

tail_inside : (f : Function) → AllByRecursion Inside (tail_of f)
tail_inside f = both_inside (block_mentions f.body) (UsesLocal f.returned ∷ []) (block_inside f.body) (tt, tt)

inside_no_function : (m : Mention) → Inside m → IsNoFunction m
inside_no_function (DeclaresFunction x) h = h
inside_no_function _ h = tt

no_functions : (ms : List Mention) → AllByRecursion Inside ms → AllByRecursion IsNoFunction ms
no_functions [] h = tt
no_functions (m ∷ ms) h = (inside_no_function m h.0, no_functions ms h.1)

parameters_no_function : (xs : List (List ℕ)) (ms : List Mention) → AllByRecursion IsNoFunction ms → AllByRecursion IsNoFunction (map DeclaresParameter xs ++ ms)
parameters_no_function [] ms h = h
parameters_no_function (x ∷ xs) ms h = (tt, parameters_no_function xs ms h)

body_no_function : (f : Function) → AllByRecursion IsNoFunction (body_of f)
body_no_function f = parameters_no_function f.parameters (tail_of f) (no_functions (tail_of f) (tail_inside f))

-- ---- locals

own_one : (m : Mention) (ms : List Mention) → IsNoFunction m → own_part (m ∷ ms) ≡ m ∷ own_part ms
own_one (DeclaresFunction x) ms h = absurd h
own_one _ ms h = refl

own_all : (ms rest : List Mention) → AllByRecursion IsNoFunction ms → own_part (ms ++ rest) ≡ ms ++ own_part rest
own_all [] rest h = refl
own_all (m ∷ ms) rest h = own_one m (ms ++ rest) h.0 ∙ ap (λ (l : List Mention). m ∷ l) (own_all ms rest h.1)

-- up to the next function no local is declared
no_local : (is : List Item) → names_in Locals (own_part (mentions is)) ≡ no_name
no_local [] = refl
no_local (GlobalItem x ∷ is) = no_local is
no_local (FunctionItem f ∷ is) = refl

names_first : (ms ns : List Mention) → names_in Locals ns ≡ no_name → names_in Locals (ms ++ ns) ≡ names_in Locals ms
names_first [] ns e = e
names_first (m ∷ ms) ns e = ap (λ (known : Names). with_declared (declared_in Locals m) known) (names_first ms ns e)

own_names : (f : Function) (is : List Item) → names_in Locals (own_part (body_of f ++ mentions is)) ≡ names_in Locals (body_of f)
own_names f is =
    ap (names_in Locals) (own_all (body_of f) (mentions is) (body_no_function f))
    ∙ names_first (body_of f) (own_part (mentions is)) (no_local is)

-- ---- unknown names

one_unheard : (all own : List Mention) (m : Mention) (rest : List Mention) → IsNoFunction m → first_unheard all own (m ∷ rest) ≡ or_name (is_unheard all own m) (first_unheard all own rest)
one_unheard all own (DeclaresFunction x) rest h = absurd h
one_unheard all own _ rest h = refl

or_assoc : (a b c : Option (List ℕ)) → or_name a (or_name b c) ≡ or_name (or_name a b) c
or_assoc None b c = refl
or_assoc (Some x) b c = refl

part_unheard : (all own ms rest : List Mention) → AllByRecursion IsNoFunction ms → first_unheard all own (ms ++ rest) ≡ or_name (first_unknown_use (names_in Globals all) (names_in Functions all) (names_in Locals (own_part own)) ms) (first_unheard all own rest)
part_unheard all own [] rest h = refl
part_unheard all own (m ∷ ms) rest h =
    let more = first_unknown_use (names_in Globals all) (names_in Functions all) (names_in Locals (own_part own)) ms in
    one_unheard all own m (ms ++ rest) h.0
    ∙ ap (λ (o : Option (List ℕ)). or_name (is_unheard all own m) o) (part_unheard all own ms rest h.1)
    ∙ or_assoc (is_unheard all own m) more (first_unheard all own rest)

pub same_unknown : (all own : List Mention) (is : List Item) → first_unheard all own (mentions is) ≡ first_unknown (names_in Globals all) (names_in Functions all) is
same_unknown all own [] = refl
same_unknown all own (GlobalItem x ∷ is) = same_unknown all own is
same_unknown all own (FunctionItem f ∷ is) =
    let gs : Names = names_in Globals all in
    let fs : Names = names_in Functions all in
    let tail : List Mention = body_of f ++ mentions is in
    part_unheard all tail (body_of f) (mentions is) (body_no_function f)
    ∙ ap (λ (ls : Names). or_name (first_unknown_use gs fs ls (body_of f)) (first_unheard all tail (mentions is))) (own_names f is)
    ∙ ap (λ (o : Option (List ℕ)). or_name (first_unknown_use gs fs (names_in Locals (body_of f)) (body_of f)) o) (same_unknown all tail is)

-- ---- numbers of parameters

none_first : (ms rest : List Mention) (x : List ℕ) → AllByRecursion Inside ms → parameters_first ((ms ++ UsesLocal x ∷ []) ++ rest) ≡ 0
none_first [] rest x h = refl
none_first (m ∷ ms) rest x h = not_first m ((ms ++ UsesLocal x ∷ []) ++ rest) h.0
  where
    not_first : (m : Mention) (l : List Mention) → Inside m → parameters_first (m ∷ l) ≡ 0
    not_first (DeclaresParameter y) l h = absurd h
    not_first _ l h = refl

all_first : (xs : List (List ℕ)) (ms : List Mention) → parameters_first ms ≡ 0 → parameters_first (map DeclaresParameter xs ++ ms) ≡ length xs
all_first [] ms e = e
all_first (x ∷ xs) ms e = ap suc (all_first xs ms e)

own_count : (f : Function) (rest : List Mention) → parameters_first (body_of f ++ rest) ≡ length f.parameters
own_count f rest =
    ap parameters_first (append_assoc (map DeclaresParameter f.parameters) (tail_of f) rest)
    ∙ all_first f.parameters (tail_of f ++ rest) (none_first (block_mentions f.body) rest f.returned (block_inside f.body))

count_one : (m : Mention) (ms : List Mention) (q : List ℕ) → IsNoFunction m → heard_count (m ∷ ms) q ≡ heard_count ms q
count_one (DeclaresFunction x) ms q h = absurd h
count_one _ ms q h = refl

count_after : (ms rest : List Mention) (q : List ℕ) → AllByRecursion IsNoFunction ms → heard_count (ms ++ rest) q ≡ heard_count rest q
count_after [] rest q h = refl
count_after (m ∷ ms) rest q h = count_one m (ms ++ rest) q h.0 ∙ count_after ms rest q h.1

or_no : (b : Bool) → (b || false) ≡ b
or_no true = refl
or_no false = refl

count_at : (is : List Item) (q : List ℕ) → heard_count (mentions is) q ≡ parameter_counts is q
count_at [] q = refl
count_at (GlobalItem x ∷ is) q = count_at is q
count_at (FunctionItem f ∷ is) q =
    ap (λ (b : Bool). if b then Some (parameters_first (body_of f ++ mentions is)) else heard_count (body_of f ++ mentions is) q) (or_no (bytes_eq f.name q))
    ∙ ap (λ (n : ℕ). if bytes_eq f.name q then Some n else heard_count (body_of f ++ mentions is) q) (own_count f (mentions is))
    ∙ ap (λ (o : Option ℕ). if bytes_eq f.name q then Some (length f.parameters) else o) (count_after (body_of f) (mentions is) q (body_no_function f) ∙ count_at is q)

pub same_counts : (is : List Item) → heard_count (mentions is) ≡ parameter_counts is
same_counts is = fun_ext (λ (q : List ℕ). count_at is q)

-- ---- `main`

main_one : (m : Mention) (ms : List Mention) → IsNoFunction m → heard_main (m ∷ ms) ≡ heard_main ms
main_one (DeclaresFunction x) ms h = absurd h
main_one _ ms h = refl

main_after : (ms rest : List Mention) → AllByRecursion IsNoFunction ms → heard_main (ms ++ rest) ≡ heard_main rest
main_after [] rest h = refl
main_after (m ∷ ms) rest h = main_one m (ms ++ rest) h.0 ∙ main_after ms rest h.1

pub same_main : (is : List Item) → heard_main (mentions is) ≡ has_main is
same_main [] = refl
same_main (GlobalItem x ∷ is) = same_main is
same_main (FunctionItem f ∷ is) =
    ap (λ (b : Bool). (b && parameters_first (body_of f ++ mentions is) == 1) || heard_main (body_of f ++ mentions is)) (or_no (bytes_eq f.name (codes "main")))
    ∙ ap (λ (n : ℕ). (bytes_eq f.name (codes "main") && n == 1) || heard_main (body_of f ++ mentions is)) (own_count f (mentions is))
    ∙ ap (λ (b : Bool). (bytes_eq f.name (codes "main") && length f.parameters == 1) || b) (main_after (body_of f) (mentions is) (body_no_function f) ∙ same_main is)
