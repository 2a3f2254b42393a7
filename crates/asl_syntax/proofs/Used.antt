-- A program declares each name that it uses exactly where no name is found unknown.
use Rattle.std.proofs.Common.{◌≡◌, ◌⊎◌, inl, inr, ℕ, List, [], ◌∷◌, Bool, true, false, Option, Some, None, if◌then◌else◌, refl, sym, ap, subst, ◌∙◌, ◌↔◌}
use Rattle.std.specs.List.{AllByRecursion, Contains}
use Rattle.std.proofs.lemmas.Bool.{false≢true}
use Rattle.std.proofs.lemmas.List.Elements.{All-from_recursion, recursion_from_All}
use Rattle.asl_syntax.specs.declared.names.Space.TheVariants.{Globals, Functions, Locals}
use Rattle.asl_syntax.specs.Tree.{Function, Item, GlobalItem, FunctionItem, globals_of, functions_of}
use Rattle.asl_syntax.specs.Mentions.{Mention, DeclaresGlobal, DeclaresFunction, DeclaresParameter, AssignsLocal, UsesLocal, UsesGlobal, CallsFunction, function_mentions, mentions}
use Rattle.asl_syntax.specs.Rules.{Names, names_in, unknown_use, or_name, first_unknown_use, first_unknown, unknown_in_function, unknown}
use Rattle.asl_syntax.specs.Known.{HasLocals, AreKnown}
use Rattle.asl_syntax.proofs.Among.{Among, among, contained, among_left, among_right, among_either}
use Rattle.asl_syntax.proofs.DeclaredNames.{names_of, globals_from, globals_to, functions_from, functions_to, locals_from, locals_to}

-- ---- uses

neither_name : (a b : Option (List ℕ)) → or_name a b ≡ None → (a ≡ None) × (b ≡ None)
neither_name None b e = (refl, e)
neither_name (Some x) b e = absurd cc

no_name_of : (a b : Option (List ℕ)) → a ≡ None → b ≡ None → or_name a b ≡ None
no_name_of None b e f = f
no_name_of (Some x) b e f = absurd cc

pub uses_from : (gs fs ls : Names) (ms : List Mention) → first_unknown_use gs fs ls ms ≡ None → (m : Mention) → Among ms m → unknown_use gs fs ls m ≡ None
uses_from gs fs ls [] e m h = absurd h
uses_from gs fs ls (n ∷ ms) e m (inl same) =
    ap (unknown_use gs fs ls) (sym same) ∙ (neither_name (unknown_use gs fs ls n) (first_unknown_use gs fs ls ms) e).0
uses_from gs fs ls (n ∷ ms) e m (inr there) =
    uses_from gs fs ls ms (neither_name (unknown_use gs fs ls n) (first_unknown_use gs fs ls ms) e).1 m there

pub uses_to : (gs fs ls : Names) (ms : List Mention) → ((m : Mention) → Among ms m → unknown_use gs fs ls m ≡ None) → first_unknown_use gs fs ls ms ≡ None
uses_to gs fs ls [] h = refl
uses_to gs fs ls (n ∷ ms) h =
    no_name_of (unknown_use gs fs ls n) (first_unknown_use gs fs ls ms) (h n (inl refl)) (uses_to gs fs ls ms (λ m there. h m (inr there)))

-- no function uses an unknown name
abbrev pub NoUnknown : Names → Names → Function → Type 0
NoUnknown gs fs f = unknown_in_function gs fs (function_mentions f) ≡ None

items_from : (gs fs : Names) (is : List Item) → first_unknown gs fs is ≡ None → AllByRecursion (NoUnknown gs fs) (functions_of is)
items_from gs fs [] e = tt
items_from gs fs (GlobalItem x ∷ is) e = items_from gs fs is e
items_from gs fs (FunctionItem f ∷ is) e =
    let k = neither_name (unknown_in_function gs fs (function_mentions f)) (first_unknown gs fs is) e in
    (k.0, items_from gs fs is k.1)

items_to : (gs fs : Names) (is : List Item) → AllByRecursion (NoUnknown gs fs) (functions_of is) → first_unknown gs fs is ≡ None
items_to gs fs [] h = refl
items_to gs fs (GlobalItem x ∷ is) h = items_to gs fs is h
items_to gs fs (FunctionItem f ∷ is) h =
    no_name_of (unknown_in_function gs fs (function_mentions f)) (first_unknown gs fs is) h.0 (items_to gs fs is h.1)

-- a mention is of a global's declaration or of a function
of_item : (is : List Item) (m : Mention) → Among (mentions is) m → ((x : List ℕ) × (DeclaresGlobal x ≡ m)) ⊎ ((f : Function) × Among (functions_of is) f × Among (function_mentions f) m)
of_item [] m h = absurd h
of_item (GlobalItem x ∷ is) m (inl same) = inl (x, same)
of_item (GlobalItem x ∷ is) m (inr there) = of_item is m there
of_item (FunctionItem f ∷ is) m h =
    elim (among_either (function_mentions f) (mentions is) m h) [
      | inl here ↦ inr (f, inl refl, here)
      | inr there ↦ elim (of_item is m there) [
        | inl declared ↦ inl declared
        | inr k ↦ inr (k.0, inr k.1, k.2)
      ]
    ]

pub in_program : (is : List Item) (f : Function) (m : Mention) → Among (functions_of is) f → Among (function_mentions f) m → Among (mentions is) m
in_program [] f m a h = absurd a
in_program (GlobalItem x ∷ is) f m a h = inr (in_program is f m a h)
in_program (FunctionItem g ∷ is) f m (inl same) h =
    among_left (function_mentions g) (mentions is) m (subst (λ (k : Function). Among (function_mentions k) m) (sym same) h)
in_program (FunctionItem g ∷ is) f m (inr there) h =
    among_right (function_mentions g) (mentions is) m (in_program is f m there h)

pub each_among : {X : Type 0} (P : X → Type 0) (xs : List X) → AllByRecursion P xs → (x : X) → Among xs x → P x
each_among P [] h x a = absurd a
each_among P (y ∷ ys) h x (inl same) = subst P same h.0
each_among P (y ∷ ys) h x (inr there) = each_among P ys h.1 x there

pub each_from : {X : Type 0} (P : X → Type 0) (xs : List X) → ((x : X) → Among xs x → P x) → AllByRecursion P xs
each_from P [] h = tt
each_from P (y ∷ ys) h = (h y (inl refl), each_from P ys (λ x there. h x (inr there)))

pub known_name : (b : Bool) (x : List ℕ) → (if b then None else Some x) ≡ None → b ≡ true
known_name true x e = refl
known_name false x e = absurd cc

pub name_known : (b : Bool) (x : List ℕ) → b ≡ true → (if b then None else Some x) ≡ None
name_known true x e = refl
name_known false x e = absurd (false≢true e)

-- ---- the program

-- a use in a program is a use in a function
used_from : (t : List Item) → unknown t ≡ None → (m : Mention) → Among (mentions t) m → ((x : List ℕ) → DeclaresGlobal x ≡ m → ⊥) → (ls : Names) × (unknown_use (names_in Globals (mentions t)) (names_in Functions (mentions t)) ls m ≡ None)
used_from t e m h other =
    let gs : Names = names_in Globals (mentions t) in
    let fs : Names = names_in Functions (mentions t) in
    elim (of_item t m h) [
      | inl declares ↦ absurd (other declares.0 declares.1)
      | inr k ↦ (names_in Locals (function_mentions k.0), uses_from gs fs (names_in Locals (function_mentions k.0)) (function_mentions k.0) (each_among (NoUnknown gs fs) (functions_of t) (items_from gs fs t e) k.0 k.1) m k.2)
    ]

pub called_name : (t : List Item) → unknown t ≡ None → (x : List ℕ) (n : ℕ) → Among (mentions t) (CallsFunction x n) → Among (names_of t) x
called_name t e x n h =
    let k = used_from t e (CallsFunction x n) h (λ y same. cc) in
    functions_from t x (known_name (names_in Functions (mentions t) x) x k.1)

used_global : (t : List Item) → unknown t ≡ None → (x : List ℕ) → Among (mentions t) (UsesGlobal x) → Among (globals_of t) x
used_global t e x h =
    let k = used_from t e (UsesGlobal x) h (λ y same. cc) in
    globals_from t x (known_name (names_in Globals (mentions t) x) x k.1)

pub kept_locals : (f : Function) (x : List ℕ) → Among f.parameters x ⊎ Among (function_mentions f) (AssignsLocal x) → Contains f.parameters x ⊎ Contains (function_mentions f) (AssignsLocal x)
kept_locals f x (inl own) = inl (contained f.parameters x own)
kept_locals f x (inr assigned) = inr (contained (function_mentions f) (AssignsLocal x) assigned)

pub found_locals : (f : Function) (x : List ℕ) → Contains f.parameters x ⊎ Contains (function_mentions f) (AssignsLocal x) → Among f.parameters x ⊎ Among (function_mentions f) (AssignsLocal x)
found_locals f x (inl own) = inl (among f.parameters x own)
found_locals f x (inr assigned) = inr (among (function_mentions f) (AssignsLocal x) assigned)

has_locals : (gs fs : Names) (f : Function) → NoUnknown gs fs f → HasLocals f
has_locals gs fs f e x h =
    let ls : Names = names_in Locals (function_mentions f) in
    kept_locals f x (locals_from f x (known_name (ls x) x (uses_from gs fs ls (function_mentions f) e (UsesLocal x) (among (function_mentions f) (UsesLocal x) h))))

known_from : (t : List Item) → unknown t ≡ None → AreKnown t
known_from t e =
    let gs : Names = names_in Globals (mentions t) in
    let fs : Names = names_in Functions (mentions t) in
    record {
      globals = λ x h. contained (globals_of t) x (used_global t e x (among (mentions t) (UsesGlobal x) h));
      functions = λ x n h. contained (names_of t) x (called_name t e x n (among (mentions t) (CallsFunction x n) h));
      locals = All-from_recursion HasLocals (functions_of t) (each_from HasLocals (functions_of t) (λ f a. has_locals gs fs f (each_among (NoUnknown gs fs) (functions_of t) (items_from gs fs t e) f a)));
    }

known_use : (t : List Item) → AreKnown t → (f : Function) → Among (functions_of t) f → (m : Mention) → Among (function_mentions f) m → unknown_use (names_in Globals (mentions t)) (names_in Functions (mentions t)) (names_in Locals (function_mentions f)) m ≡ None
known_use t k f a (DeclaresGlobal x) h = refl
known_use t k f a (DeclaresFunction x) h = refl
known_use t k f a (DeclaresParameter x) h = refl
known_use t k f a (AssignsLocal x) h = refl
known_use t k f a (UsesLocal x) h =
    name_known (names_in Locals (function_mentions f) x) x (locals_to f x (found_locals f x (each_among HasLocals (functions_of t) (recursion_from_All HasLocals (functions_of t) k.locals) f a x (contained (function_mentions f) (UsesLocal x) h))))
known_use t k f a (UsesGlobal x) h =
    name_known (names_in Globals (mentions t) x) x (globals_to t x (among (globals_of t) x (k.globals x (contained (mentions t) (UsesGlobal x) (in_program t f (UsesGlobal x) a h)))))
known_use t k f a (CallsFunction x n) h =
    name_known (names_in Functions (mentions t) x) x (functions_to t x (among (names_of t) x (k.functions x n (contained (mentions t) (CallsFunction x n) (in_program t f (CallsFunction x n) a h)))))

known_to : (t : List Item) → AreKnown t → unknown t ≡ None
known_to t k =
    let gs : Names = names_in Globals (mentions t) in
    let fs : Names = names_in Functions (mentions t) in
    items_to gs fs t (each_from (NoUnknown gs fs) (functions_of t) (λ f a. uses_to gs fs (names_in Locals (function_mentions f)) (function_mentions f) (known_use t k f a)))

pub known : (t : List Item) → (unknown t ≡ None) ↔ AreKnown t
known t = (known_from t, known_to t)
