-- A name that is found unknown is that of the first unknown use.
use Rattle.std.proofs.Common.{◌≡◌, ◌⊎◌, inl, inr, ℕ, List, [], ◌∷◌, Bool, true, false, Option, Some, None, if◌then◌else◌, refl}
use Rattle.std.proofs.lemmas.List.Elements.{All-from_recursion, recursion_from_All}
use Rattle.asl_syntax.specs.declared.names.Space.TheVariants.{Globals, Functions, Locals}
use Rattle.asl_syntax.specs.Tree.{Function, Item, GlobalItem, FunctionItem, globals_of, functions_of}
use Rattle.asl_syntax.specs.Mentions.{Mention, DeclaresGlobal, DeclaresFunction, DeclaresParameter, AssignsLocal, UsesLocal, UsesGlobal, CallsFunction, function_mentions, mentions}
use Rattle.asl_syntax.specs.TokenNames.{mention_name}
use Rattle.asl_syntax.specs.Rules.{Names, names_in, unknown_use, or_name, first_unknown_use, first_unknown, unknown_in_function, unknown}
use Rattle.asl_syntax.specs.FirstFault.{IsFirstWithout, IsKnownIn, UsesKnownNames, IsFirstUnknown}
use Rattle.asl_syntax.proofs.Among.{among, contained}
use Rattle.asl_syntax.proofs.First.{first_here, first_later, first_same}
use Rattle.asl_syntax.proofs.DeclaredNames.{names_of, globals_from, globals_to, functions_from, functions_to, locals_from, locals_to}
use Rattle.asl_syntax.proofs.Used.{uses_from, uses_to, known_name, name_known, kept_locals, found_locals, each_among, each_from, NoUnknown}

-- ---- the first of names

none_there : {X : Type 0} (x : X) (o : Option X) → o ≡ Some x → o ≡ None → ⊥
none_there x o e n = cc

first_name : (a b : Option (List ℕ)) (x : List ℕ) → or_name a b ≡ Some x → (a ≡ Some x) ⊎ ((a ≡ None) × (b ≡ Some x))
first_name None b x e = inr (refl, e)
first_name (Some y) b x e = inl e

-- no name is missing
abbrev IsNone : Names → Names → Names → Mention → Type 0
IsNone gs fs ls m = unknown_use gs fs ls m ≡ None

first_use : (gs fs ls : Names) (ms : List Mention) (x : List ℕ) → first_unknown_use gs fs ls ms ≡ Some x → (m : Mention) × IsFirstWithout (IsNone gs fs ls) ms m × (unknown_use gs fs ls m ≡ Some x)
first_use gs fs ls [] x e = absurd cc
first_use gs fs ls (m ∷ ms) x e =
    elim (first_name (unknown_use gs fs ls m) (first_unknown_use gs fs ls ms) x e) [
      | inl here ↦ (m, first_here (IsNone gs fs ls) m ms (none_there x (unknown_use gs fs ls m) here), here)
      | inr k ↦ (let rest = first_use gs fs ls ms x k.1 in (rest.0, first_later (IsNone gs fs ls) m ms rest.0 k.0 rest.1, rest.2))
    ]

first_user : (gs fs : Names) (is : List Item) (x : List ℕ) → first_unknown gs fs is ≡ Some x → (f : Function) × IsFirstWithout (NoUnknown gs fs) (functions_of is) f × (unknown_in_function gs fs (function_mentions f) ≡ Some x)
first_user gs fs [] x e = absurd cc
first_user gs fs (GlobalItem y ∷ is) x e = first_user gs fs is x e
first_user gs fs (FunctionItem f ∷ is) x e =
    elim (first_name (unknown_in_function gs fs (function_mentions f)) (first_unknown gs fs is) x e) [
      | inl here ↦ (f, first_here (NoUnknown gs fs) f (functions_of is) (none_there x (unknown_in_function gs fs (function_mentions f)) here), here)
      | inr k ↦ (let rest = first_user gs fs is x k.1 in (rest.0, first_later (NoUnknown gs fs) f (functions_of is) rest.0 k.0 rest.1, rest.2))
    ]

-- ---- none is missing where the use is known

known_where : (t : List Item) (f : Function) (m : Mention) → IsNone (names_in Globals (mentions t)) (names_in Functions (mentions t)) (names_in Locals (function_mentions f)) m → IsKnownIn t f m
known_where t f (DeclaresGlobal x) e = tt
known_where t f (DeclaresFunction x) e = tt
known_where t f (DeclaresParameter x) e = tt
known_where t f (AssignsLocal x) e = tt
known_where t f (UsesLocal x) e =
    kept_locals f x (locals_from f x (known_name (names_in Locals (function_mentions f) x) x e))
known_where t f (UsesGlobal x) e =
    contained (globals_of t) x (globals_from t x (known_name (names_in Globals (mentions t) x) x e))
known_where t f (CallsFunction x n) e =
    contained (names_of t) x (functions_from t x (known_name (names_in Functions (mentions t) x) x e))

none_where : (t : List Item) (f : Function) (m : Mention) → IsKnownIn t f m → IsNone (names_in Globals (mentions t)) (names_in Functions (mentions t)) (names_in Locals (function_mentions f)) m
none_where t f (DeclaresGlobal x) h = refl
none_where t f (DeclaresFunction x) h = refl
none_where t f (DeclaresParameter x) h = refl
none_where t f (AssignsLocal x) h = refl
none_where t f (UsesLocal x) h =
    name_known (names_in Locals (function_mentions f) x) x (locals_to f x (found_locals f x h))
none_where t f (UsesGlobal x) h =
    name_known (names_in Globals (mentions t) x) x (globals_to t x (among (globals_of t) x h))
none_where t f (CallsFunction x n) h =
    name_known (names_in Functions (mentions t) x) x (functions_to t x (among (names_of t) x h))

all_known_where : (t : List Item) (f : Function) → NoUnknown (names_in Globals (mentions t)) (names_in Functions (mentions t)) f → UsesKnownNames t f
all_known_where t f e =
    let uses = uses_from (names_in Globals (mentions t)) (names_in Functions (mentions t)) (names_in Locals (function_mentions f)) (function_mentions f) e in
    All-from_recursion (IsKnownIn t f) (function_mentions f) (each_from (IsKnownIn t f) (function_mentions f) (λ m a. known_where t f m (uses m a)))

all_none_where : (t : List Item) (f : Function) → UsesKnownNames t f → NoUnknown (names_in Globals (mentions t)) (names_in Functions (mentions t)) f
all_none_where t f h =
    let each = each_among (IsKnownIn t f) (function_mentions f) (recursion_from_All (IsKnownIn t f) (function_mentions f) h) in
    uses_to (names_in Globals (mentions t)) (names_in Functions (mentions t)) (names_in Locals (function_mentions f)) (function_mentions f) (λ m a. none_where t f m (each m a))

-- ---- the missing name is the use's

missing_name : (b : Bool) (y x : List ℕ) → (if b then None else Some y) ≡ Some x → y ≡ x
missing_name true y x e = absurd cc
missing_name false y x e = cc

use_name : (gs fs ls : Names) (m : Mention) (x : List ℕ) → unknown_use gs fs ls m ≡ Some x → mention_name m ≡ x
use_name gs fs ls (DeclaresGlobal y) x e = absurd cc
use_name gs fs ls (DeclaresFunction y) x e = absurd cc
use_name gs fs ls (DeclaresParameter y) x e = absurd cc
use_name gs fs ls (AssignsLocal y) x e = absurd cc
use_name gs fs ls (UsesLocal y) x e = missing_name (ls y) y x e
use_name gs fs ls (UsesGlobal y) x e = missing_name (gs y) y x e
use_name gs fs ls (CallsFunction y n) x e = missing_name (fs y) y x e

-- ---- the program

pub unknown_first : (t : List Item) (x : List ℕ) → unknown t ≡ Some x → IsFirstUnknown t x
unknown_first t x e =
    let gs : Names = names_in Globals (mentions t) in
    let fs : Names = names_in Functions (mentions t) in
    let user = first_user gs fs t x e in
    let f : Function = user.0 in
    let ls : Names = names_in Locals (function_mentions f) in
    let used = first_use gs fs ls (function_mentions f) x user.2 in
    record {
      function = f;
      mention = used.0;
      first_function = first_same (NoUnknown gs fs) (UsesKnownNames t) (functions_of t) f (all_known_where t) (all_none_where t) user.1;
      first_mention = first_same (IsNone gs fs ls) (IsKnownIn t f) (function_mentions f) used.0 (known_where t f) (none_where t f) used.1;
      named = use_name gs fs ls used.0 x used.2;
    }
