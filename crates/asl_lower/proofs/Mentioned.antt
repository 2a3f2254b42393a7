-- What the names of a program that breaks no rule mean is there.
use Rattle.std.proofs.Common.{◌≡◌, ℕ, suc, ◌<◌, ◌⊎◌, inl, inr, Bool, true, false, ◌||◌, cond, Option, Some, None, List, [], ◌∷◌, ◌++◌, length, map, refl, sym, ap, ◌∙◌, arith}
use Rattle.std.specs.Prelude.{bytes_eq}
use Rattle.std.proofs.lemmas.Bool.{false≢true}
use Rattle.std.proofs.lemmas.Slice.Eq.{bytes_eq-Decides}
use Rattle.asl_syntax.specs.declared.names.Space.{Space}
use Rattle.asl_syntax.specs.declared.names.Space.TheVariants.{Globals, Functions, Locals}
use Rattle.asl_syntax.specs.Tree.{Value, IntegerValue, NullValue, LocalValue, BinaryValue, GlobalValue, FieldValue, LoadValue, NewValue, CallValue, Statement, AssignStatement, StoreStatement, OutStatement, IfStatement, WhileStatement, AtomicStatement, Block, NoMore, Then, Function, Item, GlobalItem, FunctionItem, globals_of, functions_of}
use Rattle.asl_syntax.specs.Mentions.{Mention, DeclaresParameter, AssignsLocal, UsesLocal, UsesGlobal, CallsFunction, value_mentions, statement_mentions, block_mentions, function_mentions, mentions}
use Rattle.asl_syntax.specs.Rules.{Names, declared_in, with_declared, names_in}
use Rattle.asl_lower.specs.Names.{has_name, number_of, with_name, stmt_locals, block_locals, locals_of, function_names}
use Rattle.asl_lower.proofs.Named.{Each}

-- either of two tests
pub or_cases : (a b : Bool) → (a || b) ≡ true → (a ≡ true) ⊎ (b ≡ true)
or_cases true b e = inl refl
or_cases false b e = inr e

pub or_first : (a b : Bool) → a ≡ true → (a || b) ≡ true
or_first true b e = refl
or_first false b e = absurd (false≢true e)

pub or_second : (a b : Bool) → b ≡ true → (a || b) ≡ true
or_second true b e = refl
or_second false b e = e

-- names that are declared in one part of the text or in another
declared_step : (o : Option (List ℕ)) (a b c : Names) (x : List ℕ) → (a x ≡ true → (b x ≡ true) ⊎ (c x ≡ true)) → with_declared o a x ≡ true → (with_declared o b x ≡ true) ⊎ (c x ≡ true)
declared_step None a b c x h e = h e
declared_step (Some y) a b c x h e =
    elim (or_cases (bytes_eq y x) (a x) e) [
      | inl here ↦ inl (or_first (bytes_eq y x) (b x) here)
      | inr there ↦ elim (h there) [ inl first ↦ inl (or_second (bytes_eq y x) (b x) first) | inr second ↦ inr second ]
    ]

names_of_both : (sp : Space) (ms ns : List Mention) (x : List ℕ) → names_in sp (ms ++ ns) x ≡ true → (names_in sp ms x ≡ true) ⊎ (names_in sp ns x ≡ true)
names_of_both sp [] ns x e = inr e
names_of_both sp (m ∷ ms) ns x e =
    declared_step (declared_in sp m) (names_in sp (ms ++ ns)) (names_in sp ms) (names_in sp ns) x (names_of_both sp ms ns x) e

-- nothing is declared
none_declared : (sp : Space) (ms : List Mention) (x : List ℕ) → Each (λ m. declared_in sp m ≡ None) ms → names_in sp ms x ≡ true → ⊥
none_declared sp [] x h e = false≢true e
none_declared sp (m ∷ ms) x h e =
    none_declared sp ms x h.1 (ap (λ (o : Option (List ℕ)). with_declared o (names_in sp ms) x) (sym h.0) ∙ e)

each_both : (P : Mention → Type 0) (ms ns : List Mention) → Each P ms → Each P ns → Each P (ms ++ ns)
each_both P [] ns h g = g
each_both P (m ∷ ms) ns h g = (h.0, each_both P ms ns h.1 g)

each_use : (P : Mention → Type 0) → ((x : List ℕ) → P (UsesLocal x)) → (xs : List (List ℕ)) → Each P (map UsesLocal xs)
each_use P u [] = tt
each_use P u (x ∷ xs) = (u x, each_use P u xs)

-- a value only uses names
each_value : (P : Mention → Type 0) → ((x : List ℕ) → P (UsesLocal x)) → ((x : List ℕ) → P (UsesGlobal x)) → ((f : List ℕ) (n : ℕ) → P (CallsFunction f n)) → (v : Value) → Each P (value_mentions v)
each_value P u g c (IntegerValue z) = tt
each_value P u g c NullValue = tt
each_value P u g c (LocalValue y) = (u y, tt)
each_value P u g c (BinaryValue y o z) = (u y, (u z, tt))
each_value P u g c (GlobalValue y) = (g y, tt)
each_value P u g c (FieldValue y n) = (u y, tt)
each_value P u g c (LoadValue y) = (u y, tt)
each_value P u g c (NewValue n) = tt
each_value P u g c (CallValue f args) = (c f (length args), each_use P u args)

-- and a statement uses and assigns them
mutual
  each_stmt : (P : Mention → Type 0) → ((x : List ℕ) → P (AssignsLocal x)) → ((x : List ℕ) → P (UsesLocal x)) → ((x : List ℕ) → P (UsesGlobal x)) → ((f : List ℕ) (n : ℕ) → P (CallsFunction f n)) → (s : Statement) → Each P (statement_mentions s)
  each_stmt P a u g c (AssignStatement x v) = (a x, each_value P u g c v)
  each_stmt P a u g c (StoreStatement x y) = (u x, (u y, tt))
  each_stmt P a u g c (OutStatement x) = (u x, tt)
  each_stmt P a u g c (IfStatement x b e) =
      (u x, each_both P (block_mentions b) (block_mentions e) (each_block P a u g c b) (each_block P a u g c e))
  each_stmt P a u g c (WhileStatement x b) = (u x, each_block P a u g c b)
  each_stmt P a u g c (AtomicStatement b) = each_block P a u g c b

  each_block : (P : Mention → Type 0) → ((x : List ℕ) → P (AssignsLocal x)) → ((x : List ℕ) → P (UsesLocal x)) → ((x : List ℕ) → P (UsesGlobal x)) → ((f : List ℕ) (n : ℕ) → P (CallsFunction f n)) → (b : Block) → Each P (block_mentions b)
  each_block P a u g c NoMore = tt
  each_block P a u g c (Then s b) =
      each_both P (statement_mentions s) (block_mentions b) (each_stmt P a u g c s) (each_block P a u g c b)

-- a function declares its name, its parameters and the locals that it assigns
each_parameter : (P : Mention → Type 0) → ((x : List ℕ) → P (DeclaresParameter x)) → (xs : List (List ℕ)) → Each P (map DeclaresParameter xs)
each_parameter P d [] = tt
each_parameter P d (x ∷ xs) = (d x, each_parameter P d xs)

no_globals : (f : Function) (x : List ℕ) → names_in Globals (function_mentions f) x ≡ true → ⊥
no_globals f x =
    let P : Mention → Type 0 = λ m. declared_in Globals m ≡ None in
    let end : List Mention = UsesLocal f.returned ∷ [] in
    none_declared Globals (function_mentions f) x (
      refl,
      each_both P (map DeclaresParameter f.parameters) (block_mentions f.body ++ end) (each_parameter P (λ _. refl) f.parameters)
          (each_both P (block_mentions f.body) end (each_block P (λ _. refl) (λ _. refl) (λ _. refl) (λ _ _. refl) f.body) (refl, tt)),
    )

no_functions : (f : Function) (x : List ℕ) → names_in Functions (map DeclaresParameter f.parameters ++ (block_mentions f.body ++ UsesLocal f.returned ∷ [])) x ≡ true → ⊥
no_functions f x =
    let P : Mention → Type 0 = λ m. declared_in Functions m ≡ None in
    let end : List Mention = UsesLocal f.returned ∷ [] in
    none_declared Functions (map DeclaresParameter f.parameters ++ (block_mentions f.body ++ end)) x
    (each_both P (map DeclaresParameter f.parameters) (block_mentions f.body ++ end) (each_parameter P (λ _. refl) f.parameters)
    (each_both P (block_mentions f.body) end (each_block P (λ _. refl) (λ _. refl) (λ _. refl) (λ _ _. refl) f.body) (refl, tt)))

-- the declared globals and functions are those of the items
pub globals_declared : (is : List Item) (x : List ℕ) → names_in Globals (mentions is) x ≡ true → has_name (globals_of is) x ≡ true
globals_declared [] x e = absurd (false≢true e)
globals_declared (GlobalItem y ∷ is) x e =
    elim (or_cases (bytes_eq y x) (names_in Globals (mentions is) x) e) [
      | inl here ↦ or_first (bytes_eq y x) (has_name (globals_of is) x) here
      | inr there ↦ or_second (bytes_eq y x) (has_name (globals_of is) x) (globals_declared is x there)
    ]
globals_declared (FunctionItem f ∷ is) x e =
    elim (names_of_both Globals (function_mentions f) (mentions is) x e) [
      | inl here ↦ absurd (no_globals f x here)
      | inr there ↦ globals_declared is x there
    ]

pub functions_declared : (is : List Item) (x : List ℕ) → names_in Functions (mentions is) x ≡ true → has_name (function_names (functions_of is)) x ≡ true
functions_declared [] x e = absurd (false≢true e)
functions_declared (GlobalItem y ∷ is) x e = functions_declared is x e
functions_declared (FunctionItem f ∷ is) x e =
    let own : List Mention = map DeclaresParameter f.parameters ++ (block_mentions f.body ++ UsesLocal f.returned ∷ []) in
    let others : Bool = has_name (function_names (functions_of is)) x in
    elim (or_cases (bytes_eq f.name x) (names_in Functions (own ++ mentions is) x) e) [
      | inl here ↦ or_first (bytes_eq f.name x) others here
      | inr there ↦ elim (names_of_both Functions own (mentions is) x there) [
        | inl inside ↦ absurd (no_functions f x inside)
        | inr later ↦ or_second (bytes_eq f.name x) others (functions_declared is x later)
      ]
    ]

-- the place of a name that is there
there_step : (b : Bool) (n m : ℕ) (h : Bool) → (h ≡ true → n < m) → (b || h) ≡ true → cond b 0 (suc n) < suc m
there_step true n m h f e = omega arith
there_step false n m h f e = (let k = f e in omega arith)

pub name_there : (xs : List (List ℕ)) (x : List ℕ) → has_name xs x ≡ true → number_of xs x < length xs
name_there [] x e = absurd (false≢true e)
name_there (y ∷ ys) x e =
    there_step (bytes_eq y x) (number_of ys x) (length ys) (has_name ys x) (name_there ys x) e

-- names stay among names to which others are added
kept_before : (xs : List (List ℕ)) (x y : List ℕ) → has_name xs x ≡ true → has_name (xs ++ y ∷ []) x ≡ true
kept_before [] x y e = absurd (false≢true e)
kept_before (z ∷ zs) x y e =
    elim (or_cases (bytes_eq z x) (has_name zs x) e) [
      | inl here ↦ or_first (bytes_eq z x) (has_name (zs ++ y ∷ []) x) here
      | inr there ↦ or_second (bytes_eq z x) (has_name (zs ++ y ∷ []) x) (kept_before zs x y there)
    ]

added_last : (xs : List (List ℕ)) (x y : List ℕ) → bytes_eq y x ≡ true → has_name (xs ++ y ∷ []) x ≡ true
added_last [] x y e = or_first (bytes_eq y x) false e
added_last (z ∷ zs) x y e = or_second (bytes_eq z x) (has_name (zs ++ y ∷ []) x) (added_last zs x y e)

with_kept : (b : Bool) (xs ys : List (List ℕ)) (x : List ℕ) → has_name xs x ≡ true → has_name ys x ≡ true → has_name (cond b xs ys) x ≡ true
with_kept true xs ys x e f = e
with_kept false xs ys x e f = f

name_kept : (xs : List (List ℕ)) (x y : List ℕ) → has_name xs x ≡ true → has_name (with_name xs y) x ≡ true
name_kept xs x y e = with_kept (has_name xs y) xs (xs ++ y ∷ []) x e (kept_before xs x y e)

with_added : (b : Bool) (xs ys : List (List ℕ)) (x : List ℕ) → (b ≡ true → has_name xs x ≡ true) → has_name ys x ≡ true → has_name (cond b xs ys) x ≡ true
with_added true xs ys x e f = e refl
with_added false xs ys x e f = f

same_bytes : (y x : List ℕ) → bytes_eq y x ≡ true → y ≡ x
same_bytes y x e = (bytes_eq-Decides y x).0 e

name_added : (xs : List (List ℕ)) (x y : List ℕ) → bytes_eq y x ≡ true → has_name (with_name xs y) x ≡ true
name_added xs x y e =
    with_added (has_name xs y) xs (xs ++ y ∷ []) x (λ h. ap (has_name xs) (sym (same_bytes y x e)) ∙ h) (added_last xs x y e)

-- the locals of statements are those before, and those that they assign
mutual
  stmt_kept : (xs : List (List ℕ)) (s : Statement) (x : List ℕ) → has_name xs x ≡ true → has_name (stmt_locals xs s) x ≡ true
  stmt_kept xs (AssignStatement y v) x e = name_kept xs x y e
  stmt_kept xs (StoreStatement y z) x e = e
  stmt_kept xs (OutStatement y) x e = e
  stmt_kept xs (IfStatement y a b) x e = block_kept (block_locals xs a) b x (block_kept xs a x e)
  stmt_kept xs (WhileStatement y a) x e = block_kept xs a x e
  stmt_kept xs (AtomicStatement a) x e = block_kept xs a x e

  block_kept : (xs : List (List ℕ)) (b : Block) (x : List ℕ) → has_name xs x ≡ true → has_name (block_locals xs b) x ≡ true
  block_kept xs NoMore x e = e
  block_kept xs (Then s b) x e = block_kept (stmt_locals xs s) b x (stmt_kept xs s x e)

no_locals : (v : Value) (x : List ℕ) → names_in Locals (value_mentions v) x ≡ true → ⊥
no_locals v x =
    none_declared Locals (value_mentions v) x (each_value (λ m. declared_in Locals m ≡ None) (λ _. refl) (λ _. refl) (λ _ _. refl) v)

mutual
  stmt_assigned : (xs : List (List ℕ)) (s : Statement) (x : List ℕ) → names_in Locals (statement_mentions s) x ≡ true → has_name (stmt_locals xs s) x ≡ true
  stmt_assigned xs (AssignStatement y v) x e =
      elim (or_cases (bytes_eq y x) (names_in Locals (value_mentions v) x) e) [
        | inl here ↦ name_added xs x y here
        | inr there ↦ absurd (no_locals v x there)
      ]
  stmt_assigned xs (StoreStatement y z) x e = absurd (false≢true e)
  stmt_assigned xs (OutStatement y) x e = absurd (false≢true e)
  stmt_assigned xs (IfStatement y a b) x e =
      elim (names_of_both Locals (block_mentions a) (block_mentions b) x e) [
        | inl first ↦ block_kept (block_locals xs a) b x (block_assigned xs a x first)
        | inr second ↦ block_assigned (block_locals xs a) b x second
      ]
  stmt_assigned xs (WhileStatement y a) x e = block_assigned xs a x e
  stmt_assigned xs (AtomicStatement a) x e = block_assigned xs a x e

  block_assigned : (xs : List (List ℕ)) (b : Block) (x : List ℕ) → names_in Locals (block_mentions b) x ≡ true → has_name (block_locals xs b) x ≡ true
  block_assigned xs NoMore x e = absurd (false≢true e)
  block_assigned xs (Then s b) x e =
      elim (names_of_both Locals (statement_mentions s) (block_mentions b) x e) [
        | inl first ↦ block_kept (stmt_locals xs s) b x (stmt_assigned xs s x first)
        | inr second ↦ block_assigned (stmt_locals xs s) b x second
      ]

parameters_declared : (xs : List (List ℕ)) (x : List ℕ) → names_in Locals (map DeclaresParameter xs) x ≡ true → has_name xs x ≡ true
parameters_declared [] x e = absurd (false≢true e)
parameters_declared (y ∷ ys) x e =
    elim (or_cases (bytes_eq y x) (names_in Locals (map DeclaresParameter ys) x) e) [
      | inl here ↦ or_first (bytes_eq y x) (has_name ys x) here
      | inr there ↦ or_second (bytes_eq y x) (has_name ys x) (parameters_declared ys x there)
    ]

-- the declared locals of a function are its locals
pub locals_declared : (f : Function) (x : List ℕ) → names_in Locals (function_mentions f) x ≡ true → has_name (locals_of f) x ≡ true
locals_declared f x e =
    let end : List Mention = UsesLocal f.returned ∷ [] in
    elim (names_of_both Locals (map DeclaresParameter f.parameters) (block_mentions f.body ++ end) x e) [
      | inl first ↦ block_kept f.parameters f.body x (parameters_declared f.parameters x first)
      | inr rest ↦ elim (names_of_both Locals (block_mentions f.body) end x rest) [
        | inl inside ↦ block_assigned f.parameters f.body x inside
        | inr last ↦ absurd (false≢true last)
      ]
    ]
