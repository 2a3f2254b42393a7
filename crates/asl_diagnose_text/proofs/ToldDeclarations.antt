-- What the names of a text tell of declarations is what its mentions declare: its globals, its functions, and the locals of one
-- function. So the search knows of a name what the rules of names know.
use Rattle.std.proofs.Common.{◌≡◌, ℕ, List, [], ◌∷◌, ◌++◌, Bool, true, false, ◌&&◌, ◌||◌, bytes_eq, map, refl}
use Rattle.asl_syntax.specs.declared.names.Space.TheVariants.{Globals, Functions, Locals}
use Rattle.asl_syntax.specs.Tree.{Value, IntegerValue, NullValue, LocalValue, BinaryValue, GlobalValue, FieldValue, LoadValue, NewValue, CallValue, Statement, AssignStatement, StoreStatement, OutStatement, IfStatement, WhileStatement, AtomicStatement, Block, NoMore, Then, Function, Item, GlobalItem, FunctionItem}
use Rattle.asl_syntax.specs.Mentions.{Mention, DeclaresGlobal, DeclaresFunction, DeclaresParameter, AssignsLocal, UsesLocal, UsesGlobal, CallsFunction, value_mentions, statement_mentions, block_mentions, mentions}
use Rattle.asl_syntax.specs.Rules.{names_in}
use Rattle.asl_diagnose_text.specs.declared.declared.Declares.TheVariants as what
use Rattle.asl_diagnose_text.proofs.Roles.{Told, all_said}
use Rattle.asl_diagnose_text.proofs.NameSearch.{declared, local}

-- ---- what mentions declare

and_true : (b : Bool) → (b && true) ≡ b
and_true true = refl
and_true false = refl

pub and_false : (b : Bool) → (b && false) ≡ false
and_false true = refl
and_false false = refl

-- a mention that declares the name, or none
counts : (b : Bool) (r s : Bool) → r ≡ s → ((b && true) || r) ≡ (b || s)
counts true r s e = refl
counts false r s e = e

counts_not : (b : Bool) (r s : Bool) → r ≡ s → ((b && false) || r) ≡ s
counts_not true r s e = e
counts_not false r s e = e

pub globals_said : (x : List ℕ) (ms : List Mention) → declared what.Global x (all_said ms) ≡ names_in Globals ms x
globals_said x [] = refl
globals_said x (DeclaresGlobal y ∷ ms) = counts (bytes_eq y x) _ _ (globals_said x ms)
globals_said x (DeclaresFunction y ∷ ms) = counts_not (bytes_eq y x) _ _ (globals_said x ms)
globals_said x (DeclaresParameter y ∷ ms) = counts_not (bytes_eq y x) _ _ (globals_said x ms)
globals_said x (AssignsLocal y ∷ ms) = counts_not (bytes_eq y x) _ _ (globals_said x ms)
globals_said x (UsesLocal y ∷ ms) = counts_not (bytes_eq y x) _ _ (globals_said x ms)
globals_said x (UsesGlobal y ∷ ms) = counts_not (bytes_eq y x) _ _ (globals_said x ms)
globals_said x (CallsFunction y n ∷ ms) = counts_not (bytes_eq y x) _ _ (globals_said x ms)

pub functions_said : (x : List ℕ) (ms : List Mention) → declared what.Function x (all_said ms) ≡ names_in Functions ms x
functions_said x [] = refl
functions_said x (DeclaresGlobal y ∷ ms) = counts_not (bytes_eq y x) _ _ (functions_said x ms)
functions_said x (DeclaresFunction y ∷ ms) = counts (bytes_eq y x) _ _ (functions_said x ms)
functions_said x (DeclaresParameter y ∷ ms) = counts_not (bytes_eq y x) _ _ (functions_said x ms)
functions_said x (AssignsLocal y ∷ ms) = counts_not (bytes_eq y x) _ _ (functions_said x ms)
functions_said x (UsesLocal y ∷ ms) = counts_not (bytes_eq y x) _ _ (functions_said x ms)
functions_said x (UsesGlobal y ∷ ms) = counts_not (bytes_eq y x) _ _ (functions_said x ms)
functions_said x (CallsFunction y n ∷ ms) = counts_not (bytes_eq y x) _ _ (functions_said x ms)

-- ---- mentions of one function

abbrev pub NoFunction : List Mention → Type 0
NoFunction [] = Unit {0}
NoFunction (DeclaresFunction x ∷ ms) = ⊥
NoFunction (m ∷ ms) = NoFunction ms

none_in : (ms ns : List Mention) → NoFunction ms → NoFunction ns → NoFunction (ms ++ ns)
none_in [] ns h g = g
none_in (DeclaresGlobal x ∷ ms) ns h g = none_in ms ns h g
none_in (DeclaresFunction x ∷ ms) ns h g = absurd h
none_in (DeclaresParameter x ∷ ms) ns h g = none_in ms ns h g
none_in (AssignsLocal x ∷ ms) ns h g = none_in ms ns h g
none_in (UsesLocal x ∷ ms) ns h g = none_in ms ns h g
none_in (UsesGlobal x ∷ ms) ns h g = none_in ms ns h g
none_in (CallsFunction x n ∷ ms) ns h g = none_in ms ns h g

none_in_uses : (xs : List (List ℕ)) → NoFunction (map UsesLocal xs)
none_in_uses [] = tt
none_in_uses (x ∷ xs) = none_in_uses xs

none_in_parameters : (xs : List (List ℕ)) → NoFunction (map DeclaresParameter xs)
none_in_parameters [] = tt
none_in_parameters (x ∷ xs) = none_in_parameters xs

none_in_value : (v : Value) → NoFunction (value_mentions v)
none_in_value (IntegerValue z) = tt
none_in_value NullValue = tt
none_in_value (LocalValue x) = tt
none_in_value (BinaryValue x o y) = tt
none_in_value (GlobalValue x) = tt
none_in_value (FieldValue x n) = tt
none_in_value (LoadValue x) = tt
none_in_value (NewValue n) = tt
none_in_value (CallValue f args) = none_in_uses args

mutual
  none_in_statement : (s : Statement) → NoFunction (statement_mentions s)
  none_in_statement (AssignStatement x v) = none_in_value v
  none_in_statement (StoreStatement x y) = tt
  none_in_statement (OutStatement x) = tt
  none_in_statement (IfStatement x a b) = none_in (block_mentions a) (block_mentions b) (none_in_block a) (none_in_block b)
  none_in_statement (WhileStatement x a) = none_in_block a
  none_in_statement (AtomicStatement a) = none_in_block a

  none_in_block : (b : Block) → NoFunction (block_mentions b)
  none_in_block NoMore = tt
  none_in_block (Then s b) = none_in (statement_mentions s) (block_mentions b) (none_in_statement s) (none_in_block b)

-- those of a function after its name
abbrev pub inner : Function → List Mention
inner f = map DeclaresParameter f.parameters ++ (block_mentions f.body ++ UsesLocal f.returned ∷ [])

pub none_inside : (f : Function) → NoFunction (inner f)
none_inside f =
    none_in (map DeclaresParameter f.parameters) (block_mentions f.body ++ UsesLocal f.returned ∷ []) (none_in_parameters f.parameters)
    (none_in (block_mentions f.body) (UsesLocal f.returned ∷ []) (none_in_block f.body) tt)

-- the locals of a function are read up to the next function
pub no_local : (x : List ℕ) (is : List Item) → local x (all_said (mentions is)) ≡ false
no_local x [] = refl
no_local x (GlobalItem y ∷ is) = counts_not (bytes_eq y x) _ _ (no_local x is)
no_local x (FunctionItem f ∷ is) = refl

pub locals_said : (x : List ℕ) (ms : List Mention) (us : List Told) → NoFunction ms → local x us ≡ false → local x (all_said ms ++ us) ≡ names_in Locals ms x
locals_said x [] us h e = e
locals_said x (DeclaresGlobal y ∷ ms) us h e = counts_not (bytes_eq y x) _ _ (locals_said x ms us h e)
locals_said x (DeclaresFunction y ∷ ms) us h e = absurd h
locals_said x (DeclaresParameter y ∷ ms) us h e = counts (bytes_eq y x) _ _ (locals_said x ms us h e)
locals_said x (AssignsLocal y ∷ ms) us h e = counts (bytes_eq y x) _ _ (locals_said x ms us h e)
locals_said x (UsesLocal y ∷ ms) us h e = counts_not (bytes_eq y x) _ _ (locals_said x ms us h e)
locals_said x (UsesGlobal y ∷ ms) us h e = counts_not (bytes_eq y x) _ _ (locals_said x ms us h e)
locals_said x (CallsFunction y n ∷ ms) us h e = counts_not (bytes_eq y x) _ _ (locals_said x ms us h e)
