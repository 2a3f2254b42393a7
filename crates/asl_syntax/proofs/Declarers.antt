-- Which mention declares a name in a space; and that a function mentions its own declaration, those of its parameters, and else
-- only what may stand in a body.
use Rattle.std.proofs.Common.{◌≡◌, ◌⊎◌, inl, inr, ℕ, List, [], ◌∷◌, ◌++◌, map, true, Option, Some, None, bytes_eq, refl, sym, ap, subst, ◌∙◌}
use Rattle.std.specs.List.{AllByRecursion}
use Rattle.std.proofs.lemmas.Bool.{false≢true, or_cases, or_left, or_right}
use Rattle.std.proofs.lemmas.Slice.Eq.{bytes_eq-Decides}
use Rattle.asl_syntax.specs.declared.names.Space.{Space}
use Rattle.asl_syntax.specs.declared.names.Space.TheVariants.{Globals, Functions, Locals}
use Rattle.asl_syntax.specs.Tree.{Value, IntegerValue, NullValue, LocalValue, BinaryValue, GlobalValue, FieldValue, LoadValue, NewValue, CallValue, Statement, AssignStatement, StoreStatement, OutStatement, IfStatement, WhileStatement, AtomicStatement, Block, NoMore, Then, Function}
use Rattle.asl_syntax.specs.Mentions.{Mention, DeclaresGlobal, DeclaresFunction, DeclaresParameter, AssignsLocal, UsesLocal, UsesGlobal, CallsFunction, value_mentions, statement_mentions, block_mentions, function_mentions}
use Rattle.asl_syntax.specs.Rules.{Names, declared_in, with_declared, names_in}
use Rattle.asl_syntax.proofs.Among.{Among, among_either, mapped_from}

-- ---- what declares a name

pub declares_global : (m : Mention) (x : List ℕ) → declared_in Globals m ≡ Some x → m ≡ DeclaresGlobal x
declares_global (DeclaresGlobal y) x e = cc
declares_global (DeclaresFunction y) x e = cc
declares_global (DeclaresParameter y) x e = cc
declares_global (AssignsLocal y) x e = cc
declares_global (UsesLocal y) x e = cc
declares_global (UsesGlobal y) x e = cc
declares_global (CallsFunction y n) x e = cc

pub declares_function : (m : Mention) (x : List ℕ) → declared_in Functions m ≡ Some x → m ≡ DeclaresFunction x
declares_function (DeclaresGlobal y) x e = cc
declares_function (DeclaresFunction y) x e = cc
declares_function (DeclaresParameter y) x e = cc
declares_function (AssignsLocal y) x e = cc
declares_function (UsesLocal y) x e = cc
declares_function (UsesGlobal y) x e = cc
declares_function (CallsFunction y n) x e = cc

pub declares_local : (m : Mention) (x : List ℕ) → declared_in Locals m ≡ Some x → (m ≡ DeclaresParameter x) ⊎ (m ≡ AssignsLocal x)
declares_local (DeclaresGlobal y) x e = absurd cc
declares_local (DeclaresFunction y) x e = absurd cc
declares_local (DeclaresParameter y) x e = inl cc
declares_local (AssignsLocal y) x e = inr cc
declares_local (UsesLocal y) x e = absurd cc
declares_local (UsesGlobal y) x e = absurd cc
declares_local (CallsFunction y n) x e = absurd cc

-- some mention declares the name
abbrev pub Declares : Space → List Mention → List ℕ → Type 0
Declares sp ms x = (m : Mention) × Among ms m × (declared_in sp m ≡ Some x)

pub same_bytes : (y x : List ℕ) → bytes_eq y x ≡ true → y ≡ x
same_bytes y x e = (bytes_eq-Decides y x).0 e

-- a name that is known with one more declaration is that one, or was known
pub declared_here : (o : Option (List ℕ)) (known : Names) (x : List ℕ) → with_declared o known x ≡ true → (o ≡ Some x) ⊎ (known x ≡ true)
declared_here None known x e = inr e
declared_here (Some y) known x e =
    elim (or_cases (bytes_eq y x) (known x) e) [ inl here ↦ inl (ap Some (same_bytes y x here)) | inr there ↦ inr there ]

-- a known name has a mention that declares it
pub declarer : (sp : Space) (ms : List Mention) (x : List ℕ) → names_in sp ms x ≡ true → Declares sp ms x
declarer sp [] x e = absurd (false≢true e)
declarer sp (m ∷ ms) x e =
    elim (declared_here (declared_in sp m) (names_in sp ms) x e) [
      | inl here ↦ (m, inl refl, here)
      | inr there ↦ (let k = declarer sp ms x there in (k.0, inr k.1, k.2))
    ]

pub more_declared : (o : Option (List ℕ)) (known : Names) (x : List ℕ) → known x ≡ true → with_declared o known x ≡ true
more_declared None known x e = e
more_declared (Some y) known x e = or_right (bytes_eq y x) (known x) e

pub one_declared : (o : Option (List ℕ)) (known : Names) (x : List ℕ) → o ≡ Some x → with_declared o known x ≡ true
one_declared None known x e = absurd cc
one_declared (Some y) known x e = or_left (bytes_eq y x) (known x) (let same : x ≡ y = cc in (bytes_eq-Decides y x).1 (sym same))

-- and a mention that declares a name makes it known
pub declared : (sp : Space) (ms : List Mention) (m : Mention) (x : List ℕ) → Among ms m → declared_in sp m ≡ Some x → names_in sp ms x ≡ true
declared sp [] m x h e = absurd h
declared sp (n ∷ ms) m x (inl same) e = one_declared (declared_in sp n) (names_in sp ms) x (ap (declared_in sp) same ∙ e)
declared sp (n ∷ ms) m x (inr there) e = more_declared (declared_in sp n) (names_in sp ms) x (declared sp ms m x there e)

-- ---- what a function mentions

-- a body declares neither globals, nor functions, nor parameters
abbrev pub Inside : Mention → Type 0
Inside (DeclaresGlobal x) = ⊥
Inside (DeclaresFunction x) = ⊥
Inside (DeclaresParameter x) = ⊥
Inside _ = Unit {0}

uses_inside : (xs : List (List ℕ)) → AllByRecursion Inside (map UsesLocal xs)
uses_inside [] = tt
uses_inside (x ∷ xs) = (tt, uses_inside xs)

value_inside : (v : Value) → AllByRecursion Inside (value_mentions v)
value_inside (IntegerValue z) = tt
value_inside NullValue = tt
value_inside (LocalValue x) = (tt, tt)
value_inside (BinaryValue x o y) = (tt, (tt, tt))
value_inside (GlobalValue x) = (tt, tt)
value_inside (FieldValue x n) = (tt, tt)
value_inside (LoadValue x) = (tt, tt)
value_inside (NewValue n) = tt
value_inside (CallValue f args) = (tt, uses_inside args)

pub both_inside : (ms ns : List Mention) → AllByRecursion Inside ms → AllByRecursion Inside ns → AllByRecursion Inside (ms ++ ns)
both_inside [] ns h k = k
both_inside (m ∷ ms) ns h k = (h.0, both_inside ms ns h.1 k)

mutual
  statement_inside : (s : Statement) → AllByRecursion Inside (statement_mentions s)
  statement_inside (AssignStatement x v) = (tt, value_inside v)
  statement_inside (StoreStatement x y) = (tt, (tt, tt))
  statement_inside (OutStatement x) = (tt, tt)
  statement_inside (IfStatement x a b) =
      (tt, both_inside (block_mentions a) (block_mentions b) (block_inside a) (block_inside b))
  statement_inside (WhileStatement x a) = (tt, block_inside a)
  statement_inside (AtomicStatement a) = block_inside a

  pub block_inside : (b : Block) → AllByRecursion Inside (block_mentions b)
  block_inside NoMore = tt
  block_inside (Then s b) = both_inside (statement_mentions s) (block_mentions b) (statement_inside s) (block_inside b)

is_inside : (ms : List Mention) (m : Mention) → AllByRecursion Inside ms → Among ms m → Inside m
is_inside [] m h a = absurd a
is_inside (n ∷ ms) m h (inl same) = subst Inside same h.0
is_inside (n ∷ ms) m h (inr there) = is_inside ms m h.1 there

-- a mention of a function declares it or a parameter, or is of its body
pub data Part (f : Function) (m : Mention) : Type 0 where
  Head : DeclaresFunction f.name ≡ m → Part f m
  Parameter : (x : List ℕ) → Among f.parameters x → DeclaresParameter x ≡ m → Part f m
  Body : Inside m → Part f m

pub part : (f : Function) (m : Mention) → Among (function_mentions f) m → Part f m
part f m (inl same) = Head same
part f m (inr there) =
    let body : List Mention = block_mentions f.body ++ UsesLocal f.returned ∷ [] in
    elim (among_either (map DeclaresParameter f.parameters) body m there) [
      | inl own ↦ (let k = mapped_from DeclaresParameter f.parameters m own in Parameter k.0 k.1 k.2)
      | inr in' ↦ Body (is_inside body m (both_inside (block_mentions f.body) (UsesLocal f.returned ∷ []) (block_inside f.body) (tt, tt)) in')
    ]
