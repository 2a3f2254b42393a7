-- A program declares each name once exactly where no name is found twice.
use Rattle.std.proofs.Common.{◌≡◌, ℕ, List, [], ◌∷◌, ◌++◌, map, Bool, true, false, ◌||◌, Option, Some, None, if◌then◌else◌, bytes_eq, refl, sym, ap, ◌∙◌, append_assoc, ◌↔◌}
use Rattle.std.specs.List.{AllByRecursion, IsDistinct}
use Rattle.std.proofs.lemmas.List.Elements.{All-from_recursion, recursion_from_All}
use Rattle.asl_syntax.specs.Tree.{Value, IntegerValue, NullValue, LocalValue, BinaryValue, GlobalValue, FieldValue, LoadValue, NewValue, CallValue, Statement, AssignStatement, StoreStatement, OutStatement, IfStatement, WhileStatement, AtomicStatement, Block, NoMore, Then, Function, Item, GlobalItem, FunctionItem, globals_of, functions_of}
use Rattle.asl_syntax.specs.Mentions.{Mention, DeclaresParameter, UsesLocal, value_mentions, statement_mentions, block_mentions, mentions}
use Rattle.asl_syntax.specs.Rules.{Names, no_name, with_name, first_twice, twice}
use Rattle.asl_syntax.proofs.Few.{goes_on}
use Rattle.asl_syntax.specs.DeclaredOnce.{AreDeclaredOnce}

-- ---- names that are new

-- none of the names is known, and no two are one
abbrev AreNew : Names → List (List ℕ) → Type 0
AreNew known xs = AllByRecursion (λ x. known x ≡ false) xs × IsDistinct bytes_eq xs

or_left : (a b : Bool) → (a || b) ≡ false → a ≡ false
or_left false b e = refl
or_left true b e = absurd cc

or_right : (a b : Bool) → (a || b) ≡ false → b ≡ false
or_right false b e = e
or_right true b e = absurd cc

or_both : (a b : Bool) → a ≡ false → b ≡ false → (a || b) ≡ false
or_both false b e f = f
or_both true b e f = absurd cc

lefts : (p q : Names) (xs : List (List ℕ)) → AllByRecursion (λ x. (p x || q x) ≡ false) xs → AllByRecursion (λ x. p x ≡ false) xs
lefts p q [] h = tt
lefts p q (x ∷ xs) h = (or_left (p x) (q x) h.0, lefts p q xs h.1)

rights : (p q : Names) (xs : List (List ℕ)) → AllByRecursion (λ x. (p x || q x) ≡ false) xs → AllByRecursion (λ x. q x ≡ false) xs
rights p q [] h = tt
rights p q (x ∷ xs) h = (or_right (p x) (q x) h.0, rights p q xs h.1)

both : (p q : Names) (xs : List (List ℕ)) → AllByRecursion (λ x. p x ≡ false) xs → AllByRecursion (λ x. q x ≡ false) xs → AllByRecursion (λ x. (p x || q x) ≡ false) xs
both p q [] h k = tt
both p q (x ∷ xs) h k = (or_both (p x) (q x) h.0 k.0, both p q xs h.1 k.1)

none_known : (xs : List (List ℕ)) → AllByRecursion (λ x. no_name x ≡ false) xs
none_known [] = tt
none_known (x ∷ xs) = (refl, none_known xs)

no_more_new : (known : Names) → AreNew known []
unfolding IsDistinct
no_more_new known = (tt, tt)

one_more_new : (known : Names) (x : List ℕ) (xs : List (List ℕ)) → known x ≡ false → AreNew (with_name x known) xs → AreNew known (x ∷ xs)
unfolding IsDistinct
one_more_new known x xs new h = ((new, rights (λ y. bytes_eq x y) known xs h.0), (lefts (λ y. bytes_eq x y) known xs h.0, h.1))

first_new : (known : Names) (x : List ℕ) (xs : List (List ℕ)) → AreNew known (x ∷ xs) → known x ≡ false
unfolding IsDistinct
first_new known x xs h = h.0.0

rest_new : (known : Names) (x : List ℕ) (xs : List (List ℕ)) → AreNew known (x ∷ xs) → AreNew (with_name x known) xs
unfolding IsDistinct
rest_new known x xs h = (both (λ y. bytes_eq x y) known xs h.1.0 h.0.1, h.1.1)

-- ---- mentions

passes : (b : Bool) (x : List ℕ) (o : Option (List ℕ)) → b ≡ false → o ≡ None → (if b then Some x else o) ≡ None
passes true x o e f = absurd cc
passes false x o e f = f

-- uses and assignments declare nothing
uses_pass : (gs fs ps : Names) (xs : List (List ℕ)) (ns : List Mention) → first_twice gs fs ps (map UsesLocal xs ++ ns) ≡ first_twice gs fs ps ns
uses_pass gs fs ps [] ns = refl
uses_pass gs fs ps (x ∷ xs) ns = uses_pass gs fs ps xs ns

value_passes : (gs fs ps : Names) (v : Value) (ns : List Mention) → first_twice gs fs ps (value_mentions v ++ ns) ≡ first_twice gs fs ps ns
value_passes gs fs ps (IntegerValue z) ns = refl
value_passes gs fs ps NullValue ns = refl
value_passes gs fs ps (LocalValue x) ns = refl
value_passes gs fs ps (BinaryValue x o y) ns = refl
value_passes gs fs ps (GlobalValue x) ns = refl
value_passes gs fs ps (FieldValue x n) ns = refl
value_passes gs fs ps (LoadValue x) ns = refl
value_passes gs fs ps (NewValue n) ns = refl
value_passes gs fs ps (CallValue f args) ns = uses_pass gs fs ps args ns

mutual
  statement_passes : (gs fs ps : Names) (s : Statement) (ns : List Mention) → first_twice gs fs ps (statement_mentions s ++ ns) ≡ first_twice gs fs ps ns
  statement_passes gs fs ps (AssignStatement x v) ns = value_passes gs fs ps v ns
  statement_passes gs fs ps (StoreStatement x y) ns = refl
  statement_passes gs fs ps (OutStatement x) ns = refl
  statement_passes gs fs ps (IfStatement x a b) ns =
      ap (λ l. first_twice gs fs ps l) (append_assoc (block_mentions a) (block_mentions b) ns)
      ∙ block_passes gs fs ps a (block_mentions b ++ ns) ∙ block_passes gs fs ps b ns
  statement_passes gs fs ps (WhileStatement x a) ns = block_passes gs fs ps a ns
  statement_passes gs fs ps (AtomicStatement a) ns = block_passes gs fs ps a ns

  block_passes : (gs fs ps : Names) (b : Block) (ns : List Mention) → first_twice gs fs ps (block_mentions b ++ ns) ≡ first_twice gs fs ps ns
  block_passes gs fs ps NoMore ns = refl
  block_passes gs fs ps (Then s b) ns =
      ap (λ l. first_twice gs fs ps l) (append_assoc (statement_mentions s) (block_mentions b) ns)
      ∙ statement_passes gs fs ps s (block_mentions b ++ ns) ∙ block_passes gs fs ps b ns

-- the names of a body and its result declare nothing
pub body_passes : (gs fs ps : Names) (f : Function) (ns : List Mention) → first_twice gs fs ps ((block_mentions f.body ++ UsesLocal f.returned ∷ []) ++ ns) ≡ first_twice gs fs ps ns
body_passes gs fs ps f ns =
    ap (λ l. first_twice gs fs ps l) (append_assoc (block_mentions f.body) (UsesLocal f.returned ∷ []) ns)
    ∙ block_passes gs fs ps f.body (UsesLocal f.returned ∷ ns)

-- the parameters
parameters_new : (gs fs ps : Names) (xs : List (List ℕ)) (ns : List Mention) → first_twice gs fs ps (map DeclaresParameter xs ++ ns) ≡ None
    → AreNew ps xs × ((last : Names) × (first_twice gs fs last ns ≡ None))
parameters_new gs fs ps [] ns e = (no_more_new ps, (ps, e))
parameters_new gs fs ps (x ∷ xs) ns e =
    let k = goes_on (ps x) x (first_twice gs fs (with_name x ps) (map DeclaresParameter xs ++ ns)) e in
    let rest = parameters_new gs fs (with_name x ps) xs ns k.1 in
    (one_more_new ps x xs k.0 rest.0, rest.1)

parameters_pass : (gs fs ps : Names) (xs : List (List ℕ)) (ns : List Mention) → AreNew ps xs → ((last : Names) → first_twice gs fs last ns ≡ None)
    → first_twice gs fs ps (map DeclaresParameter xs ++ ns) ≡ None
parameters_pass gs fs ps [] ns new rest = rest ps
parameters_pass gs fs ps (x ∷ xs) ns new rest =
    passes (ps x) x (first_twice gs fs (with_name x ps) (map DeclaresParameter xs ++ ns)) (first_new ps x xs new)
    (parameters_pass gs fs (with_name x ps) xs ns (rest_new ps x xs new) rest)

-- ---- items

abbrev names_of : List Item → List (List ℕ)
names_of is = map (λ (f : Function). f.name) (functions_of is)

abbrev HaveOwn : List Item → Type 0
HaveOwn is = AllByRecursion (λ (f : Function). IsDistinct bytes_eq f.parameters) (functions_of is)

-- the parameters of the function before matter to no item
any_parameters : (gs fs ps qs : Names) (is : List Item) → first_twice gs fs ps (mentions is) ≡ None → first_twice gs fs qs (mentions is) ≡ None
any_parameters gs fs ps qs [] e = refl
any_parameters gs fs ps qs (GlobalItem x ∷ is) e =
    let k = goes_on (gs x) x (first_twice (with_name x gs) fs ps (mentions is)) e in
    passes (gs x) x (first_twice (with_name x gs) fs qs (mentions is)) k.0 (any_parameters (with_name x gs) fs ps qs is k.1)
any_parameters gs fs ps qs (FunctionItem f ∷ is) e = e

once_from : (gs fs ps : Names) (is : List Item) → first_twice gs fs ps (mentions is) ≡ None → AreNew gs (globals_of is) × AreNew fs (names_of is) × HaveOwn is
once_from gs fs ps [] e = (no_more_new gs, no_more_new fs, tt)
once_from gs fs ps (GlobalItem x ∷ is) e =
    let k = goes_on (gs x) x (first_twice (with_name x gs) fs ps (mentions is)) e in
    let rest = once_from (with_name x gs) fs ps is k.1 in
    (one_more_new gs x (globals_of is) k.0 rest.0, rest.1, rest.2)
once_from gs fs ps (FunctionItem f ∷ is) e =
    let own = map DeclaresParameter f.parameters in
    let body = block_mentions f.body ++ UsesLocal f.returned ∷ [] in
    let k = goes_on (fs f.name) f.name (first_twice gs (with_name f.name fs) no_name ((own ++ body) ++ mentions is)) e in
    let split = sym (ap (λ l. first_twice gs (with_name f.name fs) no_name l) (append_assoc own body (mentions is))) ∙ k.1 in
    let mine = parameters_new gs (with_name f.name fs) no_name f.parameters (body ++ mentions is) split in
    let later = sym (body_passes gs (with_name f.name fs) mine.1.0 f (mentions is)) ∙ mine.1.1 in
    let rest = once_from gs (with_name f.name fs) mine.1.0 is later in
    (rest.0, one_more_new fs f.name (names_of is) k.0 rest.1, (mine.0.1, rest.2))

once_to : (gs fs ps : Names) (is : List Item) → AreNew gs (globals_of is) → AreNew fs (names_of is) → HaveOwn is → first_twice gs fs ps (mentions is) ≡ None
once_to gs fs ps [] g f p = refl
once_to gs fs ps (GlobalItem x ∷ is) g f p =
    passes (gs x) x (first_twice (with_name x gs) fs ps (mentions is)) (first_new gs x (globals_of is) g)
    (once_to (with_name x gs) fs ps is (rest_new gs x (globals_of is) g) f p)
once_to gs fs ps (FunctionItem f ∷ is) g h p =
    let own = map DeclaresParameter f.parameters in
    let body = block_mentions f.body ++ UsesLocal f.returned ∷ [] in
    let rest : (last : Names) → first_twice gs (with_name f.name fs) last (body ++ mentions is) ≡ None =
    (λ last. body_passes gs (with_name f.name fs) last f (mentions is) ∙ once_to gs (with_name f.name fs) last is g (rest_new fs f.name (names_of is) h) p.1) in
    passes (fs f.name) f.name (first_twice gs (with_name f.name fs) no_name ((own ++ body) ++ mentions is)) (first_new fs f.name (names_of is) h)
    (ap (λ l. first_twice gs (with_name f.name fs) no_name l) (append_assoc own body (mentions is))
    ∙ parameters_pass gs (with_name f.name fs) no_name f.parameters (body ++ mentions is) (none_known f.parameters, p.0) rest)

-- ---- the program

pub declared_once : (t : List Item) → (twice t ≡ None) ↔ AreDeclaredOnce t
declared_once t = (
  λ none. (let k = once_from no_name no_name no_name t none in record {
    globals = k.0.1;
    functions = k.1.1;
    parameters = All-from_recursion (λ (f : Function). IsDistinct bytes_eq f.parameters) (functions_of t) k.2;
  }),
  λ once. once_to no_name no_name no_name t (none_known (globals_of t), once.globals) (none_known (names_of t), once.functions)
      (recursion_from_All (λ (f : Function). IsDistinct bytes_eq f.parameters) (functions_of t) once.parameters),
)
