-- The bodies of functions declare nothing that a program's rules of names ask of its items: which names are declared twice,
-- and which globals and functions there are, can be seen from the declarations alone. And a body has a wrong call where a
-- statement has one.
use Rattle.std.proofs.Common.{◌≡◌, ◌++◌, ◌∷◌, ◌∙◌, ◌||◌, [], Bool, true, false, List, ℕ, Some, None, if◌then◌else◌, length, map, refl, sym, ap, append_assoc}
use Rattle.std.specs.List.{list_any}
use Rattle.std.proofs.Math.Bool.{or-false}
use Rattle.std.proofs.lemmas.List.Folds.{list_any-append}
use Rattle.asl_syntax.specs.Tree.{Value, IntegerValue, NullValue, LocalValue, BinaryValue, GlobalValue, FieldValue, LoadValue, NewValue, CallValue, Statement, AssignStatement, StoreStatement, OutStatement, IfStatement, WhileStatement, AtomicStatement, Block, NoMore, Then, Function, Item, GlobalItem, FunctionItem}
use Rattle.asl_syntax.specs.Mentions.{Mention, DeclaresGlobal, DeclaresFunction, DeclaresParameter, AssignsLocal, UsesLocal, UsesGlobal, CallsFunction, value_mentions, statement_mentions, block_mentions, function_mentions, mentions}
use Rattle.asl_syntax.specs.declared.names.Space.{Space}
use Rattle.asl_syntax.specs.declared.names.Space.TheVariants.{Globals, Functions}
use Rattle.asl_syntax.specs.Rules.{Names, Counts, no_name, with_name, declared_in, with_declared, names_in, first_twice, twice, differs, is_wrong_call, wrong_call_from}
use Rattle.asl_syntax.specs.Declarations.{declarations}
use Rattle.asl_syntax.proofs.Declared.{body_passes}

-- ---- what is declared twice

-- parameters before what is alike
alike_after : (gs fs ps : Names) (xs : List (List ℕ)) (ms ns : List Mention) → ((qs : Names) → first_twice gs fs qs ms ≡ first_twice gs fs qs ns)
    → first_twice gs fs ps (map DeclaresParameter xs ++ ms) ≡ first_twice gs fs ps (map DeclaresParameter xs ++ ns)
alike_after gs fs ps [] ms ns same = same ps
alike_after gs fs ps (x ∷ xs) ms ns same =
    ap (λ o. if ps x then Some x else o) (alike_after gs fs (with_name x ps) xs ms ns same)

-- so the declarations of a program have its first name that is declared twice
twice_from : (gs fs ps : Names) (is : List Item) → first_twice gs fs ps (declarations is) ≡ first_twice gs fs ps (mentions is)
twice_from gs fs ps [] = refl
twice_from gs fs ps (GlobalItem x ∷ is) = ap (λ o. if gs x then Some x else o) (twice_from (with_name x gs) fs ps is)
twice_from gs fs ps (FunctionItem f ∷ is) =
    let own = map DeclaresParameter f.parameters in
    let body = block_mentions f.body ++ UsesLocal f.returned ∷ [] in
    let more = with_name f.name fs in
    let rest : (qs : Names) → first_twice gs more qs (declarations is) ≡ first_twice gs more qs (body ++ mentions is) =
    (λ qs. twice_from gs more qs is ∙ sym (body_passes gs more qs f (mentions is))) in
    ap (λ o. if fs f.name then Some f.name else o)
    (alike_after gs more no_name f.parameters (declarations is) (body ++ mentions is) rest
    ∙ ap (λ l. first_twice gs more no_name l) (sym (append_assoc own body (mentions is))))

pub declared_twice : (is : List Item) → first_twice no_name no_name no_name (declarations is) ≡ twice is
declared_twice is = twice_from no_name no_name no_name is

-- ---- which globals and functions there are

-- a name space in which neither parameters nor the names of bodies are declared
record Quiet (sp : Space) : Type 0 where
  parameter : (x : List ℕ) → declared_in sp (DeclaresParameter x) ≡ None
  assigned : (x : List ℕ) → declared_in sp (AssignsLocal x) ≡ None
  used : (x : List ℕ) → declared_in sp (UsesLocal x) ≡ None
  address : (x : List ℕ) → declared_in sp (UsesGlobal x) ≡ None
  call : (x : List ℕ) (n : ℕ) → declared_in sp (CallsFunction x n) ≡ None

quiet_globals : Quiet Globals
quiet_globals = record {
  parameter = λ x. refl;
  assigned = λ x. refl;
  used = λ x. refl;
  address = λ x. refl;
  call = λ x n. refl;
}

quiet_functions : Quiet Functions
quiet_functions = record {
  parameter = λ x. refl;
  assigned = λ x. refl;
  used = λ x. refl;
  address = λ x. refl;
  call = λ x n. refl;
}

-- a mention that declares nothing there
skipped : (sp : Space) (m : Mention) (ms : List Mention) (known : Names) → declared_in sp m ≡ None → names_in sp ms ≡ known → names_in sp (m ∷ ms) ≡ known
skipped sp m ms known none same = ap (λ o. with_declared o (names_in sp ms)) none ∙ same

uses_skipped : (sp : Space) → Quiet sp → (xs : List (List ℕ)) (ns : List Mention) → names_in sp (map UsesLocal xs ++ ns) ≡ names_in sp ns
uses_skipped sp q [] ns = refl
uses_skipped sp q (x ∷ xs) ns = skipped sp (UsesLocal x) (map UsesLocal xs ++ ns) (names_in sp ns) (q.used x) (uses_skipped sp q xs ns)

parameters_skipped : (sp : Space) → Quiet sp → (xs : List (List ℕ)) (ns : List Mention) → names_in sp (map DeclaresParameter xs ++ ns) ≡ names_in sp ns
parameters_skipped sp q [] ns = refl
parameters_skipped sp q (x ∷ xs) ns =
    skipped sp (DeclaresParameter x) (map DeclaresParameter xs ++ ns) (names_in sp ns) (q.parameter x) (parameters_skipped sp q xs ns)

value_skipped : (sp : Space) → Quiet sp → (v : Value) (ns : List Mention) → names_in sp (value_mentions v ++ ns) ≡ names_in sp ns
value_skipped sp q (IntegerValue z) ns = refl
value_skipped sp q NullValue ns = refl
value_skipped sp q (LocalValue x) ns = skipped sp (UsesLocal x) ns (names_in sp ns) (q.used x) refl
value_skipped sp q (BinaryValue x o y) ns =
    skipped sp (UsesLocal x) (UsesLocal y ∷ ns) (names_in sp ns) (q.used x) (skipped sp (UsesLocal y) ns (names_in sp ns) (q.used y) refl)
value_skipped sp q (GlobalValue x) ns = skipped sp (UsesGlobal x) ns (names_in sp ns) (q.address x) refl
value_skipped sp q (FieldValue x n) ns = skipped sp (UsesLocal x) ns (names_in sp ns) (q.used x) refl
value_skipped sp q (LoadValue x) ns = skipped sp (UsesLocal x) ns (names_in sp ns) (q.used x) refl
value_skipped sp q (NewValue n) ns = refl
value_skipped sp q (CallValue f args) ns =
    skipped sp (CallsFunction f (length args)) (map UsesLocal args ++ ns) (names_in sp ns) (q.call f (length args)) (uses_skipped sp q args ns)

mutual
  statement_skipped : (sp : Space) → Quiet sp → (s : Statement) (ns : List Mention) → names_in sp (statement_mentions s ++ ns) ≡ names_in sp ns
  statement_skipped sp q (AssignStatement x v) ns =
      skipped sp (AssignsLocal x) (value_mentions v ++ ns) (names_in sp ns) (q.assigned x) (value_skipped sp q v ns)
  statement_skipped sp q (StoreStatement x y) ns =
      skipped sp (UsesLocal x) (UsesLocal y ∷ ns) (names_in sp ns) (q.used x) (skipped sp (UsesLocal y) ns (names_in sp ns) (q.used y) refl)
  statement_skipped sp q (OutStatement x) ns = skipped sp (UsesLocal x) ns (names_in sp ns) (q.used x) refl
  statement_skipped sp q (IfStatement x a b) ns =
      skipped sp (UsesLocal x) ((block_mentions a ++ block_mentions b) ++ ns) (names_in sp ns) (q.used x)
      (ap (names_in sp) (append_assoc (block_mentions a) (block_mentions b) ns)
      ∙ block_skipped sp q a (block_mentions b ++ ns) ∙ block_skipped sp q b ns)
  statement_skipped sp q (WhileStatement x a) ns =
      skipped sp (UsesLocal x) (block_mentions a ++ ns) (names_in sp ns) (q.used x) (block_skipped sp q a ns)
  statement_skipped sp q (AtomicStatement a) ns = block_skipped sp q a ns

  block_skipped : (sp : Space) → Quiet sp → (b : Block) (ns : List Mention) → names_in sp (block_mentions b ++ ns) ≡ names_in sp ns
  block_skipped sp q NoMore ns = refl
  block_skipped sp q (Then s b) ns =
      ap (names_in sp) (append_assoc (statement_mentions s) (block_mentions b) ns)
      ∙ statement_skipped sp q s (block_mentions b ++ ns) ∙ block_skipped sp q b ns

-- parameters and a body, before what follows
inside_skipped : (sp : Space) → Quiet sp → (f : Function) (ns : List Mention)
    → names_in sp ((map DeclaresParameter f.parameters ++ (block_mentions f.body ++ UsesLocal f.returned ∷ [])) ++ ns) ≡ names_in sp ns
inside_skipped sp q f ns =
    let own = map DeclaresParameter f.parameters in
    let last = UsesLocal f.returned ∷ [] in
    ap (names_in sp) (append_assoc own (block_mentions f.body ++ last) ns)
    ∙ parameters_skipped sp q f.parameters ((block_mentions f.body ++ last) ++ ns)
    ∙ ap (names_in sp) (append_assoc (block_mentions f.body) last ns)
    ∙ block_skipped sp q f.body (last ++ ns)
    ∙ skipped sp (UsesLocal f.returned) ns (names_in sp ns) (q.used f.returned) refl

names_from : (sp : Space) → Quiet sp → (is : List Item) → names_in sp (declarations is) ≡ names_in sp (mentions is)
names_from sp q [] = refl
names_from sp q (GlobalItem x ∷ is) = ap (with_declared (declared_in sp (DeclaresGlobal x))) (names_from sp q is)
names_from sp q (FunctionItem f ∷ is) =
    ap (with_declared (declared_in sp (DeclaresFunction f.name)))
    (parameters_skipped sp q f.parameters (declarations is) ∙ names_from sp q is ∙ sym (inside_skipped sp q f (mentions is)))

pub declared_globals : (is : List Item) → names_in Globals (declarations is) ≡ names_in Globals (mentions is)
declared_globals = names_from Globals quiet_globals

pub declared_functions : (is : List Item) → names_in Functions (declarations is) ≡ names_in Functions (mentions is)
declared_functions = names_from Functions quiet_functions

-- ---- where a call is wrong

-- names alone are no call
no_wrong_use : (counts : Counts) (xs : List (List ℕ)) → list_any (is_wrong_call counts) (map UsesLocal xs) ≡ false
no_wrong_use counts [] = refl
no_wrong_use counts (x ∷ xs) = no_wrong_use counts xs

no_wrong_parameter : (counts : Counts) (xs : List (List ℕ)) → list_any (is_wrong_call counts) (map DeclaresParameter xs) ≡ false
no_wrong_parameter counts [] = refl
no_wrong_parameter counts (x ∷ xs) = no_wrong_parameter counts xs

-- one of two lists of names has one
pub one_of_both : (counts : Counts) (xs ys : List Mention)
    → list_any (is_wrong_call counts) (xs ++ ys) ≡ (list_any (is_wrong_call counts) xs || list_any (is_wrong_call counts) ys)
one_of_both counts xs ys = list_any-append (is_wrong_call counts) xs ys

-- a call with its arguments
pub one_of_call : (counts : Counts) (f : List ℕ) (n : ℕ) (xs : List (List ℕ))
    → list_any (is_wrong_call counts) (CallsFunction f n ∷ map UsesLocal xs) ≡ differs (counts f) n
one_of_call counts f n xs = ap (λ b. differs (counts f) n || b) (no_wrong_use counts xs) ∙ or-false (differs (counts f) n)

-- of a function the body has one
pub one_of_body : (counts : Counts) (f : Function) → list_any (is_wrong_call counts) (function_mentions f) ≡ list_any (is_wrong_call counts) (block_mentions f.body)
one_of_body counts f =
    let own = map DeclaresParameter f.parameters in
    let body = block_mentions f.body in
    let last = UsesLocal f.returned ∷ [] in
    one_of_both counts own (body ++ last)
    ∙ ap (λ b. b || list_any (is_wrong_call counts) (body ++ last)) (no_wrong_parameter counts f.parameters)
    ∙ one_of_both counts body last ∙ or-false (list_any (is_wrong_call counts) body)

neither : (a b : Bool) → (a || b) ≡ false → (a ≡ false) × (b ≡ false)
neither false b e = (refl, e)
neither true b e = absurd cc

-- where no call is wrong there is no place of one
pub none_wrong : (counts : Counts) (ms : List Mention) (places : List ℕ) → list_any (is_wrong_call counts) ms ≡ false → wrong_call_from counts ms places ≡ None
none_wrong counts [] places e = refl
none_wrong counts (m ∷ ms) [] e = refl
none_wrong counts (m ∷ ms) (at ∷ places) e =
    let n = neither (is_wrong_call counts m) (list_any (is_wrong_call counts) ms) e in
    ap (λ b. if b then Some at else wrong_call_from counts ms places) n.0 ∙ none_wrong counts ms places n.1
