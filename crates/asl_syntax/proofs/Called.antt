-- The calls of a program have the functions' numbers of parameters exactly where no call is wrong.
use Rattle.std.proofs.Common.{◌≡◌, ◌⊎◌, inl, inr, ℕ, ◌≤◌, List, [], ◌∷◌, length, Bool, true, false, Option, Some, None, if◌then◌else◌, bytes_eq, refl, sym, ap, ◌∙◌, ◌↔◌, arith}
use Rattle.std.specs.List.{AllByRecursion, IsDistinct}
use Rattle.std.proofs.lemmas.Bool.{false≢true}
use Rattle.std.proofs.lemmas.List.{length-map}
use Rattle.std.proofs.lemmas.Slice.Eq.{bytes_eq-Decides}
use Rattle.asl_grammar.specs.Token.{Spot}
use Rattle.asl_grammar.specs.Grammar.{bare}
use Rattle.asl_syntax.specs.Tree.{Function, Item, GlobalItem, FunctionItem, functions_of}
use Rattle.asl_syntax.specs.Mentions.{Mention, DeclaresGlobal, DeclaresFunction, DeclaresParameter, AssignsLocal, UsesLocal, UsesGlobal, CallsFunction, mentions}
use Rattle.asl_syntax.specs.Rules.{Counts, twice, unknown, parameter_counts, differs, is_wrong_call, wrong_call_from, wrong_call, name_places}
use Rattle.asl_syntax.specs.Spelled.{Spells}
use Rattle.asl_syntax.specs.TokenNames.{mention_name}
use Rattle.asl_syntax.specs.Known.{HasArity, HaveArity}
use Rattle.asl_syntax.proofs.Among.{Among, among, contained, among_mapped}
use Rattle.asl_syntax.proofs.Declarers.{same_bytes}
use Rattle.asl_syntax.proofs.DeclaredNames.{names_of}
use Rattle.asl_syntax.proofs.Used.{called_name, each_among}
use Rattle.asl_syntax.proofs.Few.{goes_on}
use Rattle.asl_syntax.proofs.Declared.{declared_once}
use Rattle.asl_syntax.proofs.Mentioned.{mentioned, places_names}

-- ---- the calls, one by one

right_calls : (counts : Counts) (ms : List Mention) (places : List ℕ) → length ms ≤ length places → wrong_call_from counts ms places ≡ None → AllByRecursion (λ m. is_wrong_call counts m ≡ false) ms
right_calls counts [] places low e = tt
right_calls counts (m ∷ ms) [] low e = absurd (omega arith)
right_calls counts (m ∷ ms) (at ∷ places) low e =
    let k = goes_on (is_wrong_call counts m) at (wrong_call_from counts ms places) e in
    (k.0, right_calls counts ms places (omega arith) k.1)

passes : (b : Bool) (at : ℕ) (o : Option ℕ) → b ≡ false → o ≡ None → (if b then Some at else o) ≡ None
passes true at o e f = absurd (false≢true (sym e))
passes false at o e f = f

no_wrong_call : (counts : Counts) (ms : List Mention) (places : List ℕ) → ((m : Mention) → Among ms m → is_wrong_call counts m ≡ false) → wrong_call_from counts ms places ≡ None
no_wrong_call counts [] places h = refl
no_wrong_call counts (m ∷ ms) [] h = refl
no_wrong_call counts (m ∷ ms) (at ∷ places) h =
    passes (is_wrong_call counts m) at (wrong_call_from counts ms places) (h m (inl refl)) (no_wrong_call counts ms places (λ n there. h n (inr there)))

-- ---- the counts

-- a function among items with a name and a number of parameters
abbrev Has : List Item → List ℕ → ℕ → Type 0
Has is x n = (f : Function) × Among (functions_of is) f × (f.name ≡ x) × (length f.parameters ≡ n)

counted_here : (b : Bool) (own n : ℕ) (o : Option ℕ) → (if b then Some own else o) ≡ Some n → ((b ≡ true) × (own ≡ n)) ⊎ (o ≡ Some n)
counted_here true own n o e = inl (refl, cc)
counted_here false own n o e = inr e

counted : (is : List Item) (x : List ℕ) (n : ℕ) → parameter_counts is x ≡ Some n → Has is x n
counted [] x n e = absurd cc
counted (GlobalItem y ∷ is) x n e = counted is x n e
counted (FunctionItem f ∷ is) x n e =
    elim (counted_here (bytes_eq f.name x) (length f.parameters) n (parameter_counts is x) e) [
      | inl here ↦ (f, inl refl, same_bytes f.name x here.0, here.1)
      | inr there ↦ (let k = counted is x n there in (k.0, inr k.1, k.2, k.3))
    ]

some_here : (b : Bool) (own : ℕ) (o : Option ℕ) → (b ≡ true) ⊎ ((n : ℕ) × (o ≡ Some n)) → (n : ℕ) × ((if b then Some own else o) ≡ Some n)
some_here true own o h = (own, refl)
some_here false own o (inl e) = absurd (false≢true e)
some_here false own o (inr k) = k

has_count : (is : List Item) (x : List ℕ) → Among (names_of is) x → (n : ℕ) × (parameter_counts is x ≡ Some n)
has_count [] x h = absurd h
has_count (GlobalItem y ∷ is) x h = has_count is x h
has_count (FunctionItem f ∷ is) x (inl same) =
    some_here (bytes_eq f.name x) (length f.parameters) (parameter_counts is x) (inl ((bytes_eq-Decides f.name x).1 same))
has_count (FunctionItem f ∷ is) x (inr there) =
    some_here (bytes_eq f.name x) (length f.parameters) (parameter_counts is x) (inr (has_count is x there))

if_true : (b : Bool) (a o : Option ℕ) → b ≡ true → (if b then a else o) ≡ a
if_true true a o e = refl
if_true false a o e = absurd (false≢true e)

if_false : (b : Bool) (a o : Option ℕ) → b ≡ false → (if b then a else o) ≡ o
if_false true a o e = absurd (false≢true (sym e))
if_false false a o e = refl

-- where no two functions have one name, each is counted
own_count : (is : List Item) → IsDistinct bytes_eq (names_of is) → (f : Function) → Among (functions_of is) f → parameter_counts is f.name ≡ Some (length f.parameters)
unfolding IsDistinct
own_count [] d f h = absurd h
own_count (GlobalItem y ∷ is) d f h = own_count is d f h
own_count (FunctionItem g ∷ is) d f (inl same) =
    if_true (bytes_eq g.name f.name) (Some (length g.parameters)) (parameter_counts is f.name) ((bytes_eq-Decides g.name f.name).1 (ap (λ (k : Function). k.name) same))
    ∙ ap (λ (k : Function). Some (length k.parameters)) same
own_count (FunctionItem g ∷ is) d f (inr there) =
    if_false (bytes_eq g.name f.name) (Some (length g.parameters)) (parameter_counts is f.name) (each_among (λ y. bytes_eq g.name y ≡ false) (names_of is) d.0 f.name (among_mapped (λ (k : Function). k.name) (functions_of is) f there))
    ∙ own_count is d.1 f there

-- ---- the program

as_many : (t : List Item) (ss : List Spot) → Spells t (bare ss) → length (name_places ss) ≡ length (mentions t)
as_many t ss s = places_names ss ∙ ap length (mentioned t (bare ss) s) ∙ length-map (mentions t) mention_name

same_count : (k n : ℕ) → differs (Some k) n ≡ false → k ≡ n
same_count k n e = grind arith

no_other : (k n : ℕ) → k ≡ n → differs (Some k) n ≡ false
no_other k n e = grind arith

right_count : (o : Option ℕ) (k n : ℕ) → o ≡ Some k → differs o n ≡ false → o ≡ Some n
right_count o k n e d = e ∙ ap Some (same_count k n (ap (λ (p : Option ℕ). differs p n) (sym e) ∙ d))

-- a call that is not wrong, of a function that is known
pub arity_where : (t : List Item) → unknown t ≡ None → (x : List ℕ) (n : ℕ) → Among (mentions t) (CallsFunction x n) → is_wrong_call (parameter_counts t) (CallsFunction x n) ≡ false → HasArity t x n
arity_where t known x n call right =
    let own = has_count t x (called_name t known x n call) in
    let k = counted t x n (right_count (parameter_counts t x) own.0 n own.1 right) in
    (k.0, contained (functions_of t) k.0 k.1, k.2, k.3)

-- a call of a function that is declared once
pub right_where : (t : List Item) → twice t ≡ None → (x : List ℕ) (n : ℕ) → HasArity t x n → is_wrong_call (parameter_counts t) (CallsFunction x n) ≡ false
right_where t once x n k =
    let own = own_count t ((declared_once t).0 once).functions k.0 (among (functions_of t) k.0 k.1) in
    let at : parameter_counts t x ≡ Some (length k.0.parameters) = ap (parameter_counts t) (sym k.2) ∙ own in
    ap (λ (o : Option ℕ). differs o n) at ∙ no_other (length k.0.parameters) n k.3

arity_from : (t : List Item) (ss : List Spot) → Spells t (bare ss) → unknown t ≡ None → wrong_call t ss ≡ None → HaveArity t
arity_from t ss s known none x n h =
    let long = as_many t ss s in
    let call = among (mentions t) (CallsFunction x n) h in
    let counts : Counts = parameter_counts t in
    arity_where t known x n call (each_among (λ m. is_wrong_call counts m ≡ false) (mentions t) (right_calls counts (mentions t) (name_places ss) (omega arith) none) (CallsFunction x n) call)

right_call : (t : List Item) → twice t ≡ None → HaveArity t → (m : Mention) → Among (mentions t) m → is_wrong_call (parameter_counts t) m ≡ false
right_call t once a (DeclaresGlobal x) h = refl
right_call t once a (DeclaresFunction x) h = refl
right_call t once a (DeclaresParameter x) h = refl
right_call t once a (AssignsLocal x) h = refl
right_call t once a (UsesLocal x) h = refl
right_call t once a (UsesGlobal x) h = refl
right_call t once a (CallsFunction x n) h =
    right_where t once x n (a x n (contained (mentions t) (CallsFunction x n) h))

pub arity : (t : List Item) (ss : List Spot) → Spells t (bare ss) → twice t ≡ None → unknown t ≡ None → (wrong_call t ss ≡ None) ↔ HaveArity t
arity t ss s once known = (
  arity_from t ss s known,
  λ a. no_wrong_call (parameter_counts t) (mentions t) (name_places ss) (right_call t once a),
)
