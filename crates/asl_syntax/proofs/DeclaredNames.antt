-- The names that a program's mentions declare are those of its globals and of its functions and, in a function, those of its
-- parameters and of the locals that it assigns.
use Rattle.std.proofs.Common.{◌≡◌, ◌⊎◌, inl, inr, ℕ, List, [], ◌∷◌, ◌++◌, map, true, refl, ap, subst}
use Rattle.asl_syntax.specs.declared.names.Space.TheVariants.{Globals, Functions, Locals}
use Rattle.asl_syntax.specs.Tree.{Function, Item, GlobalItem, FunctionItem, globals_of, functions_of}
use Rattle.asl_syntax.specs.Mentions.{DeclaresGlobal, DeclaresFunction, DeclaresParameter, AssignsLocal, UsesLocal, block_mentions, function_mentions, mentions}
use Rattle.asl_syntax.specs.Rules.{names_in}
use Rattle.asl_syntax.proofs.Among.{Among, among_left, among_right, among_either, among_mapped}
use Rattle.asl_syntax.proofs.Declarers.{declares_global, declares_function, declares_local, declarer, declared, Part, Head, Parameter, Body, part}

-- ---- the declared names are those of the parts

no_global : (f : Function) (x : List ℕ) → Part f (DeclaresGlobal x) → ⊥
no_global f x (Head e) = cc
no_global f x (Parameter y a e) = cc
no_global f x (Body h) = h

global_of : (is : List Item) (x : List ℕ) → Among (mentions is) (DeclaresGlobal x) → Among (globals_of is) x
global_of [] x h = h
global_of (GlobalItem y ∷ is) x (inl same) = inl cc
global_of (GlobalItem y ∷ is) x (inr there) = inr (global_of is x there)
global_of (FunctionItem f ∷ is) x h =
    elim (among_either (function_mentions f) (mentions is) (DeclaresGlobal x) h) [
      | inl here ↦ absurd (no_global f x (part f (DeclaresGlobal x) here))
      | inr there ↦ global_of is x there
    ]

of_global : (is : List Item) (x : List ℕ) → Among (globals_of is) x → Among (mentions is) (DeclaresGlobal x)
of_global [] x h = h
of_global (GlobalItem y ∷ is) x (inl same) = inl (ap DeclaresGlobal same)
of_global (GlobalItem y ∷ is) x (inr there) = inr (of_global is x there)
of_global (FunctionItem f ∷ is) x h = among_right (function_mentions f) (mentions is) (DeclaresGlobal x) (of_global is x h)

abbrev pub names_of : List Item → List (List ℕ)
names_of is = map (λ (f : Function). f.name) (functions_of is)

head_name : (f : Function) (x : List ℕ) → Part f (DeclaresFunction x) → f.name ≡ x
head_name f x (Head e) = cc
head_name f x (Parameter y a e) = cc
head_name f x (Body h) = absurd h

function_of : (is : List Item) (x : List ℕ) → Among (mentions is) (DeclaresFunction x) → Among (names_of is) x
function_of [] x h = h
function_of (GlobalItem y ∷ is) x (inl same) = absurd cc
function_of (GlobalItem y ∷ is) x (inr there) = function_of is x there
function_of (FunctionItem f ∷ is) x h =
    elim (among_either (function_mentions f) (mentions is) (DeclaresFunction x) h) [
      | inl here ↦ inl (head_name f x (part f (DeclaresFunction x) here))
      | inr there ↦ inr (function_of is x there)
    ]

of_function : (is : List Item) (x : List ℕ) → Among (names_of is) x → Among (mentions is) (DeclaresFunction x)
of_function [] x h = h
of_function (GlobalItem y ∷ is) x h = inr (of_function is x h)
of_function (FunctionItem f ∷ is) x (inl same) = inl (ap DeclaresFunction same)
of_function (FunctionItem f ∷ is) x (inr there) =
    among_right (function_mentions f) (mentions is) (DeclaresFunction x) (of_function is x there)

own_parameter : (f : Function) (x : List ℕ) → Part f (DeclaresParameter x) → Among f.parameters x
own_parameter f x (Head e) = absurd cc
own_parameter f x (Parameter y a e) = (let same : y ≡ x = cc in subst (Among f.parameters) same a)
own_parameter f x (Body h) = absurd h

of_parameter : (f : Function) (x : List ℕ) → Among f.parameters x → Among (function_mentions f) (DeclaresParameter x)
of_parameter f x h =
    inr (among_left (map DeclaresParameter f.parameters) (block_mentions f.body ++ UsesLocal f.returned ∷ []) (DeclaresParameter x) (among_mapped DeclaresParameter f.parameters x h))

-- ---- names of a space

pub globals_from : (is : List Item) (x : List ℕ) → names_in Globals (mentions is) x ≡ true → Among (globals_of is) x
globals_from is x e =
    let k = declarer Globals (mentions is) x e in
    global_of is x (subst (Among (mentions is)) (declares_global k.0 x k.2) k.1)

pub globals_to : (is : List Item) (x : List ℕ) → Among (globals_of is) x → names_in Globals (mentions is) x ≡ true
globals_to is x h = declared Globals (mentions is) (DeclaresGlobal x) x (of_global is x h) refl

pub functions_from : (is : List Item) (x : List ℕ) → names_in Functions (mentions is) x ≡ true → Among (names_of is) x
functions_from is x e =
    let k = declarer Functions (mentions is) x e in
    function_of is x (subst (Among (mentions is)) (declares_function k.0 x k.2) k.1)

pub functions_to : (is : List Item) (x : List ℕ) → Among (names_of is) x → names_in Functions (mentions is) x ≡ true
functions_to is x h = declared Functions (mentions is) (DeclaresFunction x) x (of_function is x h) refl

pub locals_from : (f : Function) (x : List ℕ) → names_in Locals (function_mentions f) x ≡ true → Among f.parameters x ⊎ Among (function_mentions f) (AssignsLocal x)
locals_from f x e =
    let k = declarer Locals (function_mentions f) x e in
    elim (declares_local k.0 x k.2) [
      | inl own ↦ inl (own_parameter f x (part f (DeclaresParameter x) (subst (Among (function_mentions f)) own k.1)))
      | inr assigned ↦ inr (subst (Among (function_mentions f)) assigned k.1)
    ]

pub locals_to : (f : Function) (x : List ℕ) → Among f.parameters x ⊎ Among (function_mentions f) (AssignsLocal x) → names_in Locals (function_mentions f) x ≡ true
locals_to f x (inl own) = declared Locals (function_mentions f) (DeclaresParameter x) x (of_parameter f x own) refl
locals_to f x (inr assigned) = declared Locals (function_mentions f) (AssignsLocal x) x assigned refl
