-- The rules of names: what is declared twice, what is nowhere declared, and which calls have too many or too few
-- arguments (docs/SOURCE.md, "Grammar" and "Refusals"). Contracts cite `twice`, `unknown`, `wrong_call` and `has_main`.
use Rattle.std.specs.Prelude.{ℕ, List, [], ◌∷◌, Bool, false, Option, Some, None, if◌then◌else◌, ◌==◌, ◌||◌, ◌&&◌, not, bytes_eq, codes, length}
use Rattle.asl_grammar.specs.Token.{Token, Name, Spot}
use Rattle.asl_syntax.specs.declared.names.Space.{Space}
use Rattle.asl_syntax.specs.declared.names.Space.TheVariants.{Globals, Functions, Locals, Parameters}
use Rattle.asl_syntax.specs.Tree.{Item, GlobalItem, FunctionItem}
use Rattle.asl_syntax.specs.Mentions.{Mention, DeclaresGlobal, DeclaresFunction, DeclaresParameter, AssignsLocal, UsesLocal, UsesGlobal, CallsFunction, function_mentions, mentions}

-- which names are known: none, or one more
abbrev pub Names : Type 0
Names = List ℕ → Bool

-- no name is known
abbrev pub no_name : Names
no_name q = false

-- the known names, and this one
abbrev pub with_name : List ℕ → Names → Names
with_name x known q = bytes_eq x q || known q

-- The first name that is declared a second time: of globals, of functions, or of the parameters of one function. That
-- there is none says that each is declared once: the law names_are_declared_once. Which is the first: the law
-- faults_of_names_are_the_first.
abbrev pub first_twice : Names → Names → Names → List Mention → Option (List ℕ)
first_twice globals functions parameters [] = None
first_twice globals functions parameters (DeclaresGlobal x ∷ ms) =
    if globals x then Some x else first_twice (with_name x globals) functions parameters ms
first_twice globals functions parameters (DeclaresFunction x ∷ ms) =
    if functions x then Some x else first_twice globals (with_name x functions) no_name ms
first_twice globals functions parameters (DeclaresParameter x ∷ ms) =
    if parameters x then Some x else first_twice globals functions (with_name x parameters) ms
first_twice globals functions parameters (m ∷ ms) = first_twice globals functions parameters ms

-- the first name of a program that is declared a second time
abbrev pub twice : List Item → Option (List ℕ)
twice tree = first_twice no_name no_name no_name (mentions tree)

-- the name that a mention declares in a name space; an assigned local is declared
abbrev pub declared_in : Space → Mention → Option (List ℕ)
declared_in Globals (DeclaresGlobal x) = Some x
declared_in Functions (DeclaresFunction x) = Some x
declared_in Locals (DeclaresParameter x) = Some x
declared_in Locals (AssignsLocal x) = Some x
declared_in Parameters (DeclaresParameter x) = Some x
declared_in _ _ = None

-- the known names, and one more if it is declared
abbrev pub with_declared : Option (List ℕ) → Names → Names
with_declared None known = known
with_declared (Some x) known = with_name x known

-- the names that are declared in a name space, anywhere among the mentions
abbrev pub names_in : Space → List Mention → Names
names_in space [] = no_name
names_in space (m ∷ ms) = with_declared (declared_in space m) (names_in space ms)

-- a used name that its name space does not have
abbrev pub unknown_use : Names → Names → Names → Mention → Option (List ℕ)
unknown_use globals functions locals (UsesLocal x) = if locals x then None else Some x
unknown_use globals functions locals (UsesGlobal x) = if globals x then None else Some x
unknown_use globals functions locals (CallsFunction x n) = if functions x then None else Some x
unknown_use globals functions locals _ = None

-- the first of two names, if there is one
abbrev pub or_name : Option (List ℕ) → Option (List ℕ) → Option (List ℕ)
or_name None other = other
or_name (Some x) other = Some x

-- the first of such names among mentions
abbrev pub first_unknown_use : Names → Names → Names → List Mention → Option (List ℕ)
first_unknown_use globals functions locals [] = None
first_unknown_use globals functions locals (m ∷ ms) =
    or_name (unknown_use globals functions locals m) (first_unknown_use globals functions locals ms)

-- the first in a function, whose locals are its parameters and the names that it assigns anywhere
abbrev pub unknown_in_function : Names → Names → List Mention → Option (List ℕ)
unknown_in_function globals functions ms = first_unknown_use globals functions (names_in Locals ms) ms

-- the first in a global, which uses none, or in a function
abbrev pub unknown_in_item : Names → Names → Item → Option (List ℕ)
unknown_in_item globals functions (GlobalItem x) = None
unknown_in_item globals functions (FunctionItem f) = unknown_in_function globals functions (function_mentions f)

-- the first among items
abbrev pub first_unknown : Names → Names → List Item → Option (List ℕ)
first_unknown globals functions [] = None
first_unknown globals functions (i ∷ is) =
    or_name (unknown_in_item globals functions i) (first_unknown globals functions is)

-- The first name of a program that is used and nowhere declared. That there is none says that each is declared: the law
-- names_are_known. Which is the first: the law faults_of_names_are_the_first.
abbrev pub unknown : List Item → Option (List ℕ)
unknown tree = first_unknown (names_in Globals (mentions tree)) (names_in Functions (mentions tree)) tree

-- how many parameters a function has, by its name
abbrev pub Counts : Type 0
Counts = List ℕ → Option ℕ

-- of no function it is known how many parameters it has
abbrev pub no_count : Counts
no_count q = None

-- the counts, and that of the function x, which has n parameters
abbrev pub with_count : List ℕ → ℕ → Counts → Counts
with_count x n counts q = if bytes_eq x q then Some n else counts q

-- the counts, and that of one more function
abbrev pub with_item : Item → Counts → Counts
with_item (GlobalItem x) counts = counts
with_item (FunctionItem f) counts = with_count f.name (length f.parameters) counts

-- those of a program; of two functions of one name the first counts
abbrev pub parameter_counts : List Item → Counts
parameter_counts [] = no_count
parameter_counts (i ∷ is) = with_item i (parameter_counts is)

-- there is another number
abbrev pub differs : Option ℕ → ℕ → Bool
differs None n = false
differs (Some k) n = not (k == n)

-- a call whose number of arguments is not the function's number of parameters
abbrev pub is_wrong_call : Counts → Mention → Bool
is_wrong_call counts (CallsFunction f n) = differs (counts f) n
is_wrong_call counts _ = false

-- a place, where a name token stands there
abbrev pub name_place : Token → ℕ → List ℕ → List ℕ
name_place (Name x) at places = at ∷ places
name_place _ at places = places

-- the places of the name tokens in order
abbrev pub name_places : List Spot → List ℕ
name_places [] = []
name_places (s ∷ ss) = name_place s.token s.at (name_places ss)

-- one more place, if there is one
abbrev pub places_with : Option ℕ → List ℕ → List ℕ
places_with None places = []
places_with (Some at) places = at ∷ places

-- the place of the first wrong call, where the mentions are those of the name tokens one by one
abbrev pub wrong_call_from : Counts → List Mention → List ℕ → Option ℕ
wrong_call_from counts [] places = None
wrong_call_from counts (m ∷ ms) [] = None
wrong_call_from counts (m ∷ ms) (at ∷ places) =
    if is_wrong_call counts m then Some at else wrong_call_from counts ms places

-- The place of the first wrong call of a program, at the name of the function that is called. What it means that there is
-- none is the law names_are_known too, and which is the first the law faults_of_names_are_the_first.
abbrev pub wrong_call : List Item → List Spot → Option ℕ
wrong_call tree ss = wrong_call_from (parameter_counts tree) (mentions tree) (name_places ss)

-- a function `main` of one parameter
abbrev pub is_main : Item → Bool
is_main (GlobalItem x) = false
is_main (FunctionItem f) = bytes_eq f.name (codes "main") && length f.parameters == 1

-- one of the items is
abbrev pub has_main : List Item → Bool
has_main [] = false
has_main (i ∷ is) = is_main i || has_main is
