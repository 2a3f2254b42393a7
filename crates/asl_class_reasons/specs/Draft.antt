-- Machinery of the proofs, not of the promise: the steps as src/draft.rt finds them, and the classes of places on the way.
use Rattle.std.specs.Prelude.{◌≡◌, ◌≢◌, ◌<◌, ◌≤◌, ◌+◌, ◌*◌, ◌^◌, ◌++◌, ℕ, zero, suc, if◌then◌else◌, nat_lt, List, [], ◌∷◌, length, map, sum, take, drop, Option, None, Some, slice_get, slice_index}
use Rattle.std.specs.List.{range_with_len}
use Rattle.asl_code.specs.declared.instr.Instr.{Instr}
use Rattle.asl_code.specs.declared.instr.Instr.TheVariants as instr
use Rattle.asl_lower.specs.Lowered.{Lowered}
use Rattle.asl_lower.specs.OpenSections.{InBody}
use Rattle.asl_points_to.specs.Classes.{Classed, inside, Gives, IsLegal, IsLegalAt}
use Rattle.asl_class_reasons.specs.declared.place.Place.{Place}
use Rattle.asl_class_reasons.specs.declared.place.Place.TheVariants as place
use Rattle.asl_class_reasons.specs.declared.place.Cause.TheVariants as cause
use Rattle.asl_class_reasons.specs.declared.place.Step.{Step}
use Rattle.asl_class_reasons.specs.declared.flow.Flow.{Flow}
use Rattle.asl_class_reasons.specs.declared.flow.Flow.TheVariants as flow
use Rattle.asl_class_reasons.specs.declared.flow.Owed.{Owed}
use Rattle.asl_class_reasons.specs.declared.draft.Draft.{Draft}
use Rattle.asl_class_reasons.specs.Reasons.{points, Joined, IsMember, AreReasons, IsDue}

-- the number of a place, in a program with so many members
abbrev pub number : ℕ → Place → ℕ
number members (place.Member m) = m
number members (place.Cells m) = members + m
number members (place.Register f r) = members + members + f * 256 + r

-- a program with so many members and functions has the place
abbrev pub Has : ℕ → ℕ → Place → Type 0
Has members functions (place.Member m) = m < members
Has members functions (place.Cells m) = m < members
Has members functions (place.Register f r) = (f < functions) × (r < 256)

-- so it is in a draft
abbrev pub IsThere : Draft → Place → Type 0
IsThere s p = Has s.members s.functions p

-- both places of the flow are there in the draft
abbrev pub IsThereFlow : Draft → Flow → Type 0
IsThereFlow s (flow.Copy a b) = IsThere s a × IsThere s b
IsThereFlow s (flow.Load a b) = IsThere s a × IsThere s b
IsThereFlow s (flow.Store a b) = IsThere s a × IsThere s b

-- each place has an entry of its own, there are few, and those of steps are there
pub record IsSized (s : Draft) : Type 0 where
  pub members : s.members < 2 ^ 20
  pub functions : s.functions ≤ 65536
  pub size : length s.sets ≡ s.members + s.members + s.functions * 256
  pub steps : (n : ℕ) (t : Step) → slice_get s.steps.items n ≡ Some t → IsThere s t.from × IsThere s t.into

-- the first place of the class of a place
abbrev pub label : Draft → Place → ℕ
label s p = slice_index s.sets (number s.members p)

-- the first member of the class that a place points to: a set that has no member points nowhere
abbrev pub pointed : ℕ → ℕ → Option ℕ
pointed members first = if nat_lt first members then Some first else None

-- the first member of the class to which a place points in the draft, if it points to one; a member points to its own class
abbrev pub target : Draft → Place → Option ℕ
target s (place.Member m) = Some (label s (place.Member m))
target s p = pointed s.members (label s p)

-- the place points to the class of which the member is the first
pub record IsHead (s : Draft) (p : Place) (m : ℕ) : Type 0 where
  pub low : m < s.members
  pub points : target s p ≡ Some m
  pub first : label s p ≡ m
  pub own : label s (place.Member m) ≡ m

-- the draft is of the program: its steps are reasons, and join what it puts together
pub record IsFounded (l : Lowered) (s : Draft) : Type 0 where
  pub members : s.members ≡ l.globals + l.sites
  pub functions : s.functions ≡ length l.functions
  pub reasons : AreReasons l s.steps.items
  pub joined : (p q : Place) → IsThere s p → IsThere s q → label s p ≡ label s q → Joined s.steps.items p q

-- the classes that a draft puts together, with the first member of each in place of its number
abbrev pub row : Draft → ℕ → List (Option ℕ)
row s f = map (λ r. target s (place.Register f r)) (range_with_len 0 (length s.sets))

-- for each function, where its registers point in the draft
abbrev pub rows : Draft → List (List (Option ℕ))
rows s = map (λ f. row s f) (range_with_len 0 s.functions)

-- all classes that a draft of the program puts together, each by its first member, and without a count of them
abbrev pub drafted : Lowered → Draft → Classed
drafted l s =
    record { count = 0; globals = take l.globals s.sets; sites = take l.sites (drop l.globals s.sets); registers = rows s; cells = map (λ m. target s (place.Cells m)) (range_with_len 0 s.members) }

-- the classes have what is owed
abbrev pub Holds : Classed → Flow → Type 0
Holds c (flow.Copy a b) = Gives (points c a) (points c b)
Holds c (flow.Load a b) = (x y : ℕ) → points c a ≡ Some x → inside c x ≡ Some y → points c b ≡ Some y
Holds c (flow.Store a b) = (x y : ℕ) → points c a ≡ Some x → points c b ≡ Some y → inside c x ≡ Some y

-- the steps that a flow makes are due by the instruction at the pc
abbrev pub MakesDue : Lowered → ℕ → Flow → Type 0
MakesDue l pc (flow.Copy a b) = (es : List Step) → IsDue l es (cause.Instruction pc) a b
MakesDue l pc (flow.Load a b) =
    (es : List Step) (m : ℕ) → IsMember l m → Joined es a (place.Member m) → IsDue l es (cause.Instruction pc) (place.Cells m) b
MakesDue l pc (flow.Store a b) =
    (es : List Step) (m : ℕ) → IsMember l m → Joined es a (place.Member m) → IsDue l es (cause.Instruction pc) b (place.Cells m)

-- the place is of the program, and no cells
abbrev pub IsPlain : Lowered → Place → Type 0
IsPlain l (place.Member m) = IsMember l m
IsPlain l (place.Cells m) = ⊥
IsPlain l (place.Register f r) = (f < length l.functions) × (r < 256)

-- both places of the flow are of the program, and no cells
abbrev pub HasFlow : Lowered → Flow → Type 0
HasFlow l (flow.Copy a b) = IsPlain l a × IsPlain l b
HasFlow l (flow.Load a b) = IsPlain l a × IsPlain l b
HasFlow l (flow.Store a b) = IsPlain l a × IsPlain l b

-- it is owed to the instruction at its pc
pub record IsOf (l : Lowered) (o : Owed) : Type 0 where
  pub there : HasFlow l o.flow
  pub due : MakesDue l o.pc o.flow

-- each of these is owed to the program
abbrev pub AreOf : Lowered → List Owed → Type 0
AreOf l owed = (n : ℕ) (o : Owed) → slice_get owed n ≡ Some o → IsOf l o

-- the places of all of these are there
abbrev pub AreThere : Draft → List Owed → Type 0
AreThere s owed = (n : ℕ) (o : Owed) → slice_get owed n ≡ Some o → IsThereFlow s o.flow

-- the classes have all that is owed; at this pc
abbrev pub HoldAll : Classed → List Owed → Type 0
HoldAll c owed = (n : ℕ) (o : Owed) → slice_get owed n ≡ Some o → Holds c o.flow

-- the classes have all of it that is owed at this pc
abbrev pub HoldAt : Classed → ℕ → List Owed → Type 0
HoldAt c pc owed = (n : ℕ) (o : Owed) → slice_get owed n ≡ Some o → o.pc ≡ pc → Holds c o.flow

-- all that is owed to the instructions before a pc
pub record AreOwed (l : Lowered) (pc : ℕ) (owed : List Owed) : Type 0 where
  pub each : AreOf l owed
  pub all : (f at : ℕ) (i : Instr) → at < pc → InBody l f at → slice_get l.code at ≡ Some i → (c : Classed) → length c.globals ≡ l.globals → HoldAt c at owed → IsLegalAt l c f i

-- all that is owed to an instruction of the function `f` at a pc
pub record AreOwedAt (l : Lowered) (f pc : ℕ) (i : Instr) (owed : List Owed) : Type 0 where
  pub each : AreOf l owed
  pub here : (n : ℕ) (o : Owed) → slice_get owed n ≡ Some o → o.pc ≡ pc
  pub all : (c : Classed) → length c.globals ≡ l.globals → HoldAll c owed → IsLegalAt l c f i

-- all that is owed to a program
pub record IsOwedAll (l : Lowered) (owed : List Owed) : Type 0 where
  pub each : AreOf l owed
  pub all : (c : Classed) → length c.globals ≡ l.globals → length c.sites ≡ l.sites → HoldAll c owed → IsLegal l c

-- of what is owed, all that is owed elsewhere than to the instruction at a pc
pub record IsElsewhere (owed : List Owed) (pc : ℕ) (left : List Owed) : Type 0 where
  pub from : (n : ℕ) (o : Owed) → slice_get left n ≡ Some o → (k : ℕ) × (slice_get owed k ≡ Some o) × (o.pc ≢ pc)
  pub all : (k : ℕ) (o : Owed) → slice_get owed k ≡ Some o → o.pc ≢ pc → (n : ℕ) × (slice_get left n ≡ Some o)

-- two programs with the same members and functions
pub record IsLike (l k : Lowered) : Type 0 where
  pub globals : k.globals ≡ l.globals
  pub sites : k.sites ≡ l.sites
  pub functions : k.functions ≡ l.functions

-- what is owed to an instruction that is no call
abbrev pub plain_flow : ℕ → ℕ → Instr → Option Flow
plain_flow globals f (instr.Move a b) = Some (flow.Copy (place.Register f b) (place.Register f a))
plain_flow globals f (instr.FieldAddress a b d) = Some (flow.Copy (place.Register f b) (place.Register f a))
plain_flow globals f (instr.GlobalAddress a g) = Some (flow.Copy (place.Member g) (place.Register f a))
plain_flow globals f (instr.New a n s) = Some (flow.Copy (place.Member (globals + s)) (place.Register f a))
plain_flow globals f (instr.Load a b) = Some (flow.Load (place.Register f b) (place.Register f a))
plain_flow globals f (instr.Store a b) = Some (flow.Store (place.Register f a) (place.Register f b))
plain_flow globals f i = None

-- what is owed for so many arguments of a call at a pc, and for its result
abbrev pub passed_one : ℕ → ℕ → ℕ → ℕ → ℕ → Owed
passed_one pc f first callee n =
    record { pc = pc; flow = flow.Copy (place.Register f (first + n)) (place.Register callee n) }

-- what is owed for the first arguments, so many of them, of the call at `pc` in the function `f`, which begin at the register `first`
abbrev pub passed : ℕ → ℕ → ℕ → ℕ → ℕ → List Owed
passed pc f first callee zero = []
passed pc f first callee (suc n) = passed pc f first callee n ++ passed_one pc f first callee n ∷ []

-- what is owed for the result of the call at `pc` in the function `f`: `r` is the register that the callee returns, `a` that of the result
abbrev pub returned_one : ℕ → ℕ → ℕ → ℕ → ℕ → Owed
returned_one pc f a callee r =
    record { pc = pc; flow = flow.Copy (place.Register callee r) (place.Register f a) }

-- the steps are made, and the classes are legal
pub record IsSettled (l : Lowered) (s : Draft) : Type 0 where
  pub sized : IsSized s
  pub founded : IsFounded l s
  pub legal : IsLegal l (drafted l s)

-- a draft after another: it has the same places, and no label has grown
pub record IsGrown (old new : Draft) : Type 0 where
  pub sized : IsSized new
  pub members : new.members ≡ old.members
  pub functions : new.functions ≡ old.functions
  pub lower : sum new.sets ≤ sum old.sets
