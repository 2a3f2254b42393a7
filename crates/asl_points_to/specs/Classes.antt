-- Classes of a program: which objects share one, and where registers and cells point; which classes are legal, and which of
-- these the analysis answers (docs/ANALYSIS.md, "Classes"). The analysis is after B. Steensgaard, "Points-to analysis in almost
-- linear time" (1996); the conditions are this project's own.
use Rattle.std.specs.Prelude.{◌≡◌, ◌<◌, ◌+◌, ◌⊎◌, ℕ, suc, List, [], ◌∷◌, ◌++◌, length, Option, Some, slice_get, option_and_then, IsSome}
use Rattle.asl_code.specs.declared.image.Function as entry
use Rattle.asl_code.specs.declared.instr.Instr.{Instr}
use Rattle.asl_code.specs.declared.instr.Instr.TheVariants as instr
use Rattle.asl_lower.specs.Lowered.{Lowered}
use Rattle.asl_lower.specs.OpenSections.{InBody}

-- classes of a program: how many there are, the class of each global and of each site, for each function the class that
-- each register points to, and for each class the class that its cells point to
pub record Classed : Type 0 where
  pub count : ℕ
  pub globals : List ℕ
  pub sites : List ℕ
  pub registers : List (List (Option ℕ))
  pub cells : List (Option ℕ)

-- what stands at a place, where there is the place and something stands there
abbrev pub some_at : List (Option ℕ) → ℕ → Option ℕ
some_at xs n = option_and_then (λ (o : Option ℕ). o) (slice_get xs n)

-- the class that a register of a function points to
abbrev pub to : Classed → ℕ → ℕ → Option ℕ
to c function register =
    option_and_then (λ (rs : List (Option ℕ)). some_at rs register) (slice_get c.registers function)

-- the class that the cells of a class point to
abbrev pub inside : Classed → ℕ → Option ℕ
inside c class = some_at c.cells class

-- the classes of the members: of all globals, and then of all sites
abbrev pub members : Classed → List ℕ
members c = c.globals ++ c.sites

-- where the first is a class, the second is the same class
abbrev pub Gives : Option ℕ → Option ℕ → Type 0
Gives from into = (class : ℕ) → from ≡ Some class → into ≡ Some class

-- what classes owe to a call of the function `callee`: its parameters point where the arguments do, and the register of the
-- result where the register points that the callee returns
pub record IsLegalCall (l : Lowered) (c : Classed) (f a first callee : ℕ) : Type 0 where
  pub passed : (function : entry.Function) (n : ℕ) → slice_get l.functions callee ≡ Some function → n < function.params → Gives (to c f (first + n)) (to c callee n)
  pub returned : (pc r : ℕ) → InBody l callee pc → slice_get l.code pc ≡ Some (instr.Return r) → Gives (to c callee r) (to c f a)

-- what classes owe to an instruction of the function `f`
abbrev pub IsLegalAt : Lowered → Classed → ℕ → Instr → Type 0
IsLegalAt l c f (instr.Move a b) = Gives (to c f b) (to c f a)
IsLegalAt l c f (instr.FieldAddress a b d) = Gives (to c f b) (to c f a)
IsLegalAt l c f (instr.GlobalAddress a g) = Gives (slice_get c.globals g) (to c f a)
IsLegalAt l c f (instr.New a n s) = Gives (slice_get c.sites s) (to c f a)
IsLegalAt l c f (instr.Load a b) =
    (x y : ℕ) → to c f b ≡ Some x → inside c x ≡ Some y → to c f a ≡ Some y
IsLegalAt l c f (instr.Store a b) =
    (x y : ℕ) → to c f a ≡ Some x → to c f b ≡ Some y → inside c x ≡ Some y
IsLegalAt l c f (instr.Call a first callee) = IsLegalCall l c f a first callee
IsLegalAt l c f i = Unit {0}

-- legal classes: each global and each site has one, and each instruction has what it is owed
pub record IsLegal (l : Lowered) (c : Classed) : Type 0 where
  pub globals : length c.globals ≡ l.globals
  pub sites : length c.sites ≡ l.sites
  pub instrs : (f pc : ℕ) (i : Instr) → InBody l f pc → slice_get l.code pc ≡ Some i → IsLegalAt l c f i

-- classes go into others by a map of classes: each member's class goes to that member's class, and where a register or
-- a class's cells point somewhere, they point there to where the map leads
pub record GoInto (c d : Classed) : Type 0 where
  pub into : ℕ → ℕ
  pub members_go : (m x : ℕ) → slice_get (members c) m ≡ Some x → slice_get (members d) m ≡ Some (into x)
  pub registers_go : (f r x : ℕ) → to c f r ≡ Some x → to d f r ≡ Some (into x)
  pub cells_go : (x y : ℕ) → inside c x ≡ Some y → inside d (into x) ≡ Some (into y)

-- the least: legal, and they go into all legal ones
pub record IsLeast (l : Lowered) (c : Classed) : Type 0 where
  pub legal : IsLegal l c
  pub least : (d : Classed) → IsLegal l d → GoInto c d

-- the members' classes are numbered from `next` on by the first member of each, and `count` is the first number that none has
abbrev pub AreNumbered : ℕ → ℕ → List ℕ → Type 0
AreNumbered count next [] = count ≡ next
AreNumbered count next (x ∷ xs) =
    ((x < next) × AreNumbered count next xs) ⊎ ((x ≡ next) × AreNumbered count (suc next) xs)

-- there is an entry for each register of each function, and for the cells of each class
pub record HasTables (l : Lowered) (c : Classed) : Type 0 where
  pub functions : length c.registers ≡ length l.functions
  pub registers : (n : ℕ) (f : entry.Function) (rs : List (Option ℕ)) → slice_get l.functions n ≡ Some f → slice_get c.registers n ≡ Some rs → length rs ≡ f.regs
  pub cells : length c.cells ≡ c.count

-- the classes of a program: the least legal ones, numbered by their first members, globals before sites
pub record AreClasses (l : Lowered) (c : Classed) : Type 0 where
  pub least : IsLeast l c
  pub numbered : AreNumbered c.count 0 (members c)
  pub tables : HasTables l c

-- two members share a class
abbrev pub Share : Classed → ℕ → ℕ → Type 0
Share c m n = (x : ℕ) × (slice_get (members c) m ≡ Some x) × (slice_get (members c) n ≡ Some x)

-- the cells of the member's class point somewhere
abbrev pub HasInside : Classed → ℕ → Type 0
HasInside c m = (x : ℕ) × (slice_get (members c) m ≡ Some x) × IsSome (inside c x)

-- the finest: legal, and two members share a class, and a register or the cells of a class point somewhere, only where this
-- holds in all legal classes
pub record IsFinest (l : Lowered) (c : Classed) : Type 0 where
  pub legal : IsLegal l c
  pub shares : (m n : ℕ) → Share c m n → (d : Classed) → IsLegal l d → Share d m n
  pub points : (f r : ℕ) → IsSome (to c f r) → (d : Classed) → IsLegal l d → IsSome (to d f r)
  pub insides : (m : ℕ) → HasInside c m → (d : Classed) → IsLegal l d → HasInside d m
