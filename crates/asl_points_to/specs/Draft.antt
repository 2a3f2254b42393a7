-- Machinery of the proofs, not of the promise: the classes as src/class_draft.rt finds them, step by step: which
-- members have been put into one class, and to which members registers and cells point. What contracts of the crate's calls
-- cite is specs/Classes.
use Rattle.std.specs.Prelude.{◌≡◌, ◌≢◌, ◌+◌, ◌<◌, ◌≤◌, ◌⊎◌, ℕ, suc, if◌then◌else◌, List, [], ◌∷◌, length, Option, None, Some, is_some, MatchOption, slice_get, slice_index, option_and_then}
use Rattle.asl_points_to.specs.declared.value_flow.Place.{Place}
use Rattle.asl_points_to.specs.declared.value_flow.Flow.{Flow}
use Rattle.asl_points_to.specs.declared.value_flow.Flow.TheVariants as flow
use Rattle.asl_points_to.specs.declared.class_draft.ClassDraft.{ClassDraft}
use Rattle.asl_points_to.specs.Classes.{Classed, some_at, to, inside, members}

-- the class of a member, and where a register points
abbrev pub class_in : Classed → ℕ → ℕ
class_in c m = slice_index (members c) m

-- the class to which a register points, if it points to one
abbrev pub at : Classed → Place → Option ℕ
at c p = to c p.function p.register

-- the classes have what the flow is owed
abbrev pub Holds : Classed → Flow → Type 0
Holds c (flow.Member m a) = at c a ≡ Some (class_in c m)
Holds c (flow.Copy b a) = (x : ℕ) → at c b ≡ Some x → at c a ≡ Some x
Holds c (flow.Load b a) = (x y : ℕ) → at c b ≡ Some x → inside c x ≡ Some y → at c a ≡ Some y
Holds c (flow.Store a b) = (x y : ℕ) → at c a ≡ Some x → at c b ≡ Some y → inside c x ≡ Some y

-- the first member of a member's class
abbrev pub first : ClassDraft → ℕ → ℕ
first s m = slice_index s.sets m

-- the member to whose class a register points, and the one to whose class the cells of a member's class point
abbrev pub entry : List (List (Option ℕ)) → Place → Option ℕ
entry registers p =
    option_and_then (λ (row : List (Option ℕ)). some_at row p.register) (slice_get registers p.function)

-- the member to whose class a register points in the draft, if it points to one
abbrev pub pointed : ClassDraft → Place → Option ℕ
pointed s p = entry s.registers.items p

-- the member to whose class the cells of the class of the member `m` point in the draft, if they point to one
abbrev pub inner : ClassDraft → ℕ → Option ℕ
inner s m = some_at s.cells.items (first s m)

-- the tables of a draft fit together: each member has a place for the cells of its class, and only members are pointed to
pub record IsDraft (s : ClassDraft) : Type 0 where
  pub cells : length s.cells.items ≡ length s.sets
  pub pointed_there : (p : Place) (m : ℕ) → pointed s p ≡ Some m → m < length s.sets
  pub cells_there : (x m : ℕ) → some_at s.cells.items x ≡ Some m → m < length s.sets

-- all that a draft says is so in the classes: members that share a class share one there, and what a register or cells point to
-- there is the class of the member that they point to
pub record IsForced (c : Classed) (s : ClassDraft) : Type 0 where
  pub classes : (m : ℕ) → m < length s.sets → class_in c m ≡ class_in c (first s m)
  pub registers : (p : Place) (m : ℕ) → pointed s p ≡ Some m → at c p ≡ Some (class_in c m)
  pub cells : (x m : ℕ) → some_at s.cells.items x ≡ Some m → inside c (class_in c x) ≡ Some (class_in c m)

-- the register, or the cells of a member's class, point to the class of the member `m`
pub record PointsTo (s : ClassDraft) (p : Place) (m : ℕ) : Type 0 where
  pub member : ℕ
  pub there : pointed s p ≡ Some member
  pub same : first s member ≡ first s m

-- the cells of the class of the member `x` point to the class of the member `m`
pub record CellsPointTo (s : ClassDraft) (x m : ℕ) : Type 0 where
  pub member : ℕ
  pub there : inner s x ≡ Some member
  pub same : first s member ≡ first s m

-- a draft keeps what the one before it said
pub record Keeps (old new : ClassDraft) : Type 0 where
  pub members : length new.sets ≡ length old.sets
  pub functions : length new.registers.items ≡ length old.registers.items
  pub classes : (m n : ℕ) → first old m ≡ first old n → first new m ≡ first new n
  pub registers : (p : Place) (m : ℕ) → pointed old p ≡ Some m → pointed new p ≡ Some m
  pub cells : (x m : ℕ) → inner old x ≡ Some m → CellsPointTo new x m

-- what flows, has flowed
pub record HasLoaded (s : ClassDraft) (b a : Place) : Type 0 where
  pub address : ℕ
  pub source : ℕ
  pub address_there : pointed s b ≡ Some address
  pub source_there : inner s address ≡ Some source
  pub into : PointsTo s a source

-- a store has flowed: the cells of the class to which `a` points, point where `b` does
pub record HasStored (s : ClassDraft) (a b : Place) : Type 0 where
  pub address : ℕ
  pub source : ℕ
  pub address_there : pointed s a ≡ Some address
  pub source_there : pointed s b ≡ Some source
  pub into : CellsPointTo s address source

-- a copy has flowed: `a` points where `b` does
pub record HasCopied (s : ClassDraft) (b a : Place) : Type 0 where
  pub source : ℕ
  pub source_there : pointed s b ≡ Some source
  pub into : PointsTo s a source

-- the flow has flowed: the register points to the member's class, or what is copied, loaded or stored has come to its place
abbrev pub HasFlowed : ClassDraft → Flow → Type 0
HasFlowed s (flow.Member m a) = PointsTo s a m
HasFlowed s (flow.Copy b a) = HasCopied s b a
HasFlowed s (flow.Load b a) = HasLoaded s b a
HasFlowed s (flow.Store a b) = HasStored s a b

-- nothing is there to flow
abbrev pub IsIdle : ClassDraft → Flow → Type 0
IsIdle s (flow.Member m a) = ⊥
IsIdle s (flow.Copy b a) = pointed s b ≡ None
IsIdle s (flow.Load b a) = (address : ℕ) → pointed s b ≡ Some address → inner s address ≡ None
IsIdle s (flow.Store a b) = (pointed s a ≡ None) ⊎ (pointed s b ≡ None)

-- the flow's functions and member are there
abbrev pub IsThere : ℕ → ℕ → Flow → Type 0
IsThere functions count (flow.Member m a) = (m < count) × (a.function < functions)
IsThere functions count (flow.Copy b a) = (b.function < functions) × (a.function < functions)
IsThere functions count (flow.Load b a) = (b.function < functions) × (a.function < functions)
IsThere functions count (flow.Store a b) = (a.function < functions) × (b.function < functions)

-- how many places are filled
abbrev pub filled : List (Option ℕ) → ℕ
filled [] = 0
filled (None ∷ cells) = filled cells
filled (Some m ∷ cells) = suc (filled cells)

-- what is kept for the cells of `gone` has gone over to `kept`, or where something is kept for both, the two are answered
pub record IsTakenOver (old new : List (Option ℕ)) (kept gone : ℕ) (both : Option (ℕ × ℕ)) : Type 0 where
  pub len : length new ≡ length old
  pub others : (x : ℕ) → x ≢ kept → x ≢ gone → some_at new x ≡ some_at old x
  pub emptied : some_at new gone ≡ None
  pub stays : (m : ℕ) → some_at old kept ≡ Some m → some_at new kept ≡ Some m
  pub comes : (m : ℕ) → some_at new kept ≡ Some m → (some_at old kept ≡ Some m) ⊎ (some_at old gone ≡ Some m)
  pub goes : MatchOption both ((m : ℕ) → some_at old gone ≡ Some m → some_at new kept ≡ Some m) (λ p. (some_at old kept ≡ Some p.0) × (some_at old gone ≡ Some p.1))
  pub fewer : filled new + (if is_some both then 1 else 0) ≤ filled old

-- the classes of these two members are those that are still to be merged
abbrev pub AreNext : ClassDraft → Option (ℕ × ℕ) → ℕ → ℕ → Type 0
AreNext s None x y = ⊥
AreNext s (Some p) x y = (first s x ≡ first s p.0) × (first s y ≡ first s p.1)

-- the classes of two members are merged; where the cells of both point somewhere, those classes are to be merged next
pub record IsMerged (old new : ClassDraft) (left right : ℕ) (next : Option (ℕ × ℕ)) : Type 0 where
  pub members : length new.sets ≡ length old.sets
  pub registers : new.registers ≡ old.registers
  pub joined : first new left ≡ first new right
  pub classes : (m n : ℕ) → first old m ≡ first old n → first new m ≡ first new n
  pub cells : (x m : ℕ) → inner old x ≡ Some m → (i : ℕ) × (inner new x ≡ Some i) × ((first new i ≡ first new m) ⊎ AreNext new next i m)
  pub there : MatchOption next (Unit {0}) (λ p. (p.0 < length new.sets) × (p.1 < length new.sets))

-- so it is in all classes in which the two members share a class
pub record IsForcedMerge (c : Classed) (new : ClassDraft) (next : Option (ℕ × ℕ)) : Type 0 where
  pub draft : IsForced c new
  pub both : MatchOption next (Unit {0}) (λ p. class_in c p.0 ≡ class_in c p.1)
