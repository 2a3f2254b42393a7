-- Machinery of the proofs, not of the promise: what has been found so far (src/region_needs.rt, src/found.rt).
use Rattle.std.specs.Prelude.{◌≡◌, ◌≢◌, ◌⊎◌, ◌↔◌, ◌+◌, ◌-◌, ◌<◌, ◌≤◌, ℕ, zero, suc, Bool, true, false, if◌then◌else◌, List, [], Some, map, length, slice_get, unwrap_or, replicate, sum_by}
use Rattle.std.specs.List.{Contains}
use Rattle.asl_code.specs.declared.lock.Lock.{Lock}
use Rattle.asl_lane_sets.specs.NumberSet.{IsIn}
use Rattle.asl_lock_expr.specs.Links.{IsOne}
use Rattle.asl_backward_flow.specs.declared.region.Region.{Region}
use Rattle.asl_backward_flow.specs.declared.span.Span.{Span}
use Rattle.asl_backward_flow.specs.declared.region_needs.RegionNeeds.{RegionNeeds}
use Rattle.asl_backward_flow.specs.Fresh.{open_from}
use Rattle.asl_backward_flow.specs.declared.found.Found.{Found}
use Rattle.asl_backward_flow.specs.declared.found.AddFault.{AddFault}
use Rattle.asl_backward_flow.specs.declared.found.AddFault.TheVariants.{Many, OutOfMemory}

-- of each region its name, its first pc, its locks, and for each of its points the set of the numbers of those that are needed
-- there, and of those that are not followed yet; and the points, as regions and pcs, at which some are not
pub record Table : Type 0 where
  pub regions : List Region
  pub firsts : List ℕ
  pub locks : List (List Lock)
  pub sets : List (List (List Bool))
  pub fresh : List (List (List Bool))
  pub list : List (ℕ × ℕ)

-- of each point of a region the numbers of the locks that are not followed there yet
abbrev pub open_of : RegionNeeds → List (List Bool)
open_of p = open_from p.fresh 0 p.needs.items

-- what the code has of these regions, and the points at which something is not followed yet, as a table
abbrev pub table_of : List RegionNeeds → List (ℕ × ℕ) → Table
table_of parts list = record {
  regions = map (λ (p : RegionNeeds). p.region) parts;
  firsts = map (λ (p : RegionNeeds). p.first) parts;
  locks = map (λ (p : RegionNeeds). p.locks.keys) parts;
  sets = map (λ (p : RegionNeeds). p.needs.items) parts;
  fresh = map open_of parts;
  list = list;
}

-- all that was found so far, as a table
abbrev pub table : Found → Table
table f = table_of f.parts.items f.list

-- the value stands somewhere in the list
abbrev pub IsAt : {A : Type 0} → List A → A → Type 0
IsAt xs x = (n : ℕ) × (slice_get xs n ≡ Some x)

-- no two places of the list have the same lock
abbrev pub HasNoneTwice : List Lock → Type 0
HasNoneTwice locks = (m n : ℕ) (a : Lock) → slice_get locks m ≡ Some a → slice_get locks n ≡ Some a → m ≡ n

-- the list, or the set, at a place; an empty one past the end
abbrev pub list_at : {A : Type 0} → List (List A) → ℕ → List A
list_at lists k = unwrap_or (slice_get lists k) []

-- the locks of a region, its first pc, its sets, and those of what is not followed yet
abbrev pub locks_of : Table → ℕ → List Lock
locks_of t part = list_at t.locks part

-- the first pc of a region, and 0 where there is no such region
abbrev pub first_of : Table → ℕ → ℕ
first_of t part = unwrap_or (slice_get t.firsts part) 0

-- for each point of a region the set of the numbers of the locks that are needed there
abbrev pub sets_of : Table → ℕ → List (List Bool)
sets_of t part = list_at t.sets part

-- for each point of a region the set of the numbers that are not followed there yet
abbrev pub fresh_of : Table → ℕ → List (List Bool)
fresh_of t part = list_at t.fresh part

-- the pc is one of the region
abbrev pub HasPoint : Table → ℕ → ℕ → Type 0
HasPoint t part pc = (k : ℕ) × (pc ≡ first_of t part + k) × (k < length (sets_of t part))

-- it is found that the region needs the lock with the number there
abbrev pub Has : Table → ℕ → ℕ → ℕ → Type 0
Has t part pc number = (k : ℕ) × (pc ≡ first_of t part + k) × IsIn (list_at (sets_of t part) k) number

-- the lock with the number is still to be followed there
abbrev pub Waits : Table → ℕ → ℕ → ℕ → Type 0
Waits t part pc number = (k : ℕ) × (pc ≡ first_of t part + k) × IsIn (list_at (fresh_of t part) k) number

-- the same, or it is of a set that was taken off the list with the point
abbrev pub WaitsOrIsOne : Table → ℕ × ℕ → List Bool → ℕ → ℕ → ℕ → Type 0
WaitsOrIsOne t point set part pc number = Waits t part pc number ⊎ (((part, pc) ≡ point) × IsIn set number)

-- nothing is to be followed
abbrev pub NoneWaits : ℕ → ℕ → ℕ → Type 0
NoneWaits part pc number = ⊥

-- it is found that the region needs the lock at the pc
abbrev pub HasFact : Table → ℕ → ℕ → Lock → Type 0
HasFact t part pc lock = (n : ℕ) × Has t part pc n × (slice_get (locks_of t part) n ≡ Some lock)

-- the lock has a number in the region
abbrev pub IsName : Table → ℕ → Lock → Type 0
IsName t part lock = IsAt (locks_of t part) lock

-- the lock has one of these numbers; one of those in the set, or of those in the list
abbrev pub HasNumber : List Lock → (ℕ → Type 0) → Lock → Type 0
HasNumber locks These lock = (n : ℕ) × These n × (slice_get locks n ≡ Some lock)

-- the lock has one of the numbers in the set
abbrev pub IsNamed : List Lock → List Bool → Lock → Type 0
IsNamed locks set = HasNumber locks (IsIn set)

-- the lock has one of the numbers in the list
abbrev pub IsListed : List Lock → List ℕ → Lock → Type 0
IsListed locks numbers = HasNumber locks (Contains numbers)

-- each number that is found is that of a lock, at a point that is listed something is found, no lock has two numbers, and no
-- region has too many; and what is still to be followed is found at a point that is listed
pub record IsWhole (t : Table) : Type 0 where
  pub named : (part pc n : ℕ) → Has t part pc n → (m : Lock) × (slice_get (locks_of t part) n ≡ Some m)
  pub listed : (f : ℕ × ℕ) → IsAt t.list f → (n : ℕ) × Has t f.0 f.1 n
  pub apart : (part : ℕ) → HasNoneTwice (locks_of t part)
  pub few : (part : ℕ) → length (locks_of t part) ≤ 4096
  pub found : (part pc n : ℕ) → Waits t part pc n → Has t part pc n
  pub awaited : (part pc n : ℕ) → Waits t part pc n → IsAt t.list (part, pc)

-- a region has too many locks, none twice
abbrev pub IsOver : Table → AddFault → Type 0
IsOver t (Many part) = (4096 < length (locks_of t part)) × HasNoneTwice (locks_of t part)
IsOver t OutOfMemory = Unit {0}

-- a span's region, with nothing found yet
pub record IsBlankNeeds (s : Span) (p : RegionNeeds) : Type 0 where
  pub region : p.region ≡ s.region
  pub first : p.first ≡ s.first
  pub locks : p.locks.keys ≡ []
  pub sets : p.needs.items ≡ replicate (s.end - s.first) []
  pub fresh : p.fresh.followed ≡ []

-- nothing is found of the regions
pub record IsBlank (t : Table) (spans : List Span) : Type 0 where
  pub regions : t.regions ≡ map (λ s. s.region) spans
  pub count : length t.locks ≡ length spans
  pub locks : (part n : ℕ) (m : Lock) → slice_get (locks_of t part) n ≡ Some m → ⊥
  pub sets : (part pc n : ℕ) → Has t part pc n → ⊥
  pub fresh : (part pc n : ℕ) → Waits t part pc n → ⊥
  pub points : (part pc : ℕ) (s : Span) → slice_get spans part ≡ Some s → s.first ≤ pc → pc < s.end → HasPoint t part pc
  pub list : t.list ≡ []

-- all that was found is found still, under its number
pub record Grows (old new : Table) : Type 0 where
  pub regions : new.regions ≡ old.regions
  pub parts : length new.locks ≡ length old.locks
  pub names : (part n : ℕ) (m : Lock) → slice_get (locks_of old part) n ≡ Some m → slice_get (locks_of new part) n ≡ Some m
  pub points : (part pc : ℕ) → HasPoint old part pc → HasPoint new part pc
  pub facts : (part pc n : ℕ) → Has old part pc n → Has new part pc n

-- a list of locks in which one of these may have got a number
pub record Numbers (old new : List Lock) (These : Lock → Type 0) : Type 0 where
  pub kept : (n : ℕ) (m : Lock) → slice_get old n ≡ Some m → slice_get new n ≡ Some m
  pub only : (n : ℕ) (m : Lock) → slice_get new n ≡ Some m → slice_get old n ≡ Some m ⊎ These m
  pub apart : HasNoneTwice new
  pub longer : length new ≤ length old + 1

-- a set that has the numbers of these locks too
pub record HasNumbers (locks these : List Lock) (old new : List Bool) : Type 0 where
  pub kept : (n : ℕ) → IsIn old n → IsIn new n
  pub only : (n : ℕ) → IsIn new n → IsIn old n ⊎ ((m : Lock) × IsOne these m × (slice_get locks n ≡ Some m))
  pub all : (m : Lock) → IsOne these m → IsNamed locks new m

-- how many numbers below one are not in the set
unfoldable pub free : ℕ → List Bool → ℕ
free zero set = 0
free (suc n) set = (if unwrap_or (slice_get set n) false then 0 else 1) + free n set

-- how many numbers below 4,096 are not in a set, for all these sets together
abbrev pub free_in : List (List Bool) → ℕ
free_in sets = sum_by (free 4096) sets

-- sets in which the one at a place has these numbers, and whether some are new there
pub record IsMarked (old new : List (List Bool)) (place : ℕ) (numbers : ℕ → Type 0) (is_new : Bool) : Type 0 where
  pub count : length new ≡ length old
  pub rest : (k : ℕ) → k ≢ place → list_at new k ≡ list_at old k
  pub here : (n : ℕ) → IsIn (list_at new place) n ↔ (IsIn (list_at old place) n ⊎ numbers n)
  pub fresh : (is_new ≡ true) ⊎ ((n : ℕ) → numbers n → IsIn (list_at old place) n)
  pub some : is_new ≡ true → (n : ℕ) × IsIn (list_at new place) n
  pub less : free_in new + (if is_new then 1 else 0) ≤ free_in old

-- sets of which the one at a place was taken
pub record IsTakenOut (old new : List (List Bool)) (place : ℕ) : Type 0 where
  pub rest : (k : ℕ) → k ≢ place → list_at new k ≡ list_at old k
  pub none : list_at new place ≡ []

-- sets of what is still to be followed, of which the one at a place has those of these numbers that were not found there before
pub record IsFresher (sets old new : List (List Bool)) (place : ℕ) (numbers : ℕ → Type 0) (is_new : Bool) : Type 0 where
  pub rest : (k : ℕ) → k ≢ place → list_at new k ≡ list_at old k
  pub kept : (n : ℕ) → IsIn (list_at old place) n → IsIn (list_at new place) n
  pub only : (n : ℕ) → IsIn (list_at new place) n → IsIn (list_at old place) n ⊎ ((is_new ≡ true) × numbers n)
  pub all : (n : ℕ) → numbers n → IsIn (list_at sets place) n ⊎ IsIn (list_at new place) n

-- sets that stayed as they were, or have these numbers at a place
abbrev pub AreSome : List (List Bool) → List (List Bool) → ℕ → (ℕ → Type 0) → Type 0
AreSome old new place numbers = (new ≡ old) ⊎ ((b : Bool) × IsMarked old new place numbers b)

-- a list that has an item more, if that is new
pub record IsPut (old new : List (ℕ × ℕ)) (item : ℕ × ℕ) (is_new : Bool) : Type 0 where
  pub stay : (f : ℕ × ℕ) → IsAt old f → IsAt new f
  pub only : (f : ℕ × ℕ) → IsAt new f → IsAt old f ⊎ ((f ≡ item) × (is_new ≡ true))
  pub there : is_new ≡ true → IsAt new item
  pub longer : length new ≤ length old + (if is_new then 1 else 0)

-- what is left of a list where a point may be missing
pub record AreLeft (old new : List (ℕ × ℕ)) (point : ℕ × ℕ) : Type 0 where
  pub only : (f : ℕ × ℕ) → IsAt new f → IsAt old f
  pub rest : (f : ℕ × ℕ) → IsAt old f → (f ≡ point) ⊎ IsAt new f
  pub shorter : length new ≤ length old

-- a point was taken off a list
pub record IsTaken (old new : List (ℕ × ℕ)) (point : ℕ × ℕ) : Type 0 where
  pub there : IsAt old point
  pub left : AreLeft old new point
  pub shorter : length new < length old

-- nothing is found but what was found, and these
pub record Only (old new : Table) (these : ℕ → ℕ → Lock → Type 0) : Type 0 where
  pub facts : (part pc : ℕ) (m : Lock) → HasFact new part pc m → HasFact old part pc m ⊎ these part pc m
  pub names : (part : ℕ) (m : Lock) → IsName new part m → IsName old part m ⊎ ((pc : ℕ) × these part pc m)

-- what was found is kept, and nothing is added but these
pub record Adds (old new : Table) (these : ℕ → ℕ → Lock → Type 0) : Type 0 where
  pub grows : Grows old new
  pub only : Only old new these

-- the steps that are left at most: each takes a point off the list, and a point comes on it only with a new fact
abbrev pub left : Table → ℕ
left t = sum_by free_in t.sets + length t.list

-- what is still to be followed stays so, and what is new is to be followed
pub record Lists (old new : Table) : Type 0 where
  pub stay : (part pc n : ℕ) → Waits old part pc n → Waits new part pc n
  pub fresh : (part pc n : ℕ) → Has new part pc n → Has old part pc n ⊎ Waits new part pc n
  pub less : left new ≤ left old

-- the same table, but for what is still to be followed
abbrev pub with_waiting : Table → List (List (List Bool)) → List (ℕ × ℕ) → Table
with_waiting t fresh list = record { regions = t.regions; firsts = t.firsts; locks = t.locks; sets = t.sets; fresh = fresh; list = list }

-- a point was taken off the list, with the set of what was still to be followed there
pub record IsNext (old new : Table) (point : ℕ × ℕ) (set : List Bool) : Type 0 where
  pub same : new ≡ with_waiting old new.fresh new.list
  pub whole : IsWhole new
  pub there : (n : ℕ) × Has new point.0 point.1 n
  pub within : (n : ℕ) → IsIn set n → Has new point.0 point.1 n
  pub taken : (n : ℕ) → ¬ Waits new point.0 point.1 n
  pub waits : (part pc n : ℕ) → Waits old part pc n → WaitsOrIsOne new point set part pc n
  pub less : left new < left old

-- how far the locks of a list have been added at a pc of a region
pub record AddsSome (initial now : Table) (part pc : ℕ) (all rest : List Lock) : Type 0 where
  pub there : part < length now.locks
  pub point : HasPoint now part pc
  pub whole : IsWhole now
  pub adds : Adds initial now (λ p q m. (p ≡ part) × (q ≡ pc) × IsOne all m)
  pub lists : Lists initial now
  pub of : (m : Lock) → IsOne rest m → IsOne all m
  pub has : (m : Lock) → IsOne all m → IsOne rest m ⊎ HasFact now part pc m
