-- Machinery of the proofs, not of the promise: what is needed at once, and what follows from a fact (src/needs_step.rt).
use Rattle.std.specs.Prelude.{◌≡◌, ◌↔◌, ◌⊎◌, ◌<◌, ◌≤◌, ℕ, Bool, List, length, map, Some, slice_get}
use Rattle.std.specs.List.{Contains}
use Rattle.asl_code.specs.declared.image.Function as entry
use Rattle.asl_code.specs.declared.instr.Instr.{Instr}
use Rattle.asl_code.specs.declared.instr.Instr.TheVariants as instr
use Rattle.asl_code.specs.declared.lock.Lock.{Lock}
use Rattle.asl_lane_sets.specs.NumberSet.{IsIn}
use Rattle.asl_lower.specs.Lowered.{Lowered}
use Rattle.asl_lower.specs.LegalLowering.{IsLegalLowering}
use Rattle.asl_points_to.specs.Classes.{Classed}
use Rattle.asl_lock_expr.specs.Links.{LinkContext, view, IsOne, link, settle, accesses, renamed, dereferenced}
use Rattle.asl_lock_expr.specs.Stores.{stores}
use Rattle.asl_lock_expr.specs.Touches.{Stays}
use Rattle.asl_backward_flow.specs.declared.region.Region.TheVariants as variant
use Rattle.asl_backward_flow.specs.declared.span.Span.{Span}
use Rattle.asl_backward_flow.specs.declared.flow_analysis.FlowAnalysis.{FlowAnalysis}
use Rattle.asl_backward_flow.specs.declared.found.AddFault.{AddFault}
use Rattle.asl_backward_flow.specs.Found.{Table, HasPoint, Has, HasFact, IsAt, IsName, IsWhole, IsOver, IsNamed, Adds, Lists, locks_of}
use Rattle.asl_backward_flow.specs.Graph.{HasPc, HasRows, HasCall, IsEdge, IsJump, IsCall}
use Rattle.asl_backward_flow.specs.Needed.{Needed, region_of}
use Rattle.asl_backward_flow.specs.Spans.{AreClosed}

-- a program with where its regions lie and the ways into its points
pub record Read : Type 0 where
  pub lowered : Lowered
  pub classes : Classed
  pub stores : ℕ → ℕ → Bool
  pub k_limit : ℕ
  pub spans : List Span
  pub jumps : List (List ℕ)
  pub calls : List (List ℕ)
  pub regions : List (List ℕ)

-- a `FlowAnalysis` of the code as such a program
abbrev pub read : FlowAnalysis → Read
read p = record {
  lowered = p.lowering.now;
  classes = p.classes.now;
  stores = stores p.writes.now;
  k_limit = p.k_limit;
  spans = p.spans.now;
  jumps = map (λ r. r.items) p.jumps.now;
  calls = map (λ r. r.items) p.calls.now;
  regions = map (λ r. r.items) p.regions.now;
}

-- what was read is of a program that was lowered, and says of it what it should
pub record IsRead (r : Read) : Type 0 where
  pub short : r.k_limit ≤ 8
  pub kept : IsLegalLowering r.lowered
  pub spans : AreClosed r.lowered r.spans
  pub jumps : HasRows r.jumps (IsJump r.lowered) (length r.lowered.code)
  pub calls : HasRows r.calls (IsCall r.lowered) (length r.lowered.code)
  pub regions : HasRows r.regions (HasCall r.lowered r.spans) (length r.spans)

-- what links of instructions of the function are read against
abbrev pub seen : Read → ℕ → LinkContext
seen r function = view r.classes r.stores r.k_limit function

-- the region of this number has the pc
abbrev pub IsAtPoint : Read → ℕ → ℕ → Type 0
IsAtPoint r part pc = HasPc r.spans pc part

-- the access at the pc needs the lock
pub record IsAccessed (r : Read) (part pc : ℕ) (m : Lock) : Type 0 where
  pub span : Span
  pub there : slice_get r.spans part ≡ Some span
  pub instruction : Instr
  pub stands : slice_get r.lowered.code pc ≡ Some instruction
  pub one : IsOne (accesses (seen r span.function) instruction) m

-- such locks, and their dereferenced prefixes
abbrev pub WithFronts : (Lock → Type 0) → Lock → Type 0
WithFronts Such m = Such m ⊎ ((l : Lock) × Such l × IsOne (dereferenced l) m)

-- the first lock becomes the second over the instruction at the pc, dereferenced prefixes left out
pub record IsLinkedAlone (r : Read) (part pc : ℕ) (lock m : Lock) : Type 0 where
  pub span : Span
  pub there : slice_get r.spans part ≡ Some span
  pub instruction : Instr
  pub stands : slice_get r.lowered.code pc ≡ Some instruction
  pub one : IsOne (link (seen r span.function) instruction lock) m

-- such a lock becomes the lock over the instruction at the pc
abbrev pub IsLinkedOf : Read → ℕ → ℕ → (Lock → Type 0) → Lock → Type 0
IsLinkedOf r part pc Such = WithFronts (λ n. (l : Lock) × Such l × IsLinkedAlone r part pc l n)

-- the first lock, at the entry of the callee, becomes the second at the call at the pc, dereferenced prefixes left out
pub record IsEntered (r : Read) (part pc : ℕ) (lock m : Lock) : Type 0 where
  pub span : Span
  pub there : slice_get r.spans part ≡ Some span
  pub to : ℕ
  pub first : ℕ
  pub function : ℕ
  pub callee : entry.Function
  pub stands : slice_get r.lowered.code pc ≡ Some (instr.Call to first function)
  pub in_table : slice_get r.lowered.functions function ≡ Some callee
  pub passed : Lock
  pub renames : IsOne (renamed first callee.params lock) passed
  pub one : IsOne (settle (seen r span.function) passed) m

-- these locks, at one point
abbrev pub At : ℕ → ℕ → (Lock → Type 0) → ℕ → ℕ → Lock → Type 0
At part pc these p q m = (p ≡ part) × (q ≡ pc) × these m

-- an access at a point needs the lock
abbrev pub IsSeed : Read → ℕ → ℕ → Lock → Type 0
IsSeed r p q m = IsAtPoint r p q × WithFronts (IsAccessed r p q) m

-- the same in this region: an access at the pc `q` of the region `p`, which is `part`, needs the lock
abbrev pub IsSeedIn : Read → ℕ → ℕ → ℕ → Lock → Type 0
IsSeedIn r part p q m = (p ≡ part) × IsSeed r p q m

-- the lock comes from such a one, needed at the pc, over an instruction of the region from which control continues to the pc
abbrev pub IsBack : Read → ℕ → ℕ → (Lock → Type 0) → ℕ → ℕ → Lock → Type 0
IsBack r part pc Such p q m = (p ≡ part) × IsEdge r.lowered pc q × IsAtPoint r p q × IsLinkedOf r p q Such m

-- pcs of the region from which control continues to the pc, and all of them that are related so
pub record AreBefore (r : Read) (part pc : ℕ) (related : ℕ → Type 0) (pcs : List ℕ) : Type 0 where
  pub only : (q : ℕ) → IsAt pcs q → IsAtPoint r part q × IsEdge r.lowered pc q
  pub all : (q : ℕ) → IsAtPoint r part q → related q → IsAt pcs q

-- the lock, and its dereferenced prefixes, stay as they are over the instruction at the pc
pub record StaysAt (r : Read) (part pc : ℕ) (m : Lock) : Type 0 where
  pub span : Span
  pub there : slice_get r.spans part ≡ Some span
  pub instruction : Instr
  pub stands : slice_get r.lowered.code pc ≡ Some instruction
  pub stays : Stays (seen r span.function) instruction m

-- some locks of a set stay as they are over the instruction at the pc, and those of the listed numbers are the others
pub record Splits (r : Read) (t : Table) (part pc : ℕ) (set stay : List Bool) (changed : List ℕ) : Type 0 where
  pub within : (n : ℕ) → IsIn stay n → IsIn set n
  pub stays : (m : Lock) → IsNamed (locks_of t part) stay m → StaysAt r part pc m
  pub rest : (n : ℕ) → Contains changed n ↔ (IsIn set n × ¬ IsIn stay n)

-- the second lock is needed at the call at the pc, at the entry of whose callee the first is needed
abbrev pub IsCalledAt : Read → ℕ → Lock → ℕ → ℕ → Lock → Type 0
IsCalledAt r pc lock p q m = (q ≡ pc) × IsAtPoint r p q × WithFronts (IsEntered r p q lock) m

-- the second lock is needed at a call of the function, at whose entry the first is needed
abbrev pub IsAtCall : Read → ℕ → Lock → ℕ → ℕ → Lock → Type 0
IsAtCall r function lock p q m = IsCall r.lowered function q × IsCalledAt r q lock p q m

-- the same where such a lock is needed at the entry
abbrev pub AtCallOf : Read → ℕ → (Lock → Type 0) → ℕ → ℕ → Lock → Type 0
AtCallOf r function Such p q m = (l : Lock) × Such l × IsAtCall r function l p q m

-- the pc is the entry of a body, and the second lock is needed at a call of its function
pub record IsEntry (r : Read) (part pc : ℕ) (lock : Lock) (p q : ℕ) (m : Lock) : Type 0 where
  pub body : Span
  pub function : ℕ
  pub there : slice_get r.spans part ≡ Some body
  pub region : body.region ≡ variant.Body function
  pub entry : pc ≡ body.first
  pub call : IsAtCall r function lock p q m

-- the same of such a lock
abbrev pub IsEntryOf : Read → ℕ → ℕ → (Lock → Type 0) → ℕ → ℕ → Lock → Type 0
IsEntryOf r part pc Such p q m = (l : Lock) × Such l × IsEntry r part pc l p q m

-- what follows at once where such locks are needed at a point
abbrev pub Follows : Read → ℕ → ℕ → (Lock → Type 0) → ℕ → ℕ → Lock → Type 0
Follows r part pc Such p q m = IsBack r part pc Such p q m ⊎ IsEntryOf r part pc Such p q m

-- all these are found
abbrev pub HasAll : Table → (ℕ → ℕ → Lock → Type 0) → Type 0
HasAll t these = (p q : ℕ) (m : Lock) → these p q m → HasFact t p q m

-- the numbers are those of locks, and have those of their dereferenced prefixes, but for such as are done with
pub record IsChosen (locks : List Lock) (set : List Bool) (Done : Lock → Type 0) : Type 0 where
  pub named : (n : ℕ) → IsIn set n → (m : Lock) × (slice_get locks n ≡ Some m)
  pub fronts : (m d : Lock) → IsNamed locks set m → IsOne (dereferenced m) d → IsNamed locks set d ⊎ Done d

-- what the lock becomes over the instruction at the pc is found there; what it becomes over each instruction from which control
-- continues to the pc is
abbrev pub IsLinkedAt : Read → Table → ℕ → ℕ → Lock → Type 0
IsLinkedAt r t part pc d = HasAll t (At part pc (IsLinkedOf r part pc (λ l. d ≡ l)))

-- what the lock becomes over each instruction of the region from which control continues to the pc is found at that instruction
abbrev pub IsLinkedBack : Read → Table → ℕ → ℕ → Lock → Type 0
IsLinkedBack r t part pc d = HasAll t (IsBack r part pc (λ l. d ≡ l))

-- the region needs the lock there
abbrev pub NeededAt : Read → ℕ → ℕ → Lock → Type 0
NeededAt r p q m = (s : Span) × (slice_get r.spans p ≡ Some s) × Needed r.lowered r.classes r.stores r.k_limit (region_of s.region) q m

-- a whole table of all regions
pub record IsReady (r : Read) (t : Table) : Type 0 where
  pub regions : t.regions ≡ map (λ s. s.region) r.spans
  pub count : length t.locks ≡ length r.spans
  pub points : (part pc : ℕ) → IsAtPoint r part pc → HasPoint t part pc
  pub whole : IsWhole t

-- these are added, and nothing else
pub record Added (r : Read) (old new : Table) (these : ℕ → ℕ → Lock → Type 0) : Type 0 where
  pub ready : IsReady r new
  pub has : HasAll new these
  pub adds : Adds old new these
  pub lists : Lists old new

-- some of these are added, and nothing else, until a region has too many locks or an allocation fails
pub record Stopped (old new : Table) (these : ℕ → ℕ → Lock → Type 0) (fault : AddFault) : Type 0 where
  pub adds : Adds old new these
  pub over : IsOver new fault

-- what a loop over numbers has added below a number
pub record AddedBelow (r : Read) (initial now : Table) (each : ℕ → ℕ → ℕ → Lock → Type 0) (k : ℕ) : Type 0 where
  pub ready : IsReady r now
  pub adds : Adds initial now (λ p q m. (j : ℕ) × each j p q m)
  pub lists : Lists initial now
  pub has : (j : ℕ) → j < k → HasAll now (each j)

-- the seeds are there, dereferenced prefixes too, and what follows from each fact that does not wait; and all is needed
pub record IsFollowed (r : Read) (t : Table) (Waiting : ℕ → ℕ → ℕ → Type 0) : Type 0 where
  pub ready : IsReady r t
  pub sound : (p q : ℕ) (m : Lock) → HasFact t p q m → NeededAt r p q m
  pub names : (p : ℕ) (m : Lock) → IsName t p m → (q : ℕ) × NeededAt r p q m
  pub seeds : HasAll t (IsSeed r)
  pub fronts : (p q : ℕ) (m d : Lock) → HasFact t p q m → IsOne (dereferenced m) d → HasFact t p q d
  pub closed : (p q n : ℕ) (m : Lock) → Has t p q n → slice_get (locks_of t p) n ≡ Some m → Waiting p q n ⊎ HasAll t (Follows r p q (λ l. m ≡ l))

-- a region has too many locks, each needed somewhere
pub record Overflows (r : Read) (t : Table) (fault : AddFault) : Type 0 where
  pub over : IsOver t fault
  pub names : (p : ℕ) (m : Lock) → IsName t p m → (q : ℕ) × NeededAt r p q m

-- what is needed is found, and nothing else
pub record IsAll (r : Read) (t : Table) : Type 0 where
  pub ready : IsReady r t
  pub sound : (p q : ℕ) (m : Lock) → HasFact t p q m → NeededAt r p q m
  pub full : (p q : ℕ) (m : Lock) → NeededAt r p q m → HasFact t p q m
  pub names : (p : ℕ) (m : Lock) → IsName t p m → (q : ℕ) × NeededAt r p q m
