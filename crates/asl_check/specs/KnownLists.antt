-- Machinery of the proofs, not of the promise: what is known of lists by the parts of a flow (src/covered.rt, src/lacking.rt, src/covers.rt, src/bare_locks.rt).
use Rattle.std.specs.Prelude.{◌≡◌, ◌<◌, ◌↔◌, ◌⊎◌, ◌+◌, ◌++◌, ℕ, List, [], ◌∷◌, Option, None, Some, length, slice_get}
use Rattle.std.specs.declared.cmp.Ordering.TheVariants.{Less}
use Rattle.asl_code.specs.declared.lock.Lock.{Lock}
use Rattle.asl_code.specs.declared.lock.Lock.TheVariants as lock
use Rattle.asl_lower.specs.declared.section.Section.{Section}
use Rattle.asl_lower.specs.Lowered.{Lowered}
use Rattle.asl_lower.specs.Regions.{Inside}
use Rattle.asl_points_to.specs.Classes.{Classed}
use Rattle.asl_lock_expr.specs.ClassOf.{class_of}
use Rattle.asl_lock_expr.specs.Links.{IsOne}
use Rattle.asl_lock_expr.specs.Order.{lock_cmp, AreInOrder}
use Rattle.asl_backward_flow.specs.Closed.{Family}
use Rattle.asl_backward_flow.specs.Needed.{RegionNeeds, IsInNeeds, IsTold}
use Rattle.asl_emitter.specs.Lists.{Locks, IsFree}
use Rattle.asl_check.specs.declared.fault.CheckFault.{CheckFault}
use Rattle.asl_check.specs.declared.fault.CheckFault.TheVariants.{Uncovered, Unguarded}
use Rattle.asl_check.specs.Checked.{IsUnderOne, AreUnder, LacksFirst, IsFirstOpen}
use Rattle.asl_check.specs.Missing.{NamesLack, StandsBefore, IsAmong, AreInTurn}

-- a lock comes before the one of the number, if there is one
abbrev pub ComesFirst : List Lock → Option ℕ → Lock → Type 0
ComesFirst locks first n = (m : ℕ) (a : Lock) → first ≡ Some m → slice_get locks m ≡ Some a → lock_cmp n a ≡ Less

-- a lock is covered; or it is not, and another absorbs it, or it does not come before the one of the number
abbrev pub IsJudged : Classed → ℕ → List Lock → Locks → List Lock → Option ℕ → Lock → Type 0
IsJudged c f list given locks first n = IsUnderOne c f list n ⊎ ((¬ IsUnderOne c f list n) × ((¬ IsFree c f given n) ⊎ (¬ ComesFirst locks first n)))

-- of the first locks of a part, so many of them, those that are needed at the pc are judged, and the one of the number is lacking
pub record AreJudged (c : Classed) (f : ℕ) (list : List Lock) (p : RegionNeeds) (pc below : ℕ) (first : Option ℕ) : Type 0 where
  pub found : (m : ℕ) → first ≡ Some m → (a : Lock) × (slice_get p.locks m ≡ Some a) × IsInNeeds p pc a × IsFree c f (IsInNeeds p pc) a × (¬ IsUnderOne c f list a)
  pub judged : (n k : ℕ) (a : Lock) → n < below → slice_get p.needs k ≡ Some (pc, n) → slice_get p.locks n ≡ Some a →
      IsJudged c f list (IsInNeeds p pc) p.locks first a

-- the lists of the first sections, so many of them, cover what the parts of the flow tell after the `acq`
abbrev pub AreCovered : Lowered → Classed → List RegionNeeds → List (List Lock) → ℕ → Type 0
AreCovered l c parts lists so_many =
    (n : ℕ) → n < so_many → (s : Section) (list : List Lock) → slice_get l.sections n ≡ Some s → slice_get lists n ≡ Some list →
    AreUnder c s.function list (IsTold parts (Inside n) (s.acquire + 1))

-- the section is the first whose list does not, and this is the first such lock
pub record IsBare (l : Lowered) (c : Classed) (parts : List RegionNeeds) (lists : List (List Lock)) (section : ℕ) (lock : Lock) : Type 0 where
  pub is : Section
  pub in_table : slice_get l.sections section ≡ Some is
  pub list : List Lock
  pub listed : slice_get lists section ≡ Some list
  pub earlier : AreCovered l c parts lists section
  pub first : LacksFirst c is.function list (IsTold parts (Inside section) (is.acquire + 1)) lock

-- what is answered where the lists do not cover what the parts tell
abbrev pub IsUncovered : Lowered → Classed → List RegionNeeds → List (List Lock) → CheckFault → Type 0
IsUncovered l c parts lists (Uncovered section lock) = IsBare l c parts lists section lock
IsUncovered l c parts lists fault = ⊥

-- what is answered where they do not cover what they read
abbrev pub IsUnguarded : Lowered → Classed → List (List Lock) → CheckFault → Type 0
IsUnguarded l c lists (Unguarded section lock) = IsFirstOpen l c lists section lock
IsUnguarded l c lists fault = ⊥

-- the first that is wrong with lists, by the parts of the flow
abbrev pub IsFirstLack : Lowered → Classed → List RegionNeeds → List (List Lock) → CheckFault → Type 0
IsFirstLack l c parts lists (Uncovered section lock) = IsBare l c parts lists section lock
IsFirstLack l c parts lists (Unguarded section lock) = AreCovered l c parts lists (length l.sections) × IsFirstOpen l c lists section lock
IsFirstLack l c parts lists fault = ⊥

-- the class of a lock: the one that it is on, or that of the cell that its expression denotes
abbrev pub own_class : Classed → ℕ → Lock → Option ℕ
own_class c f (lock.Root effect) = None
own_class c f (lock.Class class effect) = Some class
own_class c f (lock.Expr expr effect) = class_of c f expr

-- the new locks are the old ones with one more behind them, or the same where it is one of them
abbrev pub IsOnceMore : List Lock → Lock → List Lock → Type 0
IsOnceMore old lock new = (IsOne old lock × (new ≡ old)) ⊎ ((¬ IsOne old lock) × (new ≡ old ++ lock ∷ []))

-- each of these locks first stands in the list before all later ones
abbrev pub StandInTurn : List Lock → List Lock → Type 0
StandInTurn locks [] = Unit {0}
StandInTurn locks (a ∷ rest) = ((b : Lock) → IsOne rest b → StandsBefore locks a b) × StandInTurn locks rest

-- these are the locks that no lock of a list covers, each once, in the order in which they first stand among all
pub record AreBare (c : Classed) (f : ℕ) (list locks bare : List Lock) : Type 0 where
  pub kept : (a : Lock) → IsOne bare a ↔ (IsOne locks a × (¬ IsUnderOne c f list a))
  pub order : StandInTurn locks bare

-- these are the free locks of a set that no lock of a list covers, in order
pub record AreBareNeeds (c : Classed) (f : ℕ) (list : List Lock) (given : Locks) (bare : List Lock) : Type 0 where
  pub kept : (a : Lock) → IsOne bare a ↔ ((given a × IsFree c f given a) × (¬ IsUnderOne c f list a))
  pub order : AreInOrder bare

-- the refusal is of what one of the first sections needs, or of what the list of one of the first sections reads
abbrev pub IsBelow : ℕ → ℕ → CheckFault → Type 0
IsBelow needs reads (Uncovered section lock) = section < needs
IsBelow needs reads (Unguarded section lock) = section < reads
IsBelow needs reads fault = ⊥

-- these are all that lists lack of what so many sections need, and of what so many lists read
pub record AreLacksBelow (l : Lowered) (c : Classed) (K : Family) (lists : List (List Lock)) (needs reads : ℕ) (faults : List CheckFault) : Type 0 where
  pub exact : (f : CheckFault) → IsAmong faults f ↔ (NamesLack l c K lists f × IsBelow needs reads f)
  pub order : AreInTurn lists faults
