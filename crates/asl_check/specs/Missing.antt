-- All that the lists of a program lack, in the order in which `check` judges (docs/ANALYSIS.md, "Lists of your own").
use Rattle.std.specs.Prelude.{◌≡◌, ◌<◌, ◌↔◌, ◌⊎◌, ℕ, suc, List, [], ◌∷◌, Some, slice_get, take}
use Rattle.std.specs.declared.cmp.Ordering.TheVariants.{Less}
use Rattle.asl_code.specs.declared.image.Image.{Image}
use Rattle.asl_code.specs.declared.lock.Lock.{Lock}
use Rattle.asl_syntax.specs.Tree.{Item}
use Rattle.asl_lower.specs.declared.section.Section.{Section}
use Rattle.asl_lower.specs.Lowered.{Lowered}
use Rattle.asl_lower.specs.Regions.{Inside}
use Rattle.asl_points_to.specs.Classes.{Classed}
use Rattle.asl_lock_expr.specs.Links.{IsOne}
use Rattle.asl_lock_expr.specs.Order.{lock_cmp}
use Rattle.asl_backward_flow.specs.Closed.{Family}
use Rattle.asl_backward_flow.specs.Needed.{Needed}
use Rattle.asl_emitter.specs.Lists.{IsFree}
use Rattle.asl_check.specs.declared.fault.CheckFault.{CheckFault}
use Rattle.asl_check.specs.declared.fault.CheckFault.TheVariants.{Infer, OtherCode, Uncovered, Unguarded}
use Rattle.asl_check.specs.Checked.{IsUnderOne, reads_of}
use Rattle.asl_check.specs.Refused.{IsOfTree}

-- the section needs the lock after its `acq`, no other lock that it needs absorbs it, and no lock of its list covers it
pub record LacksNeeded (l : Lowered) (c : Classed) (K : Family) (lists : List (List Lock)) (section : ℕ) (lock : Lock) : Type 0 where
  pub is : Section
  pub in_table : slice_get l.sections section ≡ Some is
  pub list : List Lock
  pub listed : slice_get lists section ≡ Some list
  pub needed : K (Inside section) (suc is.acquire) lock
  pub free : IsFree c is.function (K (Inside section) (suc is.acquire)) lock
  pub bare : ¬ IsUnderOne c is.function list lock

-- the lock is read when the expressions of the section's list are evaluated, and no lock of the list covers it
pub record LacksRead (l : Lowered) (c : Classed) (lists : List (List Lock)) (section : ℕ) (lock : Lock) : Type 0 where
  pub is : Section
  pub in_table : slice_get l.sections section ≡ Some is
  pub list : List Lock
  pub listed : slice_get lists section ≡ Some list
  pub read : IsOne (reads_of list) lock
  pub bare : ¬ IsUnderOne c is.function list lock

-- the refusal names a lock that the list of its section lacks
abbrev pub NamesLack : Lowered → Classed → Family → List (List Lock) → CheckFault → Type 0
NamesLack l c K lists (Uncovered section lock) = LacksNeeded l c K lists section lock
NamesLack l c K lists (Unguarded section lock) = LacksRead l c lists section lock
NamesLack l c K lists fault = ⊥

-- the first lock stands at a place of the list up to which the second does not
abbrev pub StandsBefore : List Lock → Lock → Lock → Type 0
StandsBefore locks a b = (n : ℕ) × (slice_get locks n ≡ Some a) × (¬ IsOne (take (suc n) locks) b)

-- the list of the section reads the first lock before the second
abbrev pub IsReadBefore : List (List Lock) → ℕ → Lock → Lock → Type 0
IsReadBefore lists section a b = (list : List Lock) × (slice_get lists section ≡ Some list) × StandsBefore (reads_of list) a b

-- the first refusal is judged before the second: what sections need before what lists read, and either by sections; what one section
-- needs in the order of locks, and what one list reads in the order in which it is read
abbrev pub IsJudgedBefore : List (List Lock) → CheckFault → CheckFault → Type 0
IsJudgedBefore lists (Uncovered m a) (Uncovered n b) = (m < n) ⊎ ((m ≡ n) × (lock_cmp a b ≡ Less))
IsJudgedBefore lists (Uncovered m a) (Unguarded n b) = Unit {0}
IsJudgedBefore lists (Unguarded m a) (Unguarded n b) = (m < n) ⊎ ((m ≡ n) × IsReadBefore lists m a b)
IsJudgedBefore lists f g = ⊥

-- one of a list of refusals
abbrev pub IsAmong : List CheckFault → CheckFault → Type 0
IsAmong [] f = ⊥
IsAmong (g ∷ rest) f = (g ≡ f) ⊎ IsAmong rest f

-- each refusal is judged before all later ones: so none stands twice
abbrev pub AreInTurn : List (List Lock) → List CheckFault → Type 0
AreInTurn lists [] = Unit {0}
AreInTurn lists (f ∷ rest) = ((g : CheckFault) → IsAmong rest g → IsJudgedBefore lists f g) × AreInTurn lists rest

-- these are all that lists lack, for a family of needs, in the order in which it is judged
pub record AreAllLacks (l : Lowered) (c : Classed) (K : Family) (lists : List (List Lock)) (faults : List CheckFault) : Type 0 where
  pub exact : (f : CheckFault) → IsAmong faults f ↔ NamesLack l c K lists f
  pub order : AreInTurn lists faults

-- the program is the tree's but for its lists, and these are all that its lists lack, with paths of at most so many operations
pub record LacksAll (is : List Item) (k_limit : ℕ) (image : Image) (faults : List CheckFault) : Type 0 where
  pub of_tree : IsOfTree is k_limit image
  pub all :
      AreAllLacks of_tree.analysis.program.lowering of_tree.analysis.program.classes
      (Needed of_tree.analysis.program.lowering of_tree.analysis.program.classes of_tree.analysis.stores k_limit) image.lists faults

-- the lists are not judged: no program is inferred, the program's code is another, or the memory ran out
abbrev pub IsBeforeLists : CheckFault → Type 0
IsBeforeLists (Infer fault) = Unit {0}
IsBeforeLists (OtherCode d) = Unit {0}
IsBeforeLists fault = ⊥
