-- Which program is a tree's but for its lists, and which lists are enough for what its sections need (docs/ANALYSIS.md, "Lists of your own").
use Rattle.std.specs.Prelude.{◌≡◌, ◌≢◌, ◌<◌, ◌⊎◌, ◌++◌, ◌∷◌, ℕ, suc, List, length, map, Option, None, Some, slice_get}
use Rattle.std.specs.List.{flat_map}
use Rattle.std.specs.declared.cmp.Ordering.TheVariants.{Less}
use Rattle.asl_code.specs.declared.image.Image.{Image}
use Rattle.asl_code.specs.declared.instr.Instr.{Instr}
use Rattle.asl_code.specs.declared.lock.Lock.{Lock}
use Rattle.asl_code.specs.Versions.{newest}
use Rattle.asl_lower.specs.declared.section.Section.{Section}
use Rattle.asl_lower.specs.Lowered.{Lowered}
use Rattle.asl_lower.specs.OpenSections.{owner_of}
use Rattle.asl_lower.specs.Regions.{Inside}
use Rattle.asl_points_to.specs.Classes.{Classed}
use Rattle.asl_lock_expr.specs.Links.{IsOne, dereferenced}
use Rattle.asl_lock_expr.specs.Order.{lock_cmp}
use Rattle.asl_backward_flow.specs.Closed.{Family}
use Rattle.asl_soundness.specs.Coded.{classed}
use Rattle.asl_soundness.specs.Covering.{CoversLock}
use Rattle.asl_emitter.specs.Lists.{Locks, IsFree}
use Rattle.asl_check.specs.declared.code_difference.CodeDifference.{CodeDifference}

-- a lock of the list covers this one
abbrev pub IsUnderOne : Classed → ℕ → List Lock → Lock → Type 0
IsUnderOne c f list n = (m : Lock) × IsOne list m × CoversLock c f m n

-- so for each lock of the set
abbrev pub AreUnder : Classed → ℕ → List Lock → Locks → Type 0
AreUnder c f list given = (n : Lock) → given n → IsUnderOne c f list n

-- the lock is the first of these that no lock of the list covers
pub record IsFirstBare (c : Classed) (f : ℕ) (list locks : List Lock) (lock : Lock) : Type 0 where
  pub front : List Lock
  pub rest : List Lock
  pub parts : locks ≡ front ++ lock ∷ rest
  pub before : AreUnder c f list (IsOne front)
  pub bare : ¬ IsUnderOne c f list lock

-- of the locks of the set that no other of it absorbs, this is the first in the order of locks that no lock of the list covers
pub record LacksFirst (c : Classed) (f : ℕ) (list : List Lock) (given : Locks) (lock : Lock) : Type 0 where
  pub is : given lock
  pub free : IsFree c f given lock
  pub bare : ¬ IsUnderOne c f list lock
  pub before : (n : Lock) → given n → IsFree c f given n → lock_cmp n lock ≡ Less → IsUnderOne c f list n

-- the locks that are read when the expressions of a list are evaluated, in this order
abbrev pub reads_of : List Lock → List Lock
reads_of list = flat_map dereferenced list

-- codes are the same up to a place, at which they are not
pub record IsFirstOther (code other : List Instr) (pc : ℕ) : Type 0 where
  pub same : (n : ℕ) → n < pc → slice_get code n ≡ slice_get other n
  pub differ : slice_get code pc ≢ slice_get other pc

-- the image has the tables of a lowering with classes: all but its code, and its lists but for their number
pub record HasTables (l : Lowered) (c : Classed) (image : Image) : Type 0 where
  pub version : image.version ≡ newest
  pub classes : image.classes ≡ c.count
  pub globals : image.globals ≡ c.globals
  pub functions : image.functions ≡ l.functions
  pub start : image.start ≡ l.main
  pub count : length image.lists ≡ length l.sections

-- and its code
pub record IsCodeOf (l : Lowered) (c : Classed) (image : Image) : Type 0 where
  pub tables : HasTables l c image
  pub code : image.code ≡ map (classed c) l.code

-- it has not: the first instruction that is another, or, where the tables are others, the number of instructions
abbrev pub IsOtherPlace : Lowered → Classed → Image → ℕ → Type 0
IsOtherPlace l c image pc =
    IsFirstOther image.code (map (classed c) l.code) pc
    ⊎ ((image.code ≡ map (classed c) l.code) × (¬ HasTables l c image) × (pc ≡ length image.code))

-- the function in whose body a place is: of the tree's, or of the image's where the tree has no instruction there
abbrev pub owner_there : Lowered → Image → Option Instr → ℕ → ℕ
owner_there l image (Some own) pc = owner_of l.functions pc
owner_there l image None pc = owner_of image.functions pc

-- the image differs from the lowered code first at this place, in this function, and both have these instructions there
pub record IsOtherCode (l : Lowered) (c : Classed) (image : Image) (d : CodeDifference) : Type 0 where
  pub place : IsOtherPlace l c image d.pc
  pub function : d.function ≡ owner_there l image d.source d.pc
  pub source : d.source ≡ slice_get (map (classed c) l.code) d.pc
  pub program : d.program ≡ slice_get image.code d.pc

-- of the first sections, so many of them, the lists cover what the family has after the `acq`
abbrev pub FirstListsCover : Lowered → Classed → Family → List (List Lock) → ℕ → Type 0
FirstListsCover l c K lists so_many =
    (n : ℕ) → n < so_many → (s : Section) (list : List Lock) → slice_get l.sections n ≡ Some s → slice_get lists n ≡ Some list →
    AreUnder c s.function list (K (Inside n) (suc s.acquire))

-- and over what their own expressions read
abbrev pub AreGuarded : Lowered → Classed → List (List Lock) → ℕ → Type 0
AreGuarded l c lists so_many =
    (n : ℕ) → n < so_many → (s : Section) (list : List Lock) → slice_get l.sections n ≡ Some s → slice_get lists n ≡ Some list →
    AreUnder c s.function list (IsOne (reads_of list))

-- the section is the first whose list does not cover what the family has after its `acq`, and the lock is the first that it lacks
pub record IsFirstLacking (l : Lowered) (c : Classed) (K : Family) (lists : List (List Lock)) (section : ℕ) (lock : Lock) : Type 0 where
  pub is : Section
  pub in_table : slice_get l.sections section ≡ Some is
  pub list : List Lock
  pub listed : slice_get lists section ≡ Some list
  pub earlier : FirstListsCover l c K lists section
  pub first : LacksFirst c is.function list (K (Inside section) (suc is.acquire)) lock

-- the section is the first whose list does not cover what its own expressions read, and the lock is the first that they read
-- that no lock of the list covers
pub record IsFirstOpen (l : Lowered) (c : Classed) (lists : List (List Lock)) (section : ℕ) (lock : Lock) : Type 0 where
  pub is : Section
  pub in_table : slice_get l.sections section ≡ Some is
  pub list : List Lock
  pub listed : slice_get lists section ≡ Some list
  pub earlier : AreGuarded l c lists section
  pub first : IsFirstBare c is.function list (reads_of list) lock
