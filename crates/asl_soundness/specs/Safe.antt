-- The promise of the laws in src/laws.rt: no run of an image ever faults for a missing lock (docs/SOUNDNESS.md, "The statement").
use Rattle.std.specs.Prelude.{◌≡◌, ℕ, suc, Bool, true, List, Some, slice_get, All}
use Rattle.asl_code.specs.declared.image.Image.{Image}
use Rattle.asl_code.specs.declared.lock.Lock.{Lock}
use Rattle.asl_lower.specs.declared.section.Section.{Section}
use Rattle.asl_lower.specs.Lowered.{Lowered}
use Rattle.asl_lower.specs.Regions.{Inside}
use Rattle.asl_points_to.specs.Classes.{Classed}
use Rattle.asl_lock_expr.specs.ClassOf.{MayStore}
use Rattle.asl_lock_expr.specs.Links.{IsOne}
use Rattle.asl_backward_flow.specs.Closed.{Family}
use Rattle.asl_machine.specs.declared.fault.Fault.TheVariants as fault
use Rattle.asl_machine.specs.declared.reply.Reply.{Reply}
use Rattle.asl_machine.specs.declared.reply.Reply.TheVariants as reply
use Rattle.asl_machine.specs.State.{State}
use Rattle.asl_machine.specs.Run.{start_of, RunsBy}
use Rattle.asl_soundness.specs.Covering.{CoversLock}

-- a reply that is not a fault for a missing lock, for leaving a section that was not entered, or for one that was left open
abbrev pub IsSafe : Reply → Type 0
IsSafe (reply.Fault (fault.Unprotected cell effect)) = ⊥
IsSafe (reply.Fault fault.NoSection) = ⊥
IsSafe (reply.Fault fault.Open) = ⊥
IsSafe r = Unit {0}

-- with any number of threads, and in any order of their steps: where the instruction table gives these replies, each is safe
abbrev pub NeverFaultsForLocks : Image → Type 0
NeverFaultsForLocks image =
    (count : ℕ) (schedule : List ℕ) (replies : List Reply) (end : State) → RunsBy image (start_of image count) schedule replies end → All IsSafe replies

-- for each lock that the family has after the `acq` of a section, a lock of the section's list covers it
abbrev pub ListsCover : Lowered → Classed → Family → Image → Type 0
ListsCover l c K image =
    (section : ℕ) (s : Section) (list : List Lock) (n : Lock) → slice_get l.sections section ≡ Some s → slice_get image.lists section ≡ Some list →
    K (Inside section) (suc s.acquire) n → (m : Lock) × IsOne list m × CoversLock c s.function m n

-- the test tells of each class that the function may store to, and perhaps of more
abbrev pub TellsAllStores : Lowered → Classed → (ℕ → ℕ → Bool) → Type 0
TellsAllStores l c stores = (function class : ℕ) → MayStore l c function class → stores function class ≡ true
