-- Which program is checked, and why another is not (docs/ANALYSIS.md, "Lists of your own").
use Rattle.std.specs.Prelude.{◌≡◌, ℕ, List, length}
use Rattle.asl_code.specs.declared.image.Image.{Image}
use Rattle.asl_code.specs.declared.lock.Lock.{Lock}
use Rattle.asl_syntax.specs.Tree.{Item}
use Rattle.asl_backward_flow.specs.Needed.{Needed}
use Rattle.asl_emitter.specs.Inferred.{Analysis}
use Rattle.asl_emitter.specs.Refused.{IsAccepted, IsRefusedInference as IsNotInferred}
use Rattle.asl_emitter.specs.declared.fault.InferFault.TheVariants as infer
use Rattle.asl_soundness.specs.Safe.{ListsCover}
use Rattle.asl_check.specs.declared.code_difference.CodeDifference.{CodeDifference}
use Rattle.asl_check.specs.declared.fault.CheckFault.{CheckFault}
use Rattle.asl_check.specs.declared.fault.CheckFault.TheVariants.{Infer, OtherCode, Uncovered, Unguarded}
use Rattle.asl_check.specs.Checked.{IsCodeOf, IsOtherCode, AreGuarded, IsFirstLacking, IsFirstOpen}

-- the tree is accepted, and the image is its image but for its lists
pub record IsOfTree (is : List Item) (k_limit : ℕ) (image : Image) : Type 0 where
  pub accepted : IsAccepted is k_limit
  pub analysis : Analysis is
  pub code : IsCodeOf analysis.program.lowering analysis.program.classes image

-- and its lists cover what its sections need, with paths of at most so many operations
pub record IsCovered (is : List Item) (k_limit : ℕ) (image : Image) : Type 0 where
  pub of_tree : IsOfTree is k_limit image
  pub over :
      ListsCover of_tree.analysis.program.lowering of_tree.analysis.program.classes
      (Needed of_tree.analysis.program.lowering of_tree.analysis.program.classes of_tree.analysis.stores k_limit) image

-- and over what their own expressions read
pub record IsChecked (is : List Item) (k_limit : ℕ) (image : Image) : Type 0 where
  pub covered : IsCovered is k_limit image
  pub guarded :
      AreGuarded covered.of_tree.analysis.program.lowering covered.of_tree.analysis.program.classes image.lists
      (length covered.of_tree.analysis.program.lowering.sections)

-- the tree is accepted, and the image is not its image, whatever its lists are: where it differs first
pub record IsOther (is : List Item) (k_limit : ℕ) (image : Image) (d : CodeDifference) : Type 0 where
  pub accepted : IsAccepted is k_limit
  pub analysis : Analysis is
  pub other : IsOtherCode analysis.program.lowering analysis.program.classes image d

-- the section is the first whose list is not enough for what it needs, and the lock is the first that it lacks
pub record Lacks (is : List Item) (k_limit : ℕ) (image : Image) (section : ℕ) (lock : Lock) : Type 0 where
  pub of_tree : IsOfTree is k_limit image
  pub lacking :
      IsFirstLacking of_tree.analysis.program.lowering of_tree.analysis.program.classes
      (Needed of_tree.analysis.program.lowering of_tree.analysis.program.classes of_tree.analysis.stores k_limit) image.lists section lock

-- the lists are enough for what sections need; the section is the first whose list is not enough for what its own expressions read,
-- and the lock is the first that it lacks
pub record Reads (is : List Item) (k_limit : ℕ) (image : Image) (section : ℕ) (lock : Lock) : Type 0 where
  pub covered : IsCovered is k_limit image
  pub open_at : IsFirstOpen covered.of_tree.analysis.program.lowering covered.of_tree.analysis.program.classes image.lists section lock

-- the program is not checked for this reason, the first in the order in which a program is judged; `Infer(OutOfMemory)` may hide all that
-- comes after the tree's lowering
abbrev pub IsRefusedLists : List Item → ℕ → Image → CheckFault → Type 0
IsRefusedLists is k_limit image (Infer fault) = IsNotInferred is k_limit fault
IsRefusedLists is k_limit image (OtherCode d) = IsOther is k_limit image d
IsRefusedLists is k_limit image (Uncovered section lock) = Lacks is k_limit image section lock
IsRefusedLists is k_limit image (Unguarded section lock) = Reads is k_limit image section lock

-- the memory ran out
abbrev pub IsOutOfMemory : CheckFault → Type 0
IsOutOfMemory (Infer fault) = fault ≡ infer.OutOfMemory
IsOutOfMemory fault = ⊥

-- it is of the program's code or of its lists
abbrev pub IsOfProgram : CheckFault → Type 0
IsOfProgram (Infer fault) = ⊥
IsOfProgram fault = Unit {0}
