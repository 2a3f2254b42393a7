-- The image that is inferred for a program (docs/ANALYSIS.md, "The inferred image"). Lock inference is
-- after S. Cherem, T. Chilimbi, S. Gulwani, "Inferring Locks for Atomic Sections" (2008); the lists are this project's.
use Rattle.std.specs.Prelude.{◌≡◌, ℕ, suc, Bool, List, length, map, Some, slice_get}
use Rattle.asl_code.specs.declared.image.Image.{Image}
use Rattle.asl_code.specs.declared.lock.Lock.{Lock}
use Rattle.asl_code.specs.Versions.{newest, newest_locks}
use Rattle.asl_syntax.specs.Tree.{Item}
use Rattle.asl_lower.specs.declared.section.Section.{Section}
use Rattle.asl_lower.specs.Lowered.{Lowered, IsLowering}
use Rattle.asl_lower.specs.Regions.{Inside}
use Rattle.asl_points_to.specs.Classes.{Classed, AreClasses}
use Rattle.asl_lock_expr.specs.ClassOf.{TellsStores}
use Rattle.asl_backward_flow.specs.Needed.{Needed}
use Rattle.asl_soundness.specs.Coded.{classed}
use Rattle.asl_emitter.specs.Lists.{IsFitted}

-- the image of a lowering with these classes, of the newest version: its code with classes in place of sites, and for each section
-- the fitted list, of as many locks as that version has at most, of what is needed after its `acq`
pub record IsInferred (l : Lowered) (c : Classed) (stores : ℕ → ℕ → Bool) (k_limit : ℕ) (image : Image) : Type 0 where
  pub version : image.version ≡ newest
  pub classes : image.classes ≡ c.count
  pub globals : image.globals ≡ c.globals
  pub functions : image.functions ≡ l.functions
  pub start : image.start ≡ l.main
  pub code : image.code ≡ map (classed c) l.code
  pub count : length image.lists ≡ length l.sections
  pub lists : (n : ℕ) (s : Section) (locks : List Lock) → slice_get l.sections n ≡ Some s → slice_get image.lists n ≡ Some locks →
      IsFitted c s.function newest_locks (λ lock. Needed l c stores k_limit (Inside n) (suc s.acquire) lock) locks

-- a program with its lowering and its classes
pub record ClassedProgram (is : List Item) : Type 0 where
  pub lowering : Lowered
  pub lowers : IsLowering is lowering
  pub classes : Classed
  pub are_classes : AreClasses lowering classes

-- and with a test that tells to which classes each function may store
pub record Analysis (is : List Item) : Type 0 where
  pub program : ClassedProgram is
  pub stores : ℕ → ℕ → Bool
  pub tells : TellsStores program.lowering program.classes stores

-- the image that is inferred for a program, if it is accepted (Refused), with paths of at most so many operations
pub record IsInferredFor (is : List Item) (k_limit : ℕ) (image : Image) : Type 0 where
  pub analysis : Analysis is
  pub inferred : IsInferred analysis.program.lowering analysis.program.classes analysis.stores k_limit image
