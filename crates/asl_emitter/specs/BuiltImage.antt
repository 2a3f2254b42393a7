-- Machinery of the proofs, not of the promise: the parts of the image as they are made (src/inferred_image.rt).
use Rattle.std.specs.Prelude.{◌≡◌, ◌+◌, ◌<◌, ℕ, List, length, map, Some, slice_get}
use Rattle.asl_code.specs.declared.instr.Instr.{Instr}
use Rattle.asl_code.specs.declared.instr.Instr.TheVariants as instr
use Rattle.asl_code.specs.declared.lock.Lock.{Lock}
use Rattle.asl_code.specs.Versions.{newest, newest_locks}
use Rattle.asl_lower.specs.declared.section.Section.{Section}
use Rattle.asl_lower.specs.Lowered.{Lowered}
use Rattle.asl_lower.specs.Regions.{Inside}
use Rattle.asl_points_to.specs.Classes.{Classed}
use Rattle.asl_backward_flow.specs.Needed.{RegionNeeds, IsTold}
use Rattle.asl_code.specs.declared.image.Image.{Image}
use Rattle.asl_soundness.specs.Coded.{classed}
use Rattle.asl_emitter.specs.Lists.{IsFitted}

-- the site of each `new` has a class
abbrev pub HasSites : List Instr → Classed → Type 0
HasSites code c = (pc to cells site : ℕ) → slice_get code pc ≡ Some (instr.New to cells site) → site < length c.sites

-- the first sections, so many of them, have lists, which are fitted to what the parts of the flow tell
pub record AreFitted (l : Lowered) (c : Classed) (parts : List RegionNeeds) (so_many : ℕ) (lists : List (List Lock)) : Type 0 where
  pub count : length lists ≡ so_many
  pub each : (n : ℕ) (s : Section) (locks : List Lock) → slice_get l.sections n ≡ Some s → slice_get lists n ≡ Some locks →
      IsFitted c s.function newest_locks (IsTold parts (Inside n) (s.acquire + 1)) locks

-- the image of a lowering with classes, with the lists for what the parts of the flow tell
pub record IsMade (l : Lowered) (c : Classed) (parts : List RegionNeeds) (image : Image) : Type 0 where
  pub version : image.version ≡ newest
  pub classes : image.classes ≡ c.count
  pub globals : image.globals ≡ c.globals
  pub functions : image.functions ≡ l.functions
  pub start : image.start ≡ l.main
  pub code : image.code ≡ map (classed c) l.code
  pub lists : AreFitted l c parts (length l.sections) image.lists
