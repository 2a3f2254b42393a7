-- The image of a lowering with classes (docs/SOUNDNESS.md, "The statement").
use Rattle.std.specs.Prelude.{◌≡◌, map, slice_get, unwrap_or}
use Rattle.asl_code.specs.declared.image.Image.{Image}
use Rattle.asl_code.specs.declared.instr.Instr.{Instr}
use Rattle.asl_code.specs.declared.instr.Instr.TheVariants as instr
use Rattle.asl_code.specs.Fits.{FitsImage}
use Rattle.asl_lower.specs.Lowered.{Lowered}
use Rattle.asl_points_to.specs.Classes.{Classed, IsLegal}

-- the instruction in the image: a `new` has its site's class in the place of its site
abbrev pub classed : Classed → Instr → Instr
classed c (instr.New a n site) = instr.New a n (unwrap_or (slice_get c.sites site) 0)
classed c i = i

-- a verified image of version 2 of the lowering, with legal classes; of its lists no more is said than that the verifier takes them
pub record IsImageOf (l : Lowered) (c : Classed) (image : Image) : Type 0 where
  pub fits : FitsImage image
  pub version : image.version ≡ 2
  pub legal : IsLegal l c
  pub functions : image.functions ≡ l.functions
  pub start : image.start ≡ l.main
  pub globals : image.globals ≡ c.globals
  pub code : image.code ≡ map (classed c) l.code
