-- Machinery of the proofs, not of the promise to users: what the writers of src/ add to the bytes before (docs/FORMATS.md,
-- "Images").
use Rattle.std.specs.Prelude.{◌≡◌, ℕ, ◌<◌, ◌^◌, List, ◌++◌, length}
use Rattle.std.specs.List.{flat_map, AllByRecursion}
use Rattle.asl_code.specs.declared.image.Image.{Image}
use Rattle.asl_code.specs.Versions.{IsVersion}
use Rattle.asl_loader.specs.Bytes.{Field, text_of}

-- the same of several things, one after the other
pub record WritesEach (X : Type 0) (Is : X → Type 0) (fields_of : X → List Field) (old new : List ℕ) (xs : List X) : Type 0 where
  pub each : AllByRecursion Is xs
  pub added : new ≡ old ++ text_of (flat_map fields_of xs)

-- the image's numbers and counts fit their fields, as far as the types of its parts do not say so
pub record HasFields (i : Image) : Type 0 where
  pub version : IsVersion i.version
  pub classes : i.classes < 2 ^ 16
  pub globals : length i.globals < 2 ^ 16
  pub functions : length i.functions < 2 ^ 16
  pub lens : AllByRecursion (λ f. f.len < 2 ^ 16) i.functions
  pub code : length i.code < 2 ^ 16
  pub lists : length i.lists < 2 ^ 16
  pub locks : AllByRecursion (λ locks. length locks < 2 ^ 16) i.lists
