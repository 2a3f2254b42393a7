-- A lowering keeps the limits of an image, and has a `main` (docs/SOURCE.md, "Templates").
use Rattle.std.specs.Prelude.{◌≡◌, ◌<◌, ◌≤◌, length, Some, slice_get}
use Rattle.std.specs.List.{All}
use Rattle.asl_code.specs.declared.image.Function as entry
use Rattle.asl_lower.specs.Lowered.{Lowered}

-- the function `main` is there, and has one parameter
pub record HasMain (l : Lowered) : Type 0 where
  pub function : entry.Function
  pub in_table : slice_get l.functions l.main ≡ Some function
  pub one_parameter : function.params ≡ 1

-- the function has an instruction, a register for each parameter, and few parameters
pub record FitsTable (f : entry.Function) : Type 0 where
  pub some_code : 0 < f.len
  pub parameters : f.params ≤ f.regs
  pub few_parameters : f.params ≤ 4

-- there are no more globals, functions, sections and parameters than a text may have
pub record KeepsLimits (l : Lowered) : Type 0 where
  pub few_globals : l.globals ≤ 1024
  pub few_functions : length l.functions ≤ 256
  pub few_sections : length l.sections ≤ 1024
  pub functions : All FitsTable l.functions
