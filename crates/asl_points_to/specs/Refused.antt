-- Which programs have no classes here (docs/ANALYSIS.md, "Classes").
use Rattle.std.specs.Prelude.{◌<◌}
use Rattle.asl_lower.specs.Lowered.{Lowered}
use Rattle.asl_points_to.specs.declared.fault.ClassesFault.{ClassesFault}
use Rattle.asl_points_to.specs.declared.fault.ClassesFault.TheVariants.{TooManyClasses, OutOfMemory}
use Rattle.asl_points_to.specs.Classes.{Classed, AreClasses}

-- the classes of the program are more than 1,024; running out of memory says nothing of the program
abbrev pub IsRefusedClasses : Lowered → ClassesFault → Type 0
IsRefusedClasses l TooManyClasses = (c : Classed) × AreClasses l c × (1024 < c.count)
IsRefusedClasses l OutOfMemory = Unit {0}
