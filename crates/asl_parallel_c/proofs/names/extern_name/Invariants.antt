use Rattle.std.proofs.Common.{◌≡◌, drop}
use Rattle.asl_parallel_c.specs.Names.{name_in}
use Rattle.asl_parallel_c.proofs.names.extern_name.Given as goal

-- none of those so far stands for the function
abbrev pub invariant-loop-other : goal.invariant-loop-other
invariant-loop-other l = name_in (drop l.other-index l.externs) l.function ≡ name_in l.externs l.function
