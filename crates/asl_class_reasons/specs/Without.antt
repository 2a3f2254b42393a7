-- The code of a program without one instruction (docs/ANALYSIS.md, "Why one class").
use Rattle.std.specs.Prelude.{◌+◌, ℕ, slice_set}
use Rattle.std.specs.List.{slice_index_or}
use Rattle.asl_code.specs.declared.instr.Instr.{Instr}
use Rattle.asl_code.specs.declared.instr.Instr.TheVariants as instr
use Rattle.asl_lower.specs.Lowered.{Lowered}

-- what stands in place of the instruction at a pc: a jump to the next one, which does nothing. A `ret` stays, since a function
-- cannot do without
abbrev pub left_out : ℕ → Instr → Instr
left_out pc (instr.Return r) = instr.Return r
left_out pc i = instr.Jump (pc + 1)

-- the program with this in its place; all else is as it was, the numbers of sites too
abbrev pub without : Lowered → ℕ → Lowered
without l pc =
    record l { code = slice_set l.code pc (left_out pc (slice_index_or l.code pc (instr.Jump 0))) }
