use Rattle.std.proofs.Common.{◌≡◌, map, take}
use Rattle.asl_soundness.specs.Coded.{classed}
use Rattle.asl_emitter.proofs.inferred_image.code.Given as goal

abbrev pub invariant-loop-instr : goal.invariant-loop-instr
invariant-loop-instr l = l.code.items ≡ map (classed l.classes) (take l.instr-index l.instrs)
