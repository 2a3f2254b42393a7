use Rattle.asl_lower.proofs.Laid.{lowering_is_computed}
use Rattle.asl_lower.proofs.Emitted.{emitted_kept}
use Rattle.std.proofs.Common.{arith}
use Rattle.asl_check.proofs.Complete.{inferred_checked}
use Rattle.asl_check.proofs.laws.inferred_lists_are_enough.Goals as goal

pub returns : goal.returns
returns c = λ source tree k_limit image parses accept h.
    let p = h.analysis.program in
    let low = accept.lowered in
    let kept =
    emitted_kept tree p.lowering (lowering_is_computed tree p.lowering p.lowers) ∣ record { text = source; parses = parses } ∣₁ low.room.few_registers
    (omega (arith, p.lowers.code, low.room.few_instructions)) (low.inside p.lowering p.lowers) in
    inferred_checked tree p.lowering k_limit image p.lowers kept accept h
