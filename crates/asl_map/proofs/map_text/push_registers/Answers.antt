use Rattle.std.proofs.Common.{ℕ, List, ◌++◌, ◌∙◌, ap, string_bytes, arith}
use Rattle.asl_map.specs.Text.{numbered, register_line}
use Rattle.asl_map.proofs.Told.{none_told, more_told, all_told}
use Rattle.asl_map.proofs.map_text.push_registers.Goals as goal

pub loop-number-init : goal.loop-number-init
loop-number-init c = none_told _ _ _

pub loop-number-preserved : goal.loop-number-preserved
loop-number-preserved c = more_told _ _ _ c.index-registers-number.result c.index-registers-number.result _ _ _ (omega arith) c.index-registers-number.is (c.in_ok-push_registers_of.ensures ∙ ap (λ (ns : List (List ℕ)). string_bytes c.loop-number.text ++ numbered (register_line c.loop-number.number) 0 ns) c.deref.ensures.value) c.loop-number.invariant

pub returns : goal.returns
returns c = all_told _ _ _ _ _ (omega arith) c.loop-number.invariant
