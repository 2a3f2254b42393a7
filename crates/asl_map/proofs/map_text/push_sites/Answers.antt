use Rattle.std.proofs.Common.{get_or, refl, arith}
use Rattle.asl_map.proofs.Told.{none_told, more_told, all_told}
use Rattle.asl_map.proofs.map_text.push_sites.Goals as goal

pub loop-number-init : goal.loop-number-init
loop-number-init c = none_told _ _ _

pub loop-number-preserved : goal.loop-number-preserved
loop-number-preserved c = more_told _ _ _ (record { function = 0; from = 0; to = 0 }) (get_or c.args.sites.now c.loop-number.number (record { function = 0; from = 0; to = 0 })) _ _ _ (omega arith) refl c.in_ok-push_site.ensures c.loop-number.invariant

pub returns : goal.returns
returns c = all_told _ _ _ _ _ (omega arith) c.loop-number.invariant
