use Rattle.std.proofs.Common.{◌≡◌, drop}
use Rattle.asl_c_forest.specs.Status.{has_classes}
use Rattle.asl_c_forest.proofs.request_fits.has_classes.Given as goal

abbrev pub invariant-loop-ask : goal.invariant-loop-ask
invariant-loop-ask l = has_classes l.classes (drop l.ask-index l.asks) ≡ has_classes l.classes l.asks
