use Rattle.std.proofs.Common.{◌≡◌, take}
use Rattle.std.specs.List.{flat_map}
use Rattle.asl_emitter.specs.Lists.{as_class}
use Rattle.asl_emitter.proofs.fitted.as_classes.Given as goal

abbrev pub invariant-loop-lock : goal.invariant-loop-lock
invariant-loop-lock l = l.coarse.items ≡ flat_map (as_class l.classes l.function) (take l.lock-index l.fine)
