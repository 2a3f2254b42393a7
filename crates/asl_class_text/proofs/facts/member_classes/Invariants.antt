use Rattle.std.proofs.Common.{◌≡◌, ◌++◌, take}
use Rattle.asl_class_text.proofs.facts.member_classes.Given as goal

abbrev pub invariant-loop-site : goal.invariant-loop-site
invariant-loop-site l = l.of.items ≡ l.classes.globals ++ take l.site l.classes.sites
