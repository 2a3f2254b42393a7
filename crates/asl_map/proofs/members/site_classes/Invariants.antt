-- what is listed and what is left are all
use Rattle.std.proofs.Common.{◌≡◌, ◌++◌, drop}
use Rattle.asl_map.proofs.members.site_classes.Given as goal

abbrev pub invariant-loop-site : goal.invariant-loop-site
invariant-loop-site l = l.of_sites.items ++ drop l.site l.classes.sites ≡ l.classes.sites
