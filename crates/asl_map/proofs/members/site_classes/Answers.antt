use Rattle.asl_map.proofs.Left.{pushed_left}
use Rattle.asl_map.proofs.members.site_classes.Goals as goal

pub loop-site-preserved : goal.loop-site-preserved
loop-site-preserved c =
    pushed_left c.args.classes.now.sites c.loop-site.of_sites.items c.push.new.self.items c.args.classes.now.sites c.loop-site.site c.of_site.result c.of_site.ensures c.in_ok-push.ensures.items c.loop-site.invariant
