use Rattle.asl_class_text.proofs.Lined.{site_more}
use Rattle.asl_class_text.proofs.facts.member_classes.Goals as goal

pub loop-site-preserved : goal.loop-site-preserved
loop-site-preserved c =
    site_more c.args.classes.now.globals c.args.classes.now.sites c.loop-site.site c.of_site.result c.loop-site.of.items c.push.new.self.items c.of_site.ensures c.in_ok-push.ensures.items c.loop-site.invariant
