use Rattle.std.proofs.Common.{◌≡◌, Some}
use Rattle.asl_machine.specs.Cover.{cover}
use Rattle.asl_machine.specs.State.{activity_at}
use Rattle.asl_machine.proofs.Lines.{of_line}
use Rattle.asl_machine.proofs.ReachedApart.{reached_apart}
use Rattle.asl_soundness.specs.Protected.{Protected}
use Rattle.asl_soundness.proofs.LinkLines.{step_links}
use Rattle.asl_soundness.proofs.LinkOthers.{others_leave}
use Rattle.asl_soundness.proofs.Structure.{step_structured}
use Rattle.asl_soundness.proofs.StructureLaws.{kept_structured}
use Rattle.asl_soundness.proofs.laws.links_keep_locks_protected.Goals as goal

pub returns : goal.returns
returns c = record {
  own = λ l d stores k_limit image count s new t reply a b i n kept made r step is at now inside deep same there all.
      (let q = kept_structured l d image count s kept made r in
      of_line image s t (λ answer u. activity_at u.threads t ≡ Some b → Protected (cover u.holding b.fresh) t u.objects b.top.regs n)
      (λ e. step_links l d stores k_limit image made s t a b i n q (step_structured l d image made kept.layout s t q).agrees is at e inside deep same there all) reply new step now);
  others = λ l d image count s new t u reply a place f n kept made r step is at apart there read p.
      of_line image s u (λ answer v. Protected (cover v.holding a.fresh) t v.objects f.regs n)
      (others_leave l d image made s (kept_structured l d image count s kept made r) (reached_apart image count s made.fits r) t u a apart is place f n at there read p) reply new step;
}
