use Rattle.std.proofs.Common.{◌≡◌, ◌∙◌}
use Rattle.asl_lower.proofs.Owner.{owner_is}
use Rattle.asl_lock_expr.specs.Links.{view}
use Rattle.asl_lock_expr.specs.Stores.{stores}
use Rattle.asl_lock_expr.proofs.Ones.{linked_is, linked_view, ok_more}
use Rattle.asl_lock_expr.proofs.linked.links.Goals as goal

pub returns-clause-locks : goal.returns-clause-locks
returns-clause-locks c function i body stands =
    let owner : c.owner.result ≡ function =
    c.owner.ensures.owner ∙ owner_is c.args.lowering.now.functions function c.args.pc body.function body.in_table body.start body.before_end in
    let is = linked_view c.args.classes.now c.args.writes.now c.args.k c.owner.result function c.args.pc c.args.lowering.now.code _ _ i c.args.lock.now _ _ c.in_ok-add_links.ensures.ok c.new-linked.ensures.items owner c.code-code.ensures.code stands in
    ok_more c.with_prefixes.result _ _ (λ v h. linked_is (view c.args.classes.now (stores c.args.writes.now) c.args.k function) i c.args.lock.now _ v.items is h) c.with_prefixes.ensures.locks
