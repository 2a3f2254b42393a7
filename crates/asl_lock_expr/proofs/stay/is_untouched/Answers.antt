use Rattle.std.proofs.Common.{rules, ◌≡◌, ◌∷◌, ◌&&◌, ◌∙◌, [], Some, false, sym, subst}
use Rattle.asl_points_to.specs.Classes.{to}
use Rattle.asl_code.specs.declared.instr.Instr.{Instr}
use Rattle.asl_code.specs.declared.lock.Lock.TheVariants as lock
use Rattle.asl_lock_expr.specs.ClassOf.{base_class}
use Rattle.asl_lock_expr.specs.Links.{is_register, begins_with_star, before}
use Rattle.asl_lock_expr.specs.LinksView.{seen}
use Rattle.asl_lock_expr.proofs.Staying.{store_past, store_left, set_by, set_changes}
use Rattle.asl_lock_expr.proofs.stay.is_untouched.Goals as goal

pub returns-in-Store : goal.returns-in-Store
returns-in-Store c effect =
    let classes = c.args.view.now.classes.now in
    let e = c.args.expr.now in
    let v = seen c.args.view.now in
    let hit = to classes c.args.view.now.function c.in-Store.address in
    let class = base_class classes c.args.view.now.function e.base in
    let over = is_register c.in-Store.address e.base && begins_with_star e.path in (
      λ untouched.
          let clear : c.is_stored_over.result ≡ false = search (rules, untouched) in
          subst (λ (i : Instr). before v i e effect ≡ lock.Expr e effect ∷ []) (sym c.in-Store.is)
          (store_past classes hit c.in-Store.from e effect class over (sym c.is_stored_over.ensures ∙ clear)),
      λ same.
          let left = store_left classes hit c.in-Store.from e effect class over (subst (λ (i : Instr). before v i e effect ≡ lock.Expr e effect ∷ []) c.in-Store.is same) in
          let clear : c.is_stored_over.result ≡ false = c.is_stored_over.ensures ∙ left in
          search (rules, clear),
    )

pub returns-in-GlobalAddress : goal.returns-in-GlobalAddress
returns-in-GlobalAddress c effect =
    let set : set_by c.args.instr.now ≡ Some c.in-GlobalAddress.to = search rules in (
      search rules,
      λ same. search (rules, set_changes (seen c.args.view.now) c.args.instr.now c.args.expr.now effect c.in-GlobalAddress.to set, same),
    )
