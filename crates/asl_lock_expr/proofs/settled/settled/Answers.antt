use Rattle.std.proofs.Common.{◌++◌, [], ◌∷◌, ap, sym, ◌∙◌}
use Rattle.std.specs.Option.{option_to_list}
use Rattle.asl_lock_expr.specs.Links.{settled}
use Rattle.asl_lock_expr.specs.LinksView.{seen}
use Rattle.asl_lock_expr.proofs.Steps.{settle_by, settled_short, settled_long}
use Rattle.asl_lock_expr.proofs.settled.settled.Goals as goal

pub returns-in_err-class : goal.returns-in_err-class
returns-in_err-class c =
    ap option_to_list c.from_residual.ensures
    ∙ sym
    (settle_by (seen c.args.view.now) c.args.base c.args.front.now c.args.rest.now c.args.effect _ _ _ c.base_class-start.ensures c.path_class.ensures c.path_class-2.ensures
    ∙ ap (settled (seen c.args.view.now) (record { base = c.args.base; path = c.args.front.now ++ c.args.rest.now }) c.args.effect) c.in_err-class.was)

pub returns-then-front-rest : goal.returns-then-front-rest
returns-then-front-rest c =
    ap (λ l. l ∷ []) c.lock_on.ensures
    ∙ sym
    (settle_by (seen c.args.view.now) c.args.base c.args.front.now c.args.rest.now c.args.effect _ _ _ c.base_class-start.ensures c.path_class.ensures c.path_class-2.ensures
    ∙ ap (settled (seen c.args.view.now) (record { base = c.args.base; path = c.args.front.now ++ c.args.rest.now }) c.args.effect) c.in_ok-class.was
    ∙ settled_short (seen c.args.view.now) c.args.base c.args.front.now c.args.rest.now c.args.effect c.in_ok-class.class c.if-front-rest.true)

pub returns-else-front-rest : goal.returns-else-front-rest
returns-else-front-rest c =
    sym
    (settle_by (seen c.args.view.now) c.args.base c.args.front.now c.args.rest.now c.args.effect _ _ _ c.base_class-start.ensures c.path_class.ensures c.path_class-2.ensures
    ∙ ap (settled (seen c.args.view.now) (record { base = c.args.base; path = c.args.front.now ++ c.args.rest.now }) c.args.effect) c.in_ok-class.was
    ∙ settled_long (seen c.args.view.now) c.args.base c.args.front.now c.args.rest.now c.args.effect c.in_ok-class.class c.if-front-rest.false)
