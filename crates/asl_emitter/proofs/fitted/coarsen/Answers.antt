use Rattle.std.proofs.Common.{◌∷◌, [], ap, ◌++◌, ◌∙◌, List, arith}
use Rattle.asl_code.specs.declared.lock.Lock.{Lock}
use Rattle.asl_code.specs.declared.lock.Lock.TheVariants as lock
use Rattle.asl_emitter.specs.Lists.{strongest}
use Rattle.asl_emitter.proofs.Fits.{kept_coarse, root_coarse}
use Rattle.asl_emitter.proofs.fitted.coarsen.Goals as goal

pub returns-then-len-le-MAX_LOCKS : goal.returns-then-len-le-MAX_LOCKS
returns-then-len-le-MAX_LOCKS c =
    kept_coarse c.args.classes.now c.args.function 256 c.args.fine.now c.deref.result.now c.in_ok-coarse-2.coarse.items (c.deref.ensures.value ∙ c.in_ok-coarse.ensures) c.in_ok-coarse-2.ensures
    (omega (arith, c.if-len-le-MAX_LOCKS.true, c.len.ensures, c.in_ok-coarse-2.coarse.ok.0))

pub returns : goal.returns
returns c =
    root_coarse c.args.classes.now c.args.function 256 c.args.fine.now c.deref.result.now c.in_ok-coarse-2.coarse.items c.push.new.self.items (c.deref.ensures.value ∙ c.in_ok-coarse.ensures) c.in_ok-coarse-2.ensures
    (omega (arith, c.if-len-le-MAX_LOCKS.false, c.len.ensures, c.in_ok-coarse-2.coarse.ok.0))
    (c.in_ok-push.ensures.items
    ∙ ap (λ (xs : List Lock). xs ++ lock.Root c.strongest.result ∷ []) c.new-root.ensures.items
    ∙ ap (λ e. lock.Root e ∷ []) (c.strongest.ensures ∙ ap strongest c.deref-2.ensures.value))
