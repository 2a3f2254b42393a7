use Rattle.std.proofs.Common.{rules, arith, ◌<◌, get_or, vec_len, ap, ◌∙◌}
use Rattle.std.proofs.lemmas.Option.{slice_get_within, get_or_from_slice_get}
use Rattle.std.specs.declared.thread.PromisedHandle.{PromisedHandle}
use Rattle.asl_runner.specs.declared.worker.Work.{Work}
use Rattle.asl_runner.specs.declared.starting.WorkOf.{WorkOf}
use Rattle.asl_runner.proofs.Promises.{kept_left}
use Rattle.asl_runner.proofs.starting.fn.start.scope.Goals as goal

pub returns-in-Ok : goal.returns-in-Ok
returns-in-Ok g c =
    let joined = c.in-Ok.ensures in
    let started = c.in_ok-handles.ensures.handles in
    let works = c.in-Ok.works in
    record {
      works = (
        joined.len ∙ started.0,
        λ k w at.
            let lt : k < vec_len works = search (slice_get_within works.items k w at, rules) in
            let keeps = joined.each k w (omega (arith, lt, joined.len)) in
            let told = started.1 k keeps.1.handle (omega (arith, lt, joined.len, started.0)) in
            kept_left c.captures.turns.now c.captures.count (vec_len c.captures.seats) k keeps.1.handle.promise (get_or works.items k w) w
            (ap (λ (h : PromisedHandle Work WorkOf). h.promise.turns.now) keeps.1.handle_is ∙ told.0) (ap (λ (h : PromisedHandle Work WorkOf). h.promise.post) keeps.1.handle_is ∙ told.1) (get_or_from_slice_get works.items k w w at) keeps.1.kept,
      );
      other = tt;
    }
