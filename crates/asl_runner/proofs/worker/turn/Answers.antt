use Rattle.std.proofs.Common.{◌≡◌, ◌<◌, ◌++◌, ◌∷◌, [], true, List, Some, slice_get, arith, ap, ◌∙◌}
use Rattle.std.proofs.Math.Nat.{add-mod_right}
use Rattle.asl_journal.specs.declared.event.Receipt.{Receipt}
use Rattle.asl_runner.proofs.Workers.{steps_as}
use Rattle.asl_runner.proofs.worker.turn.Goals as goal

pub returns : goal.returns
returns g c =
    let works = c.requires.ready.works in
    let post = c.args.post in
    let at = c.args.at.now in
    let left : 0 < at.seat.left = omega (arith, works.left) in
    let drawn = (c.in-Some-draw.ensures.some left).1 in
    let told = c.in-Some-stepped.told in
    let receipt : Receipt = record { index = told.index; thread = told.thread; reply = told.reply; ended = told.ended } in
    let goes : slice_get at.going receipt.thread ≡ Some true = ap (slice_get at.going) c.in-Some-stepped.ensures ∙ c.in-Some.ensures.1 in
    let more = c.push_reserved.ensures.items ∙ ap (λ (rs : List Receipt). rs ++ receipt ∷ []) c.reserve.ensures.items in
    record {
      placed = c.requires.ready.placed;
      works = steps_as c.args.turns.now post.count post.workers post.worker at.seat c.draw.new.seat c.in-Some-draw._ticket at.receipts.items c.push_reserved.new.self.items receipt at.going c.note_end.new.going
          works drawn more goes c.note_end.ensures.ended c.note_end.ensures.goes;
      from = rw c.from.ensures (add-mod_right c.in-Some.thread post.workers ∙ c.in-Some.ensures.0.mine);
    }
