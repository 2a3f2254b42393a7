use Rattle.std.proofs.Common.{arith, ◌≡◌, sym, ◌∙◌, inl, inr, false, Some, slice_get, get_or}
use Rattle.std.proofs.lemmas.Bool.{cases_lt}
use Rattle.std.proofs.lemmas.Option.{slice_get-get_or}
use Rattle.std.proofs.Math.Nat.{add-mod_right}
use Rattle.asl_runner.proofs.Own.{none_between}
use Rattle.asl_runner.proofs.worker.first_going.Goals as goal

pub loop-t-preserved : goal.loop-t-preserved
loop-t-preserved c =
    let inv = c.loop-t.invariant in
    let workers = c.args.post.workers in
    record {
      mine = add-mod_right c.loop-t.t workers ∙ inv.mine;
      none = λ t low high mine.
          elim (cases_lt t c.loop-t.t) [
            | inl before ↦ inv.none t low before mine
            | inr behind ↦
                (let same : t ≡ c.loop-t.t = none_between workers c.loop-t.t t (omega (arith, c.requires.at.mine)) behind high (mine ∙ sym inv.mine) in
                let at : slice_get c.args.going.now c.loop-t.t ≡ Some (get_or c.args.going.now c.loop-t.t false) = slice_get-get_or c.args.going.now c.loop-t.t false (omega arith) in
                rw same (λ e. cc))
          ];
    }
