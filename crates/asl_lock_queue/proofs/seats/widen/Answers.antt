use Rattle.std.proofs.Common.{rules, ◌≡◌, ◌+◌, ◌<◌, ◌≤◌, length, slice_index_or, slice_set, vec_capacity, ap, sym, subst, ◌∙◌, inl, inr, arith}
use Rattle.std.proofs.Math.Seq.{map-set_same}
use Rattle.std.proofs.lemmas.Bool.Decides.{eqb_tells}
use Rattle.std.proofs.lemmas.Bool.{cases_lt}
use Rattle.std.proofs.lemmas.List.{get_or-set_same, get_or-set_other}
use Rattle.std.proofs.lemmas.List.Elements.{All-set}
use Rattle.asl_lock_queue.proofs.seats.widen.Goals as goal

pub returns-in_err-reserve-clause-same : goal.returns-in_err-reserve-clause-same
returns-in_err-reserve-clause-same c =
    map-set_same (λ v. v.items) c.loop-at.lists.items c.loop-at.at c.reserve.new.self c.index_mut.result.now
    (c.reserve.ensures.items ∙ ap (λ v. v.items) c.index_mut.ensures.value)
    ∙ c.loop-at.invariant.same

pub loop-at-preserved : goal.loop-at-preserved
loop-at-preserved c =
    let lists = c.loop-at.lists.items in
    let at = c.loop-at.at in
    let wider = c.reserve.new.self in
    let there : at < length lists = search rules in
    let room : c.args.nodes ≤ vec_capacity wider = search rules in
    let more : vec_capacity c.index_mut.result.now ≤ vec_capacity wider = search rules in
    record {
      same = map-set_same (λ v. v.items) lists at wider c.index_mut.result.now (c.reserve.ensures.items ∙ ap (λ v. v.items) c.index_mut.ensures.value)
          ∙ c.loop-at.invariant.same;
      wide = λ k d below. elim (eqb_tells k at) [
        | inl same ↦ subst (λ v. c.args.nodes ≤ vec_capacity v)
            (sym (ap (λ n. slice_index_or (slice_set lists at wider) n d) same.1 ∙ get_or-set_same lists at wider d there)) room
        | inr apart ↦ subst (λ v. c.args.nodes ≤ vec_capacity v) (sym (get_or-set_other lists at k wider d apart.1))
            (c.loop-at.invariant.wide k d (elim (cases_lt k at) [
              | inl lower ↦ lower
              | inr past ↦ absurd (apart.1 (omega (arith, past, below)))
            ]))
      ];
      kept = λ size all.
          let had = c.loop-at.invariant.kept size all at c.index_mut.result.now there in
          let old = subst (λ v. size ≤ vec_capacity v) (sym c.index_mut.ensures.value) had in
          All-set (λ v. size ≤ vec_capacity v) lists at wider (omega (arith, old, more)) (c.loop-at.invariant.kept size all);
    }
