use Rattle.std.proofs.Common.{refl, rules, ◌≡◌, ◌<◌, [], length, slice_index_or, ap, sym, subst, ◌∙◌, inl, inr, arith}
use Rattle.std.proofs.lemmas.Bool.{cases_lt}
use Rattle.std.proofs.lemmas.List.{get_or_default}
use Rattle.asl_lock_queue.specs.Waiting.{GoTogether, Clash}
use Rattle.asl_lock_queue.specs.Lines.{wanted_of}
use Rattle.asl_lock_queue.proofs.SeatLaws.{own_at, waiters_go, waiter_clashes}
use Rattle.asl_lock_queue.proofs.seats.Seats.goes_with_waiters.Goals as goal

pub returns-then-not-go_together-clause-clash : goal.returns-then-not-go_together-clause-clash
returns-then-not-go_together-clause-clash c _ =
    let lists = c.args.self.now.wanted.items in
    let line = c.args.self.now.line.items in
    let other = c.index.result.now in
    let within : c.loop-place.place < length line = search rules in
    let there : other < length lists = search rules in
    waiter_clashes (wanted_of c.args.self.now) line c.args.ahead c.args.request.now c.loop-place.place c.requires.ahead c.loop-place-test.true
    (subst (Clash c.args.request.now)
    (c.as_slice.ensures.value ∙ own_at (λ v. v.items) lists other c.index-in-loop-place.result.now [] there c.index-in-loop-place.ensures
    ∙ ap (λ n. slice_index_or (wanted_of c.args.self.now) n []) (c.index.ensures ∙ get_or_default line c.loop-place.place other 0 within))
    (c.if-not-go_together.ensures.clash refl))

pub loop-place-preserved : goal.loop-place-preserved
loop-place-preserved c k below =
    let lists = c.args.self.now.wanted.items in
    let line = c.args.self.now.line.items in
    let other = c.index.result.now in
    let within : c.loop-place.place < length line = search rules in
    let there : other < length lists = search rules in
    elim (cases_lt k c.loop-place.place) [
      | inl lower ↦ c.loop-place.invariant k lower
      | inr past ↦
          let same : c.loop-place.place ≡ k = omega (arith, past, below) in
          subst (λ n. GoTogether c.args.request.now (slice_index_or (wanted_of c.args.self.now) (slice_index_or line n 0) [])) same
          (subst (GoTogether c.args.request.now)
          (c.as_slice.ensures.value ∙ own_at (λ v. v.items) lists other c.index-in-loop-place.result.now [] there c.index-in-loop-place.ensures
          ∙ ap (λ n. slice_index_or (wanted_of c.args.self.now) n []) (c.index.ensures ∙ get_or_default line c.loop-place.place other 0 within))
          (c.if-not-go_together.ensures.together refl))
    ]

pub returns-clause-together : goal.returns-clause-together
returns-clause-together c _ =
    let all : c.args.ahead ≡ c.loop-place.place = search rules in
    waiters_go (wanted_of c.args.self.now) c.args.self.now.line.items c.args.ahead c.args.request.now c.requires.ahead
    (λ k below. c.loop-place.invariant k (omega (arith, below, all)))
