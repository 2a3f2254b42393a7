use Rattle.std.proofs.Common.{refl, rules, ◌≡◌, ◌≢◌, ◌<◌, IsTrue, [], length, slice_index_or, ap, sym, subst, ◌∙◌, inl, inr, arith}
use Rattle.std.proofs.lemmas.Bool.{cases_lt}
use Rattle.std.proofs.lemmas.List.{length-map}
use Rattle.asl_lock_queue.specs.Order.{is_rising}
use Rattle.asl_lock_queue.specs.Waiting.{GoTogether, Clash}
use Rattle.asl_lock_queue.specs.Lines.{held_of}
use Rattle.asl_lock_queue.proofs.HolderLaws.{all_go, one_clashes}
use Rattle.asl_lock_queue.proofs.SeatLaws.{own_at}
use Rattle.asl_lock_queue.proofs.seats.Seats.goes_with_holders.Goals.{else-other-thread-via-then-other-thread+else-not-go_together, else-other-thread-via-else-other-thread}
use Rattle.asl_lock_queue.proofs.seats.Seats.goes_with_holders.Goals as goal

pub go_together-requires-clause-b_rises : goal.go_together-requires-clause-b_rises
go_together-requires-clause-b_rises c =
    let lists = c.args.self.now.held.items in
    let other = c.loop-other.other in
    let there : other < length lists = search rules in
    let long = length-map lists (λ v. v.items) in
    subst (λ l. IsTrue (is_rising l)) (sym (c.as_slice.ensures.value ∙ own_at (λ v. v.items) lists other c.index.result.now [] there c.index.ensures))
    (c.requires.rising other [] (omega (arith, there, long)))

pub returns-then-not-go_together-clause-refused : goal.returns-then-not-go_together-clause-refused
returns-then-not-go_together-clause-refused c _ =
    let lists = c.args.self.now.held.items in
    let other = c.loop-other.other in
    let there : other < length lists = search rules in
    let apart : other ≢ c.args.thread = search rules in
    one_clashes (held_of c.args.self.now) c.args.thread c.args.request.now other apart
    (subst (Clash c.args.request.now) (c.as_slice.ensures.value ∙ own_at (λ v. v.items) lists other c.index.result.now [] there c.index.ensures)
    (c.if-not-go_together.ensures.clash refl))

pub loop-other-preserved : goal.loop-other-preserved
loop-other-preserved c k below apart =
    let lists = c.args.self.now.held.items in
    let other = c.loop-other.other in
    let there : other < length lists = search rules in
    elim (cases_lt k other) [
      | inl lower ↦ c.loop-other.invariant k lower apart
      | inr past ↦
          let same : k ≡ other = omega (arith, past, below) in
          elim c.else-other-thread.branch [
            | else-other-thread-via-then-other-thread+else-not-go_together w ↦
                subst (λ n. GoTogether c.args.request.now (slice_index_or (held_of c.args.self.now) n [])) (sym same)
                (subst (GoTogether c.args.request.now) (w.as_slice.ensures.value ∙ own_at (λ v. v.items) lists other w.index.result.now [] there w.index.ensures)
                (w.if-not-go_together.ensures.together refl))
            | else-other-thread-via-else-other-thread w ↦ absurd (apart (same ∙ w.if-other-thread.false))
          ]
    ]

pub returns-clause-free : goal.returns-clause-free
returns-clause-free c _ =
    let lists = c.args.self.now.held.items in
    let long = length-map lists (λ v. v.items) in
    let all : length lists ≡ c.loop-other.other = search rules in
    all_go (held_of c.args.self.now) c.args.thread c.args.request.now (λ k below apart. c.loop-other.invariant k (omega (arith, below, long, all)) apart)
