use Rattle.std.proofs.Common.{rules, ◌≡◌, map, length, vec_len, sym, ◌∙◌}
use Rattle.std.proofs.lemmas.List.{length-map}
use Rattle.asl_runner.proofs.Ends.{end_of}
use Rattle.asl_runner.proofs.running.run_as.Goals as goal

pub returns-clause-run : goal.returns-clause-run
returns-clause-run g c =
    let joined = c.in_ok-gathered.ensures.joined c.if-gathered.false in
    let all = map (λ mine. mine.items) c.in_ok-gathered.gathered.receipts.items in
    let workers : vec_len c.in_ok-works.works ≡ c.args.workers = c.in_ok-works.ensures.works.0 ∙ c.in_ok-seats.ensures.seats.0 in
    let length_is : length c.in_ok-gathered.gathered.receipts.items ≡ vec_len c.in_ok-gathered.gathered.receipts = search rules in
    let limit = c.in-Ok.ensures.limit in
    record {
      threads = c.into_parts-journal.ensures.threads ∙ sym c.requires.named.1;
      journal = rw (c.requires.image, c.requires.named.1) (c.into_parts-journal.ensures.journal);
      running = c.into_parts-journal.ensures.running;
      machine = rw c.requires.image (c.into_parts-journal.ensures.image);
      leads = rw (c.requires.image, c.requires.named.1) (c.into_parts-journal.ensures.leads);
      dealers = length-map c.in_ok-gathered.gathered.receipts.items (λ mine. mine.items) ∙ length_is ∙ c.in_ok-gathered.ensures.receipts ∙ workers;
      receipts = joined.drawn ∙ c.finish-tickets.ensures.count;
      last = joined.last;
      short = rw (← limit) c.finish-tickets.ensures.limit;
      end = end_of c.args.count c.args.workers c.finish-tickets.result c.args.limit c.gather.new.seat all (rw (← workers) joined) (rw (← limit) c.finish-tickets.ensures.spent);
    }

pub gather-requires-clause-worked : goal.gather-requires-clause-worked
gather-requires-clause-worked g c = rw c.in_ok-works.ensures.works.0 c.in_ok-works.ensures.works.1
