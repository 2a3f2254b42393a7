use Rattle.std.proofs.Common.{◌<◌, List, subst, sym, arith}
use Rattle.std.proofs.lemmas.List.Elements.{All-nil}
use Rattle.asl_code.proofs.Versions.{few_threads}
use Rattle.asl_journal.specs.declared.event.Event.{Event}
use Rattle.asl_journal.specs.Journal.{IsLog}
use Rattle.asl_c_sessions.proofs.session.first.Goals as goal

pub returns-clause-growth : goal.returns-clause-growth
returns-clause-growth g c =
    let counted = c.requires in
    let log : IsLog (record { threads = c.args.threads; events = c.new.result.items }) = subst (λ (es : List Event). IsLog (record { threads = c.args.threads; events = es })) (sym c.new.ensures.items) (record {
      count = (counted.0, omega (arith, counted.1, few_threads c.args.program.now.version));
      short = omega arith;
      there = All-nil (λ (e : Event). e.thread < c.args.threads);
    }) in
    let is_journal = c.in-Err.ensures.only log in
    absurd cc
