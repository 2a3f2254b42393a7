use Rattle.std.proofs.Common.{rules}
use Rattle.asl_backward_flow.specs.Found.{table}
use Rattle.asl_backward_flow.specs.Follows.{read}
use Rattle.asl_backward_flow.proofs.Completing.{all_found, blank_ready, followed_begin, seeds_over, refused_at_first}
use Rattle.asl_backward_flow.proofs.solve.find.Goals as goal

pub returns-in_err-found-clause-err : goal.returns-in_err-found-clause-err
returns-in_err-found-clause-err c =
    let refused = refused_at_first (read c.args.analysis.now) in
    search (rules, refused)

pub add_seeds-requires-clause-ready : goal.add_seeds-requires-clause-ready
add_seeds-requires-clause-ready c = blank_ready (read c.args.analysis.now) (table c.in_ok-found.found) c.in_ok-found.ensures

pub returns-in_err-add_seeds-clause-err : goal.returns-in_err-add_seeds-clause-err
returns-in_err-add_seeds-clause-err c =
    let over = seeds_over (read c.args.analysis.now) _ (table c.add_seeds.new.found) _ c.requires c.in_ok-found.ensures c.in_err-add_seeds.ensures.err in
    search (rules, over)

pub follow_all-requires-clause-followed : goal.follow_all-requires-clause-followed
follow_all-requires-clause-followed c = followed_begin (read c.args.analysis.now) _ (table c.add_seeds.new.found) c.requires c.in_ok-found.ensures c.in_ok-add_seeds.ensures.ok

pub returns-clause-ok : goal.returns-clause-ok
returns-clause-ok c = all_found (read c.args.analysis.now) c.requires (table c.follow_all.new.found) c.in_ok-follow_all.ensures.ok
