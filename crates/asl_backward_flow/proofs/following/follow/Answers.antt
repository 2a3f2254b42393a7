use Rattle.std.proofs.Common.{rules, map}
use Rattle.asl_backward_flow.specs.Found.{table}
use Rattle.asl_backward_flow.specs.Follows.{read}
use Rattle.asl_backward_flow.proofs.Closing.{next_ok, next_less, next_err, stopped_over, chosen, named_still, follows_ok, follows_err, back_stopped, fact_point, point_in_code, point_in_spans}
use Rattle.asl_backward_flow.proofs.Linking.{masks_later}
use Rattle.asl_backward_flow.proofs.following.follow.Goals as goal

pub add_back-requires-clause-there : goal.add_back-requires-clause-there
add_back-requires-clause-there c = point_in_spans (read c.args.analysis.now) c.args.point.0 c.args.point.1 (fact_point (read c.args.analysis.now) c.requires.analysis (table c.args.found.now) _ c.requires.followed c.args.point.0 c.args.point.1 c.requires.there.0 c.requires.there.1)

pub add_back-requires-clause-code : goal.add_back-requires-clause-code
add_back-requires-clause-code c = point_in_code (read c.args.analysis.now) c.requires.analysis c.args.point.0 c.args.point.1 (fact_point (read c.args.analysis.now) c.requires.analysis (table c.args.found.now) _ c.requires.followed c.args.point.0 c.args.point.1 c.requires.there.0 c.requires.there.1)

pub add_back-requires-clause-chosen : goal.add_back-requires-clause-chosen
add_back-requires-clause-chosen c = chosen (read c.args.analysis.now) c.requires.analysis (table c.args.found.now) (table c.args.found.now) c.args.point c.args.scratch.now.set c.requires.followed c.requires.within c.requires.taken

pub returns-clause-ok : goal.returns-clause-ok
returns-clause-ok c =
    next_ok (read c.args.analysis.now) c.requires.analysis (table c.args.found.now) (table c.add_entry.new.found) c.args.point c.args.scratch.now.set c.requires.followed c.requires.within c.add_entry.result
    (follows_ok (read c.args.analysis.now) (table c.args.found.now) (table c.add_back.new.found) (table c.add_entry.new.found) c.args.point.0 c.args.point.1 c.args.scratch.now.set (chosen (read c.args.analysis.now) c.requires.analysis (table c.args.found.now) (table c.args.found.now) c.args.point c.args.scratch.now.set c.requires.followed c.requires.within c.requires.taken).named c.in_ok-add_back.ensures.ok c.add_entry.result (rw c.add_back.ensures.set at c.add_entry.ensures.ok))

pub returns-clause-less : goal.returns-clause-less
returns-clause-less c =
    next_less (read c.args.analysis.now) c.requires.analysis (table c.args.found.now) (table c.add_entry.new.found) c.args.point c.args.scratch.now.set c.requires.followed c.requires.within c.add_entry.result
    (follows_ok (read c.args.analysis.now) (table c.args.found.now) (table c.add_back.new.found) (table c.add_entry.new.found) c.args.point.0 c.args.point.1 c.args.scratch.now.set (chosen (read c.args.analysis.now) c.requires.analysis (table c.args.found.now) (table c.args.found.now) c.args.point c.args.scratch.now.set c.requires.followed c.requires.within c.requires.taken).named c.in_ok-add_back.ensures.ok c.add_entry.result (rw c.add_back.ensures.set at c.add_entry.ensures.ok))

pub returns-clause-err : goal.returns-clause-err
returns-clause-err c =
    next_err (read c.args.analysis.now) c.requires.analysis (table c.args.found.now) (table c.add_entry.new.found) c.args.point c.args.scratch.now.set c.requires.followed c.requires.within c.add_entry.result
    (follows_err (read c.args.analysis.now) (table c.args.found.now) (table c.add_back.new.found) (table c.add_entry.new.found) c.args.point.0 c.args.point.1 c.args.scratch.now.set (chosen (read c.args.analysis.now) c.requires.analysis (table c.args.found.now) (table c.args.found.now) c.args.point c.args.scratch.now.set c.requires.followed c.requires.within c.requires.taken).named c.in_ok-add_back.ensures.ok c.add_entry.result (rw c.add_back.ensures.set at c.add_entry.ensures.err))

pub returns-in_err-add_back-clause-err : goal.returns-in_err-add_back-clause-err
returns-in_err-add_back-clause-err c =
    let over = stopped_over (read c.args.analysis.now) c.requires.analysis (table c.args.found.now) (table c.add_back.new.found) c.args.point c.args.scratch.now.set c.requires.followed c.requires.within _
    (back_stopped (read c.args.analysis.now) (table c.args.found.now) (table c.add_back.new.found) (table c.add_back.new.found) c.args.point.0 c.args.point.1 c.args.scratch.now.set (chosen (read c.args.analysis.now) c.requires.analysis (table c.args.found.now) (table c.args.found.now) c.args.point c.args.scratch.now.set c.requires.followed c.requires.within c.requires.taken).named _ c.in_err-add_back.ensures.err) in
    search (rules, over)

pub add_entry-requires-clause-there : goal.add_entry-requires-clause-there
add_entry-requires-clause-there c = point_in_spans (read c.args.analysis.now) c.args.point.0 c.args.point.1 (fact_point (read c.args.analysis.now) c.requires.analysis (table c.args.found.now) _ c.requires.followed c.args.point.0 c.args.point.1 c.requires.there.0 c.requires.there.1)

pub add_entry-requires-clause-named : goal.add_entry-requires-clause-named
add_entry-requires-clause-named c =
    rw c.add_back.ensures.set (named_still (read c.args.analysis.now) (table c.args.found.now) (table c.add_back.new.found) (table c.add_back.new.found) c.args.point.0 c.args.point.1 c.args.scratch.now.set (chosen (read c.args.analysis.now) c.requires.analysis (table c.args.found.now) (table c.args.found.now) c.args.point c.args.scratch.now.set c.requires.followed c.requires.within c.requires.taken).named c.in_ok-add_back.ensures.ok)

pub returns-clause-masks : goal.returns-clause-masks
returns-clause-masks c = masks_later (read c.args.analysis.now) (table c.add_back.new.found) (table c.add_entry.new.found) (map (λ v. v.list.items) c.add_back.new.scratch.masks.items) _ c.in_ok-add_back.ensures.masks c.add_entry.result c.add_entry.ensures.ok
