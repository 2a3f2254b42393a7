use Rattle.std.specs.BinaryHeap.{heap_items}
use Rattle.asl_backward_flow.proofs.Waits.{put_row, put_rest}
use Rattle.asl_backward_flow.proofs.waiting.Waiting.put.Goals as goal

pub returns-then-is_behind-clause-ok : goal.returns-then-is_behind-clause-ok
returns-then-is_behind-clause-ok c =
    put_row c.self.inside.row.items (heap_items c.self.inside.others) c.push.new.self.items c.args.self.now c.self.view_is c.args.point c.args.is_new c.if-not-is_new.false c.in_ok-push.ensures.items

pub returns-clause-ok : goal.returns-clause-ok
returns-clause-ok c =
    put_rest c.self.inside.row.items (heap_items c.self.inside.others) (heap_items c.push-2.new.self) c.args.self.now c.self.view_is c.args.point c.args.is_new c.if-not-is_new.false c.in_ok-push-2.ensures.permutation
