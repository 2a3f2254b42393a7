use Rattle.std.specs.BinaryHeap.{heap_items}
use Rattle.asl_backward_flow.proofs.Waits.{taken_row, same_row, taken_rest}
use Rattle.asl_backward_flow.proofs.waiting.Waiting.take.Goals as goal

pub returns-then-is_before-clause-point : goal.returns-then-is_before-clause-point
returns-then-is_before-clause-point c =
    taken_rest c.self.inside.row.items (heap_items c.self.inside.others) (heap_items c.pop.new.self) c.args.self.now c.self.view_is c.pop.result c.pop.ensures.permutation

pub returns-clause-point : goal.returns-clause-point
returns-clause-point c =
    taken_row c.self.inside.row.items (heap_items c.self.inside.others) c.pop-2.new.self.items c.args.self.now c.self.view_is c.pop-2.result c.pop-2.ensures.items

pub returns-clause-unchanged : goal.returns-clause-unchanged
returns-clause-unchanged c =
    same_row c.self.inside.row.items (heap_items c.self.inside.others) c.pop-2.new.self.items c.args.self.now c.self.view_is c.pop-2.result c.pop-2.ensures.items
