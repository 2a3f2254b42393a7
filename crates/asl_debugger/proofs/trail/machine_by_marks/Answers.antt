use Rattle.std.proofs.Common.{◌≤◌, ◌+◌, ◌-◌, ◌/◌, length, arith}
use Rattle.asl_debugger.proofs.Marking.{left_in_the_middle}
use Rattle.asl_debugger.proofs.trail.machine_by_marks.Goals as goal

pub loop-here-preserved : goal.loop-here-preserved
loop-here-preserved g c =
    let so_far = c.loop-here.invariant in
    let middle = c.loop-here.here + (c.args.end - c.loop-here.here) / 2 in
    let order : middle ≤ c.args.end = omega (arith, so_far.order) in
    let within : middle ≤ length c.args.journal.now.events = omega (arith, so_far.order, c.requires.within) in
    let at = rw so_far.at at c.in_ok-machine.ensures.machine in
    record {
      at = at;
      order = order;
      marks = left_in_the_middle c.args.from.image c.args.journal.now middle c.loop-here.marks.items c.leave_mark.new.marks.items c.in_ok-machine.machine at within so_far.marks c.leave_mark.ensures;
    }
