use Rattle.std.proofs.Common.{◌≡◌, ◌≤◌, ◌+◌, ◌-◌, length, take, drop}
use Rattle.asl_lock_forest.specs.Lists.{holding_of}
use Rattle.asl_lock_queue.specs.Lines.{held_of, wanted_of, waiters_of, HasRoom}
use Rattle.asl_lock_queue.specs.Serving.{IsServing}
use Rattle.asl_lock_queue.proofs.seats.Seats.serve.Given as goal

abbrev pub invariant-loop-place : goal.invariant-loop-place
invariant-loop-place l = record {
  serving : IsServing l.self.classes l.self.threads (holding_of (held_of l.fn.self)) (waiters_of l.fn.self)
      (held_of l.self) (wanted_of l.self) (take l.place l.self.line.items) (drop l.place l.self.line.items) (take l.count l.named);
  within : l.place ≤ length l.self.line.items;
  few : l.count + length l.self.line.items ≤ l.self.threads;
  long : l.self.threads ≤ length l.named;
  rest : drop l.count l.named ≡ drop l.count l.fn.named;
  classes : l.self.classes ≡ l.fn.self.classes;
  threads : l.self.threads ≡ l.fn.self.threads;
  room : l.self.room ≡ l.fn.self.room;
  wide : HasRoom l.fn.self → HasRoom l.self;
}

abbrev pub decreases-loop-place : goal.decreases-loop-place
decreases-loop-place l = length l.self.line.items - l.place
