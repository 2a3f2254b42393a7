use Rattle.std.proofs.Common.{◌≡◌, IsTrue, ◌≤◌, ◌*◌, [], drop, take, map, length, Ok}
use Rattle.asl_lock_queue.specs.Asks.{ask_of, has_kinds}
use Rattle.asl_c_requests.specs.Traced.{gathered}
use Rattle.asl_c_requests.proofs.list_request.gather.Given as goal

abbrev pub invariant-loop-lock : goal.invariant-loop-lock
invariant-loop-lock l = record {
  gathered : gathered l.registers l.objects l.cells (drop l.lock-index l.locks) (Ok (map ask_of (take l.count l.asks))) ≡ gathered l.registers l.objects l.cells l.locks (Ok []);
  kinds : IsTrue (has_kinds (take l.count l.asks));
  rest : drop l.count l.asks ≡ drop l.count l.fn.asks;
  room : l.count ≤ 3 * l.lock-index;
  length : length l.asks ≡ length l.fn.asks;
}
