use Rattle.std.proofs.Common.{◌≡◌, ◌≤◌, take, drop, map, vec_capacity}
use Rattle.std.specs.List.{list_all}
use Rattle.asl_lock_queue.specs.Asks.{ask_of}
use Rattle.asl_c_forest.specs.Plain.{is_plain}
use Rattle.asl_c_forest.proofs.c_request.read_plain.Given as goal

abbrev pub invariant-loop-ask : goal.invariant-loop-ask
invariant-loop-ask l = record {
  items : l.request.items ≡ map ask_of (take l.ask-index l.asks);
  plain : list_all (is_plain l.classes) (drop l.ask-index l.asks) ≡ list_all (is_plain l.classes) l.asks;
  room : vec_capacity l.fn.request ≤ vec_capacity l.request;
}
