use Rattle.std.proofs.Common.{◌≡◌, drop, Ok, Some}
use Rattle.asl_c_requests.specs.Traced.{traced}
use Rattle.asl_c_requests.proofs.tracing.trace.Given as goal

abbrev pub invariant-loop-op : goal.invariant-loop-op
invariant-loop-op l = traced l.objects l.cells (drop l.op-index l.path) (Ok (Some l.cell)) ≡ traced l.objects l.cells l.path (Ok (Some l.fn.start))
