use Rattle.std.proofs.Common.{◌≡◌, ◌≤◌, Some, map, slice_get, vec_len}
use Rattle.asl_backward_flow.specs.declared.span.Span.{Span}
use Rattle.asl_backward_flow.proofs.CallRows.{HasRange}
use Rattle.asl_backward_flow.proofs.graph.add_region.Given as goal

abbrev pub invariant-loop-pc : goal.invariant-loop-pc
invariant-loop-pc l =
    (span : Span) × (slice_get l.spans l.part ≡ Some span) × (span.end ≡ l.pc-end) × (span.first ≤ l.pc)
    × HasRange (map (λ r. r.items) l.rows.items) l.lowering l.spans l.part span l.pc × (vec_len l.rows ≡ vec_len l.fn.rows)
