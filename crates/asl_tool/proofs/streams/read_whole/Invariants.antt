use Rattle.std.proofs.Common.{◌≡◌, ◌<◌, ◌≤◌, List, ℕ, Some, IfSome}
use Rattle.std.specs.Prelude.{IfNone}
use Rattle.asl_tool.proofs.Parting.{Sized, Parted}
use Rattle.asl_tool.proofs.streams.read_whole.Given as goal

-- what was read, and then what the reader has left, is what it had at first; it is kept, as long as there is memory for it
abbrev pub invariant-loop : goal.invariant-loop
invariant-loop g l = record {
  grows : l.counter ≤ l.read;
  short : l.read ≤ 268435456;
  wanted : IfNone l.kept (0 < l.read);
  sized : Sized l.read (λ front. IfSome l.kept (λ all. all.items ≡ front));
  told : (bytes : List ℕ) → g.R.Read.remaining l.initial.reader ≡ Some bytes
      → Parted bytes (g.R.Read.remaining l.reader) l.read (λ front. IfSome l.kept (λ all. all.items ≡ front));
}
