use Rattle.std.proofs.Common.{◌≡◌, ◌-◌, ◌≤◌, IfSome, drop, map, string_bytes, take}
use Rattle.asl.proofs.process_words.process_words.Given as goal

abbrev pub invariant-loop-number : goal.invariant-loop-number
invariant-loop-number g l = record {
  behind : 1 ≤ l.number;
  first : IfSome (g.L.CommandLine.known l.line) (λ all. map string_bytes l.words.items ≡ take (l.number - 1) (drop 1 all));
}
