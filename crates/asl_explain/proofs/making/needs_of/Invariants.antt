use Rattle.std.proofs.Common.{◌≡◌, ◌↔◌, take}
use Rattle.asl_code.specs.declared.lock.Lock.{Lock}
use Rattle.asl_lock_expr.specs.Links.{IsOne}
use Rattle.asl_explain.specs.Explained.{AreNeeds, IsOneOf, locks_of}
use Rattle.asl_explain.specs.Analysed.{read}
use Rattle.asl_explain.specs.Known.{AreKnown}
use Rattle.asl_explain.proofs.making.needs_of.Given as goal

abbrev pub invariant-loop-lock : goal.invariant-loop-lock
invariant-loop-lock l = record {
  needs : AreNeeds (read l.analysis) l.number l.section l.needs.items;
  locks : (n : Lock) → IsOneOf l.needs.items n ↔ IsOne (take l.lock-index l.locks) n;
  known : AreKnown (read l.analysis) l.known;
  same : locks_of l.needs.items ≡ take l.lock-index l.locks;
}
