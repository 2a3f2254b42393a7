-- the characters so far are written, and those left make up the whole
use Rattle.std.proofs.Common.{◌≡◌, ℕ, List, ◌++◌, drop, encode_utf8_all}
use Rattle.std.specs.Fmt.{HasWritten, IsPlainFormatter}
use Rattle.asl_syntax.proofs.name.NameDisplay.fmt.Given as goal

abbrev pub invariant-loop-b : goal.invariant-loop-b
invariant-loop-b g l =
    IsPlainFormatter l.fn.f
    → (done : List ℕ) × HasWritten g.W.Write.write_str_gives l.fn.f done l.f × (done ++ encode_utf8_all (drop l.b-index l.b-items) ≡ encode_utf8_all l.fn.self)
