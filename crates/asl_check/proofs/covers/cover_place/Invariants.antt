use Rattle.std.proofs.Common.{◌≡◌, take}
use Rattle.asl_check.specs.Checked.{IsUnderOne}
use Rattle.asl_check.proofs.covers.cover_place.Given as goal

abbrev pub invariant-loop-over : goal.invariant-loop-over
invariant-loop-over l = record {
  bare : ¬ IsUnderOne l.classes l.function (take l.over-index l.list) l.lock;
  place : l.place ≡ l.over-index;
}
