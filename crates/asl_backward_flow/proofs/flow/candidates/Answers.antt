use Rattle.std.proofs.Common.{◌≡◌, ◌↔◌, ◌+◌, ◌-◌, ◌∙◌, ℕ, map, take, drop, ap, sym, subst, arith}
use Rattle.asl_code.specs.declared.lock.Lock.{Lock}
use Rattle.asl_lower.specs.Regions.{Inside}
use Rattle.asl_backward_flow.specs.Needed.{IsTold, region_of}
use Rattle.asl_backward_flow.specs.Parts.{part}
use Rattle.asl_backward_flow.proofs.Listing.{placed_told}
use Rattle.asl_backward_flow.proofs.flow.candidates.Goals as goal

pub returns-in-Section : goal.returns-in-Section
returns-in-Section c =
    let place = c.from-place.result in
    let one : 1 ≡ place + 1 - place = omega arith in
    let is : region_of c.args.region ≡ Inside place = ap region_of c.in-Section.is ∙ ap Inside (sym c.from-place.ensures) in
    subst (λ len. (pc : ℕ) (m : Lock) → IsTold (map part (take len (drop place c.args.parts.now))) (region_of c.args.region) pc m ↔ IsTold (map part c.args.parts.now) (region_of c.args.region) pc m)
    one (λ pc m. placed_told c.args.parts.now (region_of c.args.region) place pc m is c.requires)
