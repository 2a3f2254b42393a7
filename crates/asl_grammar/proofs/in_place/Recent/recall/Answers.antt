use Rattle.std.proofs.Common.{◌≡◌, ◌<◌, List, inl, inr, refl, ap, ◌∙◌, arith}
use Rattle.asl_grammar.specs.Token.{Spot}
use Rattle.asl_grammar.specs.Reader.{spots_left}
use Rattle.asl_grammar.specs.View.{spot_of}
use Rattle.asl_grammar.specs.Seen.{start_place}
use Rattle.asl_grammar.specs.Recent.{walk, IsRecent}
use Rattle.asl_grammar.proofs.Reading.{none_left}
use Rattle.asl_grammar.proofs.InPlace.{again_next, again_goes, again_found, again_end}
use Rattle.asl_grammar.proofs.in_place.Recent.recall.Goals as goal

pub again-init : goal.again-init
again-init c =
    let none : c.new-recent.result.depth ≡ 0 = (c.new-recent.ensures.recent 0).depth in
    record {
      again = λ p e. record {
        now = start_place;
        leads = ap (λ (ss : List Spot). walk start_place c.args.count ss) c.new-tokens.ensures.tokens ∙ e;
        seen = inl refl;
        recent = c.new-recent.ensures.recent c.args.depth;
        opened = tt;
      };
      room = omega arith;
      lost = omega (arith, c.new-recent.ensures.lost);
    }

pub returns-in_default : goal.returns-in_default
returns-in_default c = λ p e d more.
    absurd (again_found c.again.control c.again.recent c.args.depth c.again.left (spots_left c.again.tokens) p c.again-test.true
    (none_left c.again.tokens c.next.new.self c.next.result c.next.ensures.found c.in_default.not-Token)
    (c.again.invariant.again p e))

pub returns-in_default-advance : goal.returns-in_default-advance
returns-in_default-advance c = λ p e d more.
    absurd (again_goes c.again.control c.again.recent c.advance.new.self c.args.depth c.again.left (spot_of c.in-Token.spot) c.taken_kind-kind.result (spots_left c.again.tokens) (spots_left c.next.new.self) p c.again-test.true c.in-Token.ensures.found.0 (c.again.invariant.again p e) c.taken_kind-kind.ensures (rw c.in_default-advance.is at c.advance.ensures.next))

pub again-preserved : goal.again-preserved
again-preserved c =
    let left : 0 < c.again.left = c.again-test.true in
    record {
      again = λ p e.
          again_next c.again.control c.in-Some.next c.again.recent c.advance.new.self c.args.depth c.again.left (spot_of c.in-Token.spot) c.taken_kind-kind.result (spots_left c.again.tokens) (spots_left c.next.new.self) p left c.in-Token.ensures.found.0 (c.again.invariant.again p e) c.taken_kind-kind.ensures c.in-Some.ensures.next;
      room = omega (arith, c.advance.ensures.depth, c.again.invariant.room);
      lost = omega (arith, c.advance.ensures.lost, c.again.invariant.lost);
    }

pub returns : goal.returns
returns c = λ p e d more.
    let kept : IsRecent c.again.recent p.kinds c.args.depth = again_end c.again.control c.again.recent c.args.depth c.again.left (spots_left c.again.tokens) p c.again-test.false (c.again.invariant.again p e) in
    (kept, inr (omega (arith, kept.depth, c.again.invariant.lost)))
