use Rattle.std.proofs.Common.{◌≡◌, ◌+◌, ◌∷◌, [], ◌++◌, ◌∙◌, ap, sym, arith, append_assoc, cond, true}
use Rattle.std.proofs.lemmas.List.{append-nil}
use Rattle.asl_lane_sets.specs.Packed.{has_bit, ones}
use Rattle.asl_lane_sets.proofs.Members.{one_more, none_between}
use Rattle.asl_lane_sets.proofs.bits.add_members.Goals as goal

pub loop-bit-init : goal.loop-bit-init
loop-bit-init c = record {
  added = sym (append-nil c.args.members.now.items) ∙ ap (λ xs. c.args.members.now.items ++ xs) (sym (none_between c.args.lane c.args.first 0 c.next_one-bit.result c.next_one-bit.ensures.low c.next_one-bit.ensures.none));
  most = c.next_one-bit.ensures.high;
  one = c.next_one-bit.ensures.one;
}

pub loop-bit-preserved : goal.loop-bit-preserved
loop-bit-preserved c =
    let bit = c.loop-bit.bit in
    let next = c.next_one-bit-in-loop-bit in
    let is : has_bit c.args.lane bit ≡ true = c.loop-bit.invariant.one c.loop-bit-test.true in
    let more : ones c.args.lane c.args.first next.result ≡ ones c.args.lane c.args.first bit ++ (c.args.first + bit) ∷ [] =
    none_between c.args.lane c.args.first (bit + 1) next.result next.ensures.low next.ensures.none
    ∙ one_more c.args.lane c.args.first bit ∙ ap (λ t. ones c.args.lane c.args.first bit ++ cond t ((c.args.first + bit) ∷ []) []) is in
    record {
      added = c.in_ok-push.ensures.items ∙ ap (λ xs. xs ++ (c.args.first + bit) ∷ []) c.loop-bit.invariant.added
          ∙ append_assoc c.args.members.now.items (ones c.args.lane c.args.first bit) _ ∙ ap (λ xs. c.args.members.now.items ++ xs) (sym more);
      most = next.ensures.high;
      one = next.ensures.one;
    }

pub returns : goal.returns
returns c =
    let end : c.loop-bit.bit ≡ 64 = omega (arith, c.loop-bit-test.false, c.loop-bit.invariant.most) in
    c.loop-bit.invariant.added ∙ ap (λ n. c.args.members.now.items ++ ones c.args.lane c.args.first n) end
