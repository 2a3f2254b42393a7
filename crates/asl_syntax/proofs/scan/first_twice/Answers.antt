use Rattle.std.proofs.Common.{◌≡◌, ◌∷◌, ◌∙◌, List, ap, arith, drop, false, sym, take}
use Rattle.asl_syntax.specs.Mentions.{Mention}
use Rattle.asl_syntax.specs.Heard.{is_repeated}
use Rattle.asl_syntax.specs.WordView.{word_of, words_left}
use Rattle.asl_syntax.proofs.Scanned.{twice_left, twice_on, own_few, after_on, left_on}
use Rattle.asl_syntax.proofs.scan.first_twice.Goals as goal

pub reading-preserved : goal.reading-preserved
reading-preserved c =
    let all = words_left c.new-all.result in
    let own = words_left c.reading.own.words in
    let new = words_left c.own_with-own.result.words in
    let n = c.reading.count in
    let k = c.reading.own.count in
    let j = c.own_with-own.result.count in
    let m = word_of c.in-Some.word in
    let rest = words_left c.next.new.self in
    let next : words_left c.reading.here ≡ m ∷ rest = c.in-Some.ensures.0 in
    let left : drop n all ≡ m ∷ rest = c.reading.invariant.left ∙ next in
    let own_left : drop k own ≡ m ∷ rest = c.reading.invariant.own_left ∙ next in
    let once : is_repeated (take n all) (take k own) m ≡ false = sym c.is_repeated.ensures ∙ c.if-is_repeated.false in
    let on = twice_on all own new n k j m rest left own_left once c.own_with-own.ensures in
    record {
      left = after_on all n m rest left;
      own_left = on.0;
      same = left_on all own new n k j m rest _ on.1 (ap (λ (l : List Mention). twice_left all own n k l) (sym next) ∙ c.reading.invariant.same);
      few = omega (arith, c.in-Some.ensures.1, c.reading.invariant.few);
      own_few = omega (arith, own_few m rest own new k j c.own_with-own.ensures, c.reading.invariant.own_few);
    }
