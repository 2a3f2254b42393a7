use Rattle.std.proofs.Common.{◌≡◌, ◌+◌, ◌≤◌, [], Option, Some, None, ℕ, length, refl, sym, subst, arith}
use Rattle.asl_grammar.specs.declared.control.Control.{Control}
use Rattle.asl_grammar.specs.Lex.{tokens_of}
use Rattle.asl_grammar.specs.Grammar.{Judges}
use Rattle.asl_grammar.specs.Reader.{spots_left}
use Rattle.asl_grammar.specs.View.{spot_of}
use Rattle.asl_grammar.specs.Seen.{step_at, next_place}
use Rattle.asl_grammar.specs.Recent.{IsAfter}
use Rattle.asl_grammar.proofs.Judged.{stopped, ended}
use Rattle.asl_grammar.proofs.Reading.{none_left}
use Rattle.asl_grammar.proofs.InPlace.{place_at, at_place, no_place, reached_next, reached_fault, kept_depth}
use Rattle.asl_grammar.proofs.in_place.fault_in_place.Goals as goal
use Rattle.asl_grammar.proofs.in_place.fault_in_place.Goals.{After-keep, After-advance}

-- the greatest number of the code
abbrev most : ℕ
most = 18446744073709551615

pub reading-init : goal.reading-init
reading-init c = record {
  reached = record { kinds = []; walked = refl; left = sym c.new-tokens.ensures.tokens; recent = c.new-recent.ensures.recent most };
  few = omega (arith, (c.new-recent.ensures.recent 0).depth);
  room = omega arith;
}

-- the blocks are as many as before the text was read again
same_depth : (c : After-keep) → c.keep.new.self.depth ≡ c.reading.recent.depth
same_depth c =
    kept_depth (tokens_of c.args.text.now) c.reading.count c.reading.control c.reading.recent c.keep.new.self (spots_left c.reading.tokens) most c.reading.invariant.reached c.keep.ensures

-- and fewer than the bytes
low : (c : After-keep) → c.keep.new.self.depth + 1 ≤ most
low c =
    omega (arith, same_depth c, c.in-Token.ensures.shorter, c.reading.invariant.room, c.reading.invariant.few, c.new-tokens.result.fits)

pub advance-requires : goal.advance-requires
advance-requires c = omega (arith, low (goal.at.advance-requires c).After-keep)

-- what is answered is the automaton's
answered : (c : After-advance) (answer : Option Control) → c.advance.result ≡ answer → IsAfter (step_at (place_at c.reading.control c.reading.invariant.reached.kinds) (spot_of c.in-Token.spot).token) c.reading.invariant.reached.kinds most answer c.advance.new.self
answered c answer e =
    at_place (tokens_of c.args.text.now) c.reading.count c.reading.control c.reading.recent c.keep.new.self c.advance.new.self c.innermost-kind.result (spot_of c.in-Token.spot) (spots_left c.reading.tokens) most answer c.reading.invariant.reached c.keep.ensures c.innermost-kind.ensures (rw e at c.advance.ensures.next) (omega (arith, low (goal.at.After-advance c).After-keep))

pub reading-preserved : goal.reading-preserved
reading-preserved c =
    let after = (goal.at.reading-preserved c).After-advance in
    record {
      reached = reached_next (tokens_of c.args.text.now) c.reading.count c.reading.control c.in-Some.next c.reading.recent c.advance.new.self (spot_of c.in-Token.spot) (spots_left c.reading.tokens) (spots_left c.next.new.self) most c.reading.invariant.reached c.in-Token.ensures.found.0 (answered after (Some c.in-Some.next) c.in-Some.is);
      few = omega (arith, same_depth (goal.at.reading-preserved c).After-keep, c.reading.invariant.few, c.advance.ensures.depth);
      room = omega (arith, c.in-Token.ensures.shorter, c.reading.invariant.room);
    }

pub returns-in-None : goal.returns-in-None
returns-in-None c =
    let all = tokens_of c.args.text.now in
    let end = length c.args.text.now in
    let h = c.reading.invariant.reached in
    let rest = spots_left c.reading.tokens in
    let p = place_at c.reading.control h.kinds in
    let x = spot_of c.in-Token.spot in
    let after = answered (goal.at.returns-in-None c).After-advance None c.in-None.is in
    let stops : None ≡ next_place p x.token = sym (no_place h.kinds most c.advance.new.self (step_at p x.token) after) in
    stopped all rest (spots_left c.next.new.self) end p x (reached_fault all c.reading.count c.reading.control c.reading.recent rest most end h) c.in-Token.ensures.found.0 stops

pub returns : goal.returns
returns c =
    let all = tokens_of c.args.text.now in
    let end = length c.args.text.now in
    let P : Option ℕ → Type 0 = λ o. Judges all end o in
    let h = c.reading.invariant.reached in
    let none : spots_left c.reading.tokens ≡ [] = none_left c.reading.tokens c.next.new.self c.next.result c.next.ensures.found c.in_default.not-Token in
    subst P (sym c.fault_at_end.ensures) (ended all (spots_left c.reading.tokens) end (place_at c.reading.control h.kinds) (reached_fault all c.reading.count c.reading.control c.reading.recent (spots_left c.reading.tokens) most end h) none)
