use Rattle.std.proofs.Common.{arith, ◌≡◌, None, Some, true, false, sym, ◌∙◌, subst}
use Rattle.asl_grammar.specs.Reader.{spots_left, bad_left}
use Rattle.asl_grammar.specs.View.{spot_of}
use Rattle.asl_grammar.specs.ControlView.{control_of}
use Rattle.asl_syntax.specs.Limit.{Tally, is_over}
use Rattle.asl_syntax.specs.TallyView.{tally_in}
use Rattle.asl_syntax.specs.Built.{next}
use Rattle.asl_syntax.specs.BuilderView.{stack_of, state_in}
use Rattle.asl_syntax.proofs.Fitting.{ControlFits, keeps_fitting}
use Rattle.asl_syntax.specs.View.{items_of}
use Rattle.asl_syntax.proofs.Building.{same_next, stopped_over, stopped_token, at_last}
use Rattle.asl_syntax.proofs.Made.{never, told}
use Rattle.asl_syntax.proofs.build.build.Goals as goal

pub reading-preserved : goal.reading-preserved
reading-preserved c =
    let from = control_of c.reading.control in
    let to = control_of c.in-Some.next in
    let old = stack_of c.reading.builder in
    let new = stack_of c.advance.new.self in
    let y = tally_in c.reading.counts in
    let x = spot_of c.in-Token.spot in
    let left = spots_left c.next.new.self in
    let n : Some (state_in c.in-Some.next c.advance.new.self) ≡ next from old x.token = rw c.in-Some.is at c.in_ok-advance-in-Token.ensures in
    let within : is_over y x.token ≡ false = sym c.is_over.ensures ∙ c.if-is_over.false in
    record {
      same = same_next y (tally_in c.note.new.self) from to old new x _ (spots_left c.reading.tokens) left (bad_left c.reading.tokens) (bad_left c.next.new.self) c.reading.invariant.same c.in-Token.ensures.found.0 c.in-Token.ensures.found.1 within n c.note.ensures;
      fits = subst (λ (z : Tally). ControlFits to z.last) (sym c.note.ensures) (keeps_fitting from to old new y x.token c.reading.invariant.fits within n);
    }

pub returns-then-is_over : goal.returns-then-is_over
returns-then-is_over c =
    let over : is_over (tally_in c.reading.counts) (spot_of c.in-Token.spot).token ≡ true = sym c.is_over.ensures ∙ c.if-is_over.true in
    never c.args.text.now (stopped_over (tally_in c.reading.counts) (control_of c.reading.control) (stack_of c.reading.builder) (spot_of c.in-Token.spot) _ (spots_left c.reading.tokens) (spots_left c.next.new.self) (bad_left c.reading.tokens) c.reading.invariant.same c.in-Token.ensures.found.0 over)

pub returns-in-None : goal.returns-in-None
returns-in-None c =
    let within : is_over (tally_in c.reading.counts) (spot_of c.in-Token.spot).token ≡ false = sym c.is_over.ensures ∙ c.if-is_over.false in
    let stuck : None ≡ next (control_of c.reading.control) (stack_of c.reading.builder) (spot_of c.in-Token.spot).token = rw c.in-None.is at c.in_ok-advance-in-Token.ensures in
    never c.args.text.now (stopped_token (tally_in c.reading.counts) (control_of c.reading.control) (stack_of c.reading.builder) (spot_of c.in-Token.spot) _ (spots_left c.reading.tokens) (spots_left c.next.new.self) (bad_left c.reading.tokens) c.reading.invariant.same c.in-Token.ensures.found.0 within stuck)

pub returns-in-End : goal.returns-in-End
returns-in-End c =
    let whole = at_last (tally_in c.reading.counts) (control_of c.reading.control) (stack_of c.reading.builder) _ (spots_left c.reading.tokens) (bad_left c.reading.tokens) None c.reading.invariant.same c.in-End.ensures.found.0 c.in-End.ensures.found.1 in
    told items_of c.args.text.now c.into_items.result (omega (arith, c.if-text-gt-MAX_BYTES.false)) (c.into_items.ensures ∙ whole)

pub returns-in-Bad : goal.returns-in-Bad
returns-in-Bad c =
    never c.args.text.now (at_last (tally_in c.reading.counts) (control_of c.reading.control) (stack_of c.reading.builder) _ (spots_left c.reading.tokens) (bad_left c.reading.tokens) (Some c.in-Bad.field-0) c.reading.invariant.same c.in-Bad.ensures.found.0 c.in-Bad.ensures.found.1)
