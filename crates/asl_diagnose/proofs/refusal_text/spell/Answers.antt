use Rattle.std.proofs.Common.{ℕ, Option, rules, append_assoc, subst}
use Rattle.asl_diagnose.specs.RefusalText.{IsByteTold}
use Rattle.asl_diagnose.proofs.refusal_text.spell.Goals as goal

pub returns : goal.returns
returns c =
    let rest = c.in_ok-push_rest.ensures.1 in
    let line = c.in_ok-push_line.ensures.2 in
    let byte = c.in_ok-push_byte.ensures.2 in
    record {
      sentence = c.as_bytes.result.now;
      letter = c.in_ok-push_byte.ensures.0;
      is_letter = subst (λ (at : Option ℕ). IsByteTold c.args.text.now at c.in_ok-push_byte.ensures.0) c.byte_at.ensures c.in_ok-push_byte.ensures.1;
      place = c.shown_place.result;
      is_place = c.shown_place.ensures.place;
      lines = c.in_ok-push_line.ensures.0;
      are_lines = c.in_ok-push_line.ensures.1;
      hints = c.in_ok-push_rest.ensures.0;
      begins = search (rules, append_assoc);
    }
