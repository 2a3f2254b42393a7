use Rattle.std.proofs.Common.{◌≡◌, ◌++◌, Bool, false, string_bytes, sym, subst}
use Rattle.asl_explain.specs.Told.{container_line}
use Rattle.asl_explain.specs.Telling.{given}
use Rattle.asl_explain.proofs.Piecing.{four}
use Rattle.asl_explain.proofs.text.Teller.push_container.Goals as goal

pub returns : goal.returns
returns c =
    let f = (given c.args.self.now).facts in
    let old = string_bytes c.args.text.now in
    let new = string_bytes c.push_str-2.new.self in
    let words : new ≡ old ++ container_line f c.args.function false c.args.lock.now =
    four _ _ _ _ _ _ _ _ _ c.in_ok-push_str.ensures.bytes c.in_ok-push_padded.ensures c.in_ok-push_lock_words.ensures c.in_ok-push_str-2.ensures.bytes in
    subst (λ (own : Bool). new ≡ old ++ container_line f c.args.function own c.args.lock.now) (sym c.if-own.false) words
