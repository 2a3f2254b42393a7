use Rattle.std.proofs.Common.{subst, ◌++◌, ◌≡◌, Bool, string_bytes}
use Rattle.asl_explain.specs.Told.{container_line}
use Rattle.asl_explain.specs.Telling.{given}
use Rattle.asl_explain.proofs.Piecing.{words_then, tells_then, tells_words}
use Rattle.asl_explain.proofs.text.Teller.push_under.Goals as goal

pub returns : goal.returns
returns c =
    let f = (given c.args.self.now).facts in
    let last = subst (λ (own : Bool). string_bytes c.push_container.new.text ≡ string_bytes c.push_chain.new.text ++ container_line f c.args.function own c.args.lock.now) c.is_own.ensures c.in_ok-push_container.ensures in
    words_then _ _ _ _ _ c.in_ok-push_between.ensures (tells_then _ _ _ _ _ c.in_ok-push_chain.ensures (tells_words _ _ _ last))
