use Rattle.std.proofs.Common.{◌++◌, ◌≡◌, subst, string_bytes}
use Rattle.asl_lower.specs.declared.section.Section.{Section}
use Rattle.asl_explain.specs.Told.{lock_line, told_chains}
use Rattle.asl_explain.specs.Telling.{Tells, given}
use Rattle.asl_explain.proofs.Piecing.{words_then, tells_then, tells_words}
use Rattle.asl_explain.proofs.explained_text.push_lock.Goals as goal

pub returns : goal.returns
returns c =
    let g = given c.args.teller.now in
    let d = c.args.listed.now in
    let line = subst (λ (s : Section). string_bytes c.push_lock_line.new.text ≡ string_bytes c.args.text.now ++ lock_line g s.function d.lock) c.section-function.ensures c.in_ok-push_lock_line.ensures in
    let chains = subst (λ (s : Section). Tells (told_chains g s.function d) (string_bytes c.push_lock_line.new.text) (string_bytes c.push_chains.new.text)) c.section-function.ensures c.in_ok-push_chains.ensures in
    words_then _ _ _ _ _ line (tells_then _ _ _ _ _ chains (tells_then _ _ _ _ _ c.in_ok-push_others.ensures (tells_words _ _ _ c.in_ok-push_block.ensures)))
