use Rattle.std.proofs.Common.{List, ℕ, ◌++◌, append-nil, ap, string_bytes, sym, ◌∙◌}
use Rattle.asl_show.proofs.Frames.{no_frame}
use Rattle.asl_show.proofs.stack.push_frame.Goals as goal

pub returns-in-None : goal.returns-in-None
returns-in-None c =
    let old = string_bytes c.args.text.now in
    sym (append-nil old) ∙ ap (λ (l : List ℕ). old ++ l) (sym (no_frame c.args.machine.now.state c.args.t c.args.index (sym c.frame.ensures ∙ c.in-None.is)))
