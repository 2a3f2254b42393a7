use Rattle.std.proofs.Common.{◌++◌, ◌+◌, drop, encode_utf8, encode_utf8_all, sym, ap, ◌∙◌, append_assoc, rules}
use Rattle.std.proofs.Output.{has_written_append}
use Rattle.std.proofs.lemmas.List.{at_drop_more}
use Rattle.asl_syntax.proofs.name.NameDisplay.fmt.Goals as goal

pub loop-b-preserved : goal.loop-b-preserved
loop-b-preserved g c =
    λ plain.
    let now = c.loop-b.invariant plain in
    let items = c.as_slice-b-items.result.now in
    let ch = c.from.result in (
      now.0 ++ encode_utf8 ch,
      has_written_append _ _ _ _ _ _ now.1 (search rules),
      append_assoc now.0 (encode_utf8 ch) _
          ∙ ap (λ l. now.0 ++ l) (ap (λ k. encode_utf8 k ++ encode_utf8_all (drop (c.loop-b.b-index + 1) items)) c.from.ensures ∙ sym (at_drop_more encode_utf8_all items c.loop-b.b-index 0 c.loop-b-test.true))
          ∙ now.2,
    )
