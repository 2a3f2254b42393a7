use Rattle.std.proofs.Common.{subst, flat_map, string_bytes}
use Rattle.asl_lower.specs.declared.section.Section.{Section}
use Rattle.asl_explain.specs.Told.{ended_lines}
use Rattle.asl_explain.specs.Telling.{Tells, given}
use Rattle.asl_explain.proofs.Piecing.{words_then, tells_then}
use Rattle.asl_explain.proofs.explained_text.push_section.Goals as goal

pub push_head-requires : goal.push_head-requires
push_head-requires c = c.section-section.ensures

pub returns : goal.returns
returns c =
    let g = given c.args.teller.now in
    let ended = subst (λ (s : Section). Tells (flat_map (ended_lines g.all g.facts s.function) c.args.ended.now) (string_bytes c.push_locks.new.text) (string_bytes c.push_ended.new.text)) c.section-section.ensures c.in_ok-push_ended.ensures in
    words_then _ _ _ _ _ c.in_ok-push_between.ensures (tells_then _ _ _ _ _ c.in_ok-push_head.ensures (tells_then _ _ _ _ _ c.in_ok-push_locks.ensures (tells_then _ _ _ _ _ ended (words_then _ _ _ _ _ c.in_ok-push_str.ensures.bytes c.in_ok-push_lengths.ensures))))
