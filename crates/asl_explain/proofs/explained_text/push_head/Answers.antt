use Rattle.std.proofs.Common.{◌++◌, ◌≡◌, subst, string_bytes}
use Rattle.asl_lower.specs.declared.section.Section.{Section}
use Rattle.asl_explain.specs.Told.{place_words}
use Rattle.asl_explain.specs.Telling.{given}
use Rattle.asl_explain.proofs.Piecing.{words_then, tells_rest}
use Rattle.asl_explain.proofs.explained_text.push_head.Goals as goal

pub returns : goal.returns
returns c =
    let g = given c.args.teller.now in
    let place = subst (λ (s : Section). string_bytes c.push_place_of_section.new.text ≡ string_bytes c.push_number.new.text ++ place_words g.facts g.k_limit s) c.requires c.in_ok-push_place_of_section.ensures in
    words_then _ _ _ _ _ c.in_ok-push_number.ensures (words_then _ _ _ _ _ place (words_then _ _ _ _ _ c.in_ok-push_count.ensures (words_then _ _ _ _ _ c.in_ok-push_plural.ensures (tells_rest _ _ _ c.in_ok-push_str.ensures.bytes))))
