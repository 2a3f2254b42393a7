use Rattle.std.proofs.Common.{ℕ, List, string_bytes, subst}
use Rattle.asl_explain.specs.declared.explained_value.Ended.{Ended}
use Rattle.asl_explain.specs.declared.explained_value.Listed.{Listed}
use Rattle.asl_explain.specs.Told.{section_told}
use Rattle.asl_explain.specs.Telling.{Tells, given}
use Rattle.asl_explain.proofs.explained_text.push_explained.Goals as goal

pub returns-clause-tells : goal.returns-clause-tells
returns-clause-tells c =
    let g = given c.args.teller.now in
    let old = string_bytes c.args.text.now in
    let new = string_bytes c.push_section.new.text in
    record {
      listed = c.in_ok-listed.listed;
      ended = c.in_ok-ended.ended;
      made = c.in_ok-listed.ensures.listed;
      ends = c.in_ok-ended.ensures;
      tells = subst (λ (n : ℕ). Tells (section_told g n c.in_ok-listed.listed c.in_ok-ended.ended) old new) c.from.ensures
          (subst (λ (ls : List Listed). Tells (section_told g c.from.result ls c.in_ok-ended.ended) old new) c.as_slice.ensures
          (subst (λ (es : List Ended). Tells (section_told g c.from.result c.as_slice.result.now es) old new) c.as_slice-2.ensures c.in_ok-push_section.ensures));
    }
