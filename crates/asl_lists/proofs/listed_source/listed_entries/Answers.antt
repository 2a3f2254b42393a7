use Rattle.std.proofs.Common.{◌≡◌, List, ℕ, ◌++◌, string_bytes, subst, ◌∙◌}
use Rattle.asl_lists.specs.Driver.{driver}
use Rattle.asl_lists.specs.Listed.{IsToldFor}
use Rattle.asl_lists.proofs.Texts.{said}
use Rattle.asl_lists.proofs.listed_source.listed_entries.Goals as goal

pub returns-clause-told : goal.returns-clause-told
returns-clause-told c =
    let w = c.in_ok-whole.ensures in
    let source = c.args.source.now in
    let added : c.as_str.result.now ≡ driver w.entries = c.as_str.ensures.value ∙ w.added in
    let whole : c.deref.result.now ≡ source ++ driver w.entries = c.deref.ensures.value ∙ w.text in
    said c.listed_whole.result _ _
    (λ t h. (w.entries, w.named, subst (λ (x : List ℕ). IsToldFor x c.args.k (driver w.entries) (string_bytes t)) whole (subst (λ (d : List ℕ). IsToldFor c.deref.result.now c.args.k d (string_bytes t)) added h)))
    c.listed_whole.ensures.told
