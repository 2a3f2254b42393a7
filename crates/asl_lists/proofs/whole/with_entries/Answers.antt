use Rattle.std.proofs.Common.{◌≡◌, ◌∙◌, List, ℕ, ◌++◌, ap, string_bytes}
use Rattle.asl_lists.specs.Driver.{driver}
use Rattle.asl_lists.proofs.whole.with_entries.Goals as goal

pub returns : goal.returns
returns c =
    let es = c.in_ok-entries.entries.items in
    let is : string_bytes c.in_ok-driver.driver ≡ driver es = c.in_ok-driver.ensures ∙ ap driver c.deref.ensures.value in
    record {
      entries = es;
      named = c.in_ok-entries.ensures;
      text = c.in_ok-text.ensures ∙ ap (λ (d : List ℕ). c.args.source.now ++ d) (c.as_str.ensures.value ∙ is);
      added = is;
    }
