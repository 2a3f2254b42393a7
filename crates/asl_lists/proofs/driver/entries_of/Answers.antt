use Rattle.std.proofs.Common.{◌≡◌, ◌∙◌, ◌++◌, ℕ, List, IfOk, map, string_bytes, subst}
use Rattle.std.proofs.lemmas.Bool.{both_ways}
use Rattle.asl_syntax.specs.Tree.{Item}
use Rattle.asl_syntax.specs.Parsed.{Parses}
use Rattle.asl_syntax.specs.Fault.{IsFault}
use Rattle.asl_syntax.specs.AstView.{tree_of}
use Rattle.asl_lists.specs.Driver.{bare_main}
use Rattle.asl_lists.proofs.Entries.{AllFit, entries_parsed, entries_refused}
use Rattle.asl_lists.proofs.driver.entries_of.Goals as goal

pub returns-in-Ok : goal.returns-in-Ok
returns-in-Ok c =
    let tree = tree_of c.in-Ok.ast in
    let whole : c.deref.result.now ≡ c.args.source.now ++ bare_main = c.deref.ensures.value ∙ c.in_ok-whole.ensures in
    let parses : Parses (c.args.source.now ++ bare_main) tree = subst (λ (text : List ℕ). Parses text tree) whole c.in-Ok.ensures.ok in
    entries_parsed _ c.args.source.now (map string_bytes c.args.names.now) tree c.named_entries.result parses c.named_entries.ensures.named
    (subst (λ (t : List Item). IfOk c.named_entries.result (λ entries. AllFit t entries.items)) c.items.ensures.items c.named_entries.ensures.fit)

pub returns : goal.returns
returns c =
    let whole : c.deref.result.now ≡ c.args.source.now ++ bare_main = c.deref.ensures.value ∙ c.in_ok-whole.ensures in
    let is = subst (λ (text : List ℕ). IsFault text c.in-Err.fault) whole c.in-Err.ensures.err in
    entries_refused _ c.args.source.now (map string_bytes c.args.names.now) c.in-Err.fault c.named_entries-in-Err-2.result is
    (λ lack. both_ways _ c.if-is_lack.false (c.is_lack.ensures lack)) c.named_entries-in-Err-2.ensures.named
