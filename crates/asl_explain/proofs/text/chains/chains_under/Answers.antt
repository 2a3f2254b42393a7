use Rattle.std.proofs.Common.{List, ap, ◌∙◌}
use Rattle.std.specs.List.{flat_map}
use Rattle.std.proofs.lemmas.List.{take_all}
use Rattle.asl_explain.specs.declared.explained_value.Need.{Need}
use Rattle.asl_explain.specs.declared.text.chains.Numbered.{Numbered}
use Rattle.asl_explain.specs.Told.{chains_of}
use Rattle.asl_explain.proofs.Chosen.{flat_map_map}
use Rattle.asl_explain.proofs.text.chains.chains_under.Goals as goal

pub returns : goal.returns
returns c =
    let all = take_all c.loop-one.one-index c.deref-one-items.result.now c.loop-one-test.false ∙ c.deref-one-items.ensures.value in
    c.loop-one.invariant
    ∙ ap (λ (ns : List Numbered). flat_map (λ (n : Numbered). chains_of n.need.now) ns) all
    ∙ flat_map_map chains_of (λ (n : Numbered). n.need.now) c.in_ok-needs.needs.items
    ∙ ap (λ (ds : List Need). flat_map chains_of ds) c.in_ok-needs.ensures
