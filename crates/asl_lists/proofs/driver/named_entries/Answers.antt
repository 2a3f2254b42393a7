use Rattle.std.proofs.Common.{arith, ◌≡◌, ℕ, List, Some, false, map, slice_get, sym, subst}
use Rattle.std.proofs.lemmas.Grind.{common_steps}
use Rattle.asl_syntax.specs.View.{item_of}
use Rattle.asl_syntax.specs.Rules.{parameter_counts, differs}
use Rattle.asl_lists.specs.declared.driver.Entry.{Entry}
use Rattle.asl_lists.proofs.Entries.{all_more}
use Rattle.asl_lists.proofs.driver.named_entries.Goals as goal

pub loop-name-preserved : goal.loop-name-preserved
loop-name-preserved c =
    let fits : Entry → Type 0 = λ e. differs (parameter_counts (map item_of c.args.items.now) e.name.now) e.parameters ≡ false in
    let here = c.entry_of.result in
    let fit : fits here = subst (λ (name : List ℕ). differs (parameter_counts (map item_of c.args.items.now) name) here.parameters ≡ false) (sym c.entry_of.ensures.named) c.entry_of.ensures.fits in
    let before = c.loop-name.invariant.0 in
    let named = c.entry_of.ensures.named in (
      grind (arith, common_steps),
      subst (λ (es : List Entry). (n : ℕ) (e : Entry) → slice_get es n ≡ Some e → fits e) (sym {A = List Entry} c.in_ok-push.ensures.items) (all_more fits _ _ c.loop-name.invariant.1 fit),
    )
