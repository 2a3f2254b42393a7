use Rattle.std.proofs.Common.{◌≡◌, ℕ, ◌<◌, List, length, sym, ap, ◌∙◌, subst}
use Rattle.std.specs.List.{All}
use Rattle.asl_points_to.proofs.Numbering.{small_numbers, firsts_there}
use Rattle.asl_points_to.proofs.class_table.Classes.numbered.Goals as goal

pub numbered_cells-requires-clause-firsts : goal.numbered_cells-requires-clause-firsts
numbered_cells-requires-clause-firsts c =
    let s = c.args.draft.now in
    let n = c.args.numbers.now in
    let There : List ℕ → Type 0 = λ xs. All (λ m. m < length c.deref-5.result.now) xs in
    let Low : ℕ → Type 0 = λ k. All (λ m. m < k) n.firsts.items in
    let cells : length c.deref-5.result.now ≡ length s.cells.items = ap length c.deref-5.ensures.value in
    subst There (sym c.deref-6.ensures.value)
    (subst Low (sym (cells ∙ c.requires.draft.draft.cells)) (firsts_there s.sets n.of.items n.firsts.items c.requires.numbers))

pub numbered_cells-requires-clause-small : goal.numbered_cells-requires-clause-small
numbered_cells-requires-clause-small c =
    let s = c.args.draft.now in
    let n = c.args.numbers.now in
    let Small : List ℕ → Type 0 = λ xs. All (λ m. m < 65536) xs in
    subst Small (sym c.deref-4.ensures.value) (small_numbers s.sets n.of.items n.firsts.items c.requires.numbers c.requires.few)
