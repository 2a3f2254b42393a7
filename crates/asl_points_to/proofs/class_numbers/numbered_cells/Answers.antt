use Rattle.std.proofs.Common.{ℕ, ◌<◌, ◌++◌, ◌∷◌, [], List, Option, length, take, get_or, None, sym, ap, ◌∙◌}
use Rattle.std.proofs.lemmas.List.{take_more, map_push}
use Rattle.asl_points_to.specs.Classes.{some_at}
use Rattle.asl_points_to.specs.Numbers.{numbered, numbered_cells}
use Rattle.asl_points_to.proofs.Cells.{read}
use Rattle.asl_points_to.proofs.Numbering.{if_some}
use Rattle.asl_points_to.proofs.class_numbers.numbered_cells.Goals as goal

pub numbered-requires-clause-member : goal.numbered-requires-clause-member
numbered-requires-clause-member c =
    let first = get_or c.args.firsts.now c.loop-first.first-index 0 in
    if_some (get_or c.args.cells.now first None) (λ m. m < length c.args.of.now)
    (λ m e. c.requires.members first m (read c.args.cells.now first ∙ e))

pub loop-first-preserved : goal.loop-first-preserved
loop-first-preserved c =
    let of = c.args.of.now in
    let cells = c.args.cells.now in
    let firsts = c.args.firsts.now in
    let i : ℕ = c.loop-first.first-index in
    let first : ℕ = get_or firsts i 0 in
    let class : ℕ → Option ℕ = λ m. numbered of (some_at cells m) in
    c.in_ok-push.ensures.items
    ∙ ap (λ (xs : List (Option ℕ)). xs ++ c.numbered.result ∷ []) c.loop-first.invariant
    ∙ ap (λ (o : Option ℕ). numbered_cells of cells (take i firsts) ++ o ∷ []) (c.numbered.ensures ∙ ap (numbered of) (sym (read cells first)))
    ∙ sym (ap (numbered_cells of cells) (take_more firsts i 0 c.loop-first-test.true) ∙ map_push class (take i firsts) first)
