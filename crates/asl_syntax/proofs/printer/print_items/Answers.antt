use Rattle.std.proofs.Common.{ℕ, List, [], ◌++◌, map, sym, ap, ◌∙◌}
use Rattle.std.proofs.lemmas.List.{append-nil}
use Rattle.asl_syntax.specs.View.{item_of}
use Rattle.asl_syntax.specs.Pieces.{items_bytes}
use Rattle.asl_syntax.proofs.Spaced.{items_spaced}
use Rattle.asl_syntax.proofs.printer.print_items.Goals as goal

pub returns : goal.returns
returns c =
    let is = map item_of c.args.items.now in
    c.in_ok-push_items.ensures
    ∙ ap (λ (bs : List ℕ). bs ++ items_bytes is) c.new-out.ensures.items
    ∙ sym (append-nil (items_bytes is))
    ∙ items_spaced is []
