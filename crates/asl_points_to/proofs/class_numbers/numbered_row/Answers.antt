use Rattle.std.proofs.Common.{◌≡◌, ℕ, ◌<◌, ◌++◌, ◌∷◌, [], List, Option, length, get_or, None, sym, ap, ◌∙◌, arith}
use Rattle.std.proofs.lemmas.List.FromFn.{map-range_with_len_more}
use Rattle.asl_points_to.specs.Classes.{some_at}
use Rattle.asl_points_to.specs.Numbers.{numbered, numbered_row}
use Rattle.asl_points_to.proofs.Cells.{read}
use Rattle.asl_points_to.proofs.Numbering.{if_some}
use Rattle.asl_points_to.proofs.class_numbers.numbered_row.Goals as goal

pub numbered-requires-clause-member : goal.numbered-requires-clause-member
numbered-requires-clause-member c =
    if_some (get_or c.args.row.now c.from-in-loop-register.result None) (λ m. m < length c.args.of.now)
    (λ m e. c.requires.members c.from-in-loop-register.result m (read c.args.row.now c.from-in-loop-register.result ∙ e))

pub loop-register-preserved : goal.loop-register-preserved
loop-register-preserved c =
    let of = c.args.of.now in
    let row = c.args.row.now in
    let register : ℕ = c.loop-register.register in
    let class : ℕ → Option ℕ = λ r. numbered of (some_at row r) in
    let read_is : c.numbered.result ≡ class register =
    c.numbered.ensures ∙ ap (numbered of) (sym (read row c.from-in-loop-register.result) ∙ ap (some_at row) c.from-in-loop-register.ensures) in
    c.in_ok-push.ensures.items
    ∙ ap (λ (xs : List (Option ℕ)). xs ++ c.numbered.result ∷ []) c.loop-register.invariant
    ∙ ap (λ (o : Option ℕ). numbered_row of row register ++ o ∷ []) read_is
    ∙ sym (map-range_with_len_more class 0 register register (omega arith))
