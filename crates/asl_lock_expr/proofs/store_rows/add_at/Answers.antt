use Rattle.std.proofs.Common.{◌≡◌, ◌<◌, ◌⊎◌, ◌↔◌, ◌++◌, ◌∷◌, [], ℕ, List, length, refl, ap, sym, ◌∙◌, subst, arith}
use Rattle.asl_lock_expr.specs.Storing.{IsIn, row}
use Rattle.asl_lock_expr.proofs.RowNumbers.{row_added_at, row_read, pushed_in, had_it}
use Rattle.asl_lock_expr.proofs.store_rows.add_at.Goals as goal

pub returns-in_ok-push-clause-rows : goal.returns-in_ok-push-clause-rows
returns-in_ok-push-clause-rows c =
    let grown = c.grow.new.rows.items in
    let place : ℕ = c.from-at.result in
    let number : ℕ = c.args.number in
    let there : place < length grown = omega (arith, c.in_ok-grow.ensures.many) in
    let read : row grown place ≡ c.index_mut-row.result.now = row_read grown place c.index_mut-row.result.now there c.index_mut-row.ensures.value in
    let pushed : c.push.new.self ≡ row grown place ++ number ∷ [] = c.in_ok-push.ensures.items ∙ ap (λ (xs : List ℕ). xs ++ number ∷ []) (sym read) in
    row_added_at c.args.rows.now.items grown _ place c.args.at number c.push.new.self c.from-at.ensures c.in_ok-grow.ensures.rows there refl
    (λ n. subst (λ (xs : List ℕ). IsIn xs n ↔ (IsIn (row grown place) n ⊎ (n ≡ number))) (sym pushed) (pushed_in (row grown place) number n))

pub returns-else-not-ends_with-clause-rows : goal.returns-else-not-ends_with-clause-rows
returns-else-not-ends_with-clause-rows c =
    let grown = c.grow.new.rows.items in
    let place : ℕ = c.from-at.result in
    let number : ℕ = c.args.number in
    let there : place < length grown = omega (arith, c.in_ok-grow.ensures.many) in
    let read : row grown place ≡ c.index_mut-row.result.now = row_read grown place c.index_mut-row.result.now there c.index_mut-row.ensures.value in
    let had : IsIn (row grown place) number = subst (λ (xs : List ℕ). IsIn xs number) (c.as_slice.ensures ∙ sym read) (c.if-not-ends_with.ensures refl) in
    row_added_at c.args.rows.now.items grown _ place c.args.at number c.index_mut-row.result.now c.from-at.ensures c.in_ok-grow.ensures.rows there refl
    (λ n. subst (λ (xs : List ℕ). IsIn xs n ↔ (IsIn (row grown place) n ⊎ (n ≡ number))) read (had_it (row grown place) number n had))
