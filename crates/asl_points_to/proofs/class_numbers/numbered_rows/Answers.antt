use Rattle.std.proofs.Common.{◌≡◌, ℕ, ◌+◌, ◌<◌, ◌++◌, ◌∷◌, List, Vec, Global, Option, Some, [], map, get_or, slice_get, length, inl, inr, sym, ap, ◌∙◌, subst, arith}
use Rattle.std.specs.Prelude.{option_map}
use Rattle.std.proofs.lemmas.Bool.{cases_eq}
use Rattle.std.proofs.lemmas.List.{length_push, length-map, get_or_push, get_or_append_left}
use Rattle.std.proofs.lemmas.Option.{slice_get-map, slice_get-get_or, slice_get_within, get_or_from_slice_get}
use Rattle.asl_code.specs.declared.image.Function as entry
use Rattle.asl_points_to.specs.Numbers.{numbered_row}
use Rattle.asl_points_to.proofs.Narrow.{row_at}
use Rattle.asl_points_to.proofs.class_numbers.numbered_rows.Goals as goal

pub numbered_row-requires-clause-members : goal.numbered_row-requires-clause-members
numbered_row-requires-clause-members c = λ r m e.
    c.requires.members (record { function = c.loop-number.number; register = r }) m (row_at c.args.rows.now c.loop-number.number r ∙ e)

pub loop-number-preserved : goal.loop-number-preserved
loop-number-preserved c =
    let i = c.loop-number.invariant in
    let rows : List (Vec (Option ℕ) Global) = c.loop-number.classes.items in
    let n : ℕ = c.loop-number.number in
    let new : Vec (Option ℕ) Global = c.in_ok-numbered_row.field-0 in
    let items = c.in_ok-push.ensures.items in
    let d : entry.Function = record { params = 0; regs = 0; len = 0 } in
    let items_of : Vec (Option ℕ) Global → List (Option ℕ) = λ r. r.items in
    let low : length (rows ++ new ∷ []) ≡ length rows + 1 = length_push rows new in
    let At : ℕ → List (Vec (Option ℕ) Global) → entry.Function → Type 0 = λ k xs f. slice_get (map items_of xs) k ≡ Some (numbered_row c.args.of.now (get_or c.args.rows.now k []) f.regs) in
    record {
      len = ap length items ∙ low ∙ ap (λ (k : ℕ). k + 1) i.len;
      each = λ k f lt at. (
          let Items : List (Vec (Option ℕ) Global) → Type 0 = λ xs. At k xs f in
          subst Items (sym items) (
          slice_get-map items_of (rows ++ new ∷ []) k ∙ ap (option_map items_of) (slice_get-get_or (rows ++ new ∷ []) k new (omega (arith, i.len)))
          ∙ elim (cases_eq k n) [
            | inl e ↦ (
                let same : get_or c.args.functions.now n d ≡ f = get_or_from_slice_get c.args.functions.now n f d (ap (slice_get c.args.functions.now) (sym e) ∙ at) in
                ap (λ (v : Vec (Option ℕ) Global). Some v.items) (get_or_push rows new new k (i.len ∙ sym e))
                ∙ ap Some c.in_ok-numbered_row.ensures
                ∙ ap (λ (x : entry.Function). Some (numbered_row c.args.of.now (get_or c.args.rows.now n []) x.regs)) same
                ∙ ap (λ (x : ℕ). Some (numbered_row c.args.of.now (get_or c.args.rows.now x []) f.regs)) (sym e))
            | inr ne ↦ (
                let before : k < length rows = omega (arith, i.len) in
                ap (λ (v : Vec (Option ℕ) Global). Some v.items) (get_or_append_left rows (new ∷ []) new k before)
                ∙ sym (slice_get-map items_of rows k ∙ ap (option_map items_of) (slice_get-get_or rows k new before))
                ∙ i.each k f (omega arith) at)
          ]));
    }

pub returns : goal.returns
returns c =
    let i = c.loop-number.invariant in
    let done = c.loop-number-test.false in
    let end = c.loop-number.auto.number-end in
    let items_of : Vec (Option ℕ) Global → List (Option ℕ) = λ r. r.items in
    record {
      len = length-map c.loop-number.classes.items items_of ∙ i.len ∙ omega arith;
      each = λ n f at. i.each n f (omega (arith, slice_get_within c.args.functions.now n f at)) at;
    }
