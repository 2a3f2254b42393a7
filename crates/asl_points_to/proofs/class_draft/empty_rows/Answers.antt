use Rattle.std.proofs.Common.{ℕ, zero, suc, ◌+◌, List, [], ◌∷◌, ◌++◌, length, Option, None, replicate, ◌≡◌, refl, sym, ap, ◌∙◌, subst}
use Rattle.std.specs.Prelude.{option_and_then, slice_get}
use Rattle.std.proofs.lemmas.List.{length_push}
use Rattle.asl_points_to.specs.Classes.{some_at}
use Rattle.asl_points_to.specs.declared.value_flow.Place.{Place}
use Rattle.asl_points_to.specs.Draft.{entry}
use Rattle.asl_points_to.proofs.class_draft.empty_rows.Goals as goal

nowhere : (n r : ℕ) → some_at (replicate n None) r ≡ None
nowhere zero r = refl
nowhere (suc n) zero = refl
nowhere (suc n) (suc r) = nowhere n r

abbrev in_row : List (List (Option ℕ)) → ℕ → ℕ → Option ℕ
in_row rows f r = option_and_then (λ (row : List (Option ℕ)). some_at row r) (slice_get rows f)

pushed : (n : ℕ) (rows : List (List (Option ℕ))) (f r : ℕ) → ((g : ℕ) → in_row rows g r ≡ None) → in_row (rows ++ replicate n None ∷ []) f r ≡ None
pushed n [] zero r h = nowhere n r
pushed n [] (suc f) r h = refl
pushed n (row ∷ rows) zero r h = h zero
pushed n (row ∷ rows) (suc f) r h = pushed n rows f r (λ g. h (suc g))

pub loop-preserved : goal.loop-preserved
loop-preserved c =
    let items = c.in_ok-push.ensures.items in
    let Empty : List (List (Option ℕ)) → Type 0 = λ rows. (p : Place) → entry rows p ≡ None in
    record {
      len = ap length items ∙ length_push c.loop.rows.items (replicate 256 None) ∙ ap (λ (n : ℕ). n + 1) c.loop.invariant.len;
      empty = subst Empty (sym items) (λ p. pushed 256 c.loop.rows.items p.function p.register (λ g. c.loop.invariant.empty (record { function = g; register = p.register })));
    }
