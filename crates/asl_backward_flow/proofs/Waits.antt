-- Points that wait: those of a row, and the rest.
use Rattle.std.proofs.Common.{◌≡◌, ℕ, Bool, true, List, [], ◌∷◌, ◌++◌, Option, None, Some, IfSome, IfNone, ap, sym, subst, ◌∙◌}
use Rattle.std.specs.Option.{option_to_list}
use Rattle.std.specs.List.Sorted.{IsPermutation}
use Rattle.std.proofs.lemmas.List.{append-nil}
use Rattle.std.proofs.lemmas.List.Sorted.{IsPermutation-sym, IsPermutation-trans, IsPermutation-to_front, IsPermutation-middle, IsPermutation-append_left, IsPermutation-append_right}
use Rattle.asl_backward_flow.specs.Found.{IsPut}
use Rattle.asl_backward_flow.proofs.Closing.{put_push}

module _ (row rest new xs : List (ℕ × ℕ)) (is : row ++ rest ≡ xs) where
  -- a point more at the end of the row
  pub put_row : (p : ℕ × ℕ) (b : Bool) → b ≡ true → new ≡ row ++ p ∷ [] → IsPut xs (new ++ rest) p b
  put_row p b told pushed =
      put_push xs (new ++ rest) p b told
      (subst (λ l. IsPermutation (p ∷ l) (new ++ rest)) is
      (subst (λ l. IsPermutation (p ∷ (row ++ rest)) (l ++ rest)) (sym pushed)
      (IsPermutation-append_left rest (p ∷ row) (row ++ p ∷ []) (IsPermutation-sym (row ++ p ∷ []) (p ∷ row) (IsPermutation-to_front row p)))))

  -- a point more in the rest
  pub put_rest : (p : ℕ × ℕ) (b : Bool) → b ≡ true → IsPermutation (p ∷ rest) new → IsPut xs (row ++ new) p b
  put_rest p b told pushed =
      put_push xs (row ++ new) p b told
      (subst (λ l. IsPermutation (p ∷ l) (row ++ new)) is
      (IsPermutation-trans (p ∷ (row ++ rest)) (row ++ p ∷ rest) (row ++ new)
      (IsPermutation-sym (row ++ p ∷ rest) (p ∷ (row ++ rest)) (IsPermutation-middle row p rest)) (IsPermutation-append_right row (p ∷ rest) new pushed)))

  -- a point is taken from the end of the row, if there is one
  pub taken_row : (o : Option (ℕ × ℕ)) → row ≡ new ++ option_to_list o → IfSome o (λ p. IsPermutation xs (p ∷ (new ++ rest)))
  taken_row None popped = tt
  taken_row (Some p) popped =
      subst (λ l. IsPermutation l (p ∷ (new ++ rest))) is
      (subst (λ l. IsPermutation (l ++ rest) (p ∷ (new ++ rest))) (sym popped) (IsPermutation-append_left rest (new ++ p ∷ []) (p ∷ new) (IsPermutation-to_front new p)))

  pub same_row : (o : Option (ℕ × ℕ)) → row ≡ new ++ option_to_list o → IfNone o (new ++ rest ≡ xs)
  same_row None popped = ap (λ l. l ++ rest) (sym (popped ∙ append-nil new)) ∙ is
  same_row (Some p) popped = tt

  -- a point is taken from the rest, if there is one
  pub taken_rest : (o : Option (ℕ × ℕ)) → IfSome o (λ p. IsPermutation rest (p ∷ new)) → IfSome o (λ p. IsPermutation xs (p ∷ (row ++ new)))
  taken_rest None popped = tt
  taken_rest (Some p) popped =
      subst (λ l. IsPermutation l (p ∷ (row ++ new))) is
      (IsPermutation-trans (row ++ rest) (row ++ p ∷ new) (p ∷ (row ++ new)) (IsPermutation-append_right row rest (p ∷ new) popped) (IsPermutation-middle row p new))
