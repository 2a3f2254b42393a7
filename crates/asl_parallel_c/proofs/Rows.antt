-- The texts of the items of a list, added one after the other: what is left of the list makes the rest of the text.
use Rattle.std.proofs.Common.{◌≡◌, ℕ, ◌+◌, ◌<◌, ◌≤◌, List, [], ◌∷◌, ◌++◌, drop, length, get_or, sym, ap, ◌∙◌, append_assoc, add-one, drop-cons}
use Rattle.std.proofs.lemmas.List.{append-nil, drop_all}

-- F is the text of what is left before an item is written, and G after
module _ {X : Type 0} (F G : List X → List ℕ) where
  pub item_at : (one all mid new : List ℕ) (xs : List X) (i : ℕ) (d : X) → i < length xs → mid ++ F (drop i xs) ≡ all → new ≡ mid ++ one
      → F (get_or xs i d ∷ drop (i + 1) xs) ≡ one ++ G (drop (i + 1) xs) → new ++ G (drop (i + 1) xs) ≡ all
  item_at one all mid new xs i d lt h w is =
      let next : drop i xs ≡ get_or xs i d ∷ drop (i + 1) xs = rw add-one (drop-cons xs i d lt) in
      ap (λ (t : List ℕ). t ++ G (drop (i + 1) xs)) w ∙ append_assoc mid one (G (drop (i + 1) xs)) ∙ ap (λ (t : List ℕ). mid ++ t) (sym is)
      ∙ ap (λ (l : List X). mid ++ F l) (sym next) ∙ h

  -- the same where the item is bound
  pub item_done : (one all mid new : List ℕ) (xs : List X) (i : ℕ) (x : X) → i < length xs → x ≡ get_or xs i x → mid ++ F (drop i xs) ≡ all → new ≡ mid ++ one
      → F (x ∷ drop (i + 1) xs) ≡ one ++ G (drop (i + 1) xs) → new ++ G (drop (i + 1) xs) ≡ all
  item_done one all mid new xs i x lt at h w is =
      item_at one all mid new xs i x lt h w (ap (λ (y : X). F (y ∷ drop (i + 1) xs)) (sym at) ∙ is)

  pub all_done : (all new : List ℕ) (xs : List X) (i : ℕ) → length xs ≤ i → F [] ≡ [] → new ++ F (drop i xs) ≡ all → new ≡ all
  all_done all new xs i le none h = sym (append-nil new) ∙ ap (λ (t : List ℕ). new ++ t) (sym none) ∙ ap (λ (l : List X). new ++ F l) (sym (drop_all i xs le)) ∙ h
