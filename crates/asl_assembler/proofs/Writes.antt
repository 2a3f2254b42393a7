-- Writing things one after the other, as a loop does.
use Rattle.std.proofs.Common.{◌≡◌, ℕ, ◌+◌, ◌≤◌, ◌<◌, List, [], ◌∷◌, ◌++◌, length, take, get_or, sym, ap, subst, ◌∙◌, append_assoc}
use Rattle.std.specs.List.{flat_map, AllByRecursion}
use Rattle.std.proofs.lemmas.List.{append-nil, take_more, take_all}
use Rattle.std.proofs.lemmas.List.Concat.{flat_map-append}
use Rattle.asl_assembler.specs.Writing.{Writes, WritesEach}

pub all_append : {X : Type 0} (P : X → Type 0) (xs ys : List X) → AllByRecursion P xs → AllByRecursion P ys → AllByRecursion P (xs ++ ys)
all_append P [] ys h k = k
all_append P (x ∷ xs) ys h k = (h.0, all_append P xs ys h.1 k)

module _ (X : Type 0) (Fits : X → Type 0) (text_of : X → List ℕ) where
  pub none_written : (old : List ℕ) → WritesEach X Fits text_of old old []
  none_written old = record { each = tt; added = sym (append-nil old) }

  pub one_written : (old mid new : List ℕ) (xs : List X) (x : X) → WritesEach X Fits text_of old mid xs → Writes X Fits text_of mid new x → WritesEach X Fits text_of old new (xs ++ x ∷ [])
  one_written old mid new xs x w v = record {
    each = all_append Fits xs (x ∷ []) w.each (v.fits, tt);
    added =
        let more : flat_map text_of (xs ++ x ∷ []) ≡ flat_map text_of xs ++ text_of x = flat_map-append text_of xs (x ∷ []) ∙ ap (λ (t : List ℕ). flat_map text_of xs ++ t) (append-nil (text_of x)) in
        v.added ∙ ap (λ (t : List ℕ). t ++ text_of x) w.added ∙ append_assoc old (flat_map text_of xs) (text_of x) ∙ ap (λ (t : List ℕ). old ++ t) (sym more);
  }

  pub more_written : (old mid new : List ℕ) (xs : List X) (i : ℕ) (x : X) → i < length xs → x ≡ get_or xs i x → WritesEach X Fits text_of old mid (take i xs) → Writes X Fits text_of mid new x → WritesEach X Fits text_of old new (take (i + 1) xs)
  more_written old mid new xs i x lt at w v =
      let more : take (i + 1) xs ≡ take i xs ++ x ∷ [] = take_more xs i x lt ∙ ap (λ (y : X). take i xs ++ y ∷ []) (sym at) in
      rw more (one_written old mid new (take i xs) x w v)

  pub more_at : (old mid new : List ℕ) (xs : List X) (i : ℕ) (d : X) → i < length xs → WritesEach X Fits text_of old mid (take i xs) → Writes X Fits text_of mid new (get_or xs i d) → WritesEach X Fits text_of old new (take (i + 1) xs)
  more_at old mid new xs i d lt w v = rw (take_more xs i d lt) (one_written old mid new (take i xs) (get_or xs i d) w v)

  pub all_written : (old new : List ℕ) (xs : List X) (i : ℕ) → length xs ≤ i → WritesEach X Fits text_of old new (take i xs) → WritesEach X Fits text_of old new xs
  all_written old new xs i le w = subst (WritesEach X Fits text_of old new) (take_all i xs le) w
