-- Writing things one after the other, as a loop does.
use Rattle.std.proofs.Common.{◌≡◌, ℕ, ◌+◌, ◌≤◌, ◌<◌, List, [], ◌∷◌, ◌++◌, length, take, get_or, sym, ap, subst, ◌∙◌, append_assoc}
use Rattle.std.specs.List.{flat_map, AllByRecursion}
use Rattle.std.proofs.lemmas.List.{append-nil, take_more, take_all}
use Rattle.std.proofs.lemmas.List.Concat.{flat_map-append}
use Rattle.asl_loader.specs.Bytes.{Field, text_of}
use Rattle.asl_loader.specs.SharedFields.{Writes}
use Rattle.asl_loader.specs.Writing.{WritesEach}
use Rattle.asl_loader.proofs.Reader.{text_of-append}

each_more : (X : Type 0) (Is : X → Type 0) (xs : List X) (x : X) → AllByRecursion Is xs → Is x → AllByRecursion Is (xs ++ x ∷ [])
each_more X Is [] x each is = (is, tt)
each_more X Is (y ∷ ys) x each is = (each.0, each_more X Is ys x each.1 is)

module _ (X : Type 0) (Is : X → Type 0) (fields_of : X → List Field) where
  pub none_written : (old : List ℕ) → WritesEach X Is fields_of old old []
  none_written old = record { each = tt; added = sym (append-nil old) }

  one_written : (old mid new : List ℕ) (xs : List X) (x : X) → WritesEach X Is fields_of old mid xs → Writes X Is fields_of mid new x → WritesEach X Is fields_of old new (xs ++ x ∷ [])
  one_written old mid new xs x w v = record {
    each = each_more X Is xs x w.each v.is;
    added =
        let fields : flat_map fields_of (xs ++ x ∷ []) ≡ flat_map fields_of xs ++ fields_of x = flat_map-append fields_of xs (x ∷ []) ∙ ap (λ (t : List Field). flat_map fields_of xs ++ t) (append-nil (fields_of x)) in
        v.added ∙ ap (λ (t : List ℕ). t ++ text_of (fields_of x)) w.added ∙ append_assoc old (text_of (flat_map fields_of xs)) (text_of (fields_of x))
        ∙ ap (λ (t : List ℕ). old ++ t) (sym (text_of-append (flat_map fields_of xs) (fields_of x))) ∙ ap (λ (t : List Field). old ++ text_of t) (sym fields);
  }

  pub more_written : (old mid new : List ℕ) (xs : List X) (i : ℕ) (x : X) → i < length xs → x ≡ get_or xs i x → WritesEach X Is fields_of old mid (take i xs) → Writes X Is fields_of mid new x → WritesEach X Is fields_of old new (take (i + 1) xs)
  more_written old mid new xs i x lt at w v =
      let more : take (i + 1) xs ≡ take i xs ++ x ∷ [] = take_more xs i x lt ∙ ap (λ (y : X). take i xs ++ y ∷ []) (sym at) in
      rw more (one_written old mid new (take i xs) x w v)

  pub more_at : (old mid new : List ℕ) (xs : List X) (i : ℕ) (d : X) → i < length xs → WritesEach X Is fields_of old mid (take i xs) → Writes X Is fields_of mid new (get_or xs i d) → WritesEach X Is fields_of old new (take (i + 1) xs)
  more_at old mid new xs i d lt w v = rw (take_more xs i d lt) (one_written old mid new (take i xs) (get_or xs i d) w v)

  pub all_written : (old new : List ℕ) (xs : List X) (i : ℕ) → length xs ≤ i → WritesEach X Is fields_of old new (take i xs) → WritesEach X Is fields_of old new xs
  all_written old new xs i le w = subst (WritesEach X Is fields_of old new) (take_all i xs le) w
