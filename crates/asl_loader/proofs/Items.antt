-- Items one after the other, and after their count.
use Rattle.std.proofs.Common.{◌≡◌, ℕ, zero, suc, ◌<◌, ◌^◌, List, [], ◌∷◌, ◌++◌, length, drop, replicate, Result, Ok, refl, sym, ap, subst, ◌∙◌, arith}
use Rattle.std.specs.List.{flat_map, AllByRecursion}
use Rattle.std.specs.Int.{w16}
use Rattle.std.proofs.lemmas.List.{append-nil, length-replicate}
use Rattle.asl_loader.specs.Bytes.{Field, two, counted, AreItems}
use Rattle.asl_loader.specs.declared.fault.Stop.{Stop}
use Rattle.asl_loader.specs.SharedFields.{◌>>=◌, number_at}
use Rattle.asl_loader.specs.ImageFields.{items_at, counted_at}
use Rattle.asl_loader.proofs.FieldNumbers.{reads_as}
use Rattle.asl_loader.proofs.Fields.{two_reads}
use Rattle.asl_loader.proofs.Reader.{Reads, reads_nothing}
use Rattle.asl_loader.proofs.WrongInTwo.{reads_both}

-- so many items, each of which is so
pub record AreSoMany (X : Type 0) (Is : X → Type 0) (n : ℕ) (xs : List X) : Type 0 where
  pub each : AllByRecursion Is xs
  pub count : length xs ≡ n

copies : (X : Type 0) (Is : X → Type 0) (x : X) → Is x → (n : ℕ) → AllByRecursion Is (replicate n x)
copies X Is x is zero = tt
copies X Is x is (suc n) = (is, copies X Is x is n)

module _ (X : Type 0) (Is : X → Type 0) (fields_of : X → List Field) (item : List ℕ → Result (X × List ℕ) Stop) (item_reads : Reads X Is fields_of item) (some : X) (some_is : Is some) where
  empty_is : (xs : List X) → AreSoMany X Is 0 xs → xs ≡ []
  empty_is [] are = refl
  empty_is (x ∷ xs) are = absurd (omega (arith, are.count))

  -- a list is its first item and the others
  first_of : (n : ℕ) (xs : List X) → AreSoMany X Is (suc n) xs → (x : X) × Is x × ((tail : List X) × (xs ≡ x ∷ tail))
  first_of n [] are = absurd (omega (arith, are.count))
  first_of n (x ∷ xs) are = (x, are.each.0, (xs, refl))

  others_of : (n : ℕ) (x : X) (xs : List X) → AreSoMany X Is (suc n) xs → (tail : List X) → xs ≡ x ∷ tail → AreSoMany X Is n tail
  others_of n x xs are tail e = let same : AreSoMany X Is (suc n) (x ∷ tail) = subst (AreSoMany X Is (suc n)) e are in record { each = same.each.1; count = omega (arith, same.count) }

  more_are : (n : ℕ) (x : X) (xs : List X) → Is x → AreSoMany X Is n xs → AreSoMany X Is (suc n) (x ∷ xs)
  more_are n x xs is are = record { each = (is, are.each); count = omega (arith, are.count) }

  -- the others, once the first is read
  rest_reads : (n : ℕ) → Reads (List X) (AreSoMany X Is n) (λ xs. flat_map fields_of xs) (items_at item n) → (x : X) → Is x
      → Reads (List X) (λ xs. AreSoMany X Is (suc n) xs × ((tail : List X) × (xs ≡ x ∷ tail))) (λ xs. flat_map fields_of (drop 1 xs)) (λ bytes. items_at item n bytes >>= λ others. Ok (x ∷ others.0, others.1))
  rest_reads n reads x is =
      reads_both (List X) (List X) (AreSoMany X Is n) (λ xs. AreSoMany X Is (suc n) xs × ((tail : List X) × (xs ≡ x ∷ tail)))
      (λ xs. flat_map fields_of xs) (λ xs. flat_map fields_of (drop 1 xs)) (items_at item n) (λ others bytes. Ok (x ∷ others, bytes))
      (λ xs others. xs ≡ x ∷ others) (λ xs. []) reads
      (λ others are. reads_nothing (List X) (λ xs. (AreSoMany X Is (suc n) xs × ((tail : List X) × (xs ≡ x ∷ tail))) × (xs ≡ x ∷ others)) (λ xs. []) (x ∷ others)
      ((more_are n x others is are, (others, refl)), refl) (λ xs is_x. is_x.1) refl)
      (λ xs are. (are.1.0, others_of n x xs are.0 are.1.0 are.1.1, are.1.1))
      (λ others xs is_o is_x e. ap (λ (l : List X). flat_map fields_of (drop 1 l)) e ∙ sym (append-nil (flat_map fields_of others)))
      (λ others are. (x ∷ others, (more_are n x others is are, (others, refl)), refl))

  pub items_reads : (n : ℕ) → Reads (List X) (AreSoMany X Is n) (λ xs. flat_map fields_of xs) (items_at item n)
  unfolding items_at
  items_reads zero = reads_nothing (List X) (AreSoMany X Is 0) (λ xs. flat_map fields_of xs) [] (record { each = tt; count = refl }) empty_is refl
  items_reads (suc n) =
      reads_both X (List X) Is (AreSoMany X Is (suc n)) fields_of (λ xs. flat_map fields_of xs) item (λ x bytes. items_at item n bytes >>= λ others. Ok (x ∷ others.0, others.1))
      (λ xs x. (tail : List X) × (xs ≡ x ∷ tail)) (λ xs. flat_map fields_of (drop 1 xs)) item_reads
      (λ x is. rest_reads n (items_reads n) x is)
      (first_of n)
      (λ x xs is are has. ap (λ (l : List X). flat_map fields_of l) has.1 ∙ ap (λ (l : List X). fields_of x ++ flat_map fields_of (drop 1 l)) (sym has.1))
      (λ x is. (x ∷ replicate n some, more_are n x (replicate n some) is (record { each = copies X Is some some_is n; count = length-replicate n some }), (replicate n some, refl)))

  pub counted_reads : Reads (List X) (AreItems X Is) (λ xs. counted fields_of xs) (counted_at item)
  unfolding counted_at
  counted_reads =
      reads_both ℕ (List X) (λ n. n < 2 ^ 16) (AreItems X Is) (λ n. two n ∷ []) (λ xs. counted fields_of xs) (number_at w16) (λ n bytes. items_at item n bytes)
      (λ xs n. length xs ≡ n) (λ xs. flat_map fields_of xs) two_reads
      (λ n is. reads_as (List X) (AreSoMany X Is n) (λ xs. AreItems X Is xs × (length xs ≡ n)) (λ xs. flat_map fields_of xs) (items_at item n) (items_reads n)
      (λ xs are. (record { counted = omega (arith, are.count, is); each = are.each }, are.count))
      (λ xs are. record { each = are.0.each; count = are.1 }))
      (λ xs are. (length xs, are.counted, refl))
      (λ n xs is are has. ap (λ (m : ℕ). two m ∷ flat_map fields_of xs) has)
      (λ n is. (replicate n some, record { counted = omega (arith, length-replicate n some, is); each = copies X Is some some_is n }, length-replicate n some))
