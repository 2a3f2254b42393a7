-- Reading items one after the other, as a loop does.
use Rattle.std.proofs.Common.{◌≡◌, ℕ, zero, suc, ◌-◌, ◌+◌, ◌≤◌, ◌<◌, List, [], ◌∷◌, ◌++◌, length, Result, Ok, Err, refl, sym, ap, ◌∙◌, append_assoc, arith}
use Rattle.std.proofs.lemmas.List.{append-nil}
use Rattle.asl_loader.specs.declared.fault.Stop.{Stop}
use Rattle.asl_loader.specs.SharedFields.{◌>>=◌}
use Rattle.asl_loader.specs.ImageFields.{items_at}
use Rattle.asl_loader.proofs.Reader.{bind_ok, ok_is}

-- what was read before, and what is still read
abbrev pub with_front : {X : Type 0} → List X → Result (List X × List ℕ) Stop → Result (List X × List ℕ) Stop
with_front front read = read >>= λ x. Ok (front ++ x.0, x.1)

module _ (X : Type 0) (item : List ℕ → Result (X × List ℕ) Stop) where
  regroup : (front : List X) (n : X) (read : Result (List X × List ℕ) Stop) → with_front front (read >>= λ x. Ok (n ∷ x.0, x.1)) ≡ with_front (front ++ n ∷ []) read
  regroup front n (Ok x) = ap (λ (ns : List X). Ok (ns, x.1)) (simp append_assoc)
  regroup front n (Err f) = refl

  pub goes_on : (front : List X) (count i : ℕ) (bytes : List ℕ) (n : X) (after : List ℕ) (total : Result (List X × List ℕ) Stop) → i < count → item bytes ≡ Ok (n, after)
      → with_front front (items_at item (count - i) bytes) ≡ total → with_front (front ++ n ∷ []) (items_at item (count - (i + 1)) after) ≡ total
  unfolding items_at
  goes_on front count i bytes n after total lt h so_far =
      let k : count - i ≡ suc (count - (i + 1)) = omega arith in
      let one : with_front front (items_at item (count - i) bytes) ≡ with_front (front ++ n ∷ []) (items_at item (count - (i + 1)) after) = rw (k, h) (regroup front n (items_at item (count - (i + 1)) after)) in
      sym one ∙ so_far

  pub ends : (f : Stop) (front : List X) (count i : ℕ) (bytes : List ℕ) (total : Result (List X × List ℕ) Stop) → i < count → item bytes ≡ Err f
      → with_front front (items_at item (count - i) bytes) ≡ total → total ≡ Err f
  unfolding items_at
  ends f front count i bytes total lt h so_far =
      let k : count - i ≡ suc (count - (i + 1)) = omega arith in
      let one : with_front front (items_at item (count - i) bytes) ≡ Err f = rw (k, h) refl in
      sym so_far ∙ one

  pub is_done : (front : List X) (count i : ℕ) (bytes : List ℕ) (total : Result (List X × List ℕ) Stop) → count ≤ i → with_front front (items_at item (count - i) bytes) ≡ total → total ≡ Ok (front, bytes)
  unfolding items_at
  is_done front count i bytes total le so_far =
      let k : count - i ≡ 0 = omega arith in
      let one : with_front front (items_at item (count - i) bytes) ≡ Ok (front, bytes) = rw k (ap (λ (ns : List X). Ok (ns, bytes)) (append-nil front)) in
      sym so_far ∙ one

-- what was read before, of which so much is kept, and what is still read
pub record Kept (X : Type 0) (item : List ℕ → Result (X × List ℕ) Stop) (Has : List X → Type 0) (count i : ℕ) (bytes : List ℕ) (total : Result (List X × List ℕ) Stop) : Type 0 where
  pub front : List X
  pub is : Has front
  pub so_far : with_front front (items_at item (count - i) bytes) ≡ total

nothing_before : {X : Type 0} (read : Result (List X × List ℕ) Stop) → with_front [] read ≡ read
nothing_before (Ok x) = refl
nothing_before (Err f) = refl

module _ (X : Type 0) (item : List ℕ → Result (X × List ℕ) Stop) where
  pub kept_first : (Has : List X → Type 0) (count : ℕ) (bytes : List ℕ) → Has [] → Kept X item Has count 0 bytes (items_at item count bytes)
  kept_first Has count bytes none =
      let all : count - 0 ≡ count = omega arith in
      record { front = []; is = none; so_far = rw all (nothing_before (items_at item count bytes)) }

  pub kept_more : (Has More : List X → Type 0) (count i : ℕ) (bytes : List ℕ) (n : X) (after : List ℕ) (total : Result (List X × List ℕ) Stop)
      → Kept X item Has count i bytes total → i < count → item bytes ≡ Ok (n, after)
      → ((front : List X) → Has front → More (front ++ n ∷ [])) → Kept X item More count (i + 1) after total
  kept_more Has More count i bytes n after total k lt h push = record {
    front = k.front ++ n ∷ [];
    is = push k.front k.is;
    so_far = goes_on X item k.front count i bytes n after total lt h k.so_far;
  }

  pub kept_all : (Has : List X → Type 0) (count i : ℕ) (bytes : List ℕ) (total : Result (List X × List ℕ) Stop)
      → Kept X item Has count i bytes total → count ≤ i → (whole : List X) × Has whole × (total ≡ Ok (whole, bytes))
  kept_all Has count i bytes total k le = (k.front, k.is, is_done X item k.front count i bytes total le k.so_far)

  pub kept_ends : (f : Stop) (Has : List X → Type 0) (count i : ℕ) (bytes : List ℕ) (total : Result (List X × List ℕ) Stop)
      → Kept X item Has count i bytes total → i < count → item bytes ≡ Err f → total ≡ Err f
  kept_ends f Has count i bytes total k lt h = ends X item f k.front count i bytes total lt h k.so_far

  -- as many items as were asked for are read
  pub so_many : (n : ℕ) (bytes : List ℕ) (xs : List X) (rest : List ℕ) → items_at item n bytes ≡ Ok (xs, rest) → length xs ≡ n
  unfolding items_at
  so_many zero bytes xs rest e = let pair : (xs, rest) ≡ ([], bytes) = cc in ap (λ (p : List X × List ℕ). length p.0) pair
  so_many (suc n) bytes xs rest e =
      let read : List X × List ℕ = (xs, rest) in
      let first = bind_ok {A = X × List ℕ} {B = List X × List ℕ} (item bytes) (λ x. items_at item n x.1 >>= λ others. Ok (x.0 ∷ others.0, others.1)) read e in
      let others = bind_ok {A = List X × List ℕ} {B = List X × List ℕ} (items_at item n first.0.1) (λ o. Ok (first.0.0 ∷ o.0, o.1)) read first.2 in
      let same : (first.0.0 ∷ others.0.0, others.0.1) ≡ read = ok_is (first.0.0 ∷ others.0.0, others.0.1) read others.2 in
      sym (ap (λ (p : List X × List ℕ). length p.0) same) ∙ ap (λ (m : ℕ). suc m) (so_many n first.0.1 others.0.0 others.0.1 others.1)
