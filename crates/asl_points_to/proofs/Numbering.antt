-- Classes, numbered by their first members.
use Rattle.std.proofs.Common.{◌≡◌, ℕ, zero, suc, ◌+◌, ◌<◌, ◌≤◌, ◌⊎◌, inl, inr, List, [], ◌∷◌, ◌++◌, length, Option, None, Some, get_or, slice_get, refl, sym, ap, ◌∙◌, subst, arith}
use Rattle.std.specs.Prelude.{IfSome}
use Rattle.std.specs.List.{All}
use Rattle.std.proofs.lemmas.Bool.{cases_eq}
use Rattle.std.proofs.lemmas.List.{length_push, get_or_push, get_or_append_left, get_or_default}
use Rattle.std.proofs.lemmas.Option.{slice_get-get_or, slice_get_within, get_or_from_slice_get}
use Rattle.asl_points_to.specs.Classes.{AreNumbered}
use Rattle.asl_points_to.specs.Numbers.{AreNumbers}

-- so it is of the first members
pub record NumberedTo (sets numbers firsts : List ℕ) (i : ℕ) : Type 0 where
  pub len : length numbers ≡ i
  pub back : (m : ℕ) → m < i → slice_get firsts (get_or numbers m 0) ≡ Some (get_or sets m 0)
  pub on : (k m : ℕ) → slice_get firsts k ≡ Some m → (m < i) × (get_or numbers m 0 ≡ k)
  pub numbered : AreNumbered (length firsts) 0 numbers

numbered_old : (count next x : ℕ) (xs : List ℕ) → AreNumbered count next xs → x < count → AreNumbered count next (xs ++ x ∷ [])
numbered_old count next x [] e lt = inl (omega arith, e)
numbered_old count next x (y ∷ ys) (inl h) lt = inl (h.0, numbered_old count next x ys h.1 lt)
numbered_old count next x (y ∷ ys) (inr h) lt = inr (h.0, numbered_old count (suc next) x ys h.1 lt)

numbered_new : (count next : ℕ) (xs : List ℕ) → AreNumbered count next xs → AreNumbered (suc count) next (xs ++ count ∷ [])
numbered_new count next [] e = inr (e, ap suc e)
numbered_new count next (y ∷ ys) (inl h) = inl (h.0, numbered_new count next ys h.1)
numbered_new count next (y ∷ ys) (inr h) = inr (h.0, numbered_new count (suc next) ys h.1)

push_front : (xs : List ℕ) (x k y : ℕ) → slice_get xs k ≡ Some y → slice_get (xs ++ x ∷ []) k ≡ Some y
push_front xs x k y e =
    let low = slice_get_within xs k y e in
    slice_get-get_or (xs ++ x ∷ []) k 0 (omega (arith, length_push xs x)) ∙ ap Some (get_or_append_left xs (x ∷ []) 0 k low ∙ get_or_from_slice_get xs k y 0 e)

push_here : (xs : List ℕ) (x k : ℕ) → length xs ≡ k → slice_get (xs ++ x ∷ []) k ≡ Some x
push_here xs x k e =
    slice_get-get_or (xs ++ x ∷ []) k 0 (omega (arith, length_push xs x)) ∙ ap Some (get_or_push xs x 0 k e)

push_back : (xs : List ℕ) (x k y : ℕ) → slice_get (xs ++ x ∷ []) k ≡ Some y → (slice_get xs k ≡ Some y) ⊎ ((k ≡ length xs) × (x ≡ y))
push_back [] x zero y e = inr (refl, cc)
push_back [] x (suc k) y e = absurd cc
push_back (z ∷ xs) x zero y e = inl e
push_back (z ∷ xs) x (suc k) y e = elim (push_back xs x k y e) [ inl h ↦ inl h | inr h ↦ inr (ap suc h.0, h.1) ]

pub none_numbered : (sets : List ℕ) → NumberedTo sets [] [] 0
none_numbered sets =
    record { len = refl; back = λ m lt. absurd (omega arith); on = λ k m e. absurd cc; numbered = refl }

-- a member that is the first of its class
pub one_new : (sets numbers firsts : List ℕ) (i : ℕ) → NumberedTo sets numbers firsts i → get_or sets i 0 ≡ i → NumberedTo sets (numbers ++ length firsts ∷ []) (firsts ++ i ∷ []) (i + 1)
one_new sets numbers firsts i n own = record {
  len = length_push numbers (length firsts) ∙ ap (λ (k : ℕ). k + 1) n.len;
  back = λ m lt. elim (cases_eq m i) [
    | inl e ↦ (
        let At : ℕ → Type 0 = λ k. slice_get (firsts ++ i ∷ []) (get_or (numbers ++ length firsts ∷ []) k 0) ≡ Some (get_or sets k 0) in
        subst At (sym e) (ap (slice_get (firsts ++ i ∷ [])) (get_or_push numbers (length firsts) 0 i n.len) ∙ push_here firsts i (length firsts) refl ∙ ap Some (sym own)))
    | inr ne ↦ (
        let low : m < length numbers = omega (arith, n.len) in
        ap (slice_get (firsts ++ i ∷ [])) (get_or_append_left numbers (length firsts ∷ []) 0 m low) ∙ push_front firsts i (get_or numbers m 0) (get_or sets m 0) (n.back m (omega arith)))
  ];
  on = λ k m e. elim (push_back firsts i k m e) [
    | inl old ↦ (
        let h = n.on k m old in
        (omega (arith, h.0), get_or_append_left numbers (length firsts ∷ []) 0 m (omega (arith, n.len, h.0)) ∙ h.1))
    | inr new ↦ (omega (arith, new.1), ap (λ (x : ℕ). get_or (numbers ++ length firsts ∷ []) x 0) (sym new.1) ∙ get_or_push numbers (length firsts) 0 i n.len ∙ sym new.0)
  ];
  numbered = (
      let P : ℕ → Type 0 = λ count. AreNumbered count 0 (numbers ++ length firsts ∷ []) in
      let more : suc (length firsts) ≡ length (firsts ++ i ∷ []) = omega (arith, length_push firsts i) in
      subst P more (numbered_new (length firsts) 0 numbers n.numbered));
}

-- a member whose class has an earlier one
pub one_old : (sets numbers firsts : List ℕ) (i f x : ℕ) → NumberedTo sets numbers firsts i → f ≡ get_or sets i 0 → f < i → get_or sets f 0 ≡ f → x ≡ get_or numbers f 0 → NumberedTo sets (numbers ++ x ∷ []) firsts (i + 1)
one_old sets numbers firsts i f x n is lt own read =
    let there : slice_get firsts x ≡ Some f = ap (slice_get firsts) read ∙ n.back f lt ∙ ap Some own in
    record {
      len = length_push numbers x ∙ ap (λ (k : ℕ). k + 1) n.len;
      back = λ m low. elim (cases_eq m i) [
        | inl e ↦ (
            let At : ℕ → Type 0 = λ k. slice_get firsts (get_or (numbers ++ x ∷ []) k 0) ≡ Some (get_or sets k 0) in
            subst At (sym e) (ap (slice_get firsts) (get_or_push numbers x 0 i n.len) ∙ there ∙ ap Some is))
        | inr ne ↦ ap (slice_get firsts) (get_or_append_left numbers (x ∷ []) 0 m (omega (arith, n.len))) ∙ n.back m (omega arith)
      ];
      on = λ k m e. (
          let h = n.on k m e in
          (omega (arith, h.0), get_or_append_left numbers (x ∷ []) 0 m (omega (arith, n.len, h.0)) ∙ h.1));
      numbered = numbered_old (length firsts) 0 x numbers n.numbered (slice_get_within firsts x f there);
    }

pub all_numbered : (sets numbers firsts : List ℕ) (i : ℕ) → i ≡ length sets → NumberedTo sets numbers firsts i → AreNumbers sets numbers firsts
all_numbered sets numbers firsts i e n = record {
  len = n.len ∙ e;
  back = λ m lt. n.back m (omega arith);
  on = λ k m there. (let h = n.on k m there in (omega (arith, h.0), h.1));
  numbered = n.numbered;
}

-- what holds of what there is
pub if_some : (o : Option ℕ) (P : ℕ → Type 0) → ((m : ℕ) → o ≡ Some m → P m) → IfSome o P
if_some None P h = tt
if_some (Some m) P h = h m refl

-- numbers of few classes are small, and the first members are there
pub small_numbers : (sets numbers firsts : List ℕ) → AreNumbers sets numbers firsts → length firsts ≤ 1024 → All (λ n. n < 65536) numbers
small_numbers sets numbers firsts n few k d low =
    let there = slice_get_within firsts (get_or numbers k 0) (get_or sets k 0) (n.back k (omega (arith, n.len))) in
    omega (arith, get_or_default numbers k d 0 low)

pub firsts_there : (sets numbers firsts : List ℕ) → AreNumbers sets numbers firsts → All (λ m. m < length sets) firsts
firsts_there sets numbers firsts n k d low =
    (n.on k (get_or firsts k d) (slice_get-get_or firsts k d low)).0
