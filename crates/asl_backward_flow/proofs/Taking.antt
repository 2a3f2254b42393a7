-- A point is taken off those that wait, as often as it is there.
use Rattle.std.proofs.Common.{◌≡◌, ⊎_elim, ℕ, zero, suc, ◌<◌, List, [], ◌∷◌, ◌++◌, Option, None, Some, IfSome, IfNone, length, slice_get, slice_index_or, inl, inr, refl, sym, subst, ◌∙◌, arith}
use Rattle.std.specs.List.Sorted.{IsPermutation}
use Rattle.std.proofs.lemmas.List.{length-append}
use Rattle.std.proofs.lemmas.List.Sorted.{IsPermutation-sym, length_permutation}
use Rattle.std.proofs.lemmas.Option.{get_or_from_slice_get}
use Rattle.asl_backward_flow.specs.Found.{AreLeft, IsAt, IsTaken}
use Rattle.asl_backward_flow.proofs.Closing.{at_permuted, behind}
use Rattle.asl_backward_flow.proofs.SetNeeds.{at_either, at_right}

nowhere : (f : ℕ × ℕ) (n : ℕ) → slice_get {X = ℕ × ℕ} [] n ≡ Some f → ⊥
nowhere f n e = cc

pub at_left : (f : ℕ × ℕ) (xs ys : List (ℕ × ℕ)) → IsAt xs f → IsAt (xs ++ ys) f
at_left f [] ys h = absurd (nowhere f h.0 h.1)
at_left f (x ∷ xs) ys (zero, e) = (zero, e)
at_left f (x ∷ xs) ys (suc n, e) = let l = at_left f xs ys (n, e) in (suc l.0, l.1)

pub left_all : (xs : List (ℕ × ℕ)) (p : ℕ × ℕ) → AreLeft xs xs p
left_all xs p = record { only = λ f h. h; rest = λ f h. inr h; shorter = omega arith }

-- one more is taken off
pub left_less : (old now new : List (ℕ × ℕ)) (p x : ℕ × ℕ) → AreLeft old now p → x ≡ p → IsPermutation now (x ∷ new) → AreLeft old new p
left_less old now new p x so is moved = record {
  only = λ f h. so.only f (at_permuted (x ∷ new) now f (IsPermutation-sym now (x ∷ new) moved) (suc h.0, h.1));
  rest = λ f h. ⊎_elim (λ e. inl e) (λ n. ⊎_elim (λ e. inl (e ∙ is)) (λ r. inr r) (let at = at_permuted now (x ∷ new) f moved n in behind x new f at.0 at.1)) (so.rest f h);
  shorter = let count = length_permutation now (x ∷ new) moved in let most = so.shorter in omega (arith, count, most);
}

pub none_first : {A : Type 0} (o : Option A) (P Q : Type 0) → IfNone o (P × Q) → IfNone o P
none_first None P Q h = h.0
none_first (Some x) P Q h = tt

-- the same where it is the first that comes off, if one does
pub left_popped : (old now new : List (ℕ × ℕ)) (p : ℕ × ℕ) (o : Option (ℕ × ℕ)) → AreLeft old now p → slice_get now 0 ≡ Some p → IfSome o (λ x. x ≡ slice_index_or now 0 x) → IfSome o (λ x. IsPermutation now (x ∷ new)) → IfNone o (new ≡ now)
    → AreLeft old new p
left_popped old now new p None so first top moved same = subst (λ l. AreLeft old l p) (sym same) so
left_popped old now new p (Some x) so first top moved same = left_less old now new p x so (top ∙ get_or_from_slice_get now 0 p x first) moved

-- a point was taken off a row and a heap, and then off the heap again
pub taken : (old row rest new : List (ℕ × ℕ)) (p : ℕ × ℕ) → IsPermutation old (p ∷ (row ++ rest)) → AreLeft rest new p → IsTaken old (row ++ new) p
taken old row rest new p moved so =
    let back : (f : ℕ × ℕ) → IsAt (p ∷ (row ++ rest)) f → IsAt old f = λ f h. at_permuted (p ∷ (row ++ rest)) old f (IsPermutation-sym old (p ∷ (row ++ rest)) moved) h in
    let count = length_permutation old (p ∷ (row ++ rest)) moved in
    let most = so.shorter in
    let less : length (row ++ new) < length old = omega (arith, count, most, length-append row rest, length-append row new) in
    record {
      there = back p (0, refl);
      left = record {
        only = λ f h. let at = ⊎_elim (λ l. at_left f row rest l) (λ r. at_right row rest f (so.only f r)) (at_either row new f h.0 h.1) in back f (suc at.0, at.1);
        rest = λ f h. ⊎_elim
            (λ e. inl e)
            (λ n. ⊎_elim (λ l. inr (at_left f row new l)) (λ r. ⊎_elim (λ e. inl e) (λ k. inr (at_right row new f k)) (so.rest f r)) (at_either row rest f n.0 n.1))
            (let at = at_permuted old (p ∷ (row ++ rest)) f moved h in behind p (row ++ rest) f at.0 at.1);
        shorter = omega (arith, less);
      };
      shorter = less;
    }
