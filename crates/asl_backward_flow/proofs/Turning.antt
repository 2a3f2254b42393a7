-- Points that wait in two lists, of which one comes before the other.
use Rattle.std.proofs.Common.{◌≡◌, ⊎_elim, ℕ, Bool, List, [], ◌∷◌, ◌++◌, ◌<◌, Option, None, Some, IfSome, IfNone, length, inl, inr, refl, ap, sym, subst, ◌∙◌, arith}
use Rattle.std.proofs.lemmas.List.{append-nil, length-append}
use Rattle.asl_backward_flow.specs.Found.{IsPut, IsTaken}
use Rattle.asl_backward_flow.proofs.SetNeeds.{at_either, at_right}
use Rattle.asl_backward_flow.proofs.Taking.{at_left}

module _ (xs new ys : List (ℕ × ℕ)) (p : ℕ × ℕ) where
  -- a point more in the first of two lists, and in the second
  pub put_first : (b : Bool) → IsPut xs new p b → IsPut (xs ++ ys) (new ++ ys) p b
  put_first b x = record {
    stay = λ f h. ⊎_elim (λ l. at_left f new ys (x.stay f l)) (λ r. at_right new ys f r) (at_either xs ys f h.0 h.1);
    only = λ f h. ⊎_elim (λ l. ⊎_elim (λ o. inl (at_left f xs ys o)) (λ n. inr n) (x.only f l)) (λ r. inl (at_right xs ys f r)) (at_either new ys f h.0 h.1);
    there = λ t. at_left p new ys (x.there t);
    longer = let most = x.longer in omega (arith, most, length-append xs ys, length-append new ys);
  }

  pub put_second : (b : Bool) → IsPut xs new p b → IsPut (ys ++ xs) (ys ++ new) p b
  put_second b x = record {
    stay = λ f h. ⊎_elim (λ l. at_left f ys new l) (λ r. at_right ys new f (x.stay f r)) (at_either ys xs f h.0 h.1);
    only = λ f h. ⊎_elim (λ l. inl (at_left f ys xs l)) (λ r. ⊎_elim (λ o. inl (at_right ys xs f o)) (λ n. inr n) (x.only f r)) (at_either ys new f h.0 h.1);
    there = λ t. at_right ys new p (x.there t);
    longer = let most = x.longer in omega (arith, most, length-append ys xs, length-append ys new);
  }

  -- a point is taken off the first of two lists
  pub taken_first : IsTaken xs new p → IsTaken (xs ++ ys) (new ++ ys) p
  taken_first x =
      let less = x.shorter in
      let shorter : length (new ++ ys) < length (xs ++ ys) = omega (arith, less, length-append xs ys, length-append new ys) in
      record {
        there = at_left p xs ys x.there;
        left = record {
          only = λ f h. ⊎_elim (λ l. at_left f xs ys (x.left.only f l)) (λ r. at_right xs ys f r) (at_either new ys f h.0 h.1);
          rest = λ f h. ⊎_elim (λ l. ⊎_elim (λ e. inl e) (λ n. inr (at_left f new ys n)) (x.left.rest f l)) (λ r. inr (at_right new ys f r)) (at_either xs ys f h.0 h.1);
          shorter = omega (arith, shorter);
        };
        shorter = shorter;
      }

-- the first list is taken from, if it has a point
pub first_taken : (xs new ys all : List (ℕ × ℕ)) → xs ++ ys ≡ all → (p : ℕ × ℕ) → IsTaken xs new p → IsTaken all (new ++ ys) p
first_taken xs new ys all is p x = subst (λ l. IsTaken l (new ++ ys) p) is (taken_first xs new ys p x)

-- else the second, and what is left of the first comes behind it
module _ (xs ys new all : List (ℕ × ℕ)) (is : xs ++ ys ≡ all) (none : length xs ≡ 0) where
  empty : (l : List (ℕ × ℕ)) → length l ≡ 0 → l ≡ []
  empty [] e = refl
  empty (f ∷ l) e = absurd (omega (arith, e))

  all_are : all ≡ ys
  all_are = sym is ∙ ap (λ (l : List (ℕ × ℕ)). l ++ ys) (empty xs none)

  left_are : new ++ xs ≡ new
  left_are = ap (λ (l : List (ℕ × ℕ)). new ++ l) (empty xs none) ∙ append-nil new

  pub second_taken : (o : Option (ℕ × ℕ)) → IfSome o (IsTaken ys new) → IfSome o (IsTaken all (new ++ xs))
  second_taken None x = tt
  second_taken (Some p) x = subst (λ l. IsTaken l (new ++ xs) p) (sym all_are) (subst (λ l. IsTaken ys l p) (sym left_are) x)

  pub second_none : (o : Option (ℕ × ℕ)) → IfNone o (length ys ≡ 0) → IfNone o (length all ≡ 0)
  second_none None x = ap length all_are ∙ x
  second_none (Some p) x = tt

  pub second_same : (o : Option (ℕ × ℕ)) → IfNone o (new ≡ ys) → IfNone o (new ++ xs ≡ all)
  second_same None x = left_are ∙ x ∙ sym all_are
  second_same (Some p) x = tt
