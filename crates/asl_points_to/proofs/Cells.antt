-- What is kept for the cells of a class, when it goes over to another.
use Rattle.std.proofs.Common.{◌≡◌, ◌≢◌, ℕ, zero, suc, ◌<◌, ◌≤◌, inl, inr, List, [], ◌∷◌, length, Option, None, Some, get_or, set, refl, sym, ap, ◌∙◌, arith, length-set}
use Rattle.std.proofs.lemmas.List.{get_or-set_same, get_or-set_other}
use Rattle.asl_points_to.specs.Classes.{some_at}
use Rattle.asl_points_to.specs.Draft.{filled, IsTakenOver}

pub read : (xs : List (Option ℕ)) (n : ℕ) → some_at xs n ≡ get_or xs n None
read [] n = refl
read (x ∷ xs) zero = refl
read (x ∷ xs) (suc n) = read xs n

pub set_here : (xs : List (Option ℕ)) (n : ℕ) (o : Option ℕ) → n < length xs → some_at (set xs n o) n ≡ o
set_here xs n o lt = read (set xs n o) n ∙ get_or-set_same xs n o None lt

pub set_there : (xs : List (Option ℕ)) (n m : ℕ) (o : Option ℕ) → m ≢ n → some_at (set xs n o) m ≡ some_at xs m
set_there xs n m o ne = read (set xs n o) m ∙ get_or-set_other xs n m o None ne ∙ sym (read xs m)

emptied_fewer : (xs : List (Option ℕ)) (n m : ℕ) → some_at xs n ≡ Some m → suc (filled (set xs n None)) ≡ filled xs
emptied_fewer [] n m e = absurd cc
emptied_fewer (None ∷ xs) zero m e = absurd cc
emptied_fewer (Some k ∷ xs) zero m e = refl
emptied_fewer (None ∷ xs) (suc n) m e = emptied_fewer xs n m e
emptied_fewer (Some k ∷ xs) (suc n) m e = ap suc (emptied_fewer xs n m e)

emptied_same : (xs : List (Option ℕ)) (n : ℕ) → some_at xs n ≡ None → filled (set xs n None) ≡ filled xs
emptied_same [] n e = refl
emptied_same (None ∷ xs) zero e = refl
emptied_same (Some k ∷ xs) zero e = absurd cc
emptied_same (None ∷ xs) (suc n) e = emptied_same xs n e
emptied_same (Some k ∷ xs) (suc n) e = ap suc (emptied_same xs n e)

filled_more : (xs : List (Option ℕ)) (n m : ℕ) → some_at xs n ≡ None → filled (set xs n (Some m)) ≤ suc (filled xs)
filled_more [] n m e = omega arith
filled_more (None ∷ xs) zero m e = omega arith
filled_more (Some k ∷ xs) zero m e = absurd cc
filled_more (None ∷ xs) (suc n) m e = filled_more xs n m e
filled_more (Some k ∷ xs) (suc n) m e = let h = filled_more xs n m e in omega arith

-- both were kept
pub both_taken : (xs : List (Option ℕ)) (kept gone x y : ℕ) → kept ≢ gone → gone < length xs → some_at (set xs gone None) kept ≡ Some x → some_at xs gone ≡ Some y → IsTakenOver xs (set xs gone None) kept gone (Some (x, y))
both_taken xs kept gone x y ne lt at_kept at_gone =
    let same = set_there xs gone kept None ne in
    record {
      len = length-set xs gone None;
      others = λ z a b. set_there xs gone z None b;
      emptied = set_here xs gone None lt;
      stays = λ m e. same ∙ e;
      comes = λ m e. inl (sym same ∙ e);
      goes = (sym same ∙ at_kept, at_gone);
      fewer = omega (arith, emptied_fewer xs gone y at_gone);
    }

-- nothing was kept for the one that is gone
pub none_taken : (xs : List (Option ℕ)) (kept gone : ℕ) → kept ≢ gone → gone < length xs → some_at xs gone ≡ None → IsTakenOver xs (set xs gone None) kept gone None
none_taken xs kept gone ne lt at_gone =
    let same = set_there xs gone kept None ne in
    record {
      len = length-set xs gone None;
      others = λ z a b. set_there xs gone z None b;
      emptied = set_here xs gone None lt;
      stays = λ m e. same ∙ e;
      comes = λ m e. inl (sym same ∙ e);
      goes = λ m e. absurd (let h : None ≡ Some m = sym at_gone ∙ e in cc);
      fewer = omega (arith, emptied_same xs gone at_gone);
    }

fewer_over : (xs : List (Option ℕ)) (kept gone : ℕ) (o : Option ℕ) → kept ≢ gone → some_at (set xs gone None) kept ≡ None → some_at xs gone ≡ o → filled (set (set xs gone None) kept o) ≤ filled xs
fewer_over xs kept gone None ne at_kept at_gone =
    omega (arith, emptied_same (set xs gone None) kept at_kept, emptied_same xs gone at_gone)
fewer_over xs kept gone (Some m) ne at_kept at_gone =
    omega (arith, filled_more (set xs gone None) kept m at_kept, emptied_fewer xs gone m at_gone)

-- nothing was kept for the other
pub one_taken : (xs : List (Option ℕ)) (kept gone : ℕ) (o : Option ℕ) → kept ≢ gone → kept < length xs → gone < length xs → some_at (set xs gone None) kept ≡ None → some_at xs gone ≡ o → IsTakenOver xs (set (set xs gone None) kept o) kept gone None
one_taken xs kept gone o ne low lt at_kept at_gone =
    let same = set_there xs gone kept None ne in
    let len = length-set xs gone None in
    let now : some_at (set (set xs gone None) kept o) kept ≡ o = set_here (set xs gone None) kept o (omega arith) in
    record {
      len = length-set (set xs gone None) kept o ∙ len;
      others = λ z a b. set_there (set xs gone None) kept z o a ∙ set_there xs gone z None b;
      emptied = set_there (set xs gone None) kept gone o (λ e. ne (sym e)) ∙ set_here xs gone None lt;
      stays = λ m e. absurd (let h : None ≡ Some m = sym at_kept ∙ same ∙ e in cc);
      comes = λ m e. inr (at_gone ∙ sym now ∙ e);
      goes = λ m e. now ∙ sym at_gone ∙ e;
      fewer = omega (arith, fewer_over xs kept gone o ne at_kept at_gone);
    }
