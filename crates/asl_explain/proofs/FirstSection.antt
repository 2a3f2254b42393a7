-- The first list that has a lock on a class, as a loop finds it.
use Rattle.std.proofs.Common.{◌≡◌, ℕ, suc, ◌+◌, ◌<◌, ◌≤◌, List, Bool, true, false, if◌then◌else◌, Option, None, Some, length, drop, get_or, sym, ap, ◌∙◌, add-one}
use Rattle.std.proofs.lemmas.List.{at_drop_more, at_drop_all}
use Rattle.asl_code.specs.declared.lock.Lock.{Lock}
use Rattle.asl_explain.specs.Telling.{is_listed, first_list}

chosen : (b c : Bool) (x y : Option ℕ) → b ≡ c → (if b then x else y) ≡ (if c then x else y)
chosen b c x y e = ap (λ (a : Bool). if a then x else y) e

-- the answer of what is left, by its first list
next_first : (class : ℕ) (xs : List (List Lock)) (n : ℕ) (d x : List Lock) → n < length xs → x ≡ get_or xs n d → first_list class n (drop n xs) ≡ (if is_listed class x then Some n else first_list class (n + 1) (drop (n + 1) xs))
next_first class xs n d x low is =
    at_drop_more (λ (l : List (List Lock)). first_list class n l) xs n d low
    ∙ ap (λ (y : List Lock). if is_listed class y then Some n else first_list class (suc n) (drop (n + 1) xs)) (sym is)
    ∙ ap (λ (k : ℕ). if is_listed class x then Some n else first_list class k (drop (n + 1) xs)) (sym (add-one n))

pub first_more : (class : ℕ) (xs : List (List Lock)) (n : ℕ) (d x : List Lock) → n < length xs → x ≡ get_or xs n d → is_listed class x ≡ false → first_list class n (drop n xs) ≡ first_list class 0 xs → first_list class (n + 1) (drop (n + 1) xs) ≡ first_list class 0 xs
first_more class xs n d x low is off so =
    sym (next_first class xs n d x low is ∙ chosen (is_listed class x) false (Some n) (first_list class (n + 1) (drop (n + 1) xs)) off) ∙ so

pub first_here : (class : ℕ) (xs : List (List Lock)) (n : ℕ) (d x : List Lock) → n < length xs → x ≡ get_or xs n d → is_listed class x ≡ true → first_list class n (drop n xs) ≡ first_list class 0 xs → Some n ≡ first_list class 0 xs
first_here class xs n d x low is on so =
    sym (next_first class xs n d x low is ∙ chosen (is_listed class x) true (Some n) (first_list class (n + 1) (drop (n + 1) xs)) on) ∙ so

pub first_none : (class : ℕ) (xs : List (List Lock)) (n : ℕ) → length xs ≤ n → first_list class n (drop n xs) ≡ first_list class 0 xs → None ≡ first_list class 0 xs
first_none class xs n past so = sym (at_drop_all (λ (l : List (List Lock)). first_list class n l) xs n past) ∙ so
