-- Lists with one element more in their middle.
use Rattle.std.proofs.Common.{◌≡◌, ℕ, ◌+◌, ◌-◌, ◌<◌, ◌≤◌, List, [], ◌∷◌, ◌++◌, length, take, drop, get_or, set, sym, ap, ◌∙◌, arith, append_assoc, length-append, length-drop}
use Rattle.std.specs.List.{copy_within}
use Rattle.std.proofs.lemmas.List.{take_more, set_at, length-take-le, take_at, drop_at, take-take, drop-take}

-- a part moved one place on, and an element before it
moved_on : {X : Type 0} (xs : List X) (p m : ℕ) (x : X) → p + m < length xs →
    set ((take (p + 1) xs ++ take m (drop p xs)) ++ drop (p + 1 + m) xs) p x ≡ (take p xs ++ x ∷ take m (drop p xs)) ++ drop (p + 1 + m) xs
moved_on xs p m x lt =
    let P = take p xs in let g = get_or xs p x in let M = take m (drop p xs) in let D = drop (p + 1 + m) xs in
    ap (λ t. set ((t ++ M) ++ D) p x) (take_more xs p x (omega arith))
    ∙ ap (λ t. set t p x) (append_assoc (P ++ g ∷ []) M D ∙ append_assoc P (g ∷ []) (M ++ D))
    ∙ set_at P g (M ++ D) x p (length-take-le p xs (omega arith))
    ∙ sym (append_assoc P (x ∷ M) D)

-- how long the part is then, with what is before it
long : {X : Type 0} (xs : List X) (p c : ℕ) (x : X) → p ≤ c → c < length xs → length (take p xs ++ x ∷ take (c - p) (drop p xs)) ≡ c + 1
long xs p c x le lt =
    let one = length-take-le p xs (omega arith) in
    let far = length-drop p xs in
    let two = length-take-le (c - p) (drop p xs) (omega arith) in
    let both = length-append (take p xs) (x ∷ take (c - p) (drop p xs)) in
    omega arith

pub take-inserted : {X : Type 0} (xs : List X) (p c : ℕ) (x : X) → p ≤ c → c < length xs →
    take (c + 1) (set (copy_within xs p c (p + 1)) p x) ≡ take p (take c xs) ++ x ∷ drop p (take c xs)
take-inserted xs p c x le lt =
    let e : p + (c - p) ≡ c = omega arith in
    ap (take (c + 1)) (moved_on xs p (c - p) x (omega arith))
    ∙ take_at (take p xs ++ x ∷ take (c - p) (drop p xs)) (drop (p + 1 + (c - p)) xs) (c + 1) (long xs p c x le lt)
    ∙ ap (λ t. t ++ x ∷ take (c - p) (drop p xs)) (sym (take-take p c xs le))
    ∙ ap (λ t. take p (take c xs) ++ x ∷ t) (sym (drop-take p (c - p) xs) ∙ ap (λ n. drop p (take n xs)) e)

pub drop-inserted : {X : Type 0} (xs : List X) (p c : ℕ) (x : X) → p ≤ c → c < length xs →
    drop (c + 1) (set (copy_within xs p c (p + 1)) p x) ≡ drop (c + 1) xs
drop-inserted xs p c x le lt =
    let e : p + 1 + (c - p) ≡ c + 1 = omega arith in
    ap (drop (c + 1)) (moved_on xs p (c - p) x (omega arith))
    ∙ drop_at (take p xs ++ x ∷ take (c - p) (drop p xs)) (drop (p + 1 + (c - p)) xs) (c + 1) (long xs p c x le lt)
    ∙ ap (λ n. drop n xs) e
