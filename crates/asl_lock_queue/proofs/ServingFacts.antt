-- Where a line stands while it is served: its front, its back, and the numbers that are written.
use Rattle.std.proofs.Common.{◌≡◌, ℕ, ◌<◌, ◌≤◌, ◌+◌, zero, suc, List, [], ◌∷◌, ◌++◌, length, get_or, take, drop, refl, ap, sym, subst, ◌∙◌, arith}
use Rattle.std.proofs.lemmas.List.{drop_more, take_more, length-append, length-take-le, length-drop}
use Rattle.std.proofs.Math.Seq.{take-append_seam, drop-append_seam}
use Rattle.asl_lock_forest.specs.Holding.{Holding, Request}
use Rattle.asl_lock_queue.specs.Waiting.{Waiter}
use Rattle.asl_lock_queue.specs.Lines.{AreLined}
use Rattle.asl_lock_queue.specs.Serving.{IsServing}

-- the back of a line begins with the thread that was read there
pub back_at : (line : List ℕ) (place t : ℕ) → place < length line → t ≡ get_or line place t → drop place line ≡ t ∷ drop (place + 1) line
back_at line place t there is = drop_more line place t there ∙ ap (λ n. n ∷ drop (place + 1) line) (sym is)

pub front_at_next : (line : List ℕ) (place t : ℕ) → place < length line → t ≡ get_or line place t → take (place + 1) line ≡ take place line ++ t ∷ []
front_at_next line place t there is = take_more line place t there ∙ ap (λ n. take place line ++ n ∷ []) (sym is)

-- the front and the back of what is left when one at a place is taken out
pub front_left : (line back : List ℕ) (place : ℕ) → place ≤ length line → take place (take place line ++ back) ≡ take place line
front_left line back place within =
    ap (λ n. take n (take place line ++ back)) (sym (length-take-le place line within)) ∙ take-append_seam (take place line) back

pub back_left : (line back : List ℕ) (place : ℕ) → place ≤ length line → drop place (take place line ++ back) ≡ back
back_left line back place within =
    ap (λ n. drop n (take place line ++ back)) (sym (length-take-le place line within)) ∙ drop-append_seam (take place line) back

pub length_left : (line : List ℕ) (place : ℕ) → place < length line → length (take place line ++ drop (place + 1) line) + 1 ≡ length line
length_left line place there =
    let both = length-append (take place line) (drop (place + 1) line) in
    let front = length-take-le place line (omega (arith, there)) in
    let back = length-drop (place + 1) line in
    omega (arith, there, both, front, back)

plus_one : (k : ℕ) → suc k + 1 ≡ suc (k + 1)
plus_one k = omega arith

pub drop_next : (k : ℕ) (xs : List ℕ) → drop (k + 1) xs ≡ drop 1 (drop k xs)
drop_next zero xs = refl
drop_next (suc k) [] = ap (λ n. drop n []) (plus_one k)
drop_next (suc k) (x ∷ xs) = ap (λ n. drop n (x ∷ xs)) (plus_one k) ∙ drop_next k xs

-- the same of lists that are the same
pub lined_same : {c d t u : ℕ} {h i w v : List Request} {l m : List ℕ} → d ≡ c → u ≡ t → i ≡ h → v ≡ w → m ≡ l → AreLined c t h w l → AreLined d u i v m
lined_same {c} {d} {t} {u} {h} {i} {w} {v} {l} {m} pc pt ph pw pl lined =
    subst (λ x. AreLined x u i v m) (sym pc)
    (subst (λ x. AreLined c x i v m) (sym pt)
    (subst (λ x. AreLined c t x v m) (sym ph)
    (subst (λ x. AreLined c t h x m) (sym pw)
    (subst (AreLined c t h w) (sym pl) lined))))

pub serving_same : {first : Holding} {waiters : List Waiter} {c d t u : ℕ} {h i w v : List Request} {f g b k n o : List ℕ} → d ≡ c → u ≡ t → i ≡ h → v ≡ w → g ≡ f → k ≡ b → o ≡ n
    → IsServing c t first waiters h w f b n → IsServing d u first waiters i v g k o
serving_same {first} {waiters} {c} {d} {t} {u} {h} {i} {w} {v} {f} {g} {b} {k} {n} {o} pc pt ph pw pf pb pn serving =
    subst (λ x. IsServing x u first waiters i v g k o) (sym pc)
    (subst (λ x. IsServing c x first waiters i v g k o) (sym pt)
    (subst (λ x. IsServing c t first waiters x v g k o) (sym ph)
    (subst (λ x. IsServing c t first waiters h x g k o) (sym pw)
    (subst (λ x. IsServing c t first waiters h w x k o) (sym pf)
    (subst (λ x. IsServing c t first waiters h w f x o) (sym pb)
    (subst (IsServing c t first waiters h w f b) (sym pn) serving))))))
