-- What a loop adds for each byte: what was added so far, and then what is left to be.
use Rattle.std.proofs.Common.{◌≡◌, ℕ, ◌+◌, ◌<◌, ◌≤◌, List, [], ◌∷◌, ◌++◌, length, drop, map, get_or, sym, ap, ◌∙◌, append_assoc, append-nil}
use Rattle.std.proofs.lemmas.List.{at_drop_more, at_drop_all}

pub one_added : (f : ℕ → ℕ) (bytes : List ℕ) (n d b : ℕ) (first old new added : List ℕ) → n < length bytes → b ≡ get_or bytes n d → added ≡ f b ∷ [] → new ≡ old ++ added
    → old ++ map f (drop n bytes) ≡ first ++ map f bytes → new ++ map f (drop (n + 1) bytes) ≡ first ++ map f bytes
one_added f bytes n d b first old new added low is one grows all =
    let step : map f (drop n bytes) ≡ f b ∷ map f (drop (n + 1) bytes) =
    at_drop_more (λ (l : List ℕ). map f l) bytes n d low ∙ ap (λ (y : ℕ). f y ∷ map f (drop (n + 1) bytes)) (sym is) in
    ap (λ (l : List ℕ). l ++ map f (drop (n + 1) bytes)) (grows ∙ ap (λ (l : List ℕ). old ++ l) one)
    ∙ append_assoc old (f b ∷ []) (map f (drop (n + 1) bytes))
    ∙ ap (λ (l : List ℕ). old ++ l) (sym step)
    ∙ all

pub all_added : (f : ℕ → ℕ) (bytes : List ℕ) (n : ℕ) (first text : List ℕ) → length bytes ≤ n → text ++ map f (drop n bytes) ≡ first ++ map f bytes → text ≡ first ++ map f bytes
all_added f bytes n first text past all =
    sym (append-nil text) ∙ ap (λ (l : List ℕ). text ++ l) (sym (at_drop_all (λ (l : List ℕ). map f l) bytes n past)) ∙ all

-- ---- what one item more adds, of what is left to be added

pub left_more : {X Y : Type 0} (F : List X → List Y) (xs : List X) (n : ℕ) (d x : X) (old new piece whole : List Y) → n < length xs → get_or xs n d ≡ x → new ≡ old ++ piece → ((ys : List X) → F (x ∷ ys) ≡ piece ++ F ys) → old ++ F (drop n xs) ≡ whole
    → new ++ F (drop (n + 1) xs) ≡ whole
left_more F xs n d x old new piece whole lt is grows split all =
    let step : F (drop n xs) ≡ piece ++ F (drop (n + 1) xs) = at_drop_more F xs n d lt ∙ ap (λ y. F (y ∷ drop (n + 1) xs)) is ∙ split (drop (n + 1) xs) in
    ap (λ l. l ++ F (drop (n + 1) xs)) grows ∙ append_assoc old piece (F (drop (n + 1) xs)) ∙ sym (ap (λ l. old ++ l) step) ∙ all

pub left_none : {X Y : Type 0} (F : List X → List Y) (xs : List X) (n : ℕ) (old whole : List Y) → length xs ≤ n → F [] ≡ [] → old ++ F (drop n xs) ≡ whole → old ≡ whole
left_none F xs n old whole past none all =
    sym (append-nil old) ∙ ap (λ l. old ++ l) (sym (at_drop_all F xs n past ∙ none)) ∙ all
