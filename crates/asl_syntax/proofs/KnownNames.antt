-- One more name.
use Rattle.std.proofs.Common.{◌≡◌, ℕ, zero, suc, ◌+◌, ◌<◌, Bool, true, false, cond, ◌||◌, Option, None, Some, is_some, List, [], ◌∷◌, ◌++◌, length, take, drop, get_or, refl, sym, ap, ◌∙◌, arith}
use Rattle.std.specs.Prelude.{bytes_eq, slice_set}
use Rattle.std.specs.Borrow.{Bor}
use Rattle.std.specs.List.{refill}
use Rattle.std.specs.Option.{option_or}
use Rattle.std.proofs.lemmas.List.{take_more}
use Rattle.std.proofs.lemmas.Slice.Eq.{bytes_eq-Decides}
use Rattle.asl_syntax.specs.NumberedNamesView.{number_among}
use Rattle.asl_syntax.specs.Rules.{Counts}

-- a name with its number
abbrev Entry : Type 0
Entry = Bor (List ℕ) × ℕ

pub is_some_with : (b : Bool) (n : ℕ) (o : Option ℕ) → is_some (cond b (Some n) o) ≡ (b || is_some o)
is_some_with true n o = refl
is_some_with false n o = refl

-- a change after a row in which the name does not stand
after_step : (b : Bool) (x : List ℕ) (n : ℕ) (front : Counts) (old new : Option ℕ) (q : List ℕ) → bytes_eq x q ≡ b → front x ≡ None → new ≡ cond b (Some n) old → option_or (front q) new ≡ cond b (Some n) (option_or (front q) old)
after_step true x n front old new q same none e =
    ap (λ o. option_or o new) (ap front (sym ((bytes_eq-Decides x q).0 same)) ∙ none) ∙ e
after_step false x n front old new q same none e = ap (option_or (front q)) e

pub with_tree : (x : List ℕ) (n : ℕ) (front : Counts) (old new : Option ℕ) (q : List ℕ) → front x ≡ None → new ≡ cond (bytes_eq x q) (Some n) old → option_or (front q) new ≡ cond (bytes_eq x q) (Some n) (option_or (front q) old)
with_tree x n front old new q none e = after_step (bytes_eq x q) x n front old new q refl none e

-- the row in two parts
append_step : (b : Bool) (v : ℕ) (whole front back : Option ℕ) → whole ≡ option_or front back → cond b (Some v) whole ≡ option_or (cond b (Some v) front) back
append_step true v whole front back e = refl
append_step false v whole front back e = e

among_append : (es fs : List Entry) (q : List ℕ) → number_among (es ++ fs) q ≡ option_or (number_among es q) (number_among fs q)
among_append [] fs q = refl
among_append (e ∷ es) fs q = append_step (bytes_eq e.0.now q) e.1 (number_among (es ++ fs) q) (number_among es q) (number_among fs q) (among_append es fs q)

or_assoc : (a b c : Option ℕ) → option_or (option_or a b) c ≡ option_or a (option_or b c)
or_assoc None b c = refl
or_assoc (Some n) b c = refl

or_one : (b : Bool) (n : ℕ) (o : Option ℕ) → option_or (cond b (Some n) None) o ≡ cond b (Some n) o
or_one true n o = refl
or_one false n o = refl

-- one more name at the end of the row
pub with_pushed : (es fs : List Entry) (k : Bor (List ℕ)) (n : ℕ) (rest : Option ℕ) (q : List ℕ) → fs ≡ es ++ (k, n) ∷ [] → number_among es k.now ≡ None → option_or (number_among fs q) rest ≡ cond (bytes_eq k.now q) (Some n) (option_or (number_among es q) rest)
with_pushed es fs k n rest q e none =
    ap (λ l. option_or (number_among l q) rest) e
    ∙ ap (λ o. option_or o rest) (among_append es ((k, n) ∷ []) q)
    ∙ or_assoc (number_among es q) (number_among ((k, n) ∷ []) q) rest
    ∙ with_tree k.now n (number_among es) rest _ q none (or_one (bytes_eq k.now q) n rest)

-- none of the names in front, and not the next one
none_step : (b : Bool) (v : ℕ) → b ≡ false → cond b (Some v) None ≡ None
none_step true v e = absurd cc
none_step false v e = refl

pub none_more : (es : List Entry) (i : ℕ) (d : Entry) (x : List ℕ) → i < length es → number_among (take i es) x ≡ None → bytes_eq (get_or es i d).0.now x ≡ false → number_among (take (i + 1) es) x ≡ None
none_more es i d x low none n =
    let e : Entry = get_or es i d in
    ap (λ l. number_among l x) (take_more es i d low)
    ∙ among_append (take i es) (e ∷ []) x
    ∙ ap (λ o. option_or o (number_among (e ∷ []) x)) none
    ∙ none_step (bytes_eq e.0.now x) e.1 n

pub none_from : (o : Option ℕ) → is_some o ≡ false → o ≡ None
none_from None e = refl
none_from (Some n) e = absurd cc

head_differs : (b : Bool) (m : ℕ) (o : Option ℕ) → cond b (Some m) o ≡ None → (b ≡ false) × (o ≡ None)
head_differs true m o e = absurd cc
head_differs false m o e = (refl, e)

-- the name stands there
pub found_at : (es : List Entry) (i : ℕ) (d : Entry) (x : List ℕ) → i < length es → number_among (take i es) x ≡ None → bytes_eq (get_or es i d).0.now x ≡ true → number_among es x ≡ Some (get_or es i d).1
found_at [] i d x low none is = absurd (omega (arith, low))
found_at (y ∷ ys) zero d x low none is = ap (λ b. cond b (Some y.1) (number_among ys x)) is
found_at (y ∷ ys) (suc i) d x low none is =
    let h = head_differs (bytes_eq y.0.now x) y.1 (number_among (take i ys) x) none in
    ap (λ b. cond b (Some y.1) (number_among ys x)) h.0 ∙ found_at ys i d x (omega (arith, low)) h.1 is

-- the first of the names that is the name itself gets another number
first_step : (b : Bool) (n m : ℕ) (o : Option ℕ) → cond b (Some n) o ≡ cond b (Some n) (cond b (Some m) o)
first_step true n m o = refl
first_step false n m o = refl

later_step : (a b : Bool) (n m : ℕ) (o : Option ℕ) → (a ≡ true → b ≡ true → ⊥) → cond a (Some m) (cond b (Some n) o) ≡ cond b (Some n) (cond a (Some m) o)
later_step true true n m o h = absurd (h refl refl)
later_step true false n m o h = refl
later_step false true n m o h = refl
later_step false false n m o h = refl

-- two names that differ are not both the same third
differ : (x y q : List ℕ) → bytes_eq x y ≡ false → bytes_eq x q ≡ true → bytes_eq y q ≡ true → ⊥
differ x y q n a b =
    let e : x ≡ y = (bytes_eq-Decides x q).0 a ∙ sym ((bytes_eq-Decides y q).0 b) in
    let t : bytes_eq x y ≡ true = (bytes_eq-Decides x y).1 e in
    cc

pub with_renumbered : (es : List Entry) (i : ℕ) (d : Entry) (x : List ℕ) (n : ℕ) (q : List ℕ) → i < length es → number_among (take i es) x ≡ None → bytes_eq (get_or es i d).0.now x ≡ true → number_among (slice_set es i ((get_or es i d).0, n)) q ≡ cond (bytes_eq x q) (Some n) (number_among es q)
with_renumbered [] i d x n q low none is = absurd (omega (arith, low))
with_renumbered (y ∷ ys) zero d x n q low none is =
    let b : bytes_eq y.0.now q ≡ bytes_eq x q = ap (λ z. bytes_eq z q) ((bytes_eq-Decides y.0.now x).0 is) in
    ap (λ c. cond c (Some n) (number_among ys q)) b
    ∙ first_step (bytes_eq x q) n y.1 (number_among ys q)
    ∙ ap (λ c. cond (bytes_eq x q) (Some n) (cond c (Some y.1) (number_among ys q))) (sym b)
with_renumbered (y ∷ ys) (suc i) d x n q low none is =
    let h = head_differs (bytes_eq y.0.now x) y.1 (number_among (take i ys) x) none in
    ap (cond (bytes_eq y.0.now q) (Some y.1)) (with_renumbered ys i d x n q (omega (arith, low)) h.1 is)
    ∙ later_step (bytes_eq y.0.now q) (bytes_eq x q) n y.1 (number_among ys q) (λ a b. differ y.0.now x q h.0 a b)

-- a row to which nothing was written
take_whole : (es fs : List Entry) → take (length es) (es ++ fs) ≡ es
take_whole [] fs = refl
take_whole (e ∷ es) fs = ap (λ (l : List Entry). e ∷ l) (take_whole es fs)

pub refill_same : (es fs : List Entry) → fs ≡ es → refill (length es) es fs ≡ es
refill_same es fs e =
    ap (λ (l : List Entry). refill (length es) es l) e ∙ take_whole es (drop (length es) es)
