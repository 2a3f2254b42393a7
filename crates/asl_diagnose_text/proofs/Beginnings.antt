-- The readers of src/statements.rt that look for where assignments and stores begin and end, one token on.
use Rattle.std.proofs.Common.{◌≡◌, ℕ, zero, suc, ◌+◌, ◌-◌, ◌<◌, List, [], ◌∷◌, Bool, true, false, not, if◌then◌else◌, ◌&&◌, ◌||◌, cond, map, refl, sym, ap, ◌∙◌, subst, arith}
use Rattle.std.proofs.lemmas.List.Sums.{sum_by-cons}
use Rattle.std.specs.List.{Contains, count_by}
use Rattle.asl_grammar.specs.Token.{Spot}
use Rattle.asl_diagnose_text.specs.Statements.{end_in, is_edge, is_first, is_semicolon, is_between, statements_in, Statement}

-- where the assignments and the stores among tokens begin
abbrev pub beginnings_in : List Spot → List ℕ
beginnings_in ss = map (λ s. s.from) (statements_in ss)

-- where they end
abbrev pub endings_in : List Spot → List ℕ
endings_in ss = map (λ s. s.to) (statements_in ss)

-- the beginnings among the tokens that are left, where the flag says whether a statement may begin with the first of them
abbrev pub begun : Bool → List Spot → List ℕ
begun may [] = []
begun may (s ∷ ss) = if may && is_first s.token then s.at ∷ beginnings_in (s ∷ ss) else beginnings_in (s ∷ ss)

pub none_begun : (all left : List Spot) → left ≡ all → begun false left ≡ beginnings_in all
none_begun all [] e = ap beginnings_in e
none_begun all (s ∷ ss) e = ap beginnings_in e

map_if : (f : Statement → ℕ) (b : Bool) (x : Statement) (xs : List Statement) → map f (if b then x ∷ xs else xs) ≡ (if b then f x ∷ map f xs else map f xs)
map_if f true x xs = refl
map_if f false x xs = refl

after_one : (s : Spot) (ss : List Spot) → beginnings_in (s ∷ ss) ≡ begun (is_edge s.token) ss
after_one s [] = refl
after_one s (t ∷ ss) = map_if (λ x. x.from) (is_edge s.token && is_first t.token) (record { from = t.at; to = end_in ss }) (statements_in (t ∷ ss))

-- a token with which one begins, or another
one_begun : (may : Bool) (s : Spot) (ss : List Spot) → begun may (s ∷ ss) ≡ (if may && is_first s.token then s.at ∷ begun (is_edge s.token) ss else begun (is_edge s.token) ss)
one_begun may s ss = ap (λ (r : List ℕ). if may && is_first s.token then s.at ∷ r else r) (after_one s ss)

begins : (may : Bool) (left more : List Spot) (s : Spot) → left ≡ s ∷ more → (may && is_first s.token) ≡ true → begun may left ≡ s.at ∷ begun (is_edge s.token) more
begins may left more s e f =
    ap (begun may) e ∙ one_begun may s more ∙ ap (λ (b : Bool). if b then s.at ∷ begun (is_edge s.token) more else begun (is_edge s.token) more) f

contains_first : (x : ℕ) (xs : List ℕ) → Contains (x ∷ xs) x
contains_first x xs = (0, omega arith, refl)

contains_later : (y x : ℕ) (xs : List ℕ) → Contains xs x → Contains (y ∷ xs) x
contains_later y x xs h = (suc h.0, omega (arith, h.1), h.2)

later_if : (b : Bool) (y x : ℕ) (xs : List ℕ) → Contains xs x → Contains (if b then y ∷ xs else xs) x
later_if true y x xs h = contains_later y x xs h
later_if false y x xs h = h

-- one begins with this token, which is at the place
pub begins_here : (all : List ℕ) (may : Bool) (left more : List Spot) (s : Spot) (at : ℕ) → (Contains (begun may left) at → Contains all at) → left ≡ s ∷ more → (may && is_first s.token) ≡ true → s.at ≡ at → Contains all at
begins_here all may left more s at h e f g =
    h (subst (λ (xs : List ℕ). Contains xs at) (sym (begins may left more s e f)) (subst (λ (x : ℕ). Contains (x ∷ begun (is_edge s.token) more) at) (sym g) (contains_first at _)))

-- what begins later begins among all that were left
pub begins_later : (all : List ℕ) (may : Bool) (left more : List Spot) (s : Spot) (at : ℕ) → (Contains (begun may left) at → Contains all at) → left ≡ s ∷ more → Contains (begun (is_edge s.token) more) at → Contains all at
begins_later all may left more s at h e c =
    h (subst (λ (xs : List ℕ). Contains xs at) (sym (ap (begun may) e ∙ one_begun may s more)) (later_if (may && is_first s.token) s.at at _ c))

pub none_begins : (all left : List Spot) (at : ℕ) → left ≡ all → Contains (begun false left) at → Contains (beginnings_in all) at
none_begins all left at e = subst (λ (xs : List ℕ). Contains xs at) (none_begun all left e)

-- where those end that begin among the tokens that are left
abbrev pub ended : Bool → List Spot → List ℕ
ended may [] = []
ended may (s ∷ ss) = if may && is_first s.token then end_in ss ∷ endings_in (s ∷ ss) else endings_in (s ∷ ss)

-- the same, where the first flag says whether one is begun, which ends with the next `;`
abbrev pub to_end : Bool → Bool → List Spot → List ℕ
to_end is_begun may ss = if is_begun then end_in ss ∷ ended may ss else ended may ss

none_ended : (left : List Spot) → ended false left ≡ endings_in left
none_ended [] = refl
none_ended (s ∷ ss) = refl

pub none_ends : (all left : List Spot) (at : ℕ) → left ≡ all → Contains (to_end false false left) at → Contains (endings_in all) at
none_ends all left at e = subst (λ (xs : List ℕ). Contains xs at) (none_ended left ∙ ap endings_in e)

ends_after : (s : Spot) (ss : List Spot) → endings_in (s ∷ ss) ≡ ended (is_edge s.token) ss
ends_after s [] = refl
ends_after s (t ∷ ss) = map_if (λ x. x.to) (is_edge s.token && is_first t.token) (record { from = t.at; to = end_in ss }) (statements_in (t ∷ ss))

-- the ends among a token and others, where the others have these
abbrev parts : Bool → Bool → Bool → ℕ → ℕ → List ℕ → List ℕ
parts is_begun begins ends here later ys =
    if is_begun then (if ends then here else later) ∷ (if begins then later ∷ ys else ys) else (if begins then later ∷ ys else ys)

one_ended : (is_begun may : Bool) (s : Spot) (ss : List Spot) → to_end is_begun may (s ∷ ss) ≡ parts is_begun (may && is_first s.token) (is_semicolon s.token) (suc s.at) (end_in ss) (ended (is_edge s.token) ss)
one_ended is_begun may s ss =
    ap (λ (ys : List ℕ). parts is_begun (may && is_first s.token) (is_semicolon s.token) (suc s.at) (end_in ss) ys) (ends_after s ss)

-- one is begun, and ends with this token
pub ends_here : (all : List ℕ) (is_begun may : Bool) (left more : List Spot) (s : Spot) (at : ℕ) → (Contains (to_end is_begun may left) at → Contains all at) → left ≡ s ∷ more → is_begun ≡ true → is_semicolon s.token ≡ true → suc s.at ≡ at → Contains all at
ends_here all is_begun may left more s at h e b f g =
    let P : List ℕ → Type 0 = λ xs. Contains xs at in
    let ys = if may && is_first s.token then end_in more ∷ ended (is_edge s.token) more else ended (is_edge s.token) more in
    h (subst P (sym (ap (to_end is_begun may) e ∙ one_ended is_begun may s more ∙ ap (λ (x : Bool). parts x (may && is_first s.token) (is_semicolon s.token) (suc s.at) (end_in more) (ended (is_edge s.token) more)) b ∙ ap (λ (x : Bool). (if x then suc s.at else end_in more) ∷ ys) f)) (subst (λ (x : ℕ). Contains (x ∷ ys) at) (sym g) (contains_first at ys)))

later_part : (is_begun begins ends : Bool) (here later : ℕ) (ys : List ℕ) (at : ℕ) → Contains (if begins || is_begun && not ends then later ∷ ys else ys) at → Contains (parts is_begun begins ends here later ys) at
later_part true true ends here later ys at h = contains_later (if ends then here else later) at (later ∷ ys) h
later_part false true ends here later ys at h = h
later_part true false true here later ys at h = contains_later here at ys h
later_part true false false here later ys at h = h
later_part false false ends here later ys at h = h

-- what ends later ends among all that were left
pub ends_later : (all : List ℕ) (is_begun may : Bool) (left more : List Spot) (s : Spot) (at : ℕ) → (Contains (to_end is_begun may left) at → Contains all at) → left ≡ s ∷ more → Contains (to_end (may && is_first s.token || is_begun && not (is_semicolon s.token)) (is_edge s.token) more) at → Contains all at
ends_later all is_begun may left more s at h e c =
    h (subst (λ (xs : List ℕ). Contains xs at) (sym (ap (to_end is_begun may) e ∙ one_ended is_begun may s more)) (later_part is_begun (may && is_first s.token) (is_semicolon s.token) (suc s.at) (end_in more) (ended (is_edge s.token) more) at c))

-- the wanted number and those that begin later are what is left of it and all that begin
pub record IsCounting (from to want : ℕ) (all : List ℕ) (may : Bool) (left : List Spot) (more : ℕ) : Type 0 where
  pub counted : want + count_by (is_between from to) (begun may left) ≡ more + count_by (is_between from to) all

pub none_counted : (from to want : ℕ) (all left : List Spot) → left ≡ all → IsCounting from to want (beginnings_in all) false left want
none_counted from to want all left e = record { counted = ap (λ (xs : List ℕ). want + count_by (is_between from to) xs) (none_begun all left e) }

pub all_counted : (from to want : ℕ) (all : List ℕ) (may : Bool) (left : List Spot) (more : ℕ) → IsCounting from to want all may left more → left ≡ [] → more ≡ 0 → want ≡ count_by (is_between from to) all
all_counted from to want all may left more h e z =
    let n : count_by (is_between from to) (begun may left) ≡ 0 = ap (λ (ss : List Spot). count_by (is_between from to) (begun may ss)) e in
    omega (arith, h.counted, n, z)

abbrev weight : Bool → ℕ
weight b = cond b 1 0

-- what a token adds to the count
adds_if : (from to : ℕ) (b : Bool) (at : ℕ) (xs : List ℕ) → count_by (is_between from to) (if b then at ∷ xs else xs) ≡ weight (b && is_between from to at) + count_by (is_between from to) xs
adds_if from to true at xs = sum_by-cons (λ x. cond (is_between from to x) 1 0) at xs
adds_if from to false at xs = omega arith

adds : (from to : ℕ) (may : Bool) (left rest : List Spot) (s : Spot) → left ≡ s ∷ rest → count_by (is_between from to) (begun may left) ≡ weight (may && is_first s.token && is_between from to s.at) + count_by (is_between from to) (begun (is_edge s.token) rest)
adds from to may left rest s e =
    ap (count_by (is_between from to)) (ap (begun may) e ∙ one_begun may s rest) ∙ adds_if from to (may && is_first s.token) s.at (begun (is_edge s.token) rest)

positive : (n : ℕ) → (n ≡ 0 → ⊥) → 0 < n
positive zero f = absurd (f refl)
positive (suc n) f = omega arith

-- one that begins between the places is counted, and no other token
pub counted_one : (from to want : ℕ) (all : List ℕ) (may : Bool) (left rest : List Spot) (s : Spot) (more : ℕ) → IsCounting from to want all may left more → left ≡ s ∷ rest → (may && is_first s.token && is_between from to s.at) ≡ true → (more ≡ 0 → ⊥) → IsCounting from to want all (is_edge s.token) rest (more - 1)
counted_one from to want all may left rest s more h e f n = record {
  counted =
      let one : weight (may && is_first s.token && is_between from to s.at) ≡ 1 = ap weight f in
      let a = adds from to may left rest s e in
      let z : 0 < more = positive more n in
      let c = h.counted in
      omega arith;
}

pub counted_none : (from to want : ℕ) (all : List ℕ) (may : Bool) (left rest : List Spot) (s : Spot) (more : ℕ) → IsCounting from to want all may left more → left ≡ s ∷ rest → (may && is_first s.token && is_between from to s.at) ≡ false → IsCounting from to want all (is_edge s.token) rest more
counted_none from to want all may left rest s more h e f = record {
  counted =
      let none : weight (may && is_first s.token && is_between from to s.at) ≡ 0 = ap weight f in
      let a = adds from to may left rest s e in
      let c = h.counted in
      omega arith;
}
