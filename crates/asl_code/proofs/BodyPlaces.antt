-- Where the bodies of functions lie: each place of the code lies in the body of one function, and that body is found for it.
use Rattle.std.proofs.Common.{◌≡◌, ℕ, ◌+◌, ◌<◌, ◌≤◌, List, [], ◌∷◌, Option, Some, get_or, zero, suc, take, find, slice_get, refl, ap, sym, ◌∙◌, inl, inr, arith}
use Rattle.std.proofs.lemmas.List.Sums.{sum_by-cons, sum_by_more_le}
use Rattle.std.proofs.lemmas.Option.{slice_get_within, get_or_from_slice_get}
use Rattle.std.proofs.lemmas.Bool.{cases_lt, le-leb, lt-ltb, and_from, cond-true}
use Rattle.asl_code.specs.Bodies.{Body, bodies_from, total_len, first_of, is_inside, body_of}
use Rattle.asl_code.specs.Fits.{LiesIn}
use Rattle.asl_code.specs.Rules.{body_at}
use Rattle.asl_code.specs.declared.image.Function.{Function}
use Rattle.asl_code.specs.declared.image.Image.{Image}
use Rattle.asl_code.proofs.Told.{inside_later}

-- where the body of a function begins among bodies from this place on
abbrev pub begin : ℕ → List Function → ℕ → ℕ
begin first fs n = first + total_len (take n fs)

-- after the first function, the others begin after its body
pub begin-suc : (first : ℕ) (g : Function) (fs : List Function) (n : ℕ) → begin first (g ∷ fs) (suc n) ≡ begin (first + g.len) fs n
begin-suc first g fs n =
    let sums = sum_by-cons (λ (f : Function). f.len) g (take n fs) in
    omega arith

-- a place between a function's first and its last finds that function's body
pub finds_body : (first : ℕ) (fs : List Function) (n pc : ℕ) (f : Function) → slice_get fs n ≡ Some f → begin first fs n ≤ pc → pc < begin first fs n + f.len → find (is_inside pc) (bodies_from first fs) ≡ Some (body_at (begin first fs n) f)
finds_body first [] n pc f is low high = cc
finds_body first (g ∷ fs) zero pc f is low high =
    let same : g ≡ f = cc in
    let length_same : g.len ≡ f.len = ap (λ (h : Function). h.len) same in
    let start : first ≡ begin first (g ∷ fs) zero = omega arith in
    cond-true _ _ _ (and_from _ _ (le-leb first pc (omega arith)) (lt-ltb pc (first + g.len) (omega arith)))
    ∙ ap (body_some first) same ∙ ap (λ k. body_some k f) start
  where
    body_some : ℕ → Function → Option Body
    body_some k h = Some (body_at k h)
finds_body first (g ∷ fs) (suc n) pc f is low high =
    let e = begin-suc first g fs n in
    inside_later first g fs pc (omega arith)
    ∙ finds_body (first + g.len) fs n pc f is (omega arith) (omega arith)
    ∙ ap (λ k. Some (body_at k f)) (sym e)

-- the body that is looked up for a place is the one that it lies in
pub body_of_place : (i : Image) (n pc : ℕ) (f : Function) → LiesIn i n pc f → body_of i pc ≡ Some (body_at (first_of i.functions n) f)
body_of_place i n pc f at =
    let start : begin 0 i.functions n ≡ first_of i.functions n = omega arith in
    finds_body 0 i.functions n pc f at.function (omega (arith, at.low)) (omega (arith, at.high))
    ∙ ap (λ k. Some (body_at k f)) start

-- no place lies in two bodies
pub one_body : (first : ℕ) (fs : List Function) (n m pc : ℕ) (f g : Function) → slice_get fs n ≡ Some f → slice_get fs m ≡ Some g → begin first fs n ≤ pc → pc < begin first fs n + f.len → begin first fs m ≤ pc → pc < begin first fs m + g.len → n ≡ m
one_body first [] n m pc f g is js nl nh ml mh = cc
one_body first (h ∷ fs) zero zero pc f g is js nl nh ml mh = refl
one_body first (h ∷ fs) zero (suc m) pc f g is js nl nh ml mh =
    let same : h.len ≡ f.len = ap (λ (k : Function). k.len) (some_same is) in
    let e = begin-suc first h fs m in
    absurd (omega arith)
  where
    some_same : {a b : Function} → Some a ≡ Some b → a ≡ b
    some_same e = cc
one_body first (h ∷ fs) (suc n) zero pc f g is js nl nh ml mh =
    let same : h.len ≡ g.len = ap (λ (k : Function). k.len) (some_same js) in
    let e = begin-suc first h fs n in
    absurd (omega arith)
  where
    some_same : {a b : Function} → Some a ≡ Some b → a ≡ b
    some_same e = cc
one_body first (h ∷ fs) (suc n) (suc m) pc f g is js nl nh ml mh =
    let e = begin-suc first h fs n in
    let d = begin-suc first h fs m in
    ap suc (one_body (first + h.len) fs n m pc f g is js (omega arith) (omega arith) (omega arith) (omega arith))

-- so it lies in the body of one function
pub lies_once : (i : Image) (n m pc : ℕ) (f g : Function) → LiesIn i n pc f → LiesIn i m pc g → n ≡ m
lies_once i n m pc f g a b =
    one_body 0 i.functions n m pc f g a.function b.function (omega (arith, a.low)) (omega (arith, a.high)) (omega (arith, b.low)) (omega (arith, b.high))

-- each place below the lengths together lies in a body
pub some_body : (first : ℕ) (fs : List Function) (pc : ℕ) → first ≤ pc → pc < first + total_len fs → (n : ℕ) × (f : Function) × (slice_get fs n ≡ Some f) × (begin first fs n ≤ pc) × (pc < begin first fs n + f.len)
some_body first [] pc low high = absurd (omega arith)
some_body first (g ∷ fs) pc low high =
    elim (cases_lt pc (first + g.len)) [
      | inl here ↦ (0, g, refl, omega arith, omega arith)
      | inr later ↦
          let sums = sum_by-cons (λ (f : Function). f.len) g fs in
          let r : (n : ℕ) × (f : Function) × (slice_get fs n ≡ Some f) × (begin (first + g.len) fs n ≤ pc) × (pc < begin (first + g.len) fs n + f.len) = some_body (first + g.len) fs pc later (omega arith) in
          let e = begin-suc first g fs r.0 in
          (suc r.0, r.1, r.2, omega (arith, r.3), omega (arith, r.4))
    ]

-- the same of the code of an image
pub lies_somewhere : (i : Image) (pc : ℕ) → pc < total_len i.functions → (n : ℕ) × (f : Function) × LiesIn i n pc f
lies_somewhere i pc lt =
    let r = some_body 0 i.functions pc (omega arith) (omega arith) in
    (r.0, r.1, record { function = r.2; low = omega (arith, r.3); high = omega (arith, r.4) })

-- a body ends within the lengths together
pub body_within : (i : Image) (n : ℕ) (f : Function) → slice_get i.functions n ≡ Some f → first_of i.functions n + f.len ≤ total_len i.functions
body_within i n f is =
    let e = get_or_from_slice_get i.functions n f f is in
    let lengths : (get_or i.functions n f).len ≡ f.len = ap (λ (g : Function). g.len) e in
    let below = sum_by_more_le (λ (g : Function). g.len) i.functions n f (slice_get_within i.functions n f is) in
    omega arith

-- so does each place in it
pub lies_within : (i : Image) (n pc : ℕ) (f : Function) → LiesIn i n pc f → pc < total_len i.functions
lies_within i n pc f at = omega (arith, body_within i n f at.function, at.high)

-- a function of an instruction begins its body where it has one
pub lies_first : (i : Image) (n : ℕ) (f : Function) → slice_get i.functions n ≡ Some f → 0 < f.len → LiesIn i n (first_of i.functions n) f
lies_first i n f is some = record { function = is; low = omega arith; high = omega arith }

-- a function's body among the bodies
pub body_there : (first : ℕ) (fs : List Function) (n : ℕ) (f : Function) → slice_get fs n ≡ Some f → slice_get (bodies_from first fs) n ≡ Some (body_at (begin first fs n) f)
body_there first [] n f is = cc
body_there first (g ∷ fs) zero f is =
    let same : g ≡ f = cc in
    let start : first ≡ begin first (g ∷ fs) zero = omega arith in
    ap (λ h. Some (body_at first h)) same ∙ ap (λ k. Some (body_at k f)) start
body_there first (g ∷ fs) (suc n) f is =
    body_there (first + g.len) fs n f is ∙ ap (λ k. Some (body_at k f)) (sym (begin-suc first g fs n))
