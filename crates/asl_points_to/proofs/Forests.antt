-- The first members of disjoint sets.
use Rattle.std.proofs.Common.{◌≡◌, ◌≢◌, ℕ, zero, suc, ◌+◌, ◌<◌, ◌≤◌, inl, inr, eqb, List, [], ◌∷◌, ◌++◌, length, map, get_or, set, refl, sym, ap, ◌∙◌, subst, arith, length-set}
use Rattle.std.specs.List.{range_with_len}
use Rattle.std.proofs.lemmas.Bool.{cases_eq, cond-true, cond-false, eq-eqb, ne_eqb}
use Rattle.std.proofs.lemmas.List.{ext_get_or, get_or-set_same, get_or-set_other, get_or-map, length-map}
use Rattle.std.proofs.lemmas.List.FromFn.{length-range_with_len, get_or-range_with_len, length-map-range_with_len, get_or-map-range_with_len}
use Rattle.asl_points_to.specs.Sets.{ancestor, firsts_of, IsForest, joined}

-- these are the first members, where members have these parents
pub record AreFirsts (parents firsts : List ℕ) : Type 0 where
  pub len : length firsts ≡ length parents
  pub roots : (m : ℕ) → m < length parents → get_or parents m 0 ≡ m → get_or firsts m 0 ≡ m
  pub steps : (m : ℕ) → m < length parents → get_or firsts m 0 ≡ get_or firsts (get_or parents m 0) 0

root_stays : (ps : List ℕ) (k m : ℕ) → get_or ps m 0 ≡ m → ancestor ps k m ≡ m
root_stays ps zero m e = refl
root_stays ps (suc k) m e = ap (ancestor ps k) e ∙ root_stays ps k m e

-- past as many parents as the member's number nothing changes
one_more : (ps : List ℕ) → IsForest ps → (k m : ℕ) → m ≤ k → m < length ps → ancestor ps (suc k) m ≡ ancestor ps k m
one_more ps f zero m le lt =
    let low = f m lt in
    let e : get_or ps m 0 ≡ m = omega arith in
    e
one_more ps f (suc k) m le lt =
    let low = f m lt in
    elim (cases_eq (get_or ps m 0) m) [
      | inl e ↦ root_stays ps (suc (suc k)) m e ∙ sym (root_stays ps (suc k) m e)
      | inr n ↦ one_more ps f k (get_or ps m 0) (omega arith) (omega arith)
    ]

enough : (ps : List ℕ) → IsForest ps → (k m : ℕ) → m ≤ k → m < length ps → ancestor ps k m ≡ ancestor ps m m
enough ps f zero m le lt =
    let e : m ≡ 0 = omega arith in
    ap (λ (n : ℕ). ancestor ps n m) (sym e)
enough ps f (suc k) m le lt =
    elim (cases_eq m (suc k)) [
      | inl e ↦ ap (λ (n : ℕ). ancestor ps n m) (sym e)
      | inr n ↦ one_more ps f k m (omega arith) lt ∙ enough ps f k m (omega arith) lt
    ]

first_at : (ps : List ℕ) (m : ℕ) → m < length ps → get_or (firsts_of ps) m 0 ≡ ancestor ps m m
first_at ps m lt = get_or-map-range_with_len (λ n. ancestor ps n n) 0 (length ps) m m 0 lt (omega arith)

pub length_firsts : (ps : List ℕ) → length (firsts_of ps) ≡ length ps
length_firsts ps = length-map-range_with_len (λ n. ancestor ps n n) 0 (length ps)

pub are_firsts : (ps : List ℕ) → IsForest ps → AreFirsts ps (firsts_of ps)
are_firsts ps f = record {
  len = length_firsts ps;
  roots = λ m lt e. first_at ps m lt ∙ root_stays ps m m e;
  steps = λ m lt. (
      let low = f m lt in
      first_at ps m lt ∙ sym (one_more ps f m m (omega arith) lt)
      ∙ enough ps f m (get_or ps m 0) low (omega arith)
      ∙ sym (first_at ps (get_or ps m 0) (omega arith)));
}

only_first : (ps ls : List ℕ) → IsForest ps → AreFirsts ps ls → (k m : ℕ) → m ≤ k → m < length ps → get_or ls m 0 ≡ ancestor ps k m
only_first ps ls f a zero m le lt =
    let low = f m lt in
    a.roots m lt (omega arith) ∙ omega arith
only_first ps ls f a (suc k) m le lt =
    let low = f m lt in
    elim (cases_eq (get_or ps m 0) m) [
      | inl e ↦ a.roots m lt e ∙ sym (root_stays ps (suc k) m e)
      | inr n ↦ a.steps m lt ∙ only_first ps ls f a k (get_or ps m 0) (omega arith) (omega arith)
    ]

pub only_firsts : (ps ls : List ℕ) → IsForest ps → AreFirsts ps ls → ls ≡ firsts_of ps
only_firsts ps ls f a =
    ext_get_or 0 ls (firsts_of ps) (a.len ∙ sym (length_firsts ps)) (λ m lt. (
    let low : m < length ps = omega (arith, a.len) in
    only_first ps ls f a m m (omega arith) low ∙ sym (first_at ps m low)))

forest_set : (ps : List ℕ) (m p : ℕ) → IsForest ps → p ≤ m → IsForest (set ps m p)
forest_set ps m p f le n lt =
    let len = length-set ps m p in
    let low : n < length ps = omega arith in
    elim (cases_eq n m) [
      | inl e ↦ (let P : ℕ → Type 0 = λ k. get_or (set ps m p) k 0 ≤ k in subst P (sym e) (let is : get_or (set ps m p) m 0 ≡ p = get_or-set_same ps m p 0 (omega arith) in omega arith))
      | inr other ↦ (let is : get_or (set ps m p) n 0 ≡ get_or ps n 0 = get_or-set_other ps m n p 0 other in let b = f n low in omega arith)
    ]

-- what a member gets for its parent when its way is halved
pub record IsHalved (ps : List ℕ) (m p : ℕ) : Type 0 where
  pub less : p < m
  pub forest : IsForest (set ps m p)
  pub firsts : firsts_of (set ps m p) ≡ firsts_of ps
  pub same : get_or (firsts_of ps) p 0 ≡ get_or (firsts_of ps) m 0

pub halved : (ps : List ℕ) (m : ℕ) → IsForest ps → m < length ps → get_or ps m 0 ≢ m → (p : ℕ) → p ≡ get_or ps (get_or ps m 0) 0 → IsHalved ps m p
halved ps m f lt ne p e =
    let a = are_firsts ps f in
    let low = f m lt in
    let lower = f (get_or ps m 0) (omega arith) in
    let same : get_or (firsts_of ps) p 0 ≡ get_or (firsts_of ps) m 0 =
    ap (λ (n : ℕ). get_or (firsts_of ps) n 0) e ∙ sym (a.steps (get_or ps m 0) (omega arith)) ∙ sym (a.steps m lt) in
    let forest = forest_set ps m p f (omega arith) in
    let len = length-set ps m p in
    let is : get_or (set ps m p) m 0 ≡ p = get_or-set_same ps m p 0 lt in
    record {
      less = omega arith;
      forest = forest;
      firsts = sym (only_firsts (set ps m p) (firsts_of ps) forest (record {
        len = a.len ∙ sym len;
        roots = λ n there at. elim (cases_eq n m) [
          | inl k ↦ absurd (let x : get_or (set ps m p) m 0 ≡ m = ap (λ (i : ℕ). get_or (set ps m p) i 0) (sym k) ∙ at ∙ k in omega arith)
          | inr other ↦ a.roots n (omega arith) (sym (get_or-set_other ps m n p 0 other) ∙ at)
        ];
        steps = λ n there. elim (cases_eq n m) [
          | inl k ↦ ap (λ (i : ℕ). get_or (firsts_of ps) i 0) k ∙ sym same ∙ ap (λ (i : ℕ). get_or (firsts_of ps) i 0) (sym is ∙ ap (λ (i : ℕ). get_or (set ps m p) i 0) (sym k))
          | inr other ↦ a.steps n (omega arith) ∙ ap (λ (i : ℕ). get_or (firsts_of ps) i 0) (sym (get_or-set_other ps m n p 0 other))
        ];
      }));
      same = same;
    }

pub joined_gone : (kept gone : ℕ) → joined kept gone gone ≡ kept
joined_gone kept gone = cond-true (eqb gone gone) kept gone (eq-eqb gone gone refl)

pub joined_other : (kept gone n : ℕ) → n ≢ gone → joined kept gone n ≡ n
joined_other kept gone n other = cond-false (eqb n gone) kept n (ne_eqb n gone other)

-- what becomes of the first members when one set joins another
pub record AreJoined (ps : List ℕ) (kept gone : ℕ) : Type 0 where
  pub forest : IsForest (set ps gone kept)
  pub firsts : firsts_of (set ps gone kept) ≡ map (joined kept gone) (firsts_of ps)

pub joins : (ps : List ℕ) (kept gone : ℕ) → IsForest ps → kept < gone → gone < length ps → get_or (firsts_of ps) kept 0 ≡ kept → get_or (firsts_of ps) gone 0 ≡ gone → AreJoined ps kept gone
joins ps kept gone f less lt own_kept own_gone =
    let a = are_firsts ps f in
    let forest = forest_set ps gone kept f (omega arith) in
    let len = length-set ps gone kept in
    let is : get_or (set ps gone kept) gone 0 ≡ kept = get_or-set_same ps gone kept 0 lt in
    let new : List ℕ = map (joined kept gone) (firsts_of ps) in
    let at : (n : ℕ) → n < length ps → get_or new n 0 ≡ joined kept gone (get_or (firsts_of ps) n 0) =
    λ n low. get_or-map (joined kept gone) (firsts_of ps) n 0 0 (omega (arith, a.len)) in
    let own : get_or new kept 0 ≡ kept = at kept (omega arith) ∙ ap (joined kept gone) own_kept ∙ joined_other kept gone kept (omega arith) in
    let end : get_or new gone 0 ≡ kept = at gone lt ∙ ap (joined kept gone) own_gone ∙ joined_gone kept gone in
    record {
      forest = forest;
      firsts = sym (only_firsts (set ps gone kept) new forest (record {
        len = length-map (firsts_of ps) (joined kept gone) ∙ a.len ∙ sym len;
        roots = λ n there root. elim (cases_eq n gone) [
          | inl k ↦ absurd (let x : get_or (set ps gone kept) gone 0 ≡ gone = ap (λ (i : ℕ). get_or (set ps gone kept) i 0) (sym k) ∙ root ∙ k in omega arith)
          | inr other ↦ at n (omega arith) ∙ ap (joined kept gone) (a.roots n (omega arith) (sym (get_or-set_other ps gone n kept 0 other) ∙ root)) ∙ joined_other kept gone n other
        ];
        steps = λ n there. elim (cases_eq n gone) [
          | inl k ↦ ap (λ (i : ℕ). get_or new i 0) k ∙ end ∙ sym own ∙ ap (λ (i : ℕ). get_or new i 0) (sym is ∙ ap (λ (i : ℕ). get_or (set ps gone kept) i 0) (sym k))
          | inr other ↦ (
              let low : n < length ps = omega arith in
              let up = f n low in
              at n low ∙ ap (joined kept gone) (a.steps n low) ∙ sym (at (get_or ps n 0) (omega arith))
              ∙ ap (λ (i : ℕ). get_or new i 0) (sym (get_or-set_other ps gone n kept 0 other)))
        ];
      }));
    }

-- members that are each in a set of their own
range_more : (a n : ℕ) → range_with_len a (suc n) ≡ range_with_len a n ++ (a + n) ∷ []
range_more a zero = ap (λ (k : ℕ). k ∷ []) (let e : a ≡ a + 0 = omega arith in e)
range_more a (suc n) = ap (λ (xs : List ℕ). a ∷ xs) (range_more (a + 1) n ∙ ap (λ (k : ℕ). range_with_len (a + 1) n ++ k ∷ []) (let e : a + 1 + n ≡ a + suc n = omega arith in e))

pub range_push : (n : ℕ) → range_with_len 0 (n + 1) ≡ range_with_len 0 n ++ n ∷ []
range_push n =
    ap (range_with_len 0) (let e : n + 1 ≡ suc n = omega arith in e) ∙ range_more 0 n
    ∙ ap (λ (k : ℕ). range_with_len 0 n ++ k ∷ []) (let e : 0 + n ≡ n = omega arith in e)

range_at : (n m : ℕ) → m < n → get_or (range_with_len 0 n) m 0 ≡ m
range_at n m lt = get_or-range_with_len 0 n m 0 lt ∙ omega arith

pub range_forest : (n : ℕ) → IsForest (range_with_len 0 n)
range_forest n m lt =
    let e = range_at n m (omega (arith, length-range_with_len 0 n)) in
    omega arith

pub range_firsts : (n : ℕ) → firsts_of (range_with_len 0 n) ≡ range_with_len 0 n
range_firsts n =
    let at : (m : ℕ) → m < length (range_with_len 0 n) → get_or (range_with_len 0 n) m 0 ≡ m =
    λ m lt. range_at n m (omega (arith, length-range_with_len 0 n)) in
    sym (only_firsts (range_with_len 0 n) (range_with_len 0 n) (range_forest n) (record {
      len = refl;
      roots = λ m lt e. e;
      steps = λ m lt. ap (λ (k : ℕ). get_or (range_with_len 0 n) k 0) (sym (at m lt));
    }))
