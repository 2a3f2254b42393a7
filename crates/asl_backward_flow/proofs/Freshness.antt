-- What is found at a point and not followed yet.
use Rattle.std.proofs.Common.{◌≡◌, ◌≢◌, ◌↔◌, ◌⊎◌, ⊎_elim, ℕ, zero, suc, if◌then◌else◌, ◌+◌, ◌<◌, ◌≤◌, Bool, IsTrue, true, false, List, [], ◌∷◌, length, map, slice_get, unwrap_or, inl, inr, refl, ap, sym, subst, ◌∙◌, arith}
use Rattle.std.proofs.lemmas.Bool.{cases_lt}
use Rattle.asl_lane_sets.specs.NumberSet.{IsIn}
use Rattle.asl_backward_flow.specs.declared.fresh.Fresh.{Fresh}
use Rattle.asl_backward_flow.specs.Fresh.{set_of, kept_at, was_followed, open_at, open_from, IsKept, IsGiven}
use Rattle.asl_backward_flow.specs.Found.{list_at, IsTakenOut, IsMarked, IsFresher}
use Rattle.asl_backward_flow.proofs.Marks.{is_in}

differ : (b : Bool) → b ≡ true → b ≡ false → ⊥
differ true t f = cc
differ false t f = cc

none_there : (set : List Bool) (n : ℕ) → ¬ IsIn set n → unwrap_or (slice_get set n) false ≡ false
none_there [] n never = refl
none_there (true ∷ set) zero never = absurd (never refl)
none_there (false ∷ set) zero never = refl
none_there (b ∷ set) (suc n) never = none_there set n never

one_there : (set : List Bool) (n : ℕ) → IsIn set n → unwrap_or (slice_get set n) false ≡ true
one_there set n e = ap (λ o. unwrap_or o false) e

same_there : (a b : List Bool) (n : ℕ) → IsIn a n ↔ IsIn b n → unwrap_or (slice_get a n) false ≡ unwrap_or (slice_get b n) false
same_there a b n same =
    ⊎_elim (λ h. one_there a n (same.1 h) ∙ sym (one_there b n h)) (λ never. none_there a n (λ h. never (same.0 h)) ∙ sym (none_there b n never)) (is_in b n)

open_again : (f : Fresh) (k : ℕ) (set : List Bool) → IsIn f.followed k → open_at f k set ≡ kept_at f k
open_again f k set e = ap (λ b. if b then kept_at f k else set) (one_there f.followed k e)

pub open_first : (f : Fresh) (k : ℕ) (set : List Bool) → ¬ IsIn f.followed k → open_at f k set ≡ set
open_first f k set never = ap (λ b. if b then kept_at f k else set) (none_there f.followed k never)

open_behind : (f : Fresh) (j : ℕ) (sets : List (List Bool)) (k : ℕ) → k < length sets → list_at (open_from f j sets) k ≡ open_at f (j + k) (list_at sets k)
open_behind f j [] k lt = absurd (omega (arith, lt))
open_behind f j (s ∷ sets) zero lt = let e : j ≡ j + 0 = omega arith in ap (λ i. open_at f i s) e
open_behind f j (s ∷ sets) (suc k) lt = let e : j + 1 + k ≡ j + suc k = omega arith in open_behind f (j + 1) sets k (omega (arith, lt)) ∙ ap (λ i. open_at f i (list_at sets k)) e

open_past : (f : Fresh) (j : ℕ) (sets : List (List Bool)) (k : ℕ) → length sets ≤ k → list_at (open_from f j sets) k ≡ []
open_past f j [] k le = refl
open_past f j (s ∷ sets) zero le = absurd (omega (arith, le))
open_past f j (s ∷ sets) (suc k) le = open_past f (j + 1) sets k (omega (arith, le))

-- the open set at a place
pub open_here : (f : Fresh) (sets : List (List Bool)) (k : ℕ) → k < length sets → list_at (open_from f 0 sets) k ≡ open_at f k (list_at sets k)
open_here f sets k lt = let e : 0 + k ≡ k = omega arith in open_behind f 0 sets k lt ∙ ap (λ i. open_at f i (list_at sets k)) e

-- at other places than one all stays
pub open_else : (f g : Fresh) (sets now : List (List Bool)) (place : ℕ) → length now ≡ length sets → ((k : ℕ) → k ≢ place → list_at now k ≡ list_at sets k)
    → ((k : ℕ) → k ≢ place → was_followed g k ≡ was_followed f k) → ((k : ℕ) → k ≢ place → kept_at g k ≡ kept_at f k)
    → (k : ℕ) → k ≢ place → list_at (open_from g 0 now) k ≡ list_at (open_from f 0 sets) k
open_else f g sets now place count rest told kept k ne =
    ⊎_elim
    (λ lt.
    open_here g now k (omega (arith, lt, count))
    ∙ ap (λ b. if b then kept_at g k else list_at now k) (told k ne)
    ∙ ap (λ l. if was_followed f k then l else list_at now k) (kept k ne)
    ∙ ap (λ l. if was_followed f k then kept_at f k else l) (rest k ne)
    ∙ sym (open_here f sets k lt))
    (λ le. open_past g 0 now k (omega (arith, le, count)) ∙ sym (open_past f 0 sets k le))
    (cases_lt k (length sets))

-- numbers came to a place
module _ (f : Fresh) (sets now : List (List Bool)) (place : ℕ) (numbers : ℕ → Type 0) (b : Bool) (there : place < length sets) (marked : IsMarked sets now place numbers b) where
  -- what was not followed before is all new
  pub fresher_first : ¬ IsIn f.followed place → IsFresher sets (open_from f 0 sets) (open_from f 0 now) place numbers b
  fresher_first never =
      let old : list_at (open_from f 0 sets) place ≡ list_at sets place = open_here f sets place there ∙ open_first f place (list_at sets place) never in
      let count = marked.count in
      let new : list_at (open_from f 0 now) place ≡ list_at now place = open_here f now place (omega (arith, there, count)) ∙ open_first f place (list_at now place) never in
      record {
        rest = open_else f f sets now place marked.count marked.rest (λ k ne. refl) (λ k ne. refl);
        kept = λ n h. subst (λ l. IsIn l n) (sym new) ((marked.here n).1 (inl (subst (λ l. IsIn l n) old h)));
        only = λ n h.
            ⊎_elim
            (λ was. inl (subst (λ l. IsIn l n) (sym old) was))
            (λ is. ⊎_elim (λ t. inr (t, is)) (λ had. inl (subst (λ l. IsIn l n) (sym old) (had n is))) marked.fresh)
            ((marked.here n).0 (subst (λ l. IsIn l n) new h));
        all = λ n h. inr (subst (λ l. IsIn l n) (sym new) ((marked.here n).1 (inr h)));
      }

  -- nothing is new there
  pub fresher_none : IsIn f.followed place → b ≡ false → IsFresher sets (open_from f 0 sets) (open_from f 0 now) place numbers b
  fresher_none done is =
      let count = marked.count in
      let same : list_at (open_from f 0 now) place ≡ list_at (open_from f 0 sets) place =
      open_here f now place (omega (arith, there, count)) ∙ open_again f place (list_at now place) done ∙ sym (open_here f sets place there ∙ open_again f place (list_at sets place) done) in
      record {
        rest = open_else f f sets now place marked.count marked.rest (λ k ne. refl) (λ k ne. refl);
        kept = λ n h. subst (λ l. IsIn l n) (sym same) h;
        only = λ n h. inl (subst (λ l. IsIn l n) same h);
        all = λ n h. ⊎_elim (λ t. absurd (differ b t is)) (λ had. inl (had n h)) marked.fresh;
      }

  -- what is new is kept there
  pub fresher_some : (g : Fresh) (Those : ℕ → Type 0) → IsIn f.followed place → b ≡ true → IsKept f g place (λ n. IsIn (kept_at f place) n ⊎ Those n) → ((n : ℕ) → Those n → numbers n)
      → ((n : ℕ) → numbers n → IsIn (list_at sets place) n ⊎ Those n) → IsFresher sets (open_from f 0 sets) (open_from g 0 now) place numbers b
  fresher_some g Those done is more within either =
      let count = marked.count in
      let old : list_at (open_from f 0 sets) place ≡ kept_at f place = open_here f sets place there ∙ open_again f place (list_at sets place) done in
      let new : list_at (open_from g 0 now) place ≡ kept_at g place =
      open_here g now place (omega (arith, there, count)) ∙ open_again g place (list_at now place) (subst (λ l. IsIn l place) (sym more.followed) done) in
      record {
        rest = open_else f g sets now place marked.count marked.rest (λ k ne. ap (λ l. unwrap_or (slice_get l k) false) more.followed) more.rest;
        kept = λ n h. subst (λ l. IsIn l n) (sym new) ((more.here n).1 (inl (subst (λ l. IsIn l n) old h)));
        only = λ n h. ⊎_elim (λ was. inl (subst (λ l. IsIn l n) (sym old) was)) (λ t. inr (is, within n t)) ((more.here n).0 (subst (λ l. IsIn l n) new h));
        all = λ n h. ⊎_elim (λ was. inl was) (λ t. inr (subst (λ l. IsIn l n) (sym new) ((more.here n).1 (inr t)))) (either n h);
      }

-- the test tells that it is not so
pub not_told : (b : Bool) (P : Type 0) → IsTrue b ↔ P → b ≡ false → ¬ P
not_told b P tells is h = differ b (tells.1 h) is

pub kept_same : (f e : Fresh) → e.sets ≡ f.sets → (k : ℕ) → kept_at e k ≡ kept_at f k
kept_same f e same k = ap (λ v. unwrap_or (slice_get (map set_of v.items) k) []) same

-- of numbers those that are not in a set
pub fresher_others : (f e g : Fresh) (sets now : List (List Bool)) (place : ℕ) (numbers copied others x : List Bool) (b : Bool) → place < length sets → IsMarked sets now place (IsIn numbers) b → IsIn f.followed place → b ≡ true
    → list_at sets place ≡ x → copied ≡ numbers → ((n : ℕ) → IsIn others n ↔ (IsIn copied n × ¬ IsIn x n)) → e.followed ≡ f.followed → e.sets ≡ f.sets
    → IsKept e g place (λ n. IsIn (kept_at e place) n ⊎ IsIn others n) → IsFresher sets (open_from f 0 sets) (open_from g 0 now) place (IsIn numbers) b
fresher_others f e g sets now place numbers copied others x b there marked done is here same tells followed keeps more =
    fresher_some f sets now place (IsIn numbers) b there marked g (IsIn others) done is
    (record {
      followed = more.followed ∙ followed;
      rest = λ k ne. more.rest k ne ∙ kept_same f e keeps k;
      here = λ n. subst (λ l. IsIn (kept_at g place) n ↔ (IsIn l n ⊎ IsIn others n)) (kept_same f e keeps place) (more.here n);
    })
    (λ n h. subst (λ l. IsIn l n) same ((tells n).0 h).0)
    (λ n h. ⊎_elim (λ was. inl (subst (λ l. IsIn l n) (sym here) was)) (λ never. inr ((tells n).1 (subst (λ l. IsIn l n) (sym same) h, never))) (is_in x n))

-- the same open sets
open_same : (f g : Fresh) → g.followed ≡ f.followed → g.sets ≡ f.sets → (j : ℕ) (sets : List (List Bool)) → open_from g j sets ≡ open_from f j sets
open_same f g followed keeps j [] = refl
open_same f g followed keeps j (s ∷ sets) =
    ap (λ l. (if unwrap_or (slice_get l j) false then kept_at g j else s) ∷ open_from g (j + 1) sets) followed
    ∙ ap (λ l. (if was_followed f j then l else s) ∷ open_from g (j + 1) sets) (kept_same f g keeps j)
    ∙ ap (λ ls. open_at f j s ∷ ls) (open_same f g followed keeps (j + 1) sets)

-- nothing was new, and a set was taken and given back
pub fresher_back : (f g : Fresh) (sets now : List (List Bool)) (place : ℕ) (numbers : ℕ → Type 0) (b : Bool) → place < length sets → IsMarked sets now place numbers b → IsIn f.followed place → b ≡ false
    → g.followed ≡ f.followed → g.sets ≡ f.sets → IsFresher sets (open_from f 0 sets) (open_from g 0 now) place numbers b
fresher_back f g sets now place numbers b there marked done is followed keeps =
    subst (λ l. IsFresher sets (open_from f 0 sets) l place numbers b) (sym (open_same f g followed keeps 0 now)) (fresher_none f sets now place numbers b there marked done is)

-- what is not followed yet is taken
module _ (f g : Fresh) (sets : List (List Bool)) (place : ℕ) (x given : List Bool) (there : place < length sets) (here : list_at sets place ≡ x) (so : IsGiven f g place x given) where
  pub given_out : IsTakenOut (open_from f 0 sets) (open_from g 0 sets) place
  given_out = record {
    rest = open_else f g sets sets place refl (λ k ne. refl)
        (λ k ne. same_there g.followed f.followed k (λ h. ⊎_elim (λ o. o) (λ e. absurd (ne e)) ((so.followed k).0 h), λ h. (so.followed k).1 (inl h))) so.rest;
    none = open_here g sets place there ∙ open_again g place (list_at sets place) ((so.followed place).1 (inr refl)) ∙ so.none;
  }

  pub given_is : given ≡ list_at (open_from f 0 sets) place
  given_is =
      ⊎_elim
      (λ done. so.again done ∙ sym (open_here f sets place there ∙ open_again f place (list_at sets place) done))
      (λ never. so.first never ∙ sym here ∙ sym (open_here f sets place there ∙ open_first f place (list_at sets place) never))
      (is_in f.followed place)
