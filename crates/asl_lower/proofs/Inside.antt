-- Where the open sections and the regions of a laid out program are, step by step.
use Rattle.std.proofs.Common.{◌≡◌, ◌≢◌, ℕ, zero, suc, ◌<◌, ◌⊎◌, inl, inr, true, false, ◌==◌, IsTrue, List, [], ◌∷◌, Option, Some, option_map, length, slice_get, refl, sym, ap, ◌∙◌, subst, arith}
use Rattle.std.proofs.lemmas.Bool.{cases_lt, eq-eqb, or_left, or_right}
use Rattle.std.proofs.lemmas.Option.{slice_get_within}
use Rattle.asl_code.specs.declared.instr.Instr.{Instr}
use Rattle.asl_code.specs.declared.instr.Instr.TheVariants as instr
use Rattle.asl_lower.specs.declared.section.Section.{Section}
use Rattle.asl_lower.specs.Lowered.{Lowered}
use Rattle.asl_lower.specs.OpenSections.{open_at, open_behind, without_innermost, is_among, release_of, InBody, InSection, FlowsTo}
use Rattle.asl_lower.specs.Facts.{HasLayout}
use Rattle.asl_lower.specs.Regions.{Region, Body, Inside, IsIn, IsEnd, outermost, AreDistinct}
use Rattle.asl_lower.proofs.Owner.{from_mapped}

-- what is known of a section of the table
pub record Told (l : Lowered) (n : ℕ) (s : Section) : Type 0 where
  pub enters : slice_get l.code s.acquire ≡ Some (instr.Acquire n)
  pub leaves : slice_get l.code s.release ≡ Some instr.Release
  pub before : s.acquire < s.release
  pub first_inside : InBody l s.function s.acquire
  pub last_inside : InBody l s.function s.release
  pub around : open_at l.code s.release ≡ n ∷ open_at l.code s.acquire

pub told : (l : Lowered) → HasLayout l → (n : ℕ) (s : Section) → slice_get l.sections n ≡ Some s → Told l n s
told l lay n s e =
    let w = lay.sections.there n (slice_get_within l.sections n s e) in
    let same : w.section ≡ s = (let q : Some w.section ≡ Some s = sym w.in_table ∙ e in cc) in
    let P : Section → Type 0 = λ t. Told l n t in
    subst P same (record { enters = w.enters; leaves = w.leaves; before = w.before; first_inside = w.first_inside; last_inside = w.last_inside; around = w.around })

-- a section that is entered at a place is not open there
not_open : (l : Lowered) → HasLayout l → (pc n : ℕ) → slice_get l.code pc ≡ Some (instr.Acquire n) → is_among (open_at l.code pc) n ≡ false
not_open l lay pc n e =
    elim (is_among (open_at l.code pc) n) as (λ b. is_among (open_at l.code pc) n ≡ b → b ≡ false) [
      | false ↦ λ is. refl
      | true ↦ λ is.
          let q = (lay.nested.opened pc n (slice_get_within l.code pc (instr.Acquire n) e)).0 is in
          let a = from_mapped (λ (s : Section). s.acquire) (slice_get l.sections n) pc (lay.sections.entered pc n e) in
          let same : q.0 ≡ a.0 = (let u : Some q.0 ≡ Some a.0 = sym q.1 ∙ a.1 in cc) in
          let at : q.0.acquire ≡ a.0.acquire = ap (λ (s : Section). s.acquire) same in
          absurd (omega (arith, q.2.behind, at, a.2))
    ] refl

-- open sections are distinct
distinct_rest : (xs : List ℕ) → AreDistinct xs → AreDistinct (without_innermost xs)
distinct_rest [] h = tt
distinct_rest (x ∷ xs) h = h.1

distinct_after : (l : Lowered) → HasLayout l → (pc : ℕ) (i : Option Instr) → slice_get l.code pc ≡ i → AreDistinct (open_at l.code pc) → AreDistinct (open_behind i (open_at l.code pc))
distinct_after l lay pc (Some (instr.Acquire n)) e h = (not_open l lay pc n e, h)
distinct_after l lay pc (Some instr.Release) e h = distinct_rest (open_at l.code pc) h
distinct_after l lay pc i e h = h

pub open_distinct : (l : Lowered) → HasLayout l → (pc : ℕ) → AreDistinct (open_at l.code pc)
open_distinct l lay zero = tt
open_distinct l lay (suc pc) = distinct_after l lay pc (slice_get l.code pc) refl (open_distinct l lay pc)

-- the outermost of the open sections
pub outermost_among : (xs : List ℕ) (n : ℕ) → outermost xs ≡ Some n → IsTrue (is_among xs n)
outermost_among [] n e = cc
outermost_among (x ∷ []) n e = let is : x ≡ n = cc in or_left (x == n) false (eq-eqb x n is)
outermost_among (x ∷ y ∷ xs) n e =
    or_right (x == n) (is_among (y ∷ xs) n) (outermost_among (y ∷ xs) n e)

-- where a section is open, the outermost is
pub outermost_section : (l : Lowered) → HasLayout l → (pc n : ℕ) → pc < length l.code → outermost (open_at l.code pc) ≡ Some n → InSection l n pc
outermost_section l lay pc n low e =
    (lay.nested.opened pc n low).0 (outermost_among (open_at l.code pc) n e)

-- where a section is open is in the body of its function
pub section_body : (l : Lowered) → HasLayout l → (n pc : ℕ) → (s : InSection l n pc) → InBody l s.0.function pc
section_body l lay n pc s =
    let k = told l lay n s.0 s.1 in
    let one : k.first_inside.function ≡ k.last_inside.function = (let u : Some k.first_inside.function ≡ Some k.last_inside.function = sym k.first_inside.in_table ∙ k.last_inside.in_table in cc) in
    record {
      function = k.last_inside.function;
      in_table = k.last_inside.in_table;
      start = omega (arith, k.first_inside.start, s.2.behind);
      before_end = omega (arith, k.last_inside.before_end, s.2.within);
    }

-- where a section is open is inside it or its end
pub open_inside : (l : Lowered) → HasLayout l → (f pc n : ℕ) → InBody l f pc → InSection l n pc → IsIn l (Inside n) f pc ⊎ IsEnd l (Inside n) pc
open_inside l lay f pc n body s =
    elim (cases_lt pc s.0.release) [
      | inl ahead ↦ inl (record {
        is = s.0;
        in_table = s.1;
        function = lay.parted.one_body pc s.0.function f (section_body l lay n pc s) body;
        behind = s.2.behind;
        ahead = ahead;
      })
      | inr past ↦ (let at : s.0.release ≡ pc = omega (arith, s.2.within) in
          inr (ap (option_map (λ (t : Section). t.release)) s.1 ∙ ap Some at))
    ]

pub outermost_inside : (l : Lowered) → HasLayout l → (f pc n : ℕ) → InBody l f pc → outermost (open_at l.code pc) ≡ Some n → IsIn l (Inside n) f pc ⊎ IsEnd l (Inside n) pc
outermost_inside l lay f pc n body e =
    open_inside l lay f pc n body (outermost_section l lay pc n (lay.parted.in_code pc f body) e)

-- a point of a region is in the body of its function
pub region_body : (l : Lowered) → HasLayout l → (r : Region) (f pc : ℕ) → IsIn l r f pc → InBody l f pc
region_body l lay (Body g) f pc h = let P : ℕ → Type 0 = λ m. InBody l m pc in subst P (sym h.0) h.2
region_body l lay (Inside n) f pc h =
    let s : InSection l n pc = (h.is, h.in_table, record { behind = h.behind; within = omega (arith, h.ahead) }) in
    let P : ℕ → Type 0 = λ m. InBody l m pc in
    subst P h.function (section_body l lay n pc s)

-- where control continues from a region is a point of it, or its end
pub region_goes_on : (l : Lowered) → HasLayout l → (r : Region) (f pc to : ℕ) (i : Instr) → IsIn l r f pc → slice_get l.code pc ≡ Some i → FlowsTo i pc to → IsIn l r f to ⊎ IsEnd l r to
region_goes_on l lay (Body g) f pc to i h e goes = inl (h.0, h.1, lay.inside.body pc to g i h.2 e goes)
region_goes_on l lay (Inside n) f pc to i h e goes =
    let s : InSection l n pc = (h.is, h.in_table, record { behind = h.behind; within = omega (arith, h.ahead) }) in
    let apart : pc ≢ h.is.release = λ at. omega (arith, h.ahead, at) in
    let body : InBody l f to = lay.inside.body pc to f i (region_body l lay (Inside n) f pc h) e goes in
    open_inside l lay f to n body (lay.inside.section pc to n i h.is h.in_table s apart e goes)

-- a section is entered at its first point, or at its end
pub section_entered : (l : Lowered) → HasLayout l → (n : ℕ) (s : Section) → slice_get l.sections n ≡ Some s → IsIn l (Inside n) s.function (suc s.acquire) ⊎ IsEnd l (Inside n) (suc s.acquire)
section_entered l lay n s e =
    let k = told l lay n s e in
    let t : InSection l n (suc s.acquire) = (s, e, record { behind = omega arith; within = omega (arith, k.before) }) in
    open_inside l lay s.function (suc s.acquire) n (section_body l lay n (suc s.acquire) t) t

-- the sections that are open after an `acq` and after a `rel`
pub opened_after_acquire : (l : Lowered) (pc n : ℕ) → slice_get l.code pc ≡ Some (instr.Acquire n) → open_at l.code (suc pc) ≡ n ∷ open_at l.code pc
opened_after_acquire l pc n e = ap (λ i. open_behind i (open_at l.code pc)) e

pub opened_after_release : (l : Lowered) (pc : ℕ) → slice_get l.code pc ≡ Some instr.Release → open_at l.code (suc pc) ≡ without_innermost (open_at l.code pc)
opened_after_release l pc e = ap (λ i. open_behind i (open_at l.code pc)) e

-- at the end of a section it is the innermost that is open
pub end_innermost : (l : Lowered) → HasLayout l → (pc n : ℕ) → release_of l n ≡ Some pc → (s : Section) × (slice_get l.sections n ≡ Some s) × (open_at l.code pc ≡ n ∷ open_at l.code s.acquire)
end_innermost l lay pc n e =
    let a = from_mapped (λ (s : Section). s.release) (slice_get l.sections n) pc e in
    (a.0, a.1, ap (open_at l.code) (sym a.2) ∙ (told l lay n a.0 a.1).around)

pub end_stands : (l : Lowered) → HasLayout l → (pc n : ℕ) → release_of l n ≡ Some pc → slice_get l.code pc ≡ Some instr.Release
end_stands l lay pc n e =
    let a = from_mapped (λ (s : Section). s.release) (slice_get l.sections n) pc e in
    ap (slice_get l.code) (sym a.2) ∙ (told l lay n a.0 a.1).leaves

-- the outermost open section that ends at a place is the only one that is open there
alone : (xs : List ℕ) (n : ℕ) → AreDistinct (n ∷ xs) → outermost (n ∷ xs) ≡ Some n → xs ≡ []
alone [] n d e = refl
alone (x ∷ xs) n d e = let among : IsTrue (is_among (x ∷ xs) n) = outermost_among (x ∷ xs) n e in cc

pub outermost_end : (l : Lowered) → HasLayout l → (pc n : ℕ) → release_of l n ≡ Some pc → outermost (open_at l.code pc) ≡ Some n → open_at l.code pc ≡ n ∷ []
outermost_end l lay pc n e out =
    let a = end_innermost l lay pc n e in
    let d : AreDistinct (n ∷ open_at l.code a.0.acquire) = subst AreDistinct a.2 (open_distinct l lay pc) in
    a.2 ∙ ap (λ (xs : List ℕ). n ∷ xs) (alone (open_at l.code a.0.acquire) n d (sym (ap outermost a.2) ∙ out))

-- after it nothing is open
pub outermost_left : (l : Lowered) → HasLayout l → (pc n : ℕ) → release_of l n ≡ Some pc → outermost (open_at l.code pc) ≡ Some n → open_at l.code (suc pc) ≡ []
outermost_left l lay pc n e out =
    opened_after_release l pc (end_stands l lay pc n e) ∙ ap without_innermost (outermost_end l lay pc n e out)

-- until then it stays the outermost, whatever the step
outermost_entered : (m : ℕ) (xs : List ℕ) (n : ℕ) → outermost xs ≡ Some n → outermost (m ∷ xs) ≡ Some n
outermost_entered m [] n e = cc
outermost_entered m (x ∷ xs) n e = e

outermost_released : (l : Lowered) → HasLayout l → (pc n : ℕ) (xs : List ℕ) → slice_get l.code pc ≡ Some instr.Release → open_at l.code pc ≡ xs → outermost xs ≡ Some n → (release_of l n ≡ Some pc → ⊥) → outermost (without_innermost xs) ≡ Some n
outermost_released l lay pc n [] e o out other = cc
outermost_released l lay pc n (x ∷ []) e o out other =
    let same : x ≡ n = cc in
    absurd (other (ap (release_of l) (sym same) ∙ lay.sections.left pc x [] e o))
outermost_released l lay pc n (x ∷ y ∷ xs) e o out other = out

outermost_after : (l : Lowered) → HasLayout l → (pc n : ℕ) (i : Instr) → slice_get l.code pc ≡ Some i → outermost (open_at l.code pc) ≡ Some n → (release_of l n ≡ Some pc → ⊥) → outermost (open_behind (Some i) (open_at l.code pc)) ≡ Some n
outermost_after l lay pc n (instr.Acquire m) e out other = outermost_entered m (open_at l.code pc) n out
outermost_after l lay pc n instr.Release e out other =
    outermost_released l lay pc n (open_at l.code pc) e refl out other
outermost_after l lay pc n i e out other = out

pub outermost_stays : (l : Lowered) → HasLayout l → (pc to n : ℕ) (i : Instr) → slice_get l.code pc ≡ Some i → FlowsTo i pc to → outermost (open_at l.code pc) ≡ Some n → (release_of l n ≡ Some pc → ⊥) → outermost (open_at l.code to) ≡ Some n
outermost_stays l lay pc to n i e goes out other =
    ap outermost (lay.nested.steps pc to i e goes) ∙ outermost_after l lay pc n i e out other
