-- A register, or the cells of a class, that begin to point somewhere.
use Rattle.std.proofs.Common.{◌≡◌, ◌≢◌, ℕ, ◌<◌, ◌⊎◌, inl, inr, List, length, Option, None, Some, Vec, Global, get_or, set, refl, sym, ap, ◌∙◌, subst, arith, length-set}
use Rattle.std.proofs.lemmas.Bool.{cases_eq}
use Rattle.asl_points_to.specs.declared.class_draft.ClassDraft.{ClassDraft}
use Rattle.asl_points_to.specs.declared.value_flow.Place.{Place}
use Rattle.asl_points_to.specs.Classes.{Classed, some_at, inside}
use Rattle.asl_points_to.specs.Draft.{class_in, at, first, entry, IsDraft, IsForced, Keeps, CellsPointTo}
use Rattle.std.proofs.lemmas.List.{get_or_read}
use Rattle.asl_points_to.proofs.Cells.{read, set_here, set_there}

same_place : (p q : Place) → p.function ≡ q.function → p.register ≡ q.register → p ≡ q
same_place p q f r =
    let by_function : ℕ → Place = λ n. record { function = n; register = p.register } in
    let by_register : ℕ → Place = λ n. record { function = q.function; register = n } in
    ap by_function f ∙ ap by_register r

cases_place : (p q : Place) → (p ≡ q) ⊎ (p ≢ q)
cases_place p q =
    elim (cases_eq p.function q.function) [
      | inl f ↦ elim (cases_eq p.register q.register) [
        | inl r ↦ inl (same_place p q f r)
        | inr ne ↦ inr (λ e. ne (ap (λ (x : Place). x.register) e))
      ]
      | inr ne ↦ inr (λ e. ne (ap (λ (x : Place). x.function) e))
    ]

-- what the draft says of registers, where one that pointed nowhere points to a member's class
pub record IsPut (old new : List (List (Option ℕ))) (place : Place) (m : ℕ) : Type 0 where
  pub here : entry new place ≡ Some m
  pub others : (p : Place) → p ≢ place → entry new p ≡ entry old p

pub put_forced : (c : Classed) (s : ClassDraft) (rows : Vec (List (Option ℕ)) Global) (place : Place) (m : ℕ) → IsPut s.registers.items rows.items place m → IsForced c s → at c place ≡ Some (class_in c m) → IsForced c (record { sets = s.sets; registers = rows; cells = s.cells })
put_forced c s rows place m h f e = record {
  classes = f.classes;
  registers = λ p k is. elim (cases_place p place) [
    | inl same ↦ (
        let there : Some m ≡ Some k = sym h.here ∙ ap (entry rows.items) (sym same) ∙ is in
        let k_is : m ≡ k = cc in
        ap (at c) same ∙ e ∙ ap (λ (n : ℕ). Some (class_in c n)) k_is)
    | inr other ↦ f.registers p k (sym (h.others p other) ∙ is)
  ];
  cells = f.cells;
}

-- the draft after one in which the cells of the class of `x` pointed nowhere
pub record IsFill (s : ClassDraft) (x m here : ℕ) : Type 0 where
  pub draft : IsDraft s
  pub there : x < length s.sets
  pub member_there : m < length s.sets
  pub first_is : here ≡ first s x
  pub low : here < length s.sets
  pub nowhere : some_at s.cells.items here ≡ None

module _ (s : ClassDraft) (x m here : ℕ) (cells : Vec (Option ℕ) Global) (f : IsFill s x m here) (is : cells.items ≡ set s.cells.items here (Some m)) where
  now_here : some_at cells.items here ≡ Some m
  now_here = ap (λ (xs : List (Option ℕ)). some_at xs here) is ∙ set_here s.cells.items here (Some m) (let l = f.draft.cells in let k = f.low in omega arith)

  now_there : (y : ℕ) → y ≢ here → some_at cells.items y ≡ some_at s.cells.items y
  now_there y ne = ap (λ (xs : List (Option ℕ)). some_at xs y) is ∙ set_there s.cells.items here y (Some m) ne

  from_cells : (P : ℕ → ℕ → Type 0) → P here m → ((y k : ℕ) → some_at s.cells.items y ≡ Some k → P y k) → (y k : ℕ) → some_at cells.items y ≡ Some k → P y k
  from_cells P new old y k e = elim (cases_eq y here) [
    | inl same ↦ (
        let there : Some m ≡ Some k = sym now_here ∙ ap (some_at cells.items) (sym same) ∙ e in
        let k_is : m ≡ k = cc in
        let Q : ℕ → Type 0 = λ z. P z k in
        subst Q (sym same) (subst (P here) k_is new))
    | inr ne ↦ old y k (sym (now_there y ne) ∙ e)
  ]

  pub fill_draft : IsDraft (record { sets = s.sets; registers = s.registers; cells = cells })
  fill_draft =
      let P : ℕ → ℕ → Type 0 = λ y k. k < length s.sets in
      record {
        cells = ap length is ∙ length-set s.cells.items here (Some m) ∙ f.draft.cells;
        pointed_there = f.draft.pointed_there;
        cells_there = from_cells P f.member_there f.draft.cells_there;
      }

  pub fill_keeps : Keeps s (record { sets = s.sets; registers = s.registers; cells = cells })
  fill_keeps = record {
    members = refl;
    functions = refl;
    classes = λ y k e. e;
    registers = λ p k e. e;
    cells = λ y k e. elim (cases_eq (first s y) here) [
      | inl same ↦ absurd (let h : None ≡ Some k = sym f.nowhere ∙ ap (some_at s.cells.items) (sym same) ∙ e in cc)
      | inr ne ↦ record { member = k; there = now_there (first s y) ne ∙ e; same = refl }
    ];
  }

  pub fill_points : CellsPointTo (record { sets = s.sets; registers = s.registers; cells = cells }) x m
  fill_points = record { member = m; there = ap (some_at cells.items) (sym f.first_is) ∙ now_here; same = refl }

  pub fill_forced : (c : Classed) → IsForced c s → inside c (class_in c x) ≡ Some (class_in c m) → IsForced c (record { sets = s.sets; registers = s.registers; cells = cells })
  fill_forced c h e =
      let P : ℕ → ℕ → Type 0 = λ y k. inside c (class_in c y) ≡ Some (class_in c k) in
      record {
        classes = h.classes;
        registers = h.registers;
        cells = from_cells P (ap (inside c) (ap (class_in c) f.first_is ∙ sym (h.classes x f.there)) ∙ e) h.cells;
      }

-- what was read at the first member
pub kept_at : (s : ClassDraft) (here n : ℕ) (o : Option ℕ) → n ≡ length s.cells.items → here < n → o ≡ get_or s.cells.items here o → some_at s.cells.items here ≡ o
kept_at s here n o len low is = read s.cells.items here ∙ sym (get_or_read s.cells.items here o (omega arith) is None)

pub merged_points : (s new : ClassDraft) (x m here other : ℕ) → here ≡ first s x → some_at s.cells.items here ≡ Some other → Keeps s new → first new other ≡ first new m → CellsPointTo new x m
merged_points s new x m here other e is k joined =
    let a = k.cells x other (ap (some_at s.cells.items) (sym e) ∙ is) in
    record { member = a.member; there = a.there; same = a.same ∙ joined }

-- the classes have merged what pointed there before and what is to be pointed to
pub merge_is_forced : (c : Classed) (s : ClassDraft) (x m here other : ℕ) → here ≡ first s x → x < length s.sets → some_at s.cells.items here ≡ Some other → IsForced c s → inside c (class_in c x) ≡ Some (class_in c m) → class_in c other ≡ class_in c m
merge_is_forced c s x m here other e there is f points =
    let same : class_in c x ≡ class_in c here = f.classes x there ∙ ap (class_in c) (sym e) in
    let h : Some (class_in c other) ≡ Some (class_in c m) = sym (f.cells here other is) ∙ ap (inside c) (sym same) ∙ points in
    cc
