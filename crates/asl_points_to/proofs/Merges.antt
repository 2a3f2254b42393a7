-- Classes that are merged, and what cells of both point to.
use Rattle.std.proofs.Common.{◌≡◌, ◌≢◌, ℕ, ◌<◌, ◌⊎◌, inl, inr, List, [], ◌∷◌, zero, suc, length, map, Option, None, Some, MatchOption, get_or, refl, sym, ap, ◌∙◌, subst, arith}
use Rattle.std.proofs.Common.{Vec, Global}
use Rattle.std.proofs.lemmas.Bool.{cases_eq}
use Rattle.std.proofs.lemmas.List.{length-map}
use Rattle.asl_points_to.specs.declared.class_draft.ClassDraft.{ClassDraft}
use Rattle.asl_points_to.specs.Classes.{Classed, some_at, inside}
use Rattle.asl_points_to.specs.Sets.{joined}
use Rattle.asl_points_to.specs.Draft.{class_in, first, IsDraft, IsForced, IsTakenOver, AreNext, IsMerged, IsForcedMerge}
use Rattle.asl_points_to.proofs.Forests.{joined_gone, joined_other}

first_joined : (firsts : List ℕ) (kept gone m : ℕ) → kept < gone → get_or (map (joined kept gone) firsts) m 0 ≡ joined kept gone (get_or firsts m 0)
first_joined [] kept gone m lt = sym (joined_other kept gone 0 (omega arith))
first_joined (f ∷ fs) kept gone zero lt = refl
first_joined (f ∷ fs) kept gone (suc m) lt = first_joined fs kept gone m lt

-- a draft in which `kept` and `gone` were first members of classes, and the one after it
pub record IsJoin (old : ClassDraft) (sets : List ℕ) (cells : Vec (Option ℕ) Global) (left right kept gone : ℕ) (both : Option (ℕ × ℕ)) : Type 0 where
  pub draft : IsDraft old
  pub left_there : left < length old.sets
  pub right_there : right < length old.sets
  pub less : kept < gone
  pub either : ((first old left ≡ kept) × (first old right ≡ gone)) ⊎ ((first old left ≡ gone) × (first old right ≡ kept))
  pub sets_are : sets ≡ map (joined kept gone) old.sets
  pub taken : IsTakenOver old.cells.items cells.items kept gone both

module _ (old : ClassDraft) (sets : List ℕ) (cells : Vec (Option ℕ) Global) (left right kept gone : ℕ) (both : Option (ℕ × ℕ)) (j : IsJoin old sets cells left right kept gone both) where
  first_now : (m : ℕ) → get_or sets m 0 ≡ joined kept gone (first old m)
  first_now m = ap (λ (fs : List ℕ). get_or fs m 0) j.sets_are ∙ first_joined old.sets kept gone m j.less

  from_gone : (m : ℕ) → first old m ≡ gone → get_or sets m 0 ≡ kept
  from_gone m e = first_now m ∙ ap (joined kept gone) e ∙ joined_gone kept gone

  from_other : (m : ℕ) → first old m ≢ gone → get_or sets m 0 ≡ first old m
  from_other m ne = first_now m ∙ joined_other kept gone (first old m) ne

  from_kept : (m : ℕ) → first old m ≡ kept → get_or sets m 0 ≡ kept
  from_kept m e = let less = j.less in from_other m (omega arith) ∙ e

  joined_now : get_or sets left 0 ≡ get_or sets right 0
  joined_now = elim j.either [
    | inl e ↦ from_kept left e.0 ∙ sym (from_gone right e.1)
    | inr e ↦ from_gone left e.0 ∙ sym (from_kept right e.1)
  ]

  same_length : length sets ≡ length old.sets
  same_length = ap length j.sets_are ∙ length-map old.sets (joined kept gone)

-- what the cells of a class point to goes over
over : (old new : List (Option ℕ)) (sets : List ℕ) (kept gone m : ℕ) (both : Option (ℕ × ℕ)) → ((x : ℕ) → some_at old kept ≡ Some x → some_at new kept ≡ Some x) → MatchOption both ((x : ℕ) → some_at old gone ≡ Some x → some_at new kept ≡ Some x) (λ p. (some_at old kept ≡ Some p.0) × (some_at old gone ≡ Some p.1)) → some_at old gone ≡ Some m → (i : ℕ) × (some_at new kept ≡ Some i) × ((get_or sets i 0 ≡ get_or sets m 0) ⊎ MatchOption both ⊥ (λ p. (get_or sets i 0 ≡ get_or sets p.0 0) × (get_or sets m 0 ≡ get_or sets p.1 0)))
over old new sets kept gone m None stays goes e = (m, goes m e, inl refl)
over old new sets kept gone m (Some p) stays goes e =
    let same : m ≡ p.1 = (let h : Some m ≡ Some p.1 = sym e ∙ goes.1 in cc) in
    (p.0, stays p.0 goes.0, inr (refl, ap (λ (n : ℕ). get_or sets n 0) same))

next_is : (s : ClassDraft) (both : Option (ℕ × ℕ)) (x y : ℕ) → MatchOption both ⊥ (λ p. (first s x ≡ first s p.0) × (first s y ≡ first s p.1)) → AreNext s both x y
next_is s None x y h = h
next_is s (Some p) x y h = h

pair_there : (n : ℕ) (old : List (Option ℕ)) (kept gone : ℕ) (new : List (Option ℕ)) (both : Option (ℕ × ℕ)) → ((x m : ℕ) → some_at old x ≡ Some m → m < n) → MatchOption both ((x : ℕ) → some_at old gone ≡ Some x → some_at new kept ≡ Some x) (λ p. (some_at old kept ≡ Some p.0) × (some_at old gone ≡ Some p.1)) → MatchOption both (Unit {0}) (λ p. (p.0 < n) × (p.1 < n))
pair_there n old kept gone new None there goes = tt
pair_there n old kept gone new (Some p) there goes = (there kept p.0 goes.0, there gone p.1 goes.1)

pair_forced : (c : Classed) (old : List (Option ℕ)) (kept gone : ℕ) (new : List (Option ℕ)) (both : Option (ℕ × ℕ)) → ((x m : ℕ) → some_at old x ≡ Some m → inside c (class_in c x) ≡ Some (class_in c m)) → class_in c kept ≡ class_in c gone → MatchOption both ((x : ℕ) → some_at old gone ≡ Some x → some_at new kept ≡ Some x) (λ p. (some_at old kept ≡ Some p.0) × (some_at old gone ≡ Some p.1)) → MatchOption both (Unit {0}) (λ p. class_in c p.0 ≡ class_in c p.1)
pair_forced c old kept gone new None cells same goes = tt
pair_forced c old kept gone new (Some p) cells same goes =
    let h : Some (class_in c p.0) ≡ Some (class_in c p.1) = sym (cells kept p.0 goes.0) ∙ ap (inside c) same ∙ cells gone p.1 goes.1 in
    cc

abbrev after : ClassDraft → List ℕ → Vec (Option ℕ) Global → ClassDraft
after old sets cells = record { sets = sets; registers = old.registers; cells = cells }

pub is_merged : (old : ClassDraft) (sets : List ℕ) (cells : Vec (Option ℕ) Global) (left right kept gone : ℕ) (both : Option (ℕ × ℕ)) → IsJoin old sets cells left right kept gone both → IsMerged old (after old sets cells) left right both
is_merged old sets cells left right kept gone both j =
    let t = j.taken in
    let new = after old sets cells in
    record {
      members = same_length old sets cells left right kept gone both j;
      registers = refl;
      joined = joined_now old sets cells left right kept gone both j;
      classes = λ m n e. first_now old sets cells left right kept gone both j m ∙ ap (joined kept gone) e ∙ sym (first_now old sets cells left right kept gone both j n);
      cells = λ x m e. elim (cases_eq (first old x) gone) [
        | inl g ↦ (
            let o = over old.cells.items cells.items sets kept gone m both t.stays t.goes (ap (some_at old.cells.items) (sym g) ∙ e) in
            (o.0, ap (some_at cells.items) (from_gone old sets cells left right kept gone both j x g) ∙ o.1, elim o.2 [ inl h ↦ inl h | inr h ↦ inr (next_is new both o.0 m h) ]))
        | inr not_gone ↦ elim (cases_eq (first old x) kept) [
          | inl k ↦ (m, ap (some_at cells.items) (from_kept old sets cells left right kept gone both j x k) ∙ t.stays m (ap (some_at old.cells.items) (sym k) ∙ e), inl refl)
          | inr not_kept ↦ (m, ap (some_at cells.items) (from_other old sets cells left right kept gone both j x not_gone) ∙ t.others (first old x) not_kept not_gone ∙ e, inl refl)
        ]
      ];
      there = pair_there (length sets) old.cells.items kept gone cells.items both
          (λ x m e. omega (arith, j.draft.cells_there x m e, same_length old sets cells left right kept gone both j)) t.goes;
    }

cells_from : (old new : List (Option ℕ)) (kept gone : ℕ) (both : Option (ℕ × ℕ)) (P : ℕ → ℕ → Type 0) → IsTakenOver old new kept gone both → ((x m : ℕ) → some_at old x ≡ Some m → P x m) → ((m : ℕ) → P gone m → P kept m) → (x m : ℕ) → some_at new x ≡ Some m → P x m
cells_from old new kept gone both P t old_has goes x m e =
    elim (cases_eq x kept) [
      | inl k ↦ (
          let Q : ℕ → Type 0 = λ y. P y m in
          subst Q (sym k) (elim (t.comes m (ap (some_at new) (sym k) ∙ e)) [ inl h ↦ old_has kept m h | inr h ↦ goes m (old_has gone m h) ]))
      | inr not_kept ↦ elim (cases_eq x gone) [
        | inl g ↦ absurd (let h : None ≡ Some m = sym t.emptied ∙ ap (some_at new) (sym g) ∙ e in cc)
        | inr not_gone ↦ old_has x m (sym (t.others x not_kept not_gone) ∙ e)
      ]
    ]

pub is_draft : (old : ClassDraft) (sets : List ℕ) (cells : Vec (Option ℕ) Global) (left right kept gone : ℕ) (both : Option (ℕ × ℕ)) → IsJoin old sets cells left right kept gone both → IsDraft (after old sets cells)
is_draft old sets cells left right kept gone both j =
    let len = same_length old sets cells left right kept gone both j in
    let P : ℕ → ℕ → Type 0 = λ x m. m < length sets in
    record {
      cells = j.taken.len ∙ j.draft.cells ∙ sym len;
      pointed_there = λ p m e. (let h = j.draft.pointed_there p m e in omega arith);
      cells_there = cells_from old.cells.items cells.items kept gone both P j.taken (λ x m e. let h = j.draft.cells_there x m e in omega arith) (λ m h. h);
    }

pub is_forced : (c : Classed) (old : ClassDraft) (sets : List ℕ) (cells : Vec (Option ℕ) Global) (left right kept gone : ℕ) (both : Option (ℕ × ℕ)) → IsJoin old sets cells left right kept gone both → IsForced c old → class_in c left ≡ class_in c right → IsForcedMerge c (after old sets cells) both
is_forced c old sets cells left right kept gone both j f e =
    let len = same_length old sets cells left right kept gone both j in
    let l = f.classes left j.left_there in
    let r = f.classes right j.right_there in
    let same : class_in c kept ≡ class_in c gone = elim j.either [
      | inl k ↦ ap (class_in c) (sym k.0) ∙ sym l ∙ e ∙ r ∙ ap (class_in c) k.1
      | inr k ↦ ap (class_in c) (sym k.1) ∙ sym r ∙ sym e ∙ l ∙ ap (class_in c) k.0
    ] in
    let P : ℕ → ℕ → Type 0 = λ x m. inside c (class_in c x) ≡ Some (class_in c m) in
    record {
      draft = record {
        classes = λ m lt. (
            let h = f.classes m (omega arith) in
            elim (cases_eq (first old m) gone) [
              | inl g ↦ h ∙ ap (class_in c) g ∙ sym same ∙ ap (class_in c) (sym (from_gone old sets cells left right kept gone both j m g))
              | inr not_gone ↦ h ∙ ap (class_in c) (sym (from_other old sets cells left right kept gone both j m not_gone))
            ]);
        registers = f.registers;
        cells = cells_from old.cells.items cells.items kept gone both P j.taken f.cells (λ m h. ap (inside c) same ∙ h);
      };
      both = pair_forced c old.cells.items kept gone cells.items both f.cells same j.taken.goes;
    }
