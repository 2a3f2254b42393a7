-- Which members share a class in all legal classes of a lowering, and that it surely can be written as tables: for each register,
-- and for the cells of each class, the class that they point to in all of them, or none.
use Rattle.std.proofs.Common.{◌≡◌, ◌⊎◌, ◌<◌, ◌+◌, ℕ, List, Option, None, Some, length, slice_get, ap, sym, ◌∙◌, subst, inl, inr, arith}
use Rattle.std.proofs.lemmas.Option.{slice_get_within}
use Rattle.asl_code.specs.declared.image.Function as entry
use Rattle.asl_lower.specs.Lowered.{Lowered}
use Rattle.asl_points_to.specs.Classes.{Classed, to, inside, members, IsLegal}
use Rattle.asl_theorems.proofs.Surely.{Surely, mapped, either, each_below, some_below, table}
use Rattle.asl_theorems.proofs.Elements.{get_below, length_both}

module _ (l : Lowered) where
  -- how many members there are
  abbrev n : ℕ
  n = l.globals + l.sites

  -- two members share a class in all legal classes
  abbrev pub R : ℕ → ℕ → Type 0
  R m k = (d : Classed) → IsLegal l d → slice_get (members d) m ≡ slice_get (members d) k

  -- a register points to the member's class in all
  abbrev pub T : ℕ → ℕ → ℕ → Type 0
  T f r m = (d : Classed) → IsLegal l d → to d f r ≡ slice_get (members d) m

  -- the cells of a member's class point to the other's in all
  abbrev pub C : ℕ → ℕ → Type 0
  C m k = (d : Classed) → IsLegal l d → (x : ℕ) → slice_get (members d) m ≡ Some x → inside d x ≡ slice_get (members d) k

  pub member_there : (d : Classed) → IsLegal l d → (m : ℕ) → m < n → (y : ℕ) × (slice_get (members d) m ≡ Some y)
  member_there d legal m lt =
      let g = legal.globals in
      let s = legal.sites in
      let both = length_both d.globals d.sites in
      get_below (members d) m (omega (arith, lt, g, s, both))

  -- what stands at a place of a table: the class of a first member of which it holds, or none
  abbrev pub Entry : List ℕ → (ℕ → Type 0) → Option ℕ → Type 0
  Entry firsts P (Some x) = (m : ℕ) × (slice_get firsts x ≡ Some m) × P m
  Entry firsts P None = (x m : ℕ) → slice_get firsts x ≡ Some m → P m → ⊥

  an_entry : (firsts : List ℕ) (P : ℕ → Type 0) → Surely ((o : Option ℕ) × Entry firsts P o)
  an_entry firsts P =
      mapped (each_below (λ x. ((m : ℕ) × (slice_get firsts x ≡ Some m) × P m) ⊎ (((m : ℕ) × (slice_get firsts x ≡ Some m) × P m) → ⊥)) (length firsts)
      (λ x lt. either ((m : ℕ) × (slice_get firsts x ≡ Some m) × P m))) (λ tell. found tell)
    where
      found : ((x : ℕ) → x < length firsts → ((m : ℕ) × (slice_get firsts x ≡ Some m) × P m) ⊎ (((m : ℕ) × (slice_get firsts x ≡ Some m) × P m) → ⊥)) → (o : Option ℕ) × Entry firsts P o
      found tell =
          elim (some_below (λ x. (m : ℕ) × (slice_get firsts x ≡ Some m) × P m) (length firsts) tell) [
            | inl p ↦ (Some p.0, p.2)
            | inr none ↦ (None, λ x m at p. none x (slice_get_within firsts x m at) (m, at, p))
          ]

  -- the classes of a function's registers
  abbrev pub IsRow : List ℕ → ℕ → List (Option ℕ) → Type 0
  IsRow firsts f rs = (fn : entry.Function) → slice_get l.functions f ≡ Some fn → (length rs ≡ fn.regs) × ((r : ℕ) (o : Option ℕ) → slice_get rs r ≡ Some o → Entry firsts (T f r) o)

  -- the class that the cells of a class point to
  abbrev pub IsCell : List ℕ → ℕ → Option ℕ → Type 0
  IsCell firsts x o = (m : ℕ) → slice_get firsts x ≡ Some m → Entry firsts (C m) o

  pub a_row : (firsts : List ℕ) (f : ℕ) → f < length l.functions → Surely ((rs : List (Option ℕ)) × IsRow firsts f rs)
  a_row firsts f lt =
      let fn = get_below l.functions f lt in
      mapped (table (λ r o. Entry firsts (T f r) o) fn.0.regs (λ r low. an_entry firsts (T f r))) (λ t.
      (t.entries, λ other there. (let same : fn.0 ≡ other = (let e : Some fn.0 ≡ Some other = sym fn.1 ∙ there in cc) in (t.count ∙ ap (λ (k : entry.Function). k.regs) same, t.each))))

  pub a_cell : (firsts : List ℕ) (x : ℕ) → x < length firsts → Surely ((o : Option ℕ) × IsCell firsts x o)
  a_cell firsts x lt =
      let m = get_below firsts x lt in
      mapped (an_entry firsts (C m.0)) (λ e.
      (e.0, λ k at. (let same : m.0 ≡ k = (let g : Some m.0 ≡ Some k = sym m.1 ∙ at in cc) in subst (λ j. Entry firsts (C j) e.0) same e.1)))
