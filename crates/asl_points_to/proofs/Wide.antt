-- The classes of a settled draft, with a place for each register that could be: they are legal, and go into all legal classes.
use Rattle.std.proofs.Common.{◌≡◌, ℕ, zero, suc, ◌+◌, ◌<◌, ◌⊎◌, inl, inr, List, [], ◌∷◌, length, map, take, drop, Option, None, Some, get_or, slice_get, refl, sym, ap, ◌∙◌, subst, arith}
use Rattle.std.proofs.lemmas.List.{take-append-drop, length-take, length-drop, length-append}
use Rattle.std.proofs.lemmas.List.Elements.{Contains-get_or}
use Rattle.std.proofs.lemmas.Option.{slice_get-get_or, slice_get_within, get_or_from_slice_get}
use Rattle.asl_lower.specs.Lowered.{Lowered}
use Rattle.asl_lower.specs.LegalLowering.{IsLegalLowering}
use Rattle.asl_points_to.specs.declared.class_draft.ClassDraft.{ClassDraft}
use Rattle.asl_points_to.specs.declared.value_flow.Place.{Place}
use Rattle.asl_points_to.specs.declared.value_flow.Flow.{Flow}
use Rattle.asl_points_to.specs.declared.value_flow.Flow.TheVariants as flow
use Rattle.asl_points_to.specs.Classes.{Classed, some_at, inside, members, IsLegal, GoInto}
use Rattle.asl_points_to.specs.Draft.{class_in, at, first, entry, pointed, inner, Holds, IsThere, HasFlowed, IsIdle}
use Rattle.asl_points_to.specs.Numbers.{AreNumbers, numbered, numbered_cells}
use Rattle.asl_points_to.specs.Found.{IsSettled}

-- a list of what there may be, under a function
pub mapped_at : (g : Option ℕ → Option ℕ) → g None ≡ None → (xs : List (Option ℕ)) (n : ℕ) → some_at (map g xs) n ≡ g (some_at xs n)
mapped_at g e [] n = sym e
mapped_at g e (x ∷ xs) zero = refl
mapped_at g e (x ∷ xs) (suc n) = mapped_at g e xs n

abbrev pub in_rows : List (List (Option ℕ)) → ℕ → ℕ → Option ℕ
in_rows rows f r = entry rows (record { function = f; register = r })

pub mapped_rows : (g : Option ℕ → Option ℕ) → g None ≡ None → (rows : List (List (Option ℕ))) (f r : ℕ) → in_rows (map (map g) rows) f r ≡ g (in_rows rows f r)
mapped_rows g e [] f r = sym e
mapped_rows g e (row ∷ rows) zero r = mapped_at g e row r
mapped_rows g e (row ∷ rows) (suc f) r = mapped_rows g e rows f r

mapped_firsts : (g : ℕ → Option ℕ) (firsts : List ℕ) (k z : ℕ) → slice_get firsts k ≡ Some z → some_at (map g firsts) k ≡ g z
mapped_firsts g [] k z e = absurd cc
mapped_firsts g (x ∷ xs) zero z e = let same : x ≡ z = cc in ap g same
mapped_firsts g (x ∷ xs) (suc k) z e = mapped_firsts g xs k z e

from_firsts : (g : ℕ → Option ℕ) (firsts : List ℕ) (k y : ℕ) → some_at (map g firsts) k ≡ Some y → (z : ℕ) × (slice_get firsts k ≡ Some z) × (g z ≡ Some y)
from_firsts g [] k y e = absurd cc
from_firsts g (x ∷ xs) zero y e = (x, refl, e)
from_firsts g (x ∷ xs) (suc k) y e = from_firsts g xs k y e

pub from_numbered : (numbers : List ℕ) (o : Option ℕ) (x : ℕ) → numbered numbers o ≡ Some x → (m : ℕ) × (o ≡ Some m) × (get_or numbers m 0 ≡ x)
from_numbered numbers None x e = absurd cc
from_numbered numbers (Some m) x e = (m, refl, cc)

abbrev pub wide : Lowered → ClassDraft → List ℕ → List ℕ → Classed
wide l s numbers firsts =
    record {
      count = length firsts;
      globals = take l.globals numbers;
      sites = drop l.globals numbers;
      registers = map (map (numbered numbers)) s.registers.items;
      cells = numbered_cells numbers s.cells.items firsts;
    }

module _ (l : Lowered) (s : ClassDraft) (numbers firsts : List ℕ) (settled : IsSettled l s) (n : AreNumbers s.sets numbers firsts) where
  -- two members have one number exactly where they have one first member
  number_of_first : (m : ℕ) → m < length s.sets → get_or numbers (first s m) 0 ≡ get_or numbers m 0
  number_of_first m lt = (n.on (get_or numbers m 0) (first s m) (n.back m lt)).1

  same_number : (m k : ℕ) → m < length s.sets → k < length s.sets → first s m ≡ first s k → get_or numbers m 0 ≡ get_or numbers k 0
  same_number m k a b e =
      sym (number_of_first m a) ∙ ap (λ (x : ℕ). get_or numbers x 0) e ∙ number_of_first k b

  pub all_members : members (wide l s numbers firsts) ≡ numbers
  all_members = take-append-drop l.globals numbers

  class_is : (m : ℕ) → class_in (wide l s numbers firsts) m ≡ get_or numbers m 0
  class_is m = ap (λ (xs : List ℕ). get_or xs m 0) all_members

  at_wide : (p : Place) → at (wide l s numbers firsts) p ≡ numbered numbers (pointed s p)
  at_wide p = mapped_rows (numbered numbers) refl s.registers.items p.function p.register

  at_some : (p : Place) (m : ℕ) → pointed s p ≡ Some m → at (wide l s numbers firsts) p ≡ Some (get_or numbers m 0)
  at_some p m e = at_wide p ∙ ap (numbered numbers) e

  from_at : (p : Place) (x : ℕ) → at (wide l s numbers firsts) p ≡ Some x → (m : ℕ) × (pointed s p ≡ Some m) × (get_or numbers m 0 ≡ x)
  from_at p x e = from_numbered numbers (pointed s p) x (sym (at_wide p) ∙ e)

  inside_wide : (m : ℕ) → m < length s.sets → inside (wide l s numbers firsts) (get_or numbers m 0) ≡ numbered numbers (inner s m)
  inside_wide m lt = mapped_firsts (λ k. numbered numbers (some_at s.cells.items k)) firsts (get_or numbers m 0) (first s m) (n.back m lt)

  inside_some : (m k : ℕ) → m < length s.sets → inner s m ≡ Some k → inside (wide l s numbers firsts) (get_or numbers m 0) ≡ Some (get_or numbers k 0)
  inside_some m k lt e = inside_wide m lt ∙ ap (numbered numbers) e

  there : (p : Place) (m : ℕ) → pointed s p ≡ Some m → m < length s.sets
  there = settled.draft.pointed_there

  inner_there : (x m : ℕ) → inner s x ≡ Some m → m < length s.sets
  inner_there x m e = settled.draft.cells_there (first s x) m e

-- each flow has what it is owed
pub flow_holds : (l : Lowered) (s : ClassDraft) (numbers firsts : List ℕ) → IsSettled l s → AreNumbers s.sets numbers firsts → (functions : ℕ) (f : Flow) → IsThere functions (length s.sets) f → HasFlowed s f ⊎ IsIdle s f → Holds (wide l s numbers firsts) f
flow_holds l s numbers firsts se n fs (flow.Member m a) t (inl h) =
    at_some l s numbers firsts se n a h.member h.there
    ∙ ap Some (same_number l s numbers firsts se n h.member m (there l s numbers firsts se n a h.member h.there) t.0 h.same ∙ sym (class_is l s numbers firsts se n m))
flow_holds l s numbers firsts se n fs (flow.Member m a) t (inr h) = absurd h
flow_holds l s numbers firsts se n fs (flow.Copy b a) t (inl h) = λ x e. (
    let i = h.into in
    let is : Some (get_or numbers h.source 0) ≡ Some x = sym (at_some l s numbers firsts se n b h.source h.source_there) ∙ e in
    at_some l s numbers firsts se n a i.member i.there
    ∙ ap Some (same_number l s numbers firsts se n i.member h.source (there l s numbers firsts se n a i.member i.there) (there l s numbers firsts se n b h.source h.source_there) i.same)
    ∙ is)
flow_holds l s numbers firsts se n fs (flow.Copy b a) t (inr h) = λ x e. (
    let k = from_at l s numbers firsts se n b x e in
    let no : None ≡ Some k.0 = sym h ∙ k.1 in
    absurd cc)
flow_holds l s numbers firsts se n fs (flow.Load b a) t (inl h) = λ x y e g. (
    let i = h.into in
    let low = there l s numbers firsts se n b h.address h.address_there in
    let is : Some (get_or numbers h.address 0) ≡ Some x = sym (at_some l s numbers firsts se n b h.address h.address_there) ∙ e in
    let x_is : get_or numbers h.address 0 ≡ x = cc in
    let inner_is : Some (get_or numbers h.source 0) ≡ Some y =
    sym (inside_some l s numbers firsts se n h.address h.source low h.source_there) ∙ ap (inside (wide l s numbers firsts)) x_is ∙ g in
    at_some l s numbers firsts se n a i.member i.there
    ∙ ap Some (same_number l s numbers firsts se n i.member h.source (there l s numbers firsts se n a i.member i.there) (inner_there l s numbers firsts se n h.address h.source h.source_there) i.same)
    ∙ inner_is)
flow_holds l s numbers firsts se n fs (flow.Load b a) t (inr h) = λ x y e g. (
    let k = from_at l s numbers firsts se n b x e in
    let low = there l s numbers firsts se n b k.0 k.1 in
    let no : None ≡ Some y =
    ap (numbered numbers) (sym (h k.0 k.1)) ∙ sym (inside_wide l s numbers firsts se n k.0 low) ∙ ap (inside (wide l s numbers firsts)) k.2 ∙ g in
    absurd cc)
flow_holds l s numbers firsts se n fs (flow.Store a b) t (inl h) = λ x y e g. (
    let i = h.into in
    let low = there l s numbers firsts se n a h.address h.address_there in
    let is : Some (get_or numbers h.address 0) ≡ Some x = sym (at_some l s numbers firsts se n a h.address h.address_there) ∙ e in
    let x_is : get_or numbers h.address 0 ≡ x = cc in
    let y_is : Some (get_or numbers h.source 0) ≡ Some y = sym (at_some l s numbers firsts se n b h.source h.source_there) ∙ g in
    ap (inside (wide l s numbers firsts)) (sym x_is)
    ∙ inside_some l s numbers firsts se n h.address i.member low i.there
    ∙ ap Some (same_number l s numbers firsts se n i.member h.source (inner_there l s numbers firsts se n h.address i.member i.there) (there l s numbers firsts se n b h.source h.source_there) i.same)
    ∙ y_is)
flow_holds l s numbers firsts se n fs (flow.Store a b) t (inr (inl h)) = λ x y e g. (
    let k = from_at l s numbers firsts se n a x e in
    let no : None ≡ Some k.0 = sym h ∙ k.1 in
    absurd cc)
flow_holds l s numbers firsts se n fs (flow.Store a b) t (inr (inr h)) = λ x y e g. (
    let k = from_at l s numbers firsts se n b y g in
    let no : None ≡ Some k.0 = sym h ∙ k.1 in
    absurd cc)

pub wide_legal : (l : Lowered) (s : ClassDraft) (numbers firsts : List ℕ) → IsLegalLowering l → IsSettled l s → AreNumbers s.sets numbers firsts → IsLegal l (wide l s numbers firsts)
wide_legal l s numbers firsts kept se n =
    let len : length numbers ≡ l.globals + l.sites = n.len ∙ se.members in
    let globals : length (take l.globals numbers) ≡ l.globals = length-take l.globals numbers ∙ omega arith in
    let sites : length (drop l.globals numbers) ≡ l.sites = length-drop l.globals numbers ∙ omega arith in
    let flows = se.settled in
    record {
      globals = globals;
      sites = sites;
      instrs = λ f pc i b e. flows.are.legal (wide l s numbers firsts) (record { globals = globals; sites = sites })
          (λ k d low. (
          let x : Flow = get_or flows.flows k d in
          let inside = Contains-get_or flows.flows k d low in
          let P : ℕ → Type 0 = λ m. IsThere (length l.functions) m x in
          flow_holds l s numbers firsts se n (length l.functions) x (subst P (sym se.members) (flows.are.there k d low)) (flows.each x inside)))
          f pc i (kept.layout.parted.in_code pc f b) b e;
    }

pub wide_goes : (l : Lowered) (s : ClassDraft) (numbers firsts : List ℕ) → IsSettled l s → AreNumbers s.sets numbers firsts → (d : Classed) → IsLegal l d → GoInto (wide l s numbers firsts) d
wide_goes l s numbers firsts se n d legal =
    let f = se.forced d legal in
    let into : ℕ → ℕ = λ k. class_in d (get_or firsts k 0) in
    let into_is : (m : ℕ) → m < length s.sets → into (get_or numbers m 0) ≡ class_in d m =
    λ m lt. ap (class_in d) (get_or_from_slice_get firsts (get_or numbers m 0) (first s m) 0 (n.back m lt)) ∙ sym (f.classes m lt) in
    record {
      into = into;
      members_go = λ m x e. (
          let e2 : slice_get numbers m ≡ Some x = ap (λ (xs : List ℕ). slice_get xs m) (sym (all_members l s numbers firsts se n)) ∙ e in
          let low : m < length s.sets = omega (arith, slice_get_within numbers m x e2, n.len) in
          let x_is : get_or numbers m 0 ≡ x = get_or_from_slice_get numbers m x 0 e2 in
          let long : length (members d) ≡ l.globals + l.sites = omega (arith, length-append d.globals d.sites, legal.globals, legal.sites) in
          slice_get-get_or (members d) m 0 (omega (arith, se.members)) ∙ ap Some (sym (into_is m low) ∙ ap into x_is));
      registers_go = λ g r x e. (
          let p : Place = record { function = g; register = r } in
          let k = from_at l s numbers firsts se n p x e in
          f.registers p k.0 k.1 ∙ ap Some (sym (into_is k.0 (there l s numbers firsts se n p k.0 k.1)) ∙ ap into k.2));
      cells_go = λ x y e. (
          let k = from_firsts (λ m. numbered numbers (some_at s.cells.items m)) firsts x y e in
          let m = from_numbered numbers (some_at s.cells.items k.0) y k.2 in
          let low = se.draft.cells_there k.0 m.0 m.1 in
          ap (inside d) (ap (class_in d) (get_or_from_slice_get firsts x k.0 0 k.1))
          ∙ f.cells k.0 m.0 m.1 ∙ ap Some (sym (into_is m.0 low) ∙ ap into m.2));
    }
