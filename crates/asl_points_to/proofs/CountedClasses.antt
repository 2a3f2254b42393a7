-- Nothing points to a class past the count, and each class below it is that of a member: else classes without what points past it
-- would be legal and less.
use Rattle.std.proofs.Common.{◌≡◌, ℕ, zero, suc, ◌+◌, ◌<◌, ◌≤◌, inl, inr, cond, ltb, List, [], ◌∷◌, ◌++◌, length, map, Option, None, Some, slice_get, refl, sym, ap, ◌∙◌, arith}
use Rattle.std.proofs.lemmas.Bool.{cases_lt, cond-true, lt-ltb, ltb-true}
use Rattle.std.proofs.lemmas.Option.{cond_some}
use Rattle.asl_code.specs.declared.instr.Instr.{Instr}
use Rattle.asl_code.specs.declared.instr.Instr.TheVariants as instr
use Rattle.asl_lower.specs.Lowered.{Lowered}
use Rattle.asl_points_to.specs.Classes.{Classed, some_at, to, inside, members, Gives, IsLegalAt, GoInto, AreNumbered, AreClasses}
use Rattle.asl_points_to.proofs.Wide.{mapped_at, mapped_rows}

-- each number is used, and no other
used_from : (count next : ℕ) (xs : List ℕ) → AreNumbered count next xs → (k : ℕ) → next ≤ k → k < count → (m : ℕ) × (slice_get xs m ≡ Some k)
used_from count next [] e k low lt = absurd (omega arith)
used_from count next (x ∷ xs) (inl h) k low lt = let r = used_from count next xs h.1 k low lt in (suc r.0, r.1)
used_from count next (x ∷ xs) (inr h) k low lt =
    elim (cases_lt next k) [
      | inl more ↦ (let r = used_from count (suc next) xs h.1 k (omega arith) lt in (suc r.0, r.1))
      | inr le ↦ (zero, ap Some (let e : x ≡ k = (let is = h.0 in omega arith) in e))
    ]

-- the count is no less than the next number
count_above : (count next : ℕ) (xs : List ℕ) → AreNumbered count next xs → next ≤ count
count_above count next [] e = omega arith
count_above count next (x ∷ xs) (inl h) = count_above count next xs h.1
count_above count next (x ∷ xs) (inr h) = let k = count_above count (suc next) xs h.1 in omega arith

-- each member's class is below the count
below_count : (count next : ℕ) (xs : List ℕ) → AreNumbered count next xs → (m x : ℕ) → slice_get xs m ≡ Some x → x < count
below_count count next [] h m x e = absurd cc
below_count count next (y ∷ ys) (inl h) zero x e =
    let same : y ≡ x = cc in
    let k = count_above count next ys h.1 in
    let lt = h.0 in
    omega arith
below_count count next (y ∷ ys) (inr h) zero x e =
    let same : y ≡ x = cc in
    let k = count_above count (suc next) ys h.1 in
    let is = h.0 in
    omega arith
below_count count next (y ∷ ys) (inl h) (suc m) x e = below_count count next ys h.1 m x e
below_count count next (y ∷ ys) (inr h) (suc m) x e = below_count count (suc next) ys h.1 m x e

-- so each class is that of a member, and each member's class is below the count
pub number_used : (l : Lowered) (c : Classed) → AreClasses l c → (k : ℕ) → k < c.count → (m : ℕ) × (slice_get (members c) m ≡ Some k)
number_used l c h k lt = used_from c.count 0 (members c) h.numbered k (omega arith) lt

pub member_below : (l : Lowered) (c : Classed) → AreClasses l c → (m x : ℕ) → slice_get (members c) m ≡ Some x → x < c.count
member_below l c h m x e = below_count c.count 0 (members c) h.numbered m x e

-- the classes without what points past the count
kept : ℕ → Option ℕ → Option ℕ
kept n None = None
kept n (Some x) = cond (ltb x n) (Some x) None

-- what is kept was there and is below the count, and the other way round
from_kept : (n : ℕ) (o : Option ℕ) (x : ℕ) → kept n o ≡ Some x → (o ≡ Some x) × (x < n)
unfolding kept
from_kept n None x e = absurd cc
from_kept n (Some y) x e =
    let h = cond_some (ltb y n) y x e in
    (ap Some h.1, (let lt = ltb-true y n h.0 in let is = h.1 in omega arith))

to_kept : (n : ℕ) (o : Option ℕ) (x : ℕ) → o ≡ Some x → x < n → kept n o ≡ Some x
unfolding kept
to_kept n o x e lt = ap (kept n) e ∙ cond-true (ltb x n) (Some x) None (lt-ltb x n lt)

kept_none : (n : ℕ) → kept n None ≡ None
unfolding kept
kept_none n = refl

-- the registers and cells so, and the same members
abbrev within : Classed → Classed
within c =
    record { count = c.count; globals = c.globals; sites = c.sites; registers = map (map (kept c.count)) c.registers; cells = map (kept c.count) c.cells }

-- what they say of registers and cells
from_register : (c : Classed) (f r x : ℕ) → to (within c) f r ≡ Some x → (to c f r ≡ Some x) × (x < c.count)
from_register c f r x e = from_kept c.count (to c f r) x (sym (mapped_rows (kept c.count) (kept_none c.count) c.registers f r) ∙ e)

to_register : (c : Classed) (f r x : ℕ) → to c f r ≡ Some x → x < c.count → to (within c) f r ≡ Some x
to_register c f r x e lt = mapped_rows (kept c.count) (kept_none c.count) c.registers f r ∙ to_kept c.count (to c f r) x e lt

from_cell : (c : Classed) (x y : ℕ) → inside (within c) x ≡ Some y → (inside c x ≡ Some y) × (y < c.count)
from_cell c x y e = from_kept c.count (inside c x) y (sym (mapped_at (kept c.count) (kept_none c.count) c.cells x) ∙ e)

to_cell : (c : Classed) (x y : ℕ) → inside c x ≡ Some y → y < c.count → inside (within c) x ≡ Some y
to_cell c x y e lt = mapped_at (kept c.count) (kept_none c.count) c.cells x ∙ to_kept c.count (inside c x) y e lt

-- what is owed to an instruction is owed still
gives_within : (c : Classed) (f b g a : ℕ) → Gives (to c f b) (to c g a) → Gives (to (within c) f b) (to (within c) g a)
gives_within c f b g a h x e = let k = from_register c f b x e in to_register c g a x (h x k.0) k.1

-- what a member gives is kept
member_gives : (l : Lowered) (c : Classed) → AreClasses l c → (f a : ℕ) (o : Option ℕ) → ((x : ℕ) → o ≡ Some x → (k : ℕ) × (slice_get (members c) k ≡ Some x)) → Gives o (to c f a) → Gives o (to (within c) f a)
member_gives l c h f a o among g x e = let k = among x e in to_register c f a x (g x e) (member_below l c h k.0 x k.1)

-- a global is a member, and so is a site
front_member : (xs ys : List ℕ) (k x : ℕ) → slice_get xs k ≡ Some x → (m : ℕ) × (slice_get (xs ++ ys) m ≡ Some x)
front_member [] ys k x e = absurd cc
front_member (z ∷ xs) ys zero x e = (zero, e)
front_member (z ∷ xs) ys (suc k) x e = let r = front_member xs ys k x e in (suc r.0, r.1)

back_member : (xs ys : List ℕ) (k x : ℕ) → slice_get ys k ≡ Some x → (m : ℕ) × (slice_get (xs ++ ys) m ≡ Some x)
back_member [] ys k x e = (k, e)
back_member (z ∷ xs) ys k x e = let r = back_member xs ys k x e in (suc r.0, r.1)

-- they are legal at each instruction
within_at : (l : Lowered) (c : Classed) → AreClasses l c → (f : ℕ) (i : Instr) → IsLegalAt l c f i → IsLegalAt l (within c) f i
within_at l c h f (instr.Move a b) k = gives_within c f b f a k
within_at l c h f (instr.FieldAddress a b d) k = gives_within c f b f a k
within_at l c h f (instr.GlobalAddress a g) k =
    member_gives l c h f a (slice_get c.globals g) (λ x e. front_member c.globals c.sites g x e) k
within_at l c h f (instr.New a n s) k =
    member_gives l c h f a (slice_get c.sites s) (λ x e. back_member c.globals c.sites s x e) k
within_at l c h f (instr.Load a b) k = λ x y e g. (
    let b_at = from_register c f b x e in
    let i_at = from_cell c x y g in
    to_register c f a y (k x y b_at.0 i_at.0) i_at.1)
within_at l c h f (instr.Store a b) k = λ x y e g. (
    let a_at = from_register c f a x e in
    let b_at = from_register c f b y g in
    to_cell c x y (k x y a_at.0 b_at.0) b_at.1)
within_at l c h f (instr.Call a first g) k = record {
  passed = λ callee n in_table lt. gives_within c f (first + n) g n (k.passed callee n in_table lt);
  returned = λ pc r b e. gives_within c g r f a (k.returned pc r b e);
}
within_at l c h f i k = tt

-- so the least classes go into them, and point to nothing past the count
goes_within : (l : Lowered) (c : Classed) → AreClasses l c → GoInto c (within c)
goes_within l c h = h.least.least (within c) (record {
  globals = h.least.legal.globals;
  sites = h.least.legal.sites;
  instrs = λ f pc i b e. within_at l c h f i (h.least.legal.instrs f pc i b e);
})

-- a cell of which a class is read is there
pub cell_there : (cells : List (Option ℕ)) (x y : ℕ) → some_at cells x ≡ Some y → x < length cells
cell_there [] x y e = absurd cc
cell_there (o ∷ cells) zero y e = omega arith
cell_there (o ∷ cells) (suc x) y e = let h = cell_there cells x y e in omega arith

pub register_below : (l : Lowered) (c : Classed) → AreClasses l c → (f r x : ℕ) → to c f r ≡ Some x → x < c.count
register_below l c h f r x e =
    let g = goes_within l c h in
    let k = from_register c f r (g.into x) (g.registers_go f r x e) in
    let same : Some x ≡ Some (g.into x) = sym e ∙ k.0 in
    let is : x ≡ g.into x = cc in
    let lt = k.1 in
    omega arith

pub cell_below : (l : Lowered) (c : Classed) → AreClasses l c → (x y : ℕ) → inside c x ≡ Some y → y < c.count
cell_below l c h x y e =
    let g = goes_within l c h in
    let low : x < c.count = omega (arith, cell_there c.cells x y e, h.tables.cells) in
    let m = number_used l c h x low in
    let x_is : x ≡ g.into x = (let s : Some x ≡ Some (g.into x) = sym m.1 ∙ g.members_go m.0 x m.1 in cc) in
    let k = from_cell c (g.into x) (g.into y) (g.cells_go x y e) in
    let y_is : y ≡ g.into y = (let s : Some y ≡ Some (g.into y) = sym e ∙ ap (inside c) x_is ∙ k.0 in cc) in
    let lt = k.1 in
    omega arith
