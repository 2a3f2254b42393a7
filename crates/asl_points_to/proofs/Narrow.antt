-- The classes of a program, with a place for each of its registers.
use Rattle.std.proofs.Common.{◌≡◌, ℕ, zero, suc, ◌+◌, ◌<◌, List, [], ◌∷◌, ◌++◌, length, map, take, drop, Option, None, Some, get_or, slice_get, refl, sym, ap, ◌∙◌, subst, arith}
use Rattle.std.specs.List.{range_with_len}
use Rattle.std.proofs.lemmas.List.FromFn.{length-map-range_with_len}
use Rattle.std.proofs.lemmas.List.{length-map}
use Rattle.std.proofs.lemmas.Option.{slice_get-get_or, slice_get_within, get_or_from_slice_get}
use Rattle.asl_code.specs.declared.image.Function as entry
use Rattle.asl_code.specs.declared.instr.Instr.{Instr}
use Rattle.asl_code.specs.declared.instr.Instr.TheVariants as instr
use Rattle.asl_lower.specs.Lowered.{Lowered}
use Rattle.asl_lower.specs.OpenSections.{InBody}
use Rattle.asl_lower.specs.Operands.{HasOperands}
use Rattle.asl_lower.specs.Limits.{FitsTable}
use Rattle.asl_lower.specs.Facts.{HasLayout}
use Rattle.asl_lower.specs.LegalLowering.{IsLegalLowering}
use Rattle.asl_points_to.specs.declared.class_draft.ClassDraft.{ClassDraft}
use Rattle.asl_points_to.specs.Classes.{Classed, some_at, to, members, Gives, IsLegalAt, IsLegal, GoInto, AreNumbered, AreClasses}
use Rattle.asl_points_to.specs.Numbers.{AreNumbers, numbered, numbered_row, numbered_cells}
use Rattle.asl_points_to.specs.Found.{IsSettled, IsNumbering}
use Rattle.asl_points_to.proofs.Wide.{in_rows, mapped_at, wide, all_members, wide_legal, wide_goes}

-- the classes of registers that are there are those of the wider table
pub record IsNarrow (l : Lowered) (c w : Classed) : Type 0 where
  pub globals : c.globals ≡ w.globals
  pub sites : c.sites ≡ w.sites
  pub cells : c.cells ≡ w.cells
  pub less : (f r x : ℕ) → to c f r ≡ Some x → to w f r ≡ Some x
  pub more : (f r x : ℕ) (fn : entry.Function) → slice_get l.functions f ≡ Some fn → r < fn.regs → to w f r ≡ Some x → to c f r ≡ Some x

-- what so many registers point to
row_less : (h : ℕ → Option ℕ) (a n r x : ℕ) → some_at (map h (range_with_len a n)) r ≡ Some x → h (a + r) ≡ Some x
row_less h a zero r x e = absurd cc
row_less h a (suc n) zero x e = ap h (let s : a + 0 ≡ a = omega arith in s) ∙ e
row_less h a (suc n) (suc r) x e = ap h (let s : a + suc r ≡ a + 1 + r = omega arith in s) ∙ row_less h (a + 1) n r x e

row_more : (h : ℕ → Option ℕ) (a n r : ℕ) → r < n → some_at (map h (range_with_len a n)) r ≡ h (a + r)
row_more h a zero r lt = absurd (omega arith)
row_more h a (suc n) zero lt = ap h (let s : a ≡ a + 0 = omega arith in s)
row_more h a (suc n) (suc r) lt =
    row_more h (a + 1) n r (omega arith) ∙ ap h (let s : a + 1 + r ≡ a + suc r = omega arith in s)

-- a row, by its number
pub row_at : (rows : List (List (Option ℕ))) (f r : ℕ) → in_rows rows f r ≡ some_at (get_or rows f []) r
row_at [] f r = refl
row_at (row ∷ rows) zero r = refl
row_at (row ∷ rows) (suc f) r = row_at rows f r

there_row : (rows : List (List (Option ℕ))) (f r : ℕ) (row : List (Option ℕ)) → slice_get rows f ≡ Some row → in_rows rows f r ≡ some_at row r
there_row rows f r row e = row_at rows f r ∙ ap (λ (xs : List (Option ℕ)). some_at xs r) (get_or_from_slice_get rows f row [] e)

no_row : (rows : List (List (Option ℕ))) (f r x : ℕ) → in_rows rows f r ≡ Some x → f < length rows
no_row [] f r x e = absurd cc
no_row (row ∷ rows) zero r x e = omega arith
no_row (row ∷ rows) (suc f) r x e = let h = no_row rows f r x e in omega arith

mapped_row : (g : Option ℕ → Option ℕ) → g None ≡ None → (rows : List (List (Option ℕ))) (f r : ℕ) → in_rows (map (map g) rows) f r ≡ some_at (map g (get_or rows f [])) r
mapped_row g e [] f r = refl
mapped_row g e (row ∷ rows) zero r = refl
mapped_row g e (row ∷ rows) (suc f) r = mapped_row g e rows f r

in_wide : (numbers : List ℕ) (rows : List (List (Option ℕ))) (f r : ℕ) → in_rows (map (map (numbered numbers)) rows) f r ≡ numbered numbers (some_at (get_or rows f []) (0 + r))
in_wide numbers rows f r =
    mapped_row (numbered numbers) refl rows f r ∙ mapped_at (numbered numbers) refl (get_or rows f []) r
    ∙ ap (λ (k : ℕ). numbered numbers (some_at (get_or rows f []) k)) (let s : r ≡ 0 + r = omega arith in s)

pub is_narrow : (l : Lowered) (s : ClassDraft) (numbers firsts : List ℕ) (c : Classed) → IsNumbering l s numbers firsts c → IsNarrow l c (wide l s numbers firsts)
is_narrow l s numbers firsts c n = record {
  globals = n.globals;
  sites = n.sites;
  cells = n.cells;
  less = λ f r x e. (
      let low : f < length l.functions = omega (arith, no_row c.registers f r x e, n.registers.len) in
      let d : entry.Function = record { params = 0; regs = 0; len = 0 } in
      let fn : entry.Function = get_or l.functions f d in
      let row = there_row c.registers f r _ (n.registers.each f fn (slice_get-get_or l.functions f d low)) in
      in_wide numbers s.registers.items f r
      ∙ row_less (λ k. numbered numbers (some_at (get_or s.registers.items f []) k)) 0 fn.regs r x (sym row ∙ e));
  more = λ f r x fn at lt e.
      there_row c.registers f r _ (n.registers.each f fn at)
      ∙ row_more (λ k. numbered numbers (some_at (get_or s.registers.items f []) k)) 0 fn.regs r lt
      ∙ sym (in_wide numbers s.registers.items f r) ∙ e;
}

-- what is legal in the wider table is legal in the table
gives : (l : Lowered) (c w : Classed) → IsNarrow l c w → (f b g a : ℕ) (fn : entry.Function) → slice_get l.functions g ≡ Some fn → a < fn.regs → Gives (to w f b) (to w g a) → Gives (to c f b) (to c g a)
gives l c w n f b g a fn at lt h x e = n.more g a x fn at lt (h x (n.less f b x e))

returned_below : (l : Lowered) → HasLayout l → (g pc r : ℕ) → InBody l g pc → slice_get l.code pc ≡ Some (instr.Return r) → (fn : entry.Function) × (slice_get l.functions g ≡ Some fn) × (r < fn.regs)
returned_below l h g pc r b e = (b.function, b.in_table, (h.operands pc g b.function (instr.Return r) b b.in_table e).0)

fits_at : (l : Lowered) → HasLayout l → (g : ℕ) (fn : entry.Function) → slice_get l.functions g ≡ Some fn → FitsTable fn
fits_at l h g fn e =
    let P : entry.Function → Type 0 = λ x. FitsTable x in
    subst P (get_or_from_slice_get l.functions g fn fn e) (h.limits.functions g fn (slice_get_within l.functions g fn e))

legal_at : (l : Lowered) → HasLayout l → (c w : Classed) → IsNarrow l c w → (f : ℕ) (fn : entry.Function) (i : Instr) → slice_get l.functions f ≡ Some fn → HasOperands l fn.regs i → IsLegalAt l w f i → IsLegalAt l c f i
legal_at l h c w n f fn (instr.Move a b) at o k = gives l c w n f b f a fn at o.0 k
legal_at l h c w n f fn (instr.FieldAddress a b d) at o k = gives l c w n f b f a fn at o.0 k
legal_at l h c w n f fn (instr.GlobalAddress a g) at o k =
    λ x e. n.more f a x fn at o.0 (k x (ap (λ (xs : List ℕ). slice_get xs g) (sym n.globals) ∙ e))
legal_at l h c w n f fn (instr.New a m s) at o k =
    λ x e. n.more f a x fn at o.0 (k x (ap (λ (xs : List ℕ). slice_get xs s) (sym n.sites) ∙ e))
legal_at l h c w n f fn (instr.Load a b) at o k =
    λ x y e g. n.more f a y fn at o.0 (k x y (n.less f b x e) (ap (λ (xs : List (Option ℕ)). some_at xs x) (sym n.cells) ∙ g))
legal_at l h c w n f fn (instr.Store a b) at o k =
    λ x y e g. ap (λ (xs : List (Option ℕ)). some_at xs x) n.cells ∙ k x y (n.less f a x e) (n.less f b y g)
legal_at l h c w n f fn (instr.Call a first g) at o k = record {
  passed = λ callee m in_table lt. (
      let fits = fits_at l h g callee in_table in
      let few = fits.parameters in
      gives l c w n f (first + m) g m callee in_table (omega arith) (k.passed callee m in_table lt));
  returned = λ pc r b e. gives l c w n g r f a fn at o.0 (k.returned pc r b e);
}
legal_at l h c w n f fn i at o k = tt

pub narrow_legal : (l : Lowered) → IsLegalLowering l → (c w : Classed) → IsNarrow l c w → IsLegal l w → IsLegal l c
narrow_legal l kept c w n legal =
    let h = kept.layout in
    record {
      globals = ap (λ (xs : List ℕ). length xs) n.globals ∙ legal.globals;
      sites = ap (λ (xs : List ℕ). length xs) n.sites ∙ legal.sites;
      instrs = λ f pc i b e. legal_at l h c w n f b.function i b.in_table (h.operands pc f b.function i b b.in_table e) (legal.instrs f pc i b e);
    }

same_members : (l : Lowered) (c w : Classed) → IsNarrow l c w → members c ≡ members w
same_members l c w n =
    ap (λ (xs : List ℕ). xs ++ c.sites) n.globals ∙ ap (λ (xs : List ℕ). w.globals ++ xs) n.sites

pub narrow_goes : (l : Lowered) (c w d : Classed) → IsNarrow l c w → GoInto w d → GoInto c d
narrow_goes l c w d n g = record {
  into = g.into;
  members_go = λ m x e. g.members_go m x (ap (λ (xs : List ℕ). slice_get xs m) (sym (same_members l c w n)) ∙ e);
  registers_go = λ f r x e. g.registers_go f r x (n.less f r x e);
  cells_go = λ x y e. g.cells_go x y (ap (λ (xs : List (Option ℕ)). some_at xs x) (sym n.cells) ∙ e);
}

pub are_classes : (l : Lowered) (s : ClassDraft) (numbers firsts : List ℕ) (c : Classed) → IsLegalLowering l → IsSettled l s → AreNumbers s.sets numbers firsts → IsNumbering l s numbers firsts c → AreClasses l c
are_classes l s numbers firsts c kept se n is =
    let w = wide l s numbers firsts in
    let narrow = is_narrow l s numbers firsts c is in
    let all : members c ≡ numbers = same_members l c w narrow ∙ all_members l s numbers firsts se n in
    let Count : ℕ → Type 0 = λ k. AreNumbered k 0 numbers in
    let Members : List ℕ → Type 0 = λ xs. AreNumbered c.count 0 xs in
    record {
      least = record {
        legal = narrow_legal l kept c w narrow (wide_legal l s numbers firsts kept se n);
        least = λ d legal. narrow_goes l c w d narrow (wide_goes l s numbers firsts se n d legal);
      };
      numbered = subst Members (sym all) (subst Count (sym is.count) n.numbered);
      tables = record {
        functions = is.registers.len;
        registers = λ k f row at there. (
            let same : numbered_row numbers (get_or s.registers.items k []) f.regs ≡ row = (let h : Some (numbered_row numbers (get_or s.registers.items k []) f.regs) ≡ Some row = sym (is.registers.each k f at) ∙ there in cc) in
            ap (λ (xs : List (Option ℕ)). length xs) (sym same) ∙ length-map-range_with_len (λ r. numbered numbers (some_at (get_or s.registers.items k []) r)) 0 f.regs);
        cells = ap (λ (xs : List (Option ℕ)). length xs) is.cells ∙ length-map firsts (λ m. numbered numbers (some_at s.cells.items m)) ∙ sym is.count;
      };
    }

-- such classes there are, however many
rows_of : List entry.Function → List ℕ → List (List (Option ℕ)) → ℕ → List (List (Option ℕ))
rows_of [] numbers rows n = []
rows_of (f ∷ fs) numbers rows n = numbered_row numbers (get_or rows n []) f.regs ∷ rows_of fs numbers rows (suc n)

rows_length : (fs : List entry.Function) (numbers : List ℕ) (rows : List (List (Option ℕ))) (n : ℕ) → length (rows_of fs numbers rows n) ≡ length fs
unfolding rows_of
rows_length [] numbers rows n = refl
rows_length (f ∷ fs) numbers rows n = ap suc (rows_length fs numbers rows (suc n))

rows_at : (fs : List entry.Function) (numbers : List ℕ) (rows : List (List (Option ℕ))) (n k : ℕ) (f : entry.Function) → slice_get fs k ≡ Some f → slice_get (rows_of fs numbers rows n) k ≡ Some (numbered_row numbers (get_or rows (n + k) []) f.regs)
unfolding rows_of
rows_at [] numbers rows n k f e = absurd cc
rows_at (g ∷ fs) numbers rows n zero f e =
    let same : g ≡ f = cc in
    ap (λ (x : entry.Function). Some (numbered_row numbers (get_or rows n []) x.regs)) same
    ∙ ap (λ (m : ℕ). Some (numbered_row numbers (get_or rows m []) f.regs)) (let s : n ≡ n + 0 = omega arith in s)
rows_at (g ∷ fs) numbers rows n (suc k) f e =
    rows_at fs numbers rows (suc n) k f e
    ∙ ap (λ (m : ℕ). Some (numbered_row numbers (get_or rows m []) f.regs)) (let s : suc n + k ≡ n + suc k = omega arith in s)

pub some_classes : (l : Lowered) (s : ClassDraft) (numbers firsts : List ℕ) → IsLegalLowering l → IsSettled l s → AreNumbers s.sets numbers firsts → (c : Classed) × AreClasses l c × (c.count ≡ length firsts)
some_classes l s numbers firsts kept se n =
    let c : Classed = record { count = length firsts; globals = take l.globals numbers; sites = drop l.globals numbers; registers = rows_of l.functions numbers s.registers.items 0; cells = numbered_cells numbers s.cells.items firsts } in (
      c,
      are_classes l s numbers firsts c kept se n (record {
        count = refl;
        globals = refl;
        sites = refl;
        registers = record {
          len = rows_length l.functions numbers s.registers.items 0;
          each = λ k f e. rows_at l.functions numbers s.registers.items 0 k f e ∙ ap (λ (m : ℕ). Some (numbered_row numbers (get_or s.registers.items m []) f.regs)) (let z : 0 + k ≡ k = omega arith in z);
        };
        cells = refl;
      }),
      refl,
    )
