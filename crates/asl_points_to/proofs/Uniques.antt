-- The least legal classes of a program, numbered by their first members, are one. So the analysis has one answer.
use Rattle.std.proofs.Common.{◌≡◌, ℕ, suc, ◌<◌, inl, inr, List, [], ◌∷◌, ◌++◌, length, Option, None, Some, get_or, slice_get, refl, sym, ap, ◌∙◌, arith}
use Rattle.std.proofs.lemmas.Bool.{cases_lt}
use Rattle.std.proofs.lemmas.List.{ext_get_or}
use Rattle.std.proofs.lemmas.Option.{slice_get-get_or}
use Rattle.asl_code.specs.declared.image.Function as entry
use Rattle.asl_lower.specs.Lowered.{Lowered}
use Rattle.asl_points_to.specs.Classes.{Classed, some_at, to, inside, members, GoInto, AreNumbered, AreClasses}
use Rattle.asl_points_to.proofs.Cells.{read}
use Rattle.asl_points_to.proofs.Narrow.{row_at}
use Rattle.asl_points_to.proofs.CountedClasses.{number_used, cell_there, register_below, cell_below}

-- two numberings by first members of the same classes are one
record AreAlong (f : ℕ → ℕ) (xs ys : List ℕ) : Type 0 where
  along : (m x : ℕ) → slice_get xs m ≡ Some x → slice_get ys m ≡ Some (f x)

-- the same of the rest of the lists
tail_along : (f : ℕ → ℕ) (x y : ℕ) (xs ys : List ℕ) → AreAlong f (x ∷ xs) (y ∷ ys) → AreAlong f xs ys
tail_along f x y xs ys a = record { along = λ m z e. a.along (suc m) z e }

-- and of the first
head_along : (f : ℕ → ℕ) (x y : ℕ) (xs ys : List ℕ) → AreAlong f (x ∷ xs) (y ∷ ys) → y ≡ f x
head_along f x y xs ys a = let s : Some y ≡ Some (f x) = a.along 0 x refl in cc

-- a number more that is mapped to itself
one_more : (f : ℕ → ℕ) (next : ℕ) → ((z : ℕ) → z < next → f z ≡ z) → f next ≡ next → (z : ℕ) → z < suc next → f z ≡ z
one_more f next old new z lt =
    elim (cases_lt z next) [
      | inl less ↦ old z less
      | inr more ↦ (let e : z ≡ next = omega arith in ap f e ∙ new ∙ sym e)
    ]

-- each number is mapped to itself, so the lists are one
same_numbers : (f g : ℕ → ℕ) (count count2 next : ℕ) (xs ys : List ℕ) → AreAlong f xs ys → AreAlong g ys xs → AreNumbered count next xs → AreNumbered count2 next ys → ((z : ℕ) → z < next → f z ≡ z) → ((z : ℕ) → z < next → g z ≡ z) → (xs ≡ ys) × (count ≡ count2)
same_numbers f g count count2 next [] [] a b h k old1 old2 = (refl, h ∙ sym k)
same_numbers f g count count2 next [] (y ∷ ys) a b h k old1 old2 = absurd (let s : None ≡ Some (g y) = b.along 0 y refl in cc)
same_numbers f g count count2 next (x ∷ xs) [] a b h k old1 old2 = absurd (let s : None ≡ Some (f x) = a.along 0 x refl in cc)
same_numbers f g count count2 next (x ∷ xs) (y ∷ ys) a b (inl h) (inl k) old1 old2 =
    let y_is = head_along f x y xs ys a in
    let same : x ≡ y = sym (y_is ∙ old1 x h.0) in
    let rest = same_numbers f g count count2 next xs ys (tail_along f x y xs ys a) (tail_along g y x ys xs b) h.1 k.1 old1 old2 in
    (ap (λ (z : ℕ). z ∷ xs) same ∙ ap (λ (zs : List ℕ). y ∷ zs) rest.0, rest.1)
same_numbers f g count count2 next (x ∷ xs) (y ∷ ys) a b (inl h) (inr k) old1 old2 =
    absurd (let e : y ≡ x = head_along f x y xs ys a ∙ old1 x h.0 in let lt = h.0 in let is = k.0 in omega arith)
same_numbers f g count count2 next (x ∷ xs) (y ∷ ys) a b (inr h) (inl k) old1 old2 =
    absurd (let e : x ≡ y = head_along g y x ys xs b ∙ old2 y k.0 in let lt = k.0 in let is = h.0 in omega arith)
same_numbers f g count count2 next (x ∷ xs) (y ∷ ys) a b (inr h) (inr k) old1 old2 =
    let same : x ≡ y = h.0 ∙ sym k.0 in
    let new1 : f next ≡ next = ap f (sym h.0) ∙ sym (head_along f x y xs ys a) ∙ k.0 in
    let new2 : g next ≡ next = ap g (sym k.0) ∙ sym (head_along g y x ys xs b) ∙ h.0 in
    let rest = same_numbers f g count count2 (suc next) xs ys (tail_along f x y xs ys a) (tail_along g y x ys xs b) h.1 k.1 (one_more f next old1 new1) (one_more g next old2 new2) in
    (ap (λ (z : ℕ). z ∷ xs) same ∙ ap (λ (zs : List ℕ). y ∷ zs) rest.0, rest.1)

-- two options with the same values are one, and so are two rows
same_options : (a b : Option ℕ) → ((x : ℕ) → a ≡ Some x → b ≡ Some x) → ((x : ℕ) → b ≡ Some x → a ≡ Some x) → a ≡ b
same_options None None f g = refl
same_options None (Some y) f g = g y refl
same_options (Some x) b f g = sym (f x refl)

same_rows : (xs ys : List (Option ℕ)) → length xs ≡ length ys → ((r : ℕ) → some_at xs r ≡ some_at ys r) → xs ≡ ys
same_rows xs ys len h = ext_get_or None xs ys len (λ i lt. sym (read xs i) ∙ h i ∙ read ys i)

-- where registers and cells of one point, those of the other point too
goes_same : (l : Lowered) (c d : Classed) → AreClasses l c → (g : GoInto c d) → members c ≡ members d → (x : ℕ) → x < c.count → g.into x ≡ x
goes_same l c d h g same x lt =
    let m = number_used l c h x lt in
    let s : Some (g.into x) ≡ Some x = sym (g.members_go m.0 x m.1) ∙ ap (λ (xs : List ℕ). slice_get xs m.0) (sym same) ∙ m.1 in
    cc

-- registers, and then cells
register_goes : (l : Lowered) (c d : Classed) → AreClasses l c → AreClasses l d → members c ≡ members d → (f r x : ℕ) → to c f r ≡ Some x → to d f r ≡ Some x
register_goes l c d h k same f r x e =
    let g = h.least.least d k.least.legal in
    g.registers_go f r x e ∙ ap Some (goes_same l c d h g same x (register_below l c h f r x e))

cell_goes : (l : Lowered) (c d : Classed) → AreClasses l c → AreClasses l d → members c ≡ members d → (x y : ℕ) → inside c x ≡ Some y → inside d x ≡ Some y
cell_goes l c d h k same x y e =
    let g = h.least.least d k.least.legal in
    let low : x < c.count = omega (arith, cell_there c.cells x y e, h.tables.cells) in
    ap (inside d) (sym (goes_same l c d h g same x low)) ∙ g.cells_go x y e ∙ ap Some (goes_same l c d h g same y (cell_below l c h x y e))

-- equal lists with first parts of the same length are equal part by part
same_split : (ps qs rs ts : List ℕ) → length ps ≡ length rs → ps ++ qs ≡ rs ++ ts → (ps ≡ rs) × (qs ≡ ts)
same_split [] qs [] ts len e = (refl, e)
same_split [] qs (z ∷ rs) ts len e = absurd (omega arith)
same_split (x ∷ ps) qs [] ts len e = absurd (omega arith)
same_split (x ∷ ps) qs (z ∷ rs) ts len e =
    let head : x ≡ z = cc in
    let rest : ps ++ qs ≡ rs ++ ts = cc in
    let r = same_split ps qs rs ts (omega arith) rest in
    (ap (λ (w : ℕ). w ∷ ps) head ∙ ap (λ (ws : List ℕ). z ∷ ws) r.0, r.1)

pub one_classed : (l : Lowered) (c d : Classed) → AreClasses l c → AreClasses l d → c ≡ d
one_classed l c d h k =
    let f = h.least.least d k.least.legal in
    let g = k.least.least c h.least.legal in
    let both = same_numbers f.into g.into c.count d.count 0 (members c) (members d) (record { along = f.members_go }) (record { along = g.members_go }) h.numbered k.numbered (λ z lt. absurd (omega arith)) (λ z lt. absurd (omega arith)) in
    let same = both.0 in
    let parts = same_split c.globals c.sites d.globals d.sites (h.least.legal.globals ∙ sym k.least.legal.globals) same in
    let registers : c.registers ≡ d.registers = ext_get_or [] c.registers d.registers (h.tables.functions ∙ sym k.tables.functions) (λ n lt. (
    let fd : entry.Function = record { params = 0; regs = 0; len = 0 } in
    let low : n < length l.functions = omega (arith, h.tables.functions) in
    let at = slice_get-get_or l.functions n fd low in
    let row1 = h.tables.registers n (get_or l.functions n fd) (get_or c.registers n []) at (slice_get-get_or c.registers n [] lt) in
    let row2 = k.tables.registers n (get_or l.functions n fd) (get_or d.registers n []) at (slice_get-get_or d.registers n [] (omega (arith, k.tables.functions))) in
    same_rows (get_or c.registers n []) (get_or d.registers n []) (row1 ∙ sym row2) (λ r.
    sym (row_at c.registers n r)
    ∙ same_options (to c n r) (to d n r) (register_goes l c d h k same n r) (register_goes l d c k h (sym same) n r)
    ∙ row_at d.registers n r))) in
    let cells : c.cells ≡ d.cells = same_rows c.cells d.cells (h.tables.cells ∙ both.1 ∙ sym k.tables.cells) (λ x.
    same_options (inside c x) (inside d x) (cell_goes l c d h k same x) (cell_goes l d c k h (sym same) x)) in
    let by_count : ℕ → Classed = λ n. record { count = n; globals = c.globals; sites = c.sites; registers = c.registers; cells = c.cells } in
    let by_globals : List ℕ → Classed = λ xs. record { count = d.count; globals = xs; sites = c.sites; registers = c.registers; cells = c.cells } in
    let by_sites : List ℕ → Classed = λ xs. record { count = d.count; globals = d.globals; sites = xs; registers = c.registers; cells = c.cells } in
    let by_registers : List (List (Option ℕ)) → Classed = λ xs. record { count = d.count; globals = d.globals; sites = d.sites; registers = xs; cells = c.cells } in
    let by_cells : List (Option ℕ) → Classed = λ xs. record { count = d.count; globals = d.globals; sites = d.sites; registers = d.registers; cells = xs } in
    ap by_count both.1 ∙ ap by_globals parts.0 ∙ ap by_sites parts.1 ∙ ap by_registers registers ∙ ap by_cells cells
