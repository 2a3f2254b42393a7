-- The finest classes of a lowering cannot be missing: members share a class where they do in all legal classes.
use Rattle.std.proofs.Common.{◌≡◌, ◌⊎◌, ◌<◌, ◌+◌, ℕ, zero, List, [], Option, None, Some, length, take, drop, slice_get, unwrap_or, option_and_then, refl, ap, sym, ◌∙◌, subst, arith}
use Rattle.std.proofs.lemmas.Option.{slice_get_within, get_or_from_slice_get}
use Rattle.asl_code.specs.declared.image.Function as entry
use Rattle.asl_code.specs.declared.instr.Instr.{Instr}
use Rattle.asl_code.specs.declared.instr.Instr.TheVariants as instr
use Rattle.asl_lower.specs.Lowered.{Lowered}
use Rattle.asl_lower.specs.OpenSections.{InBody}
use Rattle.asl_lower.specs.Operands.{HasOperands}
use Rattle.asl_lower.specs.Limits.{FitsTable}
use Rattle.asl_lower.specs.Facts.{HasLayout}
use Rattle.asl_points_to.specs.Classes.{Classed, some_at, to, inside, members, Gives, IsLegalAt, IsLegal, GoInto, AreNumbered, AreClasses}
use Rattle.asl_theorems.proofs.Surely.{Surely, then, mapped, either, each_below, Table, table}
use Rattle.asl_theorems.proofs.Numbering.{Numbers, number_from}
use Rattle.asl_theorems.proofs.Elements.{get_below, split, get_left, get_right, left_of}
use Rattle.asl_theorems.proofs.SharedClasses.{R, T, C, member_there, Entry, IsRow, IsCell, a_row, a_cell}

module _ (l : Lowered) (h : HasLayout l) where
  -- how many members there are
  abbrev n : ℕ
  n = l.globals + l.sites

  module _ (N : Numbers (R l) n [] 0 n) (rows : Table (IsRow l N.all) (length l.functions)) (cells : Table (IsCell l N.all) (length N.all)) where
    abbrev c : Classed
    c = record { count = length N.all; globals = take l.globals N.numbers; sites = drop l.globals N.numbers; registers = rows.entries; cells = cells.entries }

    parts : (length c.globals ≡ l.globals) × (length c.sites ≡ l.sites) × (members c ≡ N.numbers)
    parts = split l.globals l.sites N.numbers N.count

    -- a class has one first member
    one_class : (x y m k : ℕ) → slice_get N.all x ≡ Some m → slice_get N.all y ≡ Some k → ((d : Classed) → IsLegal l d → slice_get (members d) m ≡ slice_get (members d) k) → x ≡ y
    one_class x y m k at other same = N.apart x y m k at other same

    one_entry : (P : ℕ → Type 0) (o : Option ℕ) (x m : ℕ) → ((j k : ℕ) → P j → P k → R l j k) → Entry l N.all P o → slice_get N.all x ≡ Some m → P m → o ≡ Some x
    one_entry P None x m alike e at p = absurd (e x m at p)
    one_entry P (Some y) x m alike e at p = ap (λ k. Some k) (one_class y x e.0 m e.1 at (alike e.0 m e.2 p))

    -- what the tables say holds in all legal classes
    less : (f r x : ℕ) → to c f r ≡ Some x → (m : ℕ) × (slice_get N.all x ≡ Some m) × T l f r m
    less f r x e = by_row (slice_get rows.entries f) refl e
      where
        by_entry : (p : Option ℕ) → Entry l N.all (T l f r) p → p ≡ Some x → (m : ℕ) × (slice_get N.all x ≡ Some m) × T l f r m
        by_entry None h e = cc
        by_entry (Some z) h e = let same : z ≡ x = cc in subst (λ k. (m : ℕ) × (slice_get N.all k ≡ Some m) × T l f r m) same h

        by_place : (rs : List (Option ℕ)) (o : Option (Option ℕ)) → slice_get rs r ≡ o → ((p : Option ℕ) → slice_get rs r ≡ Some p → Entry l N.all (T l f r) p) → option_and_then (λ (q : Option ℕ). q) o ≡ Some x → (m : ℕ) × (slice_get N.all x ≡ Some m) × T l f r m
        by_place rs None at each g = cc
        by_place rs (Some p) at each g = by_entry p (each p at) g

        by_row : (o : Option (List (Option ℕ))) → slice_get rows.entries f ≡ o → option_and_then (λ (rs : List (Option ℕ)). some_at rs r) o ≡ Some x → (m : ℕ) × (slice_get N.all x ≡ Some m) × T l f r m
        by_row None at g = cc
        by_row (Some rs) at g =
            let many = rows.count in
            let lt = slice_get_within rows.entries f rs at in
            let fn = get_below l.functions f (omega (arith, many, lt)) in
            by_place rs (slice_get rs r) refl (λ p at_r. (rows.each f rs at fn.0 fn.1).1 r p at_r) g

    -- and what holds in all of them the tables say
    more : (f r x m : ℕ) (fn : entry.Function) → slice_get l.functions f ≡ Some fn → r < fn.regs → slice_get N.all x ≡ Some m → T l f r m → to c f r ≡ Some x
    more f r x m fn there lt at t =
        let many = rows.count in
        let within = slice_get_within l.functions f fn there in
        let row = get_below rows.entries f (omega (arith, many, within)) in
        let is = rows.each f row.0 row.1 fn there in
        let long = is.0 in
        let place = get_below row.0 r (omega (arith, long, lt)) in
        let same = one_entry (T l f r) place.0 x m (λ j k p q d legal. sym (p d legal) ∙ q d legal) (is.1 r place.0 place.1) at t in
        ap (option_and_then (λ (rs : List (Option ℕ)). some_at rs r)) row.1 ∙ ap (option_and_then (λ (q : Option ℕ). q)) place.1 ∙ same

    cell_less : (x y m : ℕ) → slice_get N.all x ≡ Some m → inside c x ≡ Some y → (k : ℕ) × (slice_get N.all y ≡ Some k) × C l m k
    cell_less x y m at e = by_place (slice_get cells.entries x) refl e
      where
        by_entry : (p : Option ℕ) → Entry l N.all (C l m) p → p ≡ Some y → (k : ℕ) × (slice_get N.all y ≡ Some k) × C l m k
        by_entry None h e = cc
        by_entry (Some z) h e = let same : z ≡ y = cc in subst (λ j. (k : ℕ) × (slice_get N.all j ≡ Some k) × C l m k) same h

        by_place : (o : Option (Option ℕ)) → slice_get cells.entries x ≡ o → option_and_then (λ (q : Option ℕ). q) o ≡ Some y → (k : ℕ) × (slice_get N.all y ≡ Some k) × C l m k
        by_place None there g = cc
        by_place (Some p) there g = by_entry p (cells.each x p there m at) g

    -- two classes in which the cells of a member's class point are one
    cells_alike : (m : ℕ) → m < n → (j k : ℕ) → C l m j → C l m k → R l j k
    cells_alike m lt j k p q d legal = let y = member_there l d legal m lt in sym (p d legal y.0 y.1) ∙ q d legal y.0 y.1

    cell_more : (x y m k : ℕ) → slice_get N.all x ≡ Some m → slice_get N.all y ≡ Some k → C l m k → inside c x ≡ Some y
    cell_more x y m k at other t =
        let many = cells.count in
        let within = slice_get_within N.all x m at in
        let place = get_below cells.entries x (omega (arith, many, within)) in
        let same = one_entry (C l m) place.0 y k (cells_alike m (N.below x m at)) (cells.each x place.0 place.1 m at) other t in
        ap (option_and_then (λ (q : Option ℕ). q)) place.1 ∙ same

    -- what is owed in each legal classes is owed here
    given : (f b g a x : ℕ) (fn : entry.Function) → slice_get l.functions g ≡ Some fn → a < fn.regs → ((d : Classed) → IsLegal l d → Gives (to d f b) (to d g a)) → to c f b ≡ Some x → to c g a ≡ Some x
    given f b g a x fn there lt all e =
        let p = less f b x e in
        more g a x p.0 fn there lt p.1 (λ d legal. (let y = member_there l d legal p.0 (N.below x p.0 p.1) in all d legal y.0 (p.2 d legal ∙ y.1) ∙ sym y.1))

    number_first : (m x : ℕ) → slice_get N.numbers m ≡ Some x → (k : ℕ) × (slice_get N.all x ≡ Some k) × R l k m
    number_first m x e =
        let p = N.each m x e in
        let same : zero + m ≡ m = omega arith in (p.0, p.1, subst (R l p.0) same p.2)

    member_given : (f a m x : ℕ) (fn : entry.Function) → slice_get l.functions f ≡ Some fn → a < fn.regs → m < n → slice_get N.numbers m ≡ Some x → ((d : Classed) → IsLegal l d → Gives (slice_get (members d) m) (to d f a)) → to c f a ≡ Some x
    member_given f a m x fn there lt low e all =
        let p = number_first m x e in
        more f a x p.0 fn there lt p.1 (λ d legal. (let y = member_there l d legal m low in all d legal y.0 y.1 ∙ sym y.1 ∙ sym (p.2 d legal)))

    global_number : (g x : ℕ) → slice_get c.globals g ≡ Some x → slice_get N.numbers g ≡ Some x
    global_number g x e = ap (λ (xs : List ℕ). slice_get xs g) (sym parts.2) ∙ get_left c.globals c.sites g x e

    site_number : (s x : ℕ) → slice_get c.sites s ≡ Some x → slice_get N.numbers (l.globals + s) ≡ Some x
    site_number s x e =
        ap (λ (xs : List ℕ). slice_get xs (l.globals + s)) (sym parts.2)
        ∙ ap (λ k. slice_get (members c) (k + s)) (sym parts.0) ∙ get_right c.globals c.sites s ∙ e

    global_of : (d : Classed) → IsLegal l d → (g : ℕ) → g < l.globals → slice_get (members d) g ≡ slice_get d.globals g
    global_of d legal g lt = let many = legal.globals in left_of d.globals d.sites g (omega (arith, many, lt))

    site_of : (d : Classed) → IsLegal l d → (s : ℕ) → slice_get (members d) (l.globals + s) ≡ slice_get d.sites s
    site_of d legal s = ap (λ k. slice_get (members d) (k + s)) (sym legal.globals) ∙ get_right d.globals d.sites s

    fits_at : (g : ℕ) (fn : entry.Function) → slice_get l.functions g ≡ Some fn → FitsTable fn
    fits_at g fn e =
        let P : entry.Function → Type 0 = λ x. FitsTable x in
        subst P (get_or_from_slice_get l.functions g fn fn e) (h.limits.functions g fn (slice_get_within l.functions g fn e))

    -- each instruction owes here what it owes in all of them
    legal_at : (f pc : ℕ) (fn : entry.Function) (i : Instr) → slice_get l.functions f ≡ Some fn → InBody l f pc → slice_get l.code pc ≡ Some i → HasOperands l fn.regs i → IsLegalAt l c f i
    legal_at f pc fn (instr.Move a b) there in_body at o = λ x. given f b f a x fn there o.0 (λ d legal. legal.instrs f pc (instr.Move a b) in_body at)
    legal_at f pc fn (instr.FieldAddress a b k) there in_body at o = λ x. given f b f a x fn there o.0 (λ d legal. legal.instrs f pc (instr.FieldAddress a b k) in_body at)
    legal_at f pc fn (instr.GlobalAddress a g) there in_body at o = λ x e.
        (let low = o.1.0 in
        member_given f a g x fn there o.0 (omega (arith, low)) (global_number g x e)
        (λ d legal y k. legal.instrs f pc (instr.GlobalAddress a g) in_body at y (sym (global_of d legal g o.1.0) ∙ k)))
    legal_at f pc fn (instr.New a m s) there in_body at o = λ x e.
        (let low = o.1.1.0 in
        member_given f a (l.globals + s) x fn there o.0 (omega (arith, low)) (site_number s x e)
        (λ d legal y k. legal.instrs f pc (instr.New a m s) in_body at y (sym (site_of d legal s) ∙ k)))
    legal_at f pc fn (instr.Load a b) there in_body at o = λ x y e g.
        (let p = less f b x e in
        let q = cell_less x y p.0 p.1 g in
        more f a y q.0 fn there o.0 q.1 (λ d legal.
        (let u = member_there l d legal p.0 (N.below x p.0 p.1) in
        let v = member_there l d legal q.0 (N.below y q.0 q.1) in
        legal.instrs f pc (instr.Load a b) in_body at u.0 v.0 (p.2 d legal ∙ u.1) (q.2 d legal u.0 u.1 ∙ v.1) ∙ sym v.1)))
    legal_at f pc fn (instr.Store a b) there in_body at o = λ x y e g.
        (let p = less f a x e in
        let q = less f b y g in
        cell_more x y p.0 q.0 p.1 q.1 (λ d legal u is.
        (let v = member_there l d legal q.0 (N.below y q.0 q.1) in
        legal.instrs f pc (instr.Store a b) in_body at u v.0 (p.2 d legal ∙ is) (q.2 d legal ∙ v.1) ∙ sym v.1)))
    legal_at f pc fn (instr.Call a first g) there in_body at o = record {
      passed = λ callee m in_table lt x.
          (let few = (fits_at g callee in_table).parameters in
          given f (first + m) g m x callee in_table (omega (arith, few, lt)) (λ d legal. (legal.instrs f pc (instr.Call a first g) in_body at).passed callee m in_table lt));
      returned = λ to_pc r b e x. given g r f a x fn there o.0 (λ d legal. (legal.instrs f pc (instr.Call a first g) in_body at).returned to_pc r b e);
    }
    legal_at f pc fn i there in_body at o = tt

    is_legal : IsLegal l c
    is_legal = record {
      globals = parts.0;
      sites = parts.1;
      instrs = λ f pc i b e. legal_at f pc b.function i b.in_table b e (h.operands pc f b.function i b b.in_table e);
    }

    -- where a class goes in other legal classes: to that of its first member
    into : Classed → ℕ → ℕ
    into d x = unwrap_or (option_and_then (λ m. slice_get (members d) m) (slice_get N.all x)) 0

    into_is : (d : Classed) → IsLegal l d → (x m : ℕ) → slice_get N.all x ≡ Some m → slice_get (members d) m ≡ Some (into d x)
    unfolding into
    into_is d legal x m at =
        let y = member_there l d legal m (N.below x m at) in
        let e : into d x ≡ y.0 = ap (λ (o : Option ℕ). unwrap_or (option_and_then (λ k. slice_get (members d) k) o) 0) at ∙ ap (λ (o : Option ℕ). unwrap_or o 0) y.1 in
        y.1 ∙ ap (λ k. Some k) (sym e)

    goes : (d : Classed) → IsLegal l d → GoInto c d
    goes d legal = record {
      into = into d;
      members_go = λ m x e. (let p = number_first m x (ap (λ (xs : List ℕ). slice_get xs m) (sym parts.2) ∙ e) in sym (p.2 d legal) ∙ into_is d legal x p.0 p.1);
      registers_go = λ f r x e. (let p = less f r x e in p.2 d legal ∙ into_is d legal x p.0 p.1);
      cells_go = λ x y e. goes_in d legal x y e;
    }
      where
        in_cells : (o : Option (Option ℕ)) (x y : ℕ) → slice_get cells.entries x ≡ o → option_and_then (λ (q : Option ℕ). q) o ≡ Some y → x < length cells.entries
        in_cells None x y at e = cc
        in_cells (Some p) x y at e = slice_get_within cells.entries x p at

        goes_in : (d : Classed) → IsLegal l d → (x y : ℕ) → inside c x ≡ Some y → inside d (into d x) ≡ Some (into d y)
        goes_in d legal x y e =
            let lt = in_cells (slice_get cells.entries x) x y refl e in
            let many = cells.count in
            let m = get_below N.all x (omega (arith, lt, many)) in
            let q = cell_less x y m.0 m.1 e in
            q.2 d legal (into d x) (into_is d legal x m.0 m.1) ∙ into_is d legal y q.0 q.1

    pub classes_of : AreClasses l c
    classes_of = record {
      least = record { legal = is_legal; least = goes };
      numbered = subst (AreNumbered (length N.all) 0) (sym parts.2) N.numbered;
      tables = record {
        functions = rows.count;
        registers = λ k f rs at there. (rows.each k rs there f at).0;
        cells = cells.count;
      };
    }

    pub below_count : (f r x : ℕ) → to c f r ≡ Some x → x < c.count
    below_count f r x e = let p = less f r x e in slice_get_within N.all x p.0 p.1

  -- finest classes, with every class of a register below their number
  pub surely_classes : Surely ((c : Classed) × AreClasses l c × ((f r x : ℕ) → to c f r ≡ Some x → x < c.count))
  surely_classes =
      then (each_below (λ m. (k : ℕ) → k < n → R l m k ⊎ (R l m k → ⊥)) n (λ m lt. each_below (λ k. R l m k ⊎ (R l m k → ⊥)) n (λ k low. either (R l m k)))) (λ tell.
      (let N = number_from (R l) (λ m d legal. refl) n (λ m k lt low. tell m lt k low) (λ m k r d legal. sym (r d legal)) n zero [] (omega arith) (λ i j m k e. absurd cc) (λ k m e. absurd cc) in
      then (table (IsRow l N.all) (length l.functions) (a_row l N.all)) (λ rows.
      mapped (table (IsCell l N.all) (length N.all) (a_cell l N.all)) (λ cells. (c N rows cells, classes_of N rows cells, below_count N rows cells)))))
