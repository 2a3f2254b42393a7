-- The locks that come to a point.
use Rattle.std.proofs.Common.{◌≡◌, ◌↔◌, ⊎_elim, IsTrue, Bool, true, false, ℕ, zero, suc, ◌+◌, ◌<◌, ◌≤◌, List, [], ◌∷◌, ◌++◌, inl, inr, Some, length, slice_get, get_or, map, Vec, Global, refl, ap, sym, subst, ◌∙◌, arith}
use Rattle.std.specs.List.{All, flat_map}
use Rattle.std.proofs.lemmas.Option.{slice_get-get_or, slice_get_within, get_or_from_slice_get}
use Rattle.asl_code.specs.declared.image.Function as entry
use Rattle.asl_code.specs.declared.instr.Instr.{Instr}
use Rattle.asl_code.specs.declared.instr.Instr.TheVariants as instr
use Rattle.asl_code.specs.declared.lock.Lock.{Lock}
use Rattle.asl_lower.specs.Lowered.{Lowered}
use Rattle.asl_lower.specs.LegalLowering.{IsLegalLowering}
use Rattle.asl_lock_expr.proofs.Ones.{one_left, one_right, one_either}
use Rattle.asl_lock_expr.specs.Links.{LinkContext, IsOne, link, settle, accesses, renamed}
use Rattle.asl_backward_flow.specs.declared.span.Span.{Span}
use Rattle.asl_backward_flow.specs.Follows.{Read, seen, IsAtPoint, IsAccessed, IsLinkedAlone, IsEntered}
use Rattle.asl_backward_flow.specs.Found.{IsAt, list_at}
use Rattle.asl_backward_flow.proofs.Rows.{row_of}
use Rattle.asl_backward_flow.proofs.Sets.{some_same}

abbrev vec_items : {A : Type 0} → Vec A Global → List A
vec_items v = v.items

-- a list that was empty has what was added
pub added_to_none : (first locks more : List Lock) → first ≡ [] → locks ≡ first ++ more → locks ≡ more
added_to_none first locks more none is = is ∙ ap (λ l. l ++ more) none

pub one_in : (locks more : List Lock) → locks ≡ more → (m : Lock) → IsOne locks m ↔ IsOne more m
one_in locks more is m = (λ h. subst (λ l. IsOne l m) is h, λ h. subst (λ l. IsOne l m) (sym is) h)

-- what stands at the number that a part of the code was read by
pub stands_at : {A : Type 0} (xs ys : List A) (n k : ℕ) (d : A) → ys ≡ xs → n ≡ k → k < length xs → slice_get xs k ≡ Some (get_or ys n d)
stands_at xs ys n k d same is lt = slice_get-get_or xs k d lt ∙ ap Some (ap (λ j. get_or xs j d) (sym is) ∙ ap (λ zs. get_or zs n d) (sym same))

-- what is read at a place of a list that has it
pub read_at : {A : Type 0} (xs : List A) (n : ℕ) (x : A) → n < length xs → x ≡ get_or xs n x → slice_get xs n ≡ Some x
read_at xs n x lt is = stands_at xs xs n n x refl refl lt ∙ ap Some (sym is)

module _ (r : Read) (part pc : ℕ) (s : Span) (i : Instr) (there : slice_get r.spans part ≡ Some s) (stands : slice_get r.lowered.code pc ≡ Some i) (v : LinkContext) (is : v ≡ seen r s.function) where
  pub accessed_list : (first locks : List Lock) → first ≡ [] → locks ≡ first ++ accesses v i → (m : Lock) → IsOne locks m ↔ IsAccessed r part pc m
  accessed_list first locks none made m = (
    λ h. record { span = s; there = there; instruction = i; stands = stands; one = subst (λ w. IsOne (accesses w i) m) is (subst (λ l. IsOne l m) all h) },
    λ h.
        let same : h.span ≡ s = some_same (sym h.there ∙ there) in
        let one : h.instruction ≡ i = some_same (sym h.stands ∙ stands) in
        subst (λ l. IsOne l m) (sym all) (subst (λ w. IsOne (accesses w i) m) (sym is) (subst (λ (t : Span). IsOne (accesses (seen r t.function) i) m) same (subst (λ x. IsOne (accesses (seen r h.span.function) x) m) one h.one))),
  )
    where
      all : locks ≡ accesses v i
      all = added_to_none first locks (accesses v i) none made

  pub linked_list : (lock : Lock) (first locks : List Lock) → first ≡ [] → locks ≡ first ++ link v i lock → (m : Lock) → IsOne locks m ↔ IsLinkedAlone r part pc lock m
  linked_list lock first locks none made m = (
    λ h. record { span = s; there = there; instruction = i; stands = stands; one = subst (λ w. IsOne (link w i lock) m) is (subst (λ l. IsOne l m) all h) },
    λ h.
        let same : h.span ≡ s = some_same (sym h.there ∙ there) in
        let one : h.instruction ≡ i = some_same (sym h.stands ∙ stands) in
        subst (λ l. IsOne l m) (sym all) (subst (λ w. IsOne (link w i lock) m) (sym is) (subst (λ (t : Span). IsOne (link (seen r t.function) i lock) m) same (subst (λ x. IsOne (link (seen r h.span.function) x lock) m) one h.one))),
  )
    where
      all : locks ≡ link v i lock
      all = added_to_none first locks (link v i lock) none made

one_flat : (f : Lock → List Lock) (xs : List Lock) (m p : Lock) → IsOne xs p → IsOne (f p) m → IsOne (flat_map f xs) m
one_flat f [] m p h k = absurd h
one_flat f (x ∷ xs) m p (inl e) k = one_left (f x) (flat_map f xs) m (subst (λ y. IsOne (f y) m) (sym e) k)
one_flat f (x ∷ xs) m p (inr h) k = one_right (f x) (flat_map f xs) m (one_flat f xs m p h k)

flat_one : (f : Lock → List Lock) (xs : List Lock) (m : Lock) → IsOne (flat_map f xs) m → (p : Lock) × IsOne xs p × IsOne (f p) m
flat_one f [] m h = absurd h
flat_one f (x ∷ xs) m h = ⊎_elim (λ k. (x, inl refl, k)) (λ k. let t = flat_one f xs m k in (t.0, inr t.1, t.2)) (one_either (f x) (flat_map f xs) m h)

abbrev first_of : Instr → ℕ
first_of (instr.Call to first g) = first
first_of i = 0

abbrev callee_of : Instr → ℕ
callee_of (instr.Call to first g) = g
callee_of i = 0

abbrev IsCallInstr : Instr → Type 0
IsCallInstr (instr.Call to first g) = Unit {0}
IsCallInstr i = ⊥

module _ (r : Read) (part pc : ℕ) (s : Span) (there : slice_get r.spans part ≡ Some s) where
  pub entered_list : (to first g : ℕ) (callee : entry.Function) (lock : Lock) → slice_get r.lowered.code pc ≡ Some (instr.Call to first g) → slice_get r.lowered.functions g ≡ Some callee
      → (v : LinkContext) → v ≡ seen r s.function → (none locks : List Lock) → none ≡ [] → locks ≡ none ++ flat_map (settle v) (renamed first callee.params lock)
      → (m : Lock) → IsOne locks m ↔ IsEntered r part pc lock m
  entered_list to first g callee lock stands in_table v is none locks empty made m = (
    λ h.
        let flat = flat_one (settle v) (renamed first callee.params lock) m (subst (λ l. IsOne l m) all h) in
        record {
          span = s;
          there = there;
          to = to;
          first = first;
          function = g;
          callee = callee;
          stands = stands;
          in_table = in_table;
          passed = flat.0;
          renames = flat.1;
          one = subst (λ w. IsOne (settle w flat.0) m) is flat.2;
        },
    λ h.
        let same : h.span ≡ s = some_same (sym h.there ∙ there) in
        let call : instr.Call h.to h.first h.function ≡ instr.Call to first g = some_same (sym h.stands ∙ stands) in
        let firsts : h.first ≡ first = ap first_of call in
        let callees : h.function ≡ g = ap callee_of call in
        let entries : h.callee ≡ callee = some_same (sym h.in_table ∙ ap (λ n. slice_get r.lowered.functions n) callees ∙ in_table) in
        let renames : IsOne (renamed first callee.params lock) h.passed =
        subst (λ (c : entry.Function). IsOne (renamed first c.params lock) h.passed) entries (subst (λ n. IsOne (renamed n h.callee.params lock) h.passed) firsts h.renames) in
        let one : IsOne (settle v h.passed) m = subst (λ w. IsOne (settle w h.passed) m) (sym is) (subst (λ (t : Span). IsOne (settle (seen r t.function) h.passed) m) same h.one) in
        subst (λ l. IsOne l m) (sym all) (one_flat (settle v) (renamed first callee.params lock) m h.passed renames one),
  )
    where
      all : locks ≡ flat_map (settle v) (renamed first callee.params lock)
      all = added_to_none none locks _ empty made

-- at no call nothing is entered
pub not_entered : (r : Read) (part pc : ℕ) (i : Instr) (lock : Lock) → slice_get r.lowered.code pc ≡ Some i → ((to first g : ℕ) → i ≡ instr.Call to first g → ⊥) → (m : Lock) → IsEntered r part pc lock m → ⊥
not_entered r part pc i lock stands not m h = not h.to h.first h.function (some_same (sym stands ∙ h.stands))

all_at : {A : Type 0} (P : A → Type 0) (xs : List A) → All P xs → (n : ℕ) (x : A) → slice_get xs n ≡ Some x → P x
all_at P xs h n x e = subst P (get_or_from_slice_get xs n x x e) (h n x (slice_get_within xs n x e))

-- a call names a function that is there, and registers that are
pub record IsCallThere (l : Lowered) (first g : ℕ) : Type 0 where
  pub callee : entry.Function
  pub in_table : slice_get l.functions g ≡ Some callee
  pub registers : first + callee.params ≤ 64

pub call_there : (l : Lowered) → IsLegalLowering l → (pc to first g : ℕ) → slice_get l.code pc ≡ Some (instr.Call to first g) → IsCallThere l first g
call_there l kept pc to first g at =
    let layout = kept.layout in
    let body = layout.parted.owned pc (slice_get_within l.code pc _ at) in
    let has = layout.operands pc _ body.function (instr.Call to first g) body body.in_table at in
    let few = all_at (λ (f : entry.Function). f.regs ≤ 64) l.functions kept.few_registers _ body.function body.in_table in
    let args = has.1.0.arguments in
    record { callee = has.1.0.function; in_table = has.1.0.in_table; registers = omega (arith, few, args) }

no : false ≡ true → ⊥
no e = cc

-- what the test of a span says of the pc
pub point_at : (r : Read) (part pc : ℕ) (s : Span) → slice_get r.spans part ≡ Some s → (b : Bool) → IsTrue b ↔ ((s.first ≤ pc) × (pc < s.end)) → b ≡ true → IsAtPoint r part pc
point_at r part pc s there true tells is = let t = tells.0 refl in (s, there, t.0, t.1)
point_at r part pc s there false tells is = absurd cc

pub not_point : (r : Read) (part pc : ℕ) (s : Span) → slice_get r.spans part ≡ Some s → (b : Bool) → IsTrue b ↔ ((s.first ≤ pc) × (pc < s.end)) → b ≡ false → ¬ IsAtPoint r part pc
not_point r part pc s there true tells is at = absurd cc
not_point r part pc s there false tells is at =
    let same : at.0 ≡ s = some_same (sym at.1 ∙ there) in
    no (tells.1 (subst (λ (t : Span). (t.first ≤ pc) × (pc < t.end)) same (at.2, at.3)))

-- the row that is read at a number
pub row_read : (rows : List (Vec ℕ Global)) (n g : ℕ) (v : Vec ℕ Global) (items : List ℕ) → n ≡ g → v ≡ get_or rows n v → n < length rows → items ≡ v.items → items ≡ list_at (map (λ r. r.items) rows) g
row_read rows n g v items same is lt made = made ∙ ap vec_items is ∙ sym (row_of vec_items rows n v lt) ∙ ap (λ k. list_at (map vec_items rows) k) same

row_past : (rows : List (Vec ℕ Global)) (n : ℕ) → length rows ≤ n → list_at (map vec_items rows) n ≡ []
row_past [] n le = refl
row_past (x ∷ xs) zero le = absurd (omega (arith, le))
row_past (x ∷ xs) (suc n) le = row_past xs n (omega (arith, le))

pub nothing_past : (rows : List (Vec ℕ Global)) (n g q : ℕ) → n ≡ g → length rows ≤ n → IsAt (list_at (map (λ r. r.items) rows) g) q → ⊥
nothing_past rows n g q same le at =
    let none : slice_get {X = ℕ} [] at.0 ≡ Some q = ap (λ r. slice_get r at.0) (sym (row_past rows g (omega (arith, le, same)))) ∙ at.1 in nothing at.0 none
  where
    nothing : (k : ℕ) → slice_get {X = ℕ} [] k ≡ Some q → ⊥
    nothing k e = cc
