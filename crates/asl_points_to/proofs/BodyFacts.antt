-- What the code that goes over the bodies of a legal program reads there: of an instruction that stands in a body, of a call, of the
-- body's ends, and of the register that each function returns.
use Rattle.std.proofs.Common.{◌≡◌, ℕ, suc, ◌+◌, ◌-◌, ◌<◌, ◌≤◌, inl, inr, List, [], ◌∷◌, ◌++◌, length, Some, get_or, slice_get, refl, sym, ap, ◌∙◌, subst, arith}
use Rattle.std.specs.List.{sum_by}
use Rattle.std.proofs.lemmas.Bool.{cases_eq}
use Rattle.std.proofs.lemmas.List.{get_or_append_left, get_or_push, length_push, take_all}
use Rattle.std.proofs.lemmas.List.Sums.{sum_by_more, sum_by_more_le}
use Rattle.std.proofs.lemmas.Option.{slice_get-get_or, slice_get_within, get_or_from_slice_get}
use Rattle.asl_code.specs.declared.image.Function as entry
use Rattle.asl_code.specs.declared.instr.Instr.{Instr}
use Rattle.asl_code.specs.declared.instr.Instr.TheVariants as instr
use Rattle.asl_lower.specs.Lowered.{Lowered}
use Rattle.asl_lower.specs.OpenSections.{start_of, returned, returned_by, InBody}
use Rattle.asl_lower.specs.Operands.{HasOperands}
use Rattle.asl_lower.specs.Facts.{HasLayout}
use Rattle.asl_lower.specs.LegalLowering.{IsLegalLowering}
use Rattle.asl_points_to.specs.Flows.{Stands}
use Rattle.asl_points_to.proofs.Owed.{IsPlain}

-- what an instruction that stands in a body has
pub record HasFacts (l : Lowered) (f : ℕ) (i : Instr) : Type 0 where
  pub layout : HasLayout l
  pub function : entry.Function
  pub in_table : slice_get l.functions f ≡ Some function
  pub low : f < length l.functions
  pub few : function.regs ≤ 64
  pub operands : HasOperands l function.regs i

pub facts : (l : Lowered) (f : ℕ) (i : Instr) → IsLegalLowering l → Stands l f i → HasFacts l f i
facts l f i k s =
    let h = k.layout in
    let b = s.inside in
    let low = slice_get_within l.functions f b.function b.in_table in
    record {
      layout = h;
      function = b.function;
      in_table = b.in_table;
      low = low;
      few = (let P : entry.Function → Type 0 = λ x. x.regs ≤ 64 in subst P (get_or_from_slice_get l.functions f b.function b.function b.in_table) (k.few_registers f b.function low));
      operands = h.operands s.pc f b.function i b b.in_table s.there;
    }

-- the instruction is no call
pub is_plain : (i : Instr) → ((a b g : ℕ) → i ≡ instr.Call a b g → ⊥) → IsPlain i
is_plain (instr.Call a b g) h = h a b g refl
is_plain i h = tt

-- what a call that stands in a body has, where the callee was read from the table
pub record HasCalled (l : Lowered) (first callee : ℕ) (fn : entry.Function) : Type 0 where
  pub in_table : slice_get l.functions callee ≡ Some fn
  pub low : callee < length l.functions
  pub arguments : first + fn.params < 256

pub called : (l : Lowered) (f : ℕ) (i : Instr) (a first callee n : ℕ) (fs : List entry.Function) (d : entry.Function) → IsLegalLowering l → Stands l f i → i ≡ instr.Call a first callee → fs ≡ l.functions → n ≡ callee → HasCalled l first callee (get_or fs n d)
called l f i a first callee n fs d k s is same e =
    let h = facts l f i k s in
    let Has : Instr → Type 0 = λ x. HasOperands l h.function.regs x in
    let o = subst Has is h.operands in
    let there : slice_get l.functions callee ≡ Some o.1.0.function = o.1.0.in_table in
    let read : get_or fs n d ≡ o.1.0.function =
    ap (λ (xs : List entry.Function). get_or xs n d) same ∙ ap (λ (x : ℕ). get_or l.functions x d) e ∙ get_or_from_slice_get l.functions callee o.1.0.function d there in
    record {
      in_table = there ∙ ap Some (sym read);
      low = slice_get_within l.functions callee o.1.0.function there;
      arguments = omega (arith, ap (λ (x : entry.Function). x.params) read, o.1.0.arguments, h.few);
    }

-- a function of the table, read by its number, and its body
pub record HasBody (l : Lowered) (n : ℕ) (fn : entry.Function) : Type 0 where
  pub in_table : slice_get l.functions n ≡ Some fn
  pub next : start_of l.functions (n + 1) ≡ start_of l.functions n + fn.len
  pub within : start_of l.functions n + fn.len ≤ length l.code
  pub size : length l.code ≤ 65535
  pub number : n < 256

pub body_at : (l : Lowered) (fs : List entry.Function) (n : ℕ) (d : entry.Function) → IsLegalLowering l → fs ≡ l.functions → n < length fs → HasBody l n (get_or fs n d)
body_at l fs n d k same lt =
    let h = k.layout in
    let low : n < length l.functions = omega (arith, ap (λ (xs : List entry.Function). length xs) same) in
    let read : get_or fs n d ≡ get_or l.functions n d = ap (λ (xs : List entry.Function). get_or xs n d) same in
    let len : (get_or fs n d).len ≡ (get_or l.functions n d).len = ap (λ (x : entry.Function). x.len) read in
    record {
      in_table = slice_get-get_or l.functions n d low ∙ ap Some (sym read);
      next = omega (arith, sum_by_more (λ (x : entry.Function). x.len) l.functions n d low, len);
      within = omega (arith, sum_by_more_le (λ (x : entry.Function). x.len) l.functions n d low, len, h.parted.total);
      size = k.size;
      number = omega (arith, h.limits.few_functions);
    }

-- the instruction at a place of its body
pub stands_in : (l : Lowered) (n pc : ℕ) (fn : entry.Function) (code : List Instr) (d : Instr) → HasBody l n fn → code ≡ l.code → start_of l.functions n ≤ pc → pc < start_of l.functions n + fn.len → (pc < length l.code) × Stands l n (get_or code pc d) × (slice_get l.code pc ≡ Some (get_or code pc d)) × InBody l n pc
stands_in l n pc fn code d b same low high =
    let lt : pc < length l.code = omega (arith, b.within) in
    let there : slice_get l.code pc ≡ Some (get_or code pc d) = slice_get-get_or l.code pc d lt ∙ ap (λ (xs : List Instr). Some (get_or xs pc d)) (sym same) in
    let inside : InBody l n pc = record { function = fn; in_table = b.in_table; start = low; before_end = high } in
    (lt, record { pc = pc; inside = inside; there = there }, there, inside)

-- the last instruction of a body returns what its function does
pub returned_at : (l : Lowered) (n end r : ℕ) (fn : entry.Function) (code : List Instr) → HasBody l n fn → code ≡ l.code → end ≡ start_of l.functions n + fn.len → r ≡ returned_by (slice_get code (end - 1)) → r ≡ returned l n
returned_at l n end r fn code b same e is =
    let next : start_of l.functions (n + 1) ≡ end = b.next ∙ sym e in
    is ∙ ap (λ (xs : List Instr). returned_by (slice_get xs (end - 1))) same
    ∙ ap (λ (x : ℕ). returned_by (slice_get l.code (x - 1))) (sym next)
    ∙ ap (λ (x : ℕ). returned_by (slice_get l.code (start_of l.functions x - 1))) (let s : n + 1 ≡ suc n = omega arith in s)

-- one register more
pub registers_more : (l : Lowered) (registers : List ℕ) (n r : ℕ) → length registers ≡ n → ((g : ℕ) → g < n → slice_get registers g ≡ Some (returned l g)) → r ≡ returned l n → (g : ℕ) → g < n + 1 → slice_get (registers ++ r ∷ []) g ≡ Some (returned l g)
registers_more l registers n r len so is g lt =
    let long : length (registers ++ r ∷ []) ≡ length registers + 1 = length_push registers r in
    let low : g < length (registers ++ r ∷ []) = omega arith in
    elim (cases_eq g n) [
      | inl e ↦ slice_get-get_or (registers ++ r ∷ []) g 0 low ∙ ap Some (get_or_push registers r 0 g (omega arith) ∙ is ∙ ap (returned l) (sym e))
      | inr ne ↦ (
          let before : g < length registers = omega arith in
          slice_get-get_or (registers ++ r ∷ []) g 0 low ∙ ap Some (get_or_append_left registers (r ∷ []) 0 g before) ∙ sym (slice_get-get_or registers g 0 before) ∙ so g (omega arith))
    ]

-- the flows of all instructions of a program, for those of all its bodies
pub start_of_all : (l : Lowered) (n : ℕ) → IsLegalLowering l → length l.functions ≤ n → start_of l.functions n ≡ length l.code
start_of_all l n k le =
    ap (λ (xs : List entry.Function). sum_by (λ (f : entry.Function). f.len) xs) (take_all n l.functions le) ∙ k.layout.parted.total
