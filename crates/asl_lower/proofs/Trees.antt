-- The body of each function of a program, as the tree has it and as the code has it.
use Rattle.std.proofs.Common.{◌≡◌, ℕ, zero, suc, ◌+◌, ◌<◌, ◌≤◌, inl, inr, Bool, List, [], ◌∷◌, length, Option, Some, None, MatchOption, slice_get, refl, sym, ap, ◌∙◌, subst, arith}
use Rattle.asl_code.specs.declared.image.Function as entry
use Rattle.asl_syntax.specs.declared.tree.Statement as tree
use Rattle.asl_syntax.specs.Tree.{Function, Item, functions_of}
use Rattle.asl_syntax.specs.View.{block_of}
use Rattle.asl_lower.specs.Names.{function_names, scope_of, register}
use Rattle.asl_lower.specs.Place.{Place, origin, past_block, past_function}
use Rattle.asl_lower.specs.Lowered.{Lowered, IsLoweredFunction, AreLoweredFunctions, IsLowering, entry_of}
use Rattle.asl_lower.specs.OpenSections.{start_of}
use Rattle.asl_lower.specs.Facts.{HasLayout}
use Rattle.asl_lower.specs.Size.{block_size}
use Rattle.asl_lower.specs.Reach.{Outside, IsOutsideAccess, IsFirstOutsideAccess}
use Rattle.asl_lower.specs.Outside.{block_access, else_access, block_callees, MarksThese}
use Rattle.asl_lower.proofs.Grows.{Precedes, by_function}
use Rattle.asl_lower.proofs.Sized.{block_sized}
use Rattle.asl_lower.proofs.Bodies.{Begins, begins, next_begins}
use Rattle.asl_lower.proofs.JudgedCode.{Judged}
use Rattle.asl_lower.proofs.Judged.{judged_block, judged_return}
use Rattle.asl_lower.proofs.Reaching.{AreCallees, callee_there, body_within}
use Rattle.asl_lower.proofs.Lowest.{Spans}

-- a function of the list has its place
record HasPlace (is : List Item) (l : Lowered) (number : ℕ) (f : Function) : Type 0 where
  place : Place
  lowered : IsLoweredFunction is l number f place
  begins : Begins l number place

placed_at : (is : List Item) (l : Lowered) (n : ℕ) (fs : List Function) (p : Place) → AreLoweredFunctions is l n fs p → Begins l n p → (k : ℕ) (f : Function) → slice_get fs k ≡ Some f → HasPlace is l (n + k) f
placed_at is l n [] p h b k f e = cc
placed_at is l n (g ∷ fs) p h b zero f e =
    let same : g ≡ f = cc in
    let here : n ≡ n + 0 = omega arith in
    let P : Function → Type 0 = λ x. HasPlace is l n x in
    let Q : ℕ → Type 0 = λ m. HasPlace is l m f in
    subst Q here (subst P same (record { place = p; lowered = h.0; begins = b }))
placed_at is l n (g ∷ fs) p h b (suc k) f e =
    let next : suc n + k ≡ n + suc k = omega arith in
    let Q : ℕ → Type 0 = λ m. HasPlace is l m f in
    subst Q next (placed_at is l (suc n) fs (past_function g p) h.1 (next_begins is l n g p h.0 b) k f e)

-- the body of a function of the tree, in the code
pub record TreeBody (is : List Item) (l : Lowered) (number : ℕ) (f : Function) : Type 0 where
  pub entry_is : entry.Function
  pub in_table : slice_get l.functions number ≡ Some entry_is
  pub len : entry_is.len ≡ suc (block_size f.body)
  pub judged : Judged l (start_of l.functions number) (start_of l.functions number + entry_is.len) (block_access f.body (start_of l.functions number)) (block_callees (function_names (functions_of is)) f.body)

pub tree_body : (is : List Item) (l : Lowered) → IsLowering is l → HasLayout l → (number : ℕ) (f : Function) → slice_get (functions_of is) number ≡ Some f → TreeBody is l number f
tree_body is l h lay number f e =
    let w = placed_at is l 0 (functions_of is) origin h.bodies (begins l) number f e in
    let n : 0 + number ≡ number = omega arith in
    let P : ℕ → Type 0 = λ m. HasPlace is l m f in
    let v : HasPlace is l number f = subst P n w in
    let p : Place = v.place in
    let size : (past_block f.body p).pc ≡ p.pc + block_size f.body = block_sized f.body p in
    let g : Precedes p (past_function f p) = by_function f p in
    let j = judged_return l p.pc (past_block f.body p).pc (register (scope_of is number f) f.returned) (block_access f.body p.pc) (block_callees (function_names (functions_of is)) f.body) (omega (arith, size)) (judged_block (scope_of is number f) l lay f.body p v.lowered.body v.begins.none_open) v.lowered.returns in
    let end : (past_function f p).pc ≡ p.pc + (entry_of f p).len = omega (arith, g.pc) in
    let Q : ℕ → Type 0 = λ m. Judged l p.pc m (block_access f.body p.pc) (block_callees (function_names (functions_of is)) f.body) in
    let R : ℕ → Type 0 = λ m. Judged l m (m + (entry_of f p).len) (block_access f.body m) (block_callees (function_names (functions_of is)) f.body) in
    record {
      entry_is = entry_of f p;
      in_table = v.lowered.in_table;
      len = omega (arith, size);
      judged = subst R (sym v.begins.start) (subst Q end j);
    }

-- marks of what its calls outside sections call
pub body_callees : (is : List Item) (l : Lowered) → HasLayout l → (number : ℕ) (f : Function) (old new : List Bool) → (b : TreeBody is l number f) → 256 ≤ length old → MarksThese (block_callees (function_names (functions_of is)) f.body) old new → AreCallees l Outside (start_of l.functions number) (start_of l.functions number + b.entry_is.len) old new
body_callees is l lay number f old new b long m =
    record {
      kept = m.kept;
      called = λ g k. m.marked g (b.judged.calls g k) (omega (arith, callee_there l lay k.pc g k.call.stands, lay.limits.few_functions, long));
      only = λ g h. elim (m.only g h) [ inl before ↦ inl before | inr t ↦ inr (b.judged.called g t) ];
    }

-- the body as a pc up to another
pub body_spans : (is : List Item) (l : Lowered) (number : ℕ) (f : Function) (start : ℕ) → (b : TreeBody is l number f) → start ≡ start_of l.functions number → Spans l number start (start + b.entry_is.len)
body_spans is l number f start b e =
    record { body = b.entry_is; in_table = b.in_table; start_is = e; end_is = refl }

-- its first access outside sections, or none
access_of : (l : Lowered) (from end : ℕ) (o p : Option ℕ) → o ≡ p → MatchOption o ((pc : ℕ) → from ≤ pc → pc < end → ¬ IsOutsideAccess l.code pc) (λ pc. IsFirstOutsideAccess l.code from end pc) → MatchOption p ((pc : ℕ) → from ≤ pc → pc < end → ¬ IsOutsideAccess l.code pc) (λ pc. IsFirstOutsideAccess l.code from end pc)
access_of l from end o p e h =
    let P : Option ℕ → Type 0 = λ q. MatchOption q ((pc : ℕ) → from ≤ pc → pc < end → ¬ IsOutsideAccess l.code pc) (λ pc. IsFirstOutsideAccess l.code from end pc) in
    subst P e h

pub body_first : (is : List Item) (l : Lowered) (number : ℕ) (f : Function) (start pc : ℕ) → (b : TreeBody is l number f) → start ≡ start_of l.functions number → block_access f.body start ≡ Some pc → IsFirstOutsideAccess l.code start (start + b.entry_is.len) pc
body_first is l number f start pc b e found =
    let s : ℕ = start_of l.functions number in
    let P : ℕ → Type 0 = λ n. IsFirstOutsideAccess l.code n (n + b.entry_is.len) pc in
    subst P (sym e) (access_of l s (s + b.entry_is.len) (block_access f.body s) (Some pc) (ap (block_access f.body) (sym e) ∙ found) b.judged.access_is)

pub body_clear : (is : List Item) (l : Lowered) (number : ℕ) (f : Function) (start : ℕ) → (b : TreeBody is l number f) → start ≡ start_of l.functions number → block_access f.body start ≡ None → (pc : ℕ) → start ≤ pc → pc < start + b.entry_is.len → ¬ IsOutsideAccess l.code pc
body_clear is l number f start b e none =
    let s : ℕ = start_of l.functions number in
    let P : ℕ → Type 0 = λ n. (pc : ℕ) → n ≤ pc → pc < n + b.entry_is.len → ¬ IsOutsideAccess l.code pc in
    subst P (sym e) (access_of l s (s + b.entry_is.len) (block_access f.body s) None (ap (block_access f.body) (sym e) ∙ none) b.judged.access_is)

-- a body fits where the code does
pub body_fits : (is : List Item) (l : Lowered) → HasLayout l → (number : ℕ) (f : Function) → (b : TreeBody is l number f) → start_of l.functions number + suc (block_size f.body) ≤ length l.code
body_fits is l lay number f b = omega (arith, body_within l lay number b.entry_is b.in_table, b.len)

-- the second block of an `if`
pub second_none : (ss : List tree.Statement) (pc : ℕ) → length ss ≡ 0 → else_access (block_of ss) pc ≡ block_access (block_of ss) (pc + 0)
second_none [] pc e = refl
second_none (s ∷ ss) pc e = absurd (omega (arith, e))

pub second_some : (ss : List tree.Statement) (pc : ℕ) → 0 < length ss → else_access (block_of ss) pc ≡ block_access (block_of ss) (pc + 1)
second_some [] pc low = absurd (omega arith)
second_some (s ∷ ss) pc low = let e : suc pc ≡ pc + 1 = omega arith in ap (block_access (block_of (s ∷ ss))) e
