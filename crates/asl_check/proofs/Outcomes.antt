-- A program has one refusal of its code and its lists.
use Rattle.std.proofs.Common.{◌≡◌, ◌⊎◌, ◌<◌, ℕ, suc, List, [], ◌∷◌, ◌++◌, Option, Some, map, slice_get, refl, ap, ap₂, sym, ◌∙◌, subst, inl, inr, arith}
use Rattle.std.specs.Ordering.{ordering_reverse}
use Rattle.std.specs.declared.cmp.Ordering.TheVariants.{Less, Equal, Greater}
use Rattle.asl_code.specs.declared.image.Image.{Image}
use Rattle.asl_code.specs.declared.instr.Instr.{Instr}
use Rattle.asl_code.specs.declared.lock.Lock.{Lock}
use Rattle.asl_syntax.specs.Tree.{Item}
use Rattle.asl_lower.specs.declared.section.Section.{Section}
use Rattle.asl_lower.specs.Lowered.{Lowered}
use Rattle.asl_lower.specs.Regions.{Inside}
use Rattle.asl_points_to.specs.Classes.{Classed}
use Rattle.asl_lock_expr.specs.Links.{IsOne}
use Rattle.asl_lock_expr.specs.Order.{lock_cmp}
use Rattle.asl_lock_expr.proofs.Orders.{lock_total, lock_exact}
use Rattle.asl_backward_flow.specs.Closed.{Family}
use Rattle.asl_backward_flow.specs.Needed.{Needed}
use Rattle.asl_soundness.specs.Coded.{classed}
use Rattle.asl_emitter.specs.Lists.{Locks}
use Rattle.asl_check.specs.declared.code_difference.CodeDifference.{CodeDifference}
use Rattle.asl_check.specs.declared.fault.CheckFault.{CheckFault}
use Rattle.asl_check.specs.declared.fault.CheckFault.TheVariants.{Infer, OtherCode, Uncovered, Unguarded}
use Rattle.asl_check.specs.Checked.{IsUnderOne, AreUnder, IsFirstBare, LacksFirst, IsFirstOther, reads_of, IsCodeOf, IsOtherCode, IsOtherPlace, owner_there, IsFirstLacking, IsFirstOpen}
use Rattle.asl_check.specs.Refused.{IsRefusedLists, IsOfProgram}
use Rattle.asl_check.proofs.Complete.{same_analysis, first_one, not_other, not_lacking}

apart : (m n : ℕ) → (m ≡ n) ⊎ ((m < n) ⊎ (n < m))
apart m n = grind arith

-- of the locks of a list one alone is the first that is not covered
one_bare : (c : Classed) (f : ℕ) (list front others rest more : List Lock) (a b : Lock) → front ++ a ∷ rest ≡ others ++ b ∷ more → AreUnder c f list (IsOne front) → AreUnder c f list (IsOne others) →
    ¬ IsUnderOne c f list a → ¬ IsUnderOne c f list b → a ≡ b
one_bare c f list [] [] rest more a b e p q x y = cc
one_bare c f list [] (o ∷ others) rest more a b e p q x y = let same : o ≡ a = cc in absurd (x (q a (inl same)))
one_bare c f list (o ∷ front) [] rest more a b e p q x y = let same : o ≡ b = cc in absurd (y (p b (inl same)))
one_bare c f list (o ∷ front) (k ∷ others) rest more a b e p q x y =
    let tail : front ++ a ∷ rest ≡ others ++ b ∷ more = cc in
    one_bare c f list front others rest more a b tail (λ n h. p n (inr h)) (λ n h. q n (inr h)) x y

one_first : (c : Classed) (f : ℕ) (list locks : List Lock) (a b : Lock) → IsFirstBare c f list locks a → IsFirstBare c f list locks b → a ≡ b
one_first c f list locks a b p q = one_bare c f list p.front q.front p.rest q.rest a b (sym p.parts ∙ q.parts) p.before q.before p.bare q.bare

-- of the locks of a set one alone is the first that is lacking
one_lack : (c : Classed) (f : ℕ) (list : List Lock) (given : Locks) (a b : Lock) → LacksFirst c f list given a → LacksFirst c f list given b → a ≡ b
one_lack c f list given a b p q =
    elim (lock_cmp a b) as (λ o. lock_cmp a b ≡ o → a ≡ b) [
      | Less ↦ λ e. absurd (p.bare (q.before a p.is p.free e))
      | Equal ↦ λ e. lock_exact a b e
      | Greater ↦ λ e. absurd (q.bare (p.before b q.is q.free (lock_total.antisymm b a ∙ ap ordering_reverse e)))
    ] refl

one_other : (code other : List Instr) (m n : ℕ) → IsFirstOther code other m → IsFirstOther code other n → m ≡ n
one_other code other m n p q =
    elim (apart m n) [
      | inl e ↦ e
      | inr d ↦ elim d [ inl lt ↦ absurd (p.differ (q.same m lt)) | inr gt ↦ absurd (q.differ (p.same n gt)) ]
    ]

one_place : (l : Lowered) (c : Classed) (image : Image) (m n : ℕ) → IsOtherPlace l c image m → IsOtherPlace l c image n → m ≡ n
one_place l c image m n (inl p) (inl q) = one_other _ _ m n p q
one_place l c image m n (inl p) (inr q) = absurd (p.differ (ap (λ (is : List Instr). slice_get is m) q.0))
one_place l c image m n (inr p) (inl q) = absurd (q.differ (ap (λ (is : List Instr). slice_get is n) p.0))
one_place l c image m n (inr p) (inr q) = p.2 ∙ sym q.2

-- a difference is what it has
abbrev made : ℕ → ℕ → Option Instr → Option Instr → CodeDifference
made pc function source program = record { pc = pc; function = function; source = source; program = program }

alike : (d e : CodeDifference) → d.pc ≡ e.pc → d.function ≡ e.function → d.source ≡ e.source → d.program ≡ e.program → d ≡ e
alike d e pc function source program =
    ap₂ (λ (n m : ℕ). made n m d.source d.program) pc function ∙ ap₂ (λ (x y : Option Instr). made e.pc e.function x y) source program

one_code : (l : Lowered) (c : Classed) (image : Image) (d e : CodeDifference) → IsOtherCode l c image d → IsOtherCode l c image e → d ≡ e
one_code l c image d e p q =
    let pc = one_place l c image d.pc e.pc p.place q.place in
    let source : d.source ≡ e.source = p.source ∙ ap (λ n. slice_get (map (classed c) l.code) n) pc ∙ sym q.source in
    let function : d.function ≡ e.function = p.function ∙ ap₂ (λ (o : Option Instr) n. owner_there l image o n) source pc ∙ sym q.function in
    let program : d.program ≡ e.program = p.program ∙ ap (λ n. slice_get image.code n) pc ∙ sym q.program in
    alike d e pc function source program

-- of the same section, with what each says of it
same_section : (l : Lowered) (n : ℕ) (s t : Section) → slice_get l.sections n ≡ Some s → slice_get l.sections n ≡ Some t → s ≡ t
same_section l n s t p q = let e : Some s ≡ Some t = sym p ∙ q in cc

same_list : (lists : List (List Lock)) (n : ℕ) (xs ys : List Lock) → slice_get lists n ≡ Some xs → slice_get lists n ≡ Some ys → xs ≡ ys
same_list lists n xs ys p q = let e : Some xs ≡ Some ys = sym p ∙ q in cc

one_lacking : (l : Lowered) (c : Classed) (K : Family) (lists : List (List Lock)) (m n : ℕ) (a b : Lock) → IsFirstLacking l c K lists m a → IsFirstLacking l c K lists n b → (m ≡ n) × (a ≡ b)
one_lacking l c K lists m n a b p q =
    elim (apart m n) [
      | inl e ↦ (e, at_one p (subst (λ k. IsFirstLacking l c K lists k b) (sym e) q))
      | inr d ↦ elim d [
        | inl lt ↦ absurd (p.first.bare (q.earlier m lt p.is p.list p.in_table p.listed a p.first.is))
        | inr gt ↦ absurd (q.first.bare (p.earlier n gt q.is q.list q.in_table q.listed b q.first.is))
      ]
    ]
  where
    at_one : IsFirstLacking l c K lists m a → IsFirstLacking l c K lists m b → a ≡ b
    at_one p q =
        let s = same_section l m q.is p.is q.in_table p.in_table in
        let xs = same_list lists m q.list p.list q.listed p.listed in
        one_lack c p.is.function p.list (K (Inside m) (suc p.is.acquire)) a b p.first
        (subst (λ (ys : List Lock). LacksFirst c p.is.function ys (K (Inside m) (suc p.is.acquire)) b) xs
        (subst (λ (t : Section). LacksFirst c t.function q.list (K (Inside m) (suc t.acquire)) b) s q.first))

one_open : (l : Lowered) (c : Classed) (lists : List (List Lock)) (m n : ℕ) (a b : Lock) → IsFirstOpen l c lists m a → IsFirstOpen l c lists n b → (m ≡ n) × (a ≡ b)
one_open l c lists m n a b p q =
    elim (apart m n) [
      | inl e ↦ (e, at_one p (subst (λ k. IsFirstOpen l c lists k b) (sym e) q))
      | inr d ↦ elim d [
        | inl lt ↦ absurd (p.first.bare (q.earlier m lt p.is p.list p.in_table p.listed a (is_read p.first)))
        | inr gt ↦ absurd (q.first.bare (p.earlier n gt q.is q.list q.in_table q.listed b (is_read q.first)))
      ]
    ]
  where
    is_read : {f : ℕ} {list : List Lock} {x : Lock} → IsFirstBare c f list (reads_of list) x → IsOne (reads_of list) x
    is_read {f} {list} {x} h = subst (λ (xs : List Lock). IsOne xs x) (sym h.parts) (first_one h.front h.rest x)

    at_one : IsFirstOpen l c lists m a → IsFirstOpen l c lists m b → a ≡ b
    at_one p q =
        let s = same_section l m q.is p.is q.in_table p.in_table in
        let xs = same_list lists m q.list p.list q.listed p.listed in
        one_first c p.is.function p.list (reads_of p.list) a b p.first
        (subst (λ (ys : List Lock). IsFirstBare c p.is.function ys (reads_of ys) b) xs
        (subst (λ (t : Section). IsFirstBare c t.function q.list (reads_of q.list) b) s q.first))

pub one_refusal : (is : List Item) (k_limit : ℕ) (image : Image) (fault other : CheckFault) → IsOfProgram fault → IsOfProgram other → IsRefusedLists is k_limit image fault → IsRefusedLists is k_limit image other → fault ≡ other
one_refusal is k_limit image (Infer f) other d e p q = absurd d
one_refusal is k_limit image (OtherCode m) (Infer g) d e p q = absurd e
one_refusal is k_limit image (OtherCode m) (OtherCode n) d e p q =
    let a = p.analysis in let k = a.program in
    ap OtherCode (one_code k.lowering k.classes image m n p.other
    (same_analysis is k.lowering k.classes a.stores k.lowers k.are_classes a.tells (λ l c s. IsOtherCode l c image n) q.analysis q.other))
one_refusal is k_limit image (OtherCode m) (Uncovered n b) d e p q =
    let a = p.analysis in let k = a.program in
    absurd (not_other k.lowering k.classes image m
    (same_analysis is k.lowering k.classes a.stores k.lowers k.are_classes a.tells (λ l c s. IsCodeOf l c image) q.of_tree.analysis q.of_tree.code) p.other)
one_refusal is k_limit image (OtherCode m) (Unguarded n b) d e p q =
    let a = p.analysis in let k = a.program in
    absurd (not_other k.lowering k.classes image m
    (same_analysis is k.lowering k.classes a.stores k.lowers k.are_classes a.tells (λ l c s. IsCodeOf l c image) q.covered.of_tree.analysis q.covered.of_tree.code) p.other)
one_refusal is k_limit image (Uncovered m b) (Infer g) d e p q = absurd e
one_refusal is k_limit image (Uncovered m b) (OtherCode n) d e p q =
    let a = q.analysis in let k = a.program in
    absurd (not_other k.lowering k.classes image n
    (same_analysis is k.lowering k.classes a.stores k.lowers k.are_classes a.tells (λ l c s. IsCodeOf l c image) p.of_tree.analysis p.of_tree.code) q.other)
one_refusal is k_limit image (Uncovered m x) (Uncovered n y) d e p q =
    let a = p.of_tree.analysis in let k = a.program in
    let same = one_lacking k.lowering k.classes (Needed k.lowering k.classes a.stores k_limit) image.lists m n x y p.lacking
    (same_analysis is k.lowering k.classes a.stores k.lowers k.are_classes a.tells (λ l c s. IsFirstLacking l c (Needed l c s k_limit) image.lists n y) q.of_tree.analysis q.lacking) in
    ap₂ (λ (i : ℕ) (z : Lock). Uncovered i z) same.0 same.1
one_refusal is k_limit image (Uncovered m x) (Unguarded n y) d e p q =
    let a = q.covered.of_tree.analysis in let k = a.program in
    absurd (not_lacking k.lowering k.classes a.stores k_limit image m x q.covered.over
    (same_analysis is k.lowering k.classes a.stores k.lowers k.are_classes a.tells (λ l c s. IsFirstLacking l c (Needed l c s k_limit) image.lists m x) p.of_tree.analysis p.lacking))
one_refusal is k_limit image (Unguarded m b) (Infer g) d e p q = absurd e
one_refusal is k_limit image (Unguarded m b) (OtherCode n) d e p q =
    let a = q.analysis in let k = a.program in
    absurd (not_other k.lowering k.classes image n
    (same_analysis is k.lowering k.classes a.stores k.lowers k.are_classes a.tells (λ l c s. IsCodeOf l c image) p.covered.of_tree.analysis p.covered.of_tree.code) q.other)
one_refusal is k_limit image (Unguarded m x) (Uncovered n y) d e p q =
    let a = p.covered.of_tree.analysis in let k = a.program in
    absurd (not_lacking k.lowering k.classes a.stores k_limit image n y p.covered.over
    (same_analysis is k.lowering k.classes a.stores k.lowers k.are_classes a.tells (λ l c s. IsFirstLacking l c (Needed l c s k_limit) image.lists n y) q.of_tree.analysis q.lacking))
one_refusal is k_limit image (Unguarded m x) (Unguarded n y) d e p q =
    let a = p.covered.of_tree.analysis in let k = a.program in
    let same = one_open k.lowering k.classes image.lists m n x y p.open_at
    (same_analysis is k.lowering k.classes a.stores k.lowers k.are_classes a.tells (λ l c s. IsFirstOpen l c image.lists n y) q.covered.of_tree.analysis q.open_at) in
    ap₂ (λ (i : ℕ) (z : Lock). Unguarded i z) same.0 same.1
