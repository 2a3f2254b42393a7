-- Masks of the locks that what is touched may concern.
use Rattle.std.proofs.Common.{◌≡◌, ◌⊎◌, ⊎_elim, ℕ, zero, suc, ◌+◌, ◌<◌, ◌≤◌, List, [], ◌∷◌, ◌++◌, Some, Bool, Result, Ok, Err, OnOk, length, replicate, slice_get, slice_set, inl, inr, refl, ap, sym, subst, ◌∙◌, arith, length-set}
use Rattle.std.proofs.lemmas.List.{length-replicate}
use Rattle.std.proofs.lemmas.Option.{slice_get_within}
use Rattle.asl_code.specs.declared.instr.Instr.{Instr}
use Rattle.asl_code.specs.declared.lock.Lock.{Lock}
use Rattle.asl_code.specs.declared.lock.Lock.TheVariants as lock
use Rattle.asl_lane_sets.specs.NumberSet.{IsIn}
use Rattle.asl_lock_expr.specs.declared.touch.Touch.{Touch}
use Rattle.asl_lock_expr.specs.declared.touch.Touch.TheVariants as touch
use Rattle.asl_lock_expr.specs.Links.{LinkContext}
use Rattle.asl_lock_expr.specs.Touches.{IsClear, set_by, stored_by}
use Rattle.asl_lock_expr.proofs.Touching.{clear_stays}
use Rattle.asl_backward_flow.specs.declared.masks.Mask.{Mask}
use Rattle.asl_backward_flow.specs.declared.span.Span.{Span}
use Rattle.asl_backward_flow.specs.Found.{Table, Grows, locks_of}
use Rattle.asl_backward_flow.specs.Follows.{Read, seen}
use Rattle.asl_backward_flow.specs.Masked.{IsMask, AreMasks, IsMaskOf, LeavesClear, LeavesStaying, AreAllMasks}
use Rattle.asl_backward_flow.proofs.Sets.{some_same, at_push, at_last}
use Rattle.asl_backward_flow.proofs.SpanLaws.{below_or_at}

-- what stands in a list with one place set
pub at_set : {A : Type 0} (xs : List A) (p : ℕ) (y : A) (k : ℕ) (x : A) → slice_get (slice_set xs p y) k ≡ Some x → slice_get xs k ≡ Some x ⊎ ((k ≡ p) × (x ≡ y))
at_set [] p y k x e = inl e
at_set (z ∷ xs) zero y zero x e = inr (refl, sym (some_same e))
at_set (z ∷ xs) zero y (suc k) x e = inl e
at_set (z ∷ xs) (suc p) y zero x e = inl e
at_set (z ∷ xs) (suc p) y (suc k) x e = ⊎_elim (λ o. inl o) (λ o. inr (ap suc o.0, o.1)) (at_set xs p y k x e)

-- a lock that something does not concern, nothing does not concern either
pub clear_of_nothing : (v : LinkContext) (t : Touch) (m : Lock) → IsClear v t m → IsClear v touch.Nothing m
clear_of_nothing v t (lock.Root effect) h = tt
clear_of_nothing v t (lock.Class class effect) h = tt
clear_of_nothing v t (lock.Expr e effect) h = (h.0, refl)

module _ (v : LinkContext) (locks : List Lock) where
  pub masks_push : (masks : List Mask) (x : Mask) → x.below ≡ 0 → AreMasks v locks masks → AreMasks v locks (masks ++ x ∷ [])
  masks_push masks x none so k y e =
      ⊎_elim (λ o. so k y o) (λ is. subst (IsMask v locks) (sym is) (λ n lt. absurd (omega (arith, none, lt)))) (at_push masks x k y e)

  pub mask_there : (masks : List Mask) (touch : Touch) (x : Mask) → x.touch ≡ touch → IsMaskOf touch (masks ++ x ∷ []) (length masks)
  mask_there masks touch x is = (x, at_last masks x, is)

  pub masks_put : (masks : List Mask) (place : ℕ) (x : Mask) → AreMasks v locks masks → IsMask v locks x → AreMasks v locks (slice_set masks place x)
  masks_put masks place x so is k y e = ⊎_elim (λ o. so k y o) (λ h. subst (IsMask v locks) (sym h.1) is) (at_set masks place x k y e)

  -- a lock that is none of a mask of all is not concerned
  pub mask_clear : (x : Mask) (touch : Touch) → x.touch ≡ touch → IsMask v locks x → length locks ≤ x.below → LeavesClear v touch locks x.touched
  mask_clear x touch same so all n m not at =
      let lt = slice_get_within locks n m at in
      let name = so n (omega (arith, lt, all)) in
      subst (λ t. IsClear v t m) same (subst (IsClear v x.touch) (some_same (sym name.1 ∙ at)) (⊎_elim (λ h. absurd (not h)) (λ c. c) name.2))

  -- locks that neither touch of an instruction concerns stay
  pub both_clear : (i : Instr) (register cells : Touch) (touched : List Bool) → register ≡ set_by i → cells ≡ stored_by i → LeavesClear v register locks touched → LeavesClear v cells locks touched → LeavesStaying v i locks touched
  both_clear i register cells touched is also one two n m not at = clear_stays v i m (subst (λ t. IsClear v t m) is (one n m not at)) (subst (λ t. IsClear v t m) also (two n m not at))

  pub nothing_clear : (some none : Touch) (touched : List Bool) → none ≡ touch.Nothing → LeavesClear v some locks touched → LeavesClear v none locks touched
  nothing_clear t none touched is so n m not at = subst (λ x. IsClear v x m) (sym is) (clear_of_nothing v t m (so n m not at))

  pub more_clear : (touch : Touch) (touched more : List Bool) → ((n : ℕ) → IsIn touched n → IsIn more n) → LeavesClear v touch locks touched → LeavesClear v touch locks more
  more_clear t touched more kept so n m not at = so n m (λ h. not (kept n h)) at

  -- one lock more
  pub mask_more : (x : Mask) (touched : List Bool) (m : Lock) → slice_get locks x.below ≡ Some m → ((k : ℕ) → IsIn x.touched k → IsIn touched k) → IsIn touched x.below ⊎ IsClear v x.touch m
      → IsMask v locks (record { touch = x.touch; below = x.below; touched = x.touched }) → IsMask v locks (record { touch = x.touch; below = x.below + 1; touched = touched })
  mask_more x touched m at kept here so n lt =
      ⊎_elim
      (λ below. let name = so n below in (name.0, name.1, ⊎_elim (λ h. inl (kept n h)) (λ c. inr c) name.2))
      (λ (e : n ≡ x.below). (m, ap (slice_get locks) e ∙ at, ⊎_elim (λ h. inl (subst (IsIn touched) (sym e) h)) (λ c. inr c) here))
      (below_or_at n x.below lt)

-- what was put at a place of a list
pub put_here : {A : Type 0} (xs : List A) (p : ℕ) (y : A) → p < length xs → slice_get (slice_set xs p y) p ≡ Some y
put_here [] p y lt = absurd (omega (arith, lt))
put_here (x ∷ xs) zero y lt = refl
put_here (x ∷ xs) (suc p) y lt = put_here xs p y (omega (arith, lt))

-- masks of all regions
pub rows_none : {A : Type 0} (n k : ℕ) (row : List A) → slice_get (replicate {A = List A} n []) k ≡ Some row → row ≡ []
rows_none zero k row e = absurd cc
rows_none (suc n) zero row e = sym (some_same e)
rows_none (suc n) (suc k) row e = rows_none n k row e

nothing : (k : ℕ) (x : Mask) → slice_get {X = Mask} [] k ≡ Some x → ⊥
nothing k x e = cc

pub masks_none : (r : Read) (t : Table) (all : List (List Mask)) (n : ℕ) → all ≡ replicate n [] → n ≡ length r.spans → AreAllMasks r t all
masks_none r t all n is count = record {
  count = ap length is ∙ length-replicate n [] ∙ count;
  each = λ part s masks there at k x e. absurd (nothing k x (ap (λ l. slice_get l k) (sym (rows_none n part masks (ap (λ l. slice_get l part) (sym is) ∙ at))) ∙ e));
}

pub masks_grow : (r : Read) (a b : Table) (all : List (List Mask)) → Grows a b → AreAllMasks r a all → AreAllMasks r b all
masks_grow r a b all grows so = record {
  count = so.count;
  each = λ part s masks there at k x e n lt. let name = so.each part s masks there at k x e n lt in (name.0, grows.names part n name.0 name.1, name.2);
}

pub masks_set : (r : Read) (t : Table) (all : List (List Mask)) (part : ℕ) (s : Span) (masks : List Mask) → slice_get r.spans part ≡ Some s → AreMasks (seen r s.function) (locks_of t part) masks
    → AreAllMasks r t all → AreAllMasks r t (slice_set all part masks)
masks_set r t all part s masks there is so = record {
  count = length-set all part masks ∙ so.count;
  each = λ p x ms at_p at. ⊎_elim
      (λ o. so.each p x ms at_p o)
      (λ h.
      let same : x ≡ s = some_same (sym at_p ∙ ap (slice_get r.spans) h.0 ∙ there) in
      subst (λ q. AreMasks (seen r x.function) (locks_of t q) ms) (sym h.0) (subst (AreMasks (seen r x.function) (locks_of t part)) (sym h.1) (subst (λ (y : Span). AreMasks (seen r y.function) (locks_of t part) masks) (sym same) is)))
      (at_set all part masks p ms at);
}

-- what holds of a result from two facts of it
pub on_both : {A E : Type 0} (r : Result A E) (P Q W : Type 0) → (P → Q → W) → OnOk r P → OnOk r Q → OnOk r W
on_both (Ok v) P Q W f p q = f p q
on_both (Err e) P Q W f p q = tt

pub on_more : {A E : Type 0} (r : Result A E) (P Q : Type 0) → (P → Q) → OnOk r P → OnOk r Q
on_more (Ok v) P Q f p = f p
on_more (Err e) P Q f p = tt

-- the masks of a region, read by what a view and a list of locks say of it
module _ (r : Read) (t : Table) (part : ℕ) (s : Span) (there : slice_get r.spans part ≡ Some s) (locks : List Lock) (locks_are : locks_of t part ≡ locks) (v : LinkContext) (view_is : v ≡ seen r s.function) where
  pub masks_of : (all : List (List Mask)) (masks : List Mask) → slice_get all part ≡ Some masks → AreAllMasks r t all → AreMasks v locks masks
  masks_of all masks at so = subst (λ w. AreMasks w locks masks) (sym view_is) (subst (λ l. AreMasks (seen r s.function) l masks) locks_are (so.each part s masks there at))

  pub masks_back : (all : List (List Mask)) (masks : List Mask) → AreMasks v locks masks → AreAllMasks r t all → AreAllMasks r t (slice_set all part masks)
  masks_back all masks is so =
      masks_set r t all part s masks there (subst (λ l. AreMasks (seen r s.function) l masks) (sym locks_are) (subst (λ w. AreMasks w locks masks) view_is is)) so
