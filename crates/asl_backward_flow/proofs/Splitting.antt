-- The locks of a set, split by a mask into those that stay over an instruction and those that change.
use Rattle.std.proofs.Common.{◌≡◌, ◌↔◌, ⊎_elim, ℕ, Bool, List, [], Some, Result, Ok, Err, IfOk, IfErr, OnOk, slice_get, refl, subst, arith}
use Rattle.std.specs.List.{Contains}
use Rattle.asl_code.specs.declared.instr.Instr.{Instr}
use Rattle.asl_code.specs.declared.lock.Lock.{Lock}
use Rattle.asl_lane_sets.specs.NumberSet.{IsIn}
use Rattle.asl_lock_expr.specs.Links.{LinkContext}
use Rattle.asl_lock_expr.specs.Touches.{Stays}
use Rattle.asl_backward_flow.specs.declared.masks.Mask.{Mask}
use Rattle.asl_backward_flow.specs.declared.span.Span.{Span}
use Rattle.asl_backward_flow.specs.declared.found.AddFault.{AddFault}
use Rattle.asl_backward_flow.specs.Found.{Table, HasFact, IsOver, IsWhole, IsNamed, Adds, Lists, locks_of}
use Rattle.asl_backward_flow.specs.Follows.{Read, seen, IsReady, IsChosen, IsLinkedAt, IsLinkedOf, StaysAt, Splits, At, Added, Stopped}
use Rattle.asl_backward_flow.specs.Masked.{AreAllMasks}
use Rattle.asl_backward_flow.proofs.Linking.{linked_all, all_stay, stay_stopped}
use Rattle.asl_backward_flow.proofs.Marks.{is_in}
use Rattle.asl_backward_flow.proofs.Masking.{masks_grow}

-- what holds of a result by two facts of it
pub ok_both : {A E : Type 0} (r : Result A E) (P Q W : A → Type 0) → ((v : A) → P v → Q v → W v) → IfOk r P → IfOk r Q → IfOk r W
ok_both (Ok v) P Q W f p q = f v p q
ok_both (Err e) P Q W f p q = tt

-- the numbers of a set that are none of a mask stay, and the list has the others
module _ (r : Read) (t : Table) (part pc : ℕ) (set touched : List Bool) (left : (n : ℕ) (m : Lock) → ¬ IsIn touched n → slice_get (locks_of t part) n ≡ Some m → StaysAt r part pc m) where
  pub splits_some : (stay : List Bool) (changed : List ℕ) → ((n : ℕ) → IsIn stay n ↔ (IsIn set n × ¬ IsIn touched n)) → ((n : ℕ) → Contains changed n ↔ (IsIn set n × IsIn touched n)) → Splits r t part pc set stay changed
  splits_some stay changed stays others = record {
    within = λ n h. ((stays n).0 h).0;
    stays = λ m h. left h.0 m ((stays h.0).0 h.1).1 h.2;
    rest = λ n. (
      λ h. (let both = (others n).0 h in (both.0, λ s. ((stays n).0 s).1 both.1)),
      λ h. ⊎_elim (λ in_mask. (others n).1 (h.0, in_mask)) (λ out. absurd (h.1 ((stays n).1 (h.0, out)))) (is_in touched n),
    );
  }

  pub splits_none : ((n : ℕ) → IsIn set n → ¬ IsIn touched n) → Splits r t part pc set set []
  splits_none none = record {
    within = λ n h. h;
    stays = λ m h. left h.0 m (none h.0 h.1) h.2;
    rest = λ n. (λ h. (let lt = h.1 in absurd (omega (arith, lt))), λ h. absurd (h.1 h.0));
  }

-- what stays over an instruction that was read from the code, by a mask of it
pub stays_ok : (r : Read) (t : Table) (part pc : ℕ) (s : Span) (i : Instr) → slice_get r.spans part ≡ Some s → slice_get r.lowered.code pc ≡ Some i → (given : List Lock) → locks_of t part ≡ given → (v : LinkContext) → v ≡ seen r s.function
    → (n : ℕ) (m : Lock) → Stays v i m → slice_get (locks_of t part) n ≡ Some m → StaysAt r part pc m
stays_ok r t part pc s i there stands given given_is v view_is n m so at = record { span = s; there = there; instruction = i; stands = stands; stays = subst (λ w. Stays w i m) view_is so }

-- none of the locks changes: those that stay are all that is added
module _ (r : Read) (a b : Table) (part pc : ℕ) (set : List Bool) (chosen : IsChosen (locks_of a part) set (IsLinkedAt r a part pc)) (splits : Splits r a part pc set set [])
    (adds : Adds a b (λ p q m. (p ≡ part) × (q ≡ pc) × IsNamed (locks_of a part) set m)) where
  pub none_ok : IsReady r a → (result : Result Unit AddFault) → OnOk result ((m : Lock) → IsNamed (locks_of a part) set m → HasFact b part pc m) → OnOk result (Lists a b) → OnOk result (IsWhole b)
      → OnOk result (Added r a b (At part pc (IsLinkedOf r part pc (IsNamed (locks_of a part) set))))
  none_ok ready (Ok u) has lists whole = linked_all r a b b part pc set set [] chosen splits adds has lists (all_stay r a b b part pc set set [] chosen splits adds ready refl has lists whole)
  none_ok ready (Err e) has lists whole = tt

  pub none_err : (result : Result Unit AddFault) → IfErr result (IsOver b) → IfErr result (Stopped a b (At part pc (IsLinkedOf r part pc (IsNamed (locks_of a part) set))))
  none_err (Ok u) over = tt
  none_err (Err e) over = stay_stopped r a b b part pc set set [] chosen splits e adds over

  pub none_masks : (all : List (List Mask)) → AreAllMasks r a all → (result : Result Unit AddFault) → OnOk result (AreAllMasks r b all)
  none_masks all so (Ok u) = masks_grow r a b all adds.grows so
  none_masks all so (Err e) = tt
