use Rattle.std.proofs.Common.{◌≡◌, ◌≢◌, ◌<◌, ℕ, min, max, map, ◌⊎◌, inl, inr, List, length, Option, None, get_or, refl, sym, ap, ◌∙◌, subst, arith}
use Rattle.std.proofs.lemmas.Bool.{cases_lt}
use Rattle.std.specs.Vec.{with_items}
use Rattle.std.proofs.lemmas.List.{with_items_is}
use Rattle.asl_points_to.specs.declared.class_draft.ClassDraft.{ClassDraft}
use Rattle.asl_points_to.specs.Draft.{first, IsTakenOver, IsMerged}
use Rattle.asl_points_to.proofs.Merges.{IsJoin, is_merged, is_draft, is_forced}
use Rattle.asl_points_to.specs.Sets.{joined}
use Rattle.asl_points_to.proofs.class_draft.ClassDraft.merge.Goals as goal

-- a draft whose two members share a class
same_already : (s : ClassDraft) (left right : ℕ) → first s left ≡ first s right → IsMerged s s left right None
same_already s left right e = record {
  members = refl;
  registers = refl;
  joined = e;
  classes = λ m n h. h;
  cells = λ x m h. (m, h, inl refl);
  there = tt;
}

pub returns-then-left-right-clause-merged : goal.returns-then-left-right-clause-merged
returns-then-left-right-clause-merged c =
    let s = c.args.self.now in
    let same : c.first-right.new.self ≡ s.sets = c.first-right.ensures.same ∙ c.first-left.ensures.same in
    let P : List ℕ → Type 0 = λ sets. IsMerged s (record { sets = sets; registers = s.registers; cells = s.cells }) c.args.left c.args.right None in
    let right : c.first-right.result ≡ first s c.args.right = c.first-right.ensures.value ∙ ap (λ (fs : List ℕ). get_or fs c.args.right 0) c.first-left.ensures.same in
    subst P (sym same) (same_already s c.args.left c.args.right (sym c.first-left.ensures.value ∙ c.if-left-right.true ∙ right))

order : (a b kept gone : ℕ) → a ≢ b → kept ≡ min a b → gone ≡ max a b → (kept < gone) × (((a ≡ kept) × (b ≡ gone)) ⊎ ((a ≡ gone) × (b ≡ kept)))
order a b kept gone ne k g =
    elim (cases_lt a b) [
      | inl lt ↦ (omega arith, inl (omega arith, omega arith))
      | inr le ↦ (omega arith, inr (omega arith, omega arith))
    ]

is_join : (c : goal.After-self-1) → IsJoin c.args.self.now c.join.new.self (with_items c.args.self.now.cells c.take_over.new.cells) c.args.left c.args.right c.min-kept.result c.max-gone.result c.take_over.result
is_join c =
    let s = c.args.self.now in
    let t = c.take_over.ensures in
    let left : c.first-left.result ≡ first s c.args.left = c.first-left.ensures.value in
    let right : c.first-right.result ≡ first s c.args.right = c.first-right.ensures.value ∙ ap (λ (fs : List ℕ). get_or fs c.args.right 0) c.first-left.ensures.same in
    let o = order c.first-left.result c.first-right.result c.min-kept.result c.max-gone.result c.if-left-right.false c.min-kept.ensures c.max-gone.ensures in
    let items = with_items_is s.cells c.take_over.new.cells (t.len ∙ ap length c.deref_mut.ensures.value ∙ sym s.cells.ok.0) in
    let Now : List (Option ℕ) → Type 0 = λ xs. IsTakenOver s.cells.items xs c.min-kept.result c.max-gone.result c.take_over.result in
    let Was : List (Option ℕ) → Type 0 = λ xs. IsTakenOver xs c.take_over.new.cells c.min-kept.result c.max-gone.result c.take_over.result in
    record {
      draft = c.requires.draft;
      left_there = c.requires.left;
      right_there = c.requires.right;
      less = o.0;
      either = elim o.1 [ inl e ↦ inl (sym left ∙ e.0, sym right ∙ e.1) | inr e ↦ inr (sym left ∙ e.0, sym right ∙ e.1) ];
      sets_are = c.join.ensures ∙ ap (map (joined c.min-kept.result c.max-gone.result)) (c.first-right.ensures.same ∙ c.first-left.ensures.same);
      taken = subst Now (sym items) (subst Was c.deref_mut.ensures.value t);
    }

pub returns-clause-draft : goal.returns-clause-draft
returns-clause-draft c = is_draft c.args.self.now c.join.new.self _ c.args.left c.args.right c.min-kept.result c.max-gone.result c.take_over.result (is_join c)

pub returns-clause-merged : goal.returns-clause-merged
returns-clause-merged c = is_merged c.args.self.now c.join.new.self _ c.args.left c.args.right c.min-kept.result c.max-gone.result c.take_over.result (is_join c)

pub returns-clause-forced : goal.returns-clause-forced
returns-clause-forced c = λ classes f e. is_forced classes c.args.self.now c.join.new.self _ c.args.left c.args.right c.min-kept.result c.max-gone.result c.take_over.result (is_join c) f e
