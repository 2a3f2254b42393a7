use Rattle.std.proofs.Common.{◌≡◌, ℕ, List, Some, length, refl, sym, ap, ◌∙◌, subst, arith}
use Rattle.std.specs.Vec.{with_item}
use Rattle.asl_points_to.specs.declared.class_draft.ClassDraft.{ClassDraft}
use Rattle.asl_points_to.specs.Classes.{some_at}
use Rattle.asl_points_to.specs.Draft.{IsDraft, IsForced, Keeps, CellsPointTo}
use Rattle.asl_points_to.proofs.Filling.{IsFill, kept_at, fill_draft, fill_keeps, fill_points, fill_forced, merged_points, merge_is_forced}
use Rattle.asl_points_to.proofs.class_draft.ClassDraft.point_cells.Goals as goal

-- a draft with these sets
abbrev over : ClassDraft → List ℕ → ClassDraft
over s sets = record { sets = sets; registers = s.registers; cells = s.cells }

pub unify-requires-clause-left : goal.unify-requires-clause-left
unify-requires-clause-left c =
    let s = c.args.self.now in
    let low = c.first-first.ensures.low in
    let cells = c.requires.draft.cells in
    let there = kept_at s c.first-first.result (length s.cells.items) c.index.result.now refl (omega (arith, c.requires.address)) c.index.ensures ∙ c.in-Some.is in
    omega (arith, c.requires.draft.cells_there c.first-first.result c.in-Some.inside there, ap length c.first-first.ensures.same)

there_at : (c : goal.After-unify) → some_at c.args.self.now.cells.items c.first-first.result ≡ Some c.in-Some.inside
there_at c =
    let s = c.args.self.now in
    let low = c.first-first.ensures.low in
    let cells = c.requires.draft.cells in
    kept_at s c.first-first.result (length s.cells.items) c.index.result.now refl (omega (arith, c.requires.address)) c.index.ensures ∙ c.in-Some.is

pub returns-in-Some-clause-into : goal.returns-in-Some-clause-into
returns-in-Some-clause-into c =
    let s = c.args.self.now in
    let K : ClassDraft → Type 0 = λ d. Keeps d c.unify.new.self in
    merged_points s c.unify.new.self c.args.address c.args.member c.first-first.result c.in-Some.inside c.first-first.ensures.value (there_at c) (subst K (ap (over s) c.first-first.ensures.same) c.unify.ensures.keeps) c.unify.ensures.joined

pub returns-in-Some-clause-forced : goal.returns-in-Some-clause-forced
returns-in-Some-clause-forced c = λ classes f e. (
    let s = c.args.self.now in
    let F : ClassDraft → Type 0 = λ d. IsForced classes d in
    c.unify.ensures.forced classes (subst F (sym (ap (over s) c.first-first.ensures.same)) f)
    (merge_is_forced classes s c.args.address c.args.member c.first-first.result c.in-Some.inside c.first-first.ensures.value c.requires.address (there_at c) f e))

is_fill : (c : goal.After-self-1) → IsFill c.args.self.now c.args.address c.args.member c.first-first.result
is_fill c =
    let s = c.args.self.now in
    let low = c.first-first.ensures.low in
    let cells = c.requires.draft.cells in
    record {
      draft = c.requires.draft;
      there = c.requires.address;
      member_there = c.requires.member;
      first_is = c.first-first.ensures.value;
      low = omega (arith, c.requires.address);
      nowhere = kept_at s c.first-first.result (length s.cells.items) c.index.result.now refl (omega (arith, c.requires.address)) c.index.ensures ∙ c.in-None.is;
    }

abbrev with_cell : ClassDraft → ℕ → ℕ → List ℕ → ClassDraft
with_cell s here m sets =
    record { sets = sets; registers = s.registers; cells = with_item s.cells here (Some m) }

new_is : (c : goal.After-self-1) → with_cell c.args.self.now c.first-first.result c.args.member c.args.self.now.sets ≡ with_cell c.args.self.now c.first-first.result c.args.member c.first-first.new.self
new_is c = sym (ap (with_cell c.args.self.now c.first-first.result c.args.member) c.first-first.ensures.same)

pub returns-in-None-clause-draft : goal.returns-in-None-clause-draft
returns-in-None-clause-draft c =
    let s = c.args.self.now in
    let P : ClassDraft → Type 0 = λ d. IsDraft d in
    subst P (new_is c) (fill_draft s c.args.address c.args.member c.first-first.result _ (is_fill c) refl)

pub returns-in-None-clause-keeps : goal.returns-in-None-clause-keeps
returns-in-None-clause-keeps c =
    let s = c.args.self.now in
    let P : ClassDraft → Type 0 = λ d. Keeps s d in
    subst P (new_is c) (fill_keeps s c.args.address c.args.member c.first-first.result _ (is_fill c) refl)

pub returns-in-None-clause-into : goal.returns-in-None-clause-into
returns-in-None-clause-into c =
    let s = c.args.self.now in
    let P : ClassDraft → Type 0 = λ d. CellsPointTo d c.args.address c.args.member in
    subst P (new_is c) (fill_points s c.args.address c.args.member c.first-first.result _ (is_fill c) refl)

pub returns-in-None-clause-forced : goal.returns-in-None-clause-forced
returns-in-None-clause-forced c = λ classes f e. (
    let s = c.args.self.now in
    let P : ClassDraft → Type 0 = λ d. IsForced classes d in
    subst P (new_is c) (fill_forced s c.args.address c.args.member c.first-first.result _ (is_fill c) refl classes f e))
