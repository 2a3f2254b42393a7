-- The inferred program of a tree is checked, and what is checked is refused only where the memory ran out.
use Rattle.std.proofs.Common.{◌≡◌, ℕ, suc, Bool, List, ◌∷◌, ◌++◌, Some, length, slice_get, refl, ap, sym, subst, inl, inr}
use Rattle.std.proofs.lemmas.Option.{slice_get_within}
use Rattle.asl_code.specs.declared.image.Image.{Image}
use Rattle.asl_code.specs.declared.instr.Instr.{Instr}
use Rattle.asl_code.specs.declared.lock.Lock.{Lock}
use Rattle.asl_code.specs.declared.lock.Lock.TheVariants as lock
use Rattle.asl_syntax.specs.Tree.{Item}
use Rattle.asl_lower.specs.declared.section.Section.{Section}
use Rattle.asl_lower.specs.Lowered.{Lowered, IsLowering}
use Rattle.asl_lower.specs.LegalLowering.{IsLegalLowering}
use Rattle.asl_lower.specs.Regions.{Inside}
use Rattle.asl_lower.proofs.Laid.{one_lowering}
use Rattle.asl_points_to.specs.Classes.{Classed, AreClasses}
use Rattle.asl_points_to.proofs.Uniques.{one_classed}
use Rattle.asl_lock_expr.specs.ClassOf.{TellsStores}
use Rattle.asl_lock_expr.specs.Links.{IsOne, dereferenced}
use Rattle.asl_lock_expr.proofs.Ones.{one_right, flat_from}
use Rattle.asl_backward_flow.specs.Needed.{Needed, Before}
use Rattle.asl_emitter.specs.Inferred.{Analysis, IsInferred, IsInferredFor}
use Rattle.asl_emitter.specs.Refused.{IsAccepted}
use Rattle.asl_emitter.proofs.Alike.{one_test}
use Rattle.asl_emitter.proofs.Covering.{fitted_covers}
use Rattle.asl_emitter.proofs.Guarding.{expression_given}
use Rattle.asl_emitter.proofs.Needing.{needed_class}
use Rattle.asl_emitter.proofs.Outcomes.{accepted}
use Rattle.asl_check.specs.declared.code_difference.CodeDifference.{CodeDifference}
use Rattle.asl_check.specs.declared.fault.CheckFault.{CheckFault}
use Rattle.asl_check.specs.declared.fault.CheckFault.TheVariants.{Infer, OtherCode, Uncovered, Unguarded}
use Rattle.asl_soundness.specs.Safe.{ListsCover}
use Rattle.asl_check.specs.Checked.{IsUnderOne, IsCodeOf, IsOtherCode, IsOtherPlace, AreGuarded, IsFirstLacking, IsFirstOpen}
use Rattle.asl_check.specs.Refused.{IsChecked, IsRefusedLists, IsOutOfMemory}

-- what holds of one analysis of a tree holds of each
module _ (is : List Item) (l : Lowered) (c : Classed) (stores : ℕ → ℕ → Bool) (lowers : IsLowering is l) (are : AreClasses l c) (tells : TellsStores l c stores) (P : Lowered → Classed → (ℕ → ℕ → Bool) → Type 0) where
  by_classes : (d : Classed) → d ≡ c → (o : ℕ → ℕ → Bool) → TellsStores l d o → P l d o → P l c stores
  by_classes d e o u p = subst (P l c) (one_test l c o stores (subst (λ x. TellsStores l x o) e u) tells) (subst (λ x. P l x o) e p)

  pub same_analysis : (a : Analysis is) → P a.program.lowering a.program.classes a.stores → P l c stores
  same_analysis a p =
      let e : a.program.lowering ≡ l = one_lowering is a.program.lowering l a.program.lowers lowers in
      subst (λ k. (d : Classed) → AreClasses k d → (o : ℕ → ℕ → Bool) → TellsStores k d o → P k d o → P l c stores) (sym e)
      (λ d k o u q. by_classes d (one_classed l d c k are) o u q) a.program.classes a.program.are_classes a.stores a.tells p

-- the first of some locks is one of them
pub first_one : (front rest : List Lock) (a : Lock) → IsOne (front ++ a ∷ rest) a
first_one front rest a = one_right front (a ∷ rest) a (inl refl)

module _ (l : Lowered) (c : Classed) (stores : ℕ → ℕ → Bool) (k_limit : ℕ) (image : Image) (kept : IsLegalLowering l) (are : AreClasses l c) (m : IsInferred l c stores k_limit image) where
  under : (n : ℕ) (s : Section) (list : List Lock) (a : Lock) → slice_get l.sections n ≡ Some s → slice_get image.lists n ≡ Some list → Needed l c stores k_limit (Inside n) (suc s.acquire) a → IsUnderOne c s.function list a
  under n s list a there at needed =
      fitted_covers c s.function 256 (Needed l c stores k_limit (Inside n) (suc s.acquire)) list (m.lists n s list there at) a needed
      (needed_class l c stores k_limit kept are n (suc s.acquire) s a there needed)

  read_needed : (n : ℕ) (s : Section) (list : List Lock) → slice_get l.sections n ≡ Some s → slice_get image.lists n ≡ Some list → (b a : Lock) → IsOne list b → IsOne (dereferenced b) a → Needed l c stores k_limit (Inside n) (suc s.acquire) a
  read_needed n s list there at (lock.Expr e effect) a o d =
      Before (Inside n) (suc s.acquire) (lock.Expr e effect) a
      (expression_given c s.function 256 (λ x. Needed l c stores k_limit (Inside n) (suc s.acquire) x) list (m.lists n s list there at) e effect o) d
  read_needed n s list there at (lock.Class class effect) a o d = absurd d
  read_needed n s list there at (lock.Root effect) a o d = absurd d

  -- so the inferred lists are enough
  inferred_over : ListsCover l c (Needed l c stores k_limit) image
  inferred_over n s list a there at needed = under n s list a there at needed

  inferred_guarded : AreGuarded l c image.lists (length l.sections)
  inferred_guarded n lt s list there at a o = let from = flat_from list a o in under n s list a there at (read_needed n s list there at from.0 a from.1 from.2)

  inferred_code : IsCodeOf l c image
  inferred_code =
      record { tables = record { version = m.version; classes = m.classes; globals = m.globals; functions = m.functions; start = m.start; count = m.count }; code = m.code }

pub inferred_checked : (is : List Item) (k : Lowered) (k_limit : ℕ) (image : Image) → IsLowering is k → IsLegalLowering k → IsAccepted is k_limit → IsInferredFor is k_limit image → IsChecked is k_limit image
inferred_checked is k k_limit image lowers kept accept h =
    let a = h.analysis in
    let p = a.program in
    let own : IsLegalLowering p.lowering = subst IsLegalLowering (one_lowering is k p.lowering lowers p.lowers) kept in
    record {
      covered = record {
        of_tree = record { accepted = accept; analysis = a; code = inferred_code p.lowering p.classes a.stores k_limit image own p.are_classes h.inferred };
        over = inferred_over p.lowering p.classes a.stores k_limit image own p.are_classes h.inferred;
      };
      guarded = inferred_guarded p.lowering p.classes a.stores k_limit image own p.are_classes h.inferred;
    }

-- ---- a program that is checked has no fault

not_there : (l : Lowered) (c : Classed) (image : Image) (pc : ℕ) → IsCodeOf l c image → IsOtherPlace l c image pc → ⊥
not_there l c image pc m (inl first) = first.differ (ap (λ (is : List Instr). slice_get is pc) m.code)
not_there l c image pc m (inr tables) = tables.1 m.tables

pub not_other : (l : Lowered) (c : Classed) (image : Image) (d : CodeDifference) → IsCodeOf l c image → IsOtherCode l c image d → ⊥
not_other l c image d m other = not_there l c image d.pc m other.place

pub not_lacking : (l : Lowered) (c : Classed) (stores : ℕ → ℕ → Bool) (k_limit : ℕ) (image : Image) (section : ℕ) (a : Lock) → ListsCover l c (Needed l c stores k_limit) image → IsFirstLacking l c (Needed l c stores k_limit) image.lists section a → ⊥
not_lacking l c stores k_limit image section a over h =
    h.first.bare (over section h.is h.list a h.in_table h.listed h.first.is)

pub not_open : (l : Lowered) (c : Classed) (lists : List (List Lock)) (section : ℕ) (a : Lock) → AreGuarded l c lists (length l.sections) → IsFirstOpen l c lists section a → ⊥
not_open l c lists section a guarded h =
    h.first.bare (guarded section (slice_get_within l.sections section h.is h.in_table) h.is h.list h.in_table h.listed a (subst (λ (xs : List Lock). IsOne xs a) (sym h.first.parts) (first_one h.first.front h.first.rest a)))

pub checked_only : (is : List Item) (k_limit : ℕ) (image : Image) (fault : CheckFault) → IsChecked is k_limit image → IsRefusedLists is k_limit image fault → IsOutOfMemory fault
checked_only is k_limit image (Infer fault) h r = accepted is k_limit fault h.covered.of_tree.accepted r
checked_only is k_limit image (OtherCode d) h r =
    let a = h.covered.of_tree.analysis in let q = a.program in
    absurd (not_other q.lowering q.classes image d h.covered.of_tree.code
    (same_analysis is q.lowering q.classes a.stores q.lowers q.are_classes a.tells (λ l c s. IsOtherCode l c image d) r.analysis r.other))
checked_only is k_limit image (Uncovered section x) h r =
    let a = h.covered.of_tree.analysis in let q = a.program in
    absurd (not_lacking q.lowering q.classes a.stores k_limit image section x h.covered.over
    (same_analysis is q.lowering q.classes a.stores q.lowers q.are_classes a.tells (λ l c s. IsFirstLacking l c (Needed l c s k_limit) image.lists section x) r.of_tree.analysis r.lacking))
checked_only is k_limit image (Unguarded section x) h r =
    let a = h.covered.of_tree.analysis in let q = a.program in
    absurd (not_open q.lowering q.classes image.lists section x h.guarded
    (same_analysis is q.lowering q.classes a.stores q.lowers q.are_classes a.tells (λ l c s. IsFirstOpen l c image.lists section x) r.covered.of_tree.analysis r.open_at))

pub only_memory : (is : List Item) (k : Lowered) (k_limit : ℕ) (image : Image) → IsLowering is k → IsLegalLowering k → IsAccepted is k_limit → IsInferredFor is k_limit image → (fault : CheckFault) → IsRefusedLists is k_limit image fault → IsOutOfMemory fault
only_memory is k k_limit image lowers kept accept h fault refused = checked_only is k_limit image fault (inferred_checked is k k_limit image lowers kept accept h) refused
