-- The draft with which the analysis begins.
use Rattle.std.proofs.Common.{◌≡◌, ℕ, zero, suc, ◌+◌, ◌⊎◌, List, length, Option, None, Some, get_or, replicate, refl, sym, ap, ◌∙◌, subst, arith}
use Rattle.std.specs.List.{All, range_with_len, Contains}
use Rattle.std.proofs.lemmas.List.{length-replicate}
use Rattle.std.proofs.lemmas.List.FromFn.{length-range_with_len, get_or-range_with_len}
use Rattle.asl_lower.specs.Lowered.{Lowered}
use Rattle.asl_points_to.specs.declared.class_draft.ClassDraft.{ClassDraft}
use Rattle.asl_points_to.specs.declared.value_flow.Place.{Place}
use Rattle.asl_points_to.specs.declared.value_flow.Flow.{Flow}
use Rattle.asl_points_to.specs.Classes.{Classed, some_at}
use Rattle.asl_points_to.specs.Draft.{class_in, pointed, IsDraft, IsForced, IsThere, Holds, Keeps, HasFlowed, IsIdle}
use Rattle.asl_points_to.specs.Flows.{AreFlows}
use Rattle.asl_points_to.specs.Found.{IsSettled}

-- each member in a class of its own, and nothing points anywhere
pub record IsNew (s : ClassDraft) (members functions : ℕ) : Type 0 where
  pub sets : s.sets ≡ range_with_len 0 members
  pub functions_are : length s.registers.items ≡ functions
  pub nothing : (p : Place) → pointed s p ≡ None
  pub cells : s.cells.items ≡ replicate members None

none_at : (n x : ℕ) → some_at (replicate n None) x ≡ None
none_at zero x = refl
none_at (suc n) zero = refl
none_at (suc n) (suc x) = none_at n x

module _ (s : ClassDraft) (members functions : ℕ) (n : IsNew s members functions) where
  pub members_are : length s.sets ≡ members
  members_are = ap (λ (xs : List ℕ). length xs) n.sets ∙ length-range_with_len 0 members

  no_cell : (x m : ℕ) → some_at s.cells.items x ≡ Some m → None ≡ Some m
  no_cell x m e = sym (none_at members x) ∙ ap (λ (xs : List (Option ℕ)). some_at xs x) (sym n.cells) ∙ e

  no_place : (p : Place) (m : ℕ) → pointed s p ≡ Some m → None ≡ Some m
  no_place p m e = sym (n.nothing p) ∙ e

  pub new_draft : IsDraft s
  new_draft = record {
    cells = ap (λ (xs : List (Option ℕ)). length xs) n.cells ∙ length-replicate members None ∙ sym members_are;
    pointed_there = λ p m e. (let no = no_place p m e in absurd cc);
    cells_there = λ x m e. (let no = no_cell x m e in absurd cc);
  }

  pub new_forced : (d : Classed) → IsForced d s
  new_forced d = record {
    classes = λ m lt. (
        let own : get_or s.sets m 0 ≡ m = ap (λ (xs : List ℕ). get_or xs m 0) n.sets ∙ get_or-range_with_len 0 members m 0 (omega (arith, members_are)) ∙ omega arith in
        ap (class_in d) (sym own));
    registers = λ p m e. (let no = no_place p m e in absurd cc);
    cells = λ x m e. (let no = no_cell x m e in absurd cc);
  }

pub flows_there : (l : Lowered) (s : ClassDraft) (flows : List Flow) → AreFlows l (length l.code) flows → IsNew s (l.globals + l.sites) (length l.functions) → All (IsThere (length s.registers.items) (length s.sets)) flows
flows_there l s flows f n =
    let P : ℕ → Type 0 = λ k. All (IsThere k (l.globals + l.sites)) flows in
    let Q : ℕ → Type 0 = λ k. All (IsThere (length s.registers.items) k) flows in
    subst Q (sym (members_are s (l.globals + l.sites) (length l.functions) n)) (subst P (sym n.functions_are) f.there)

-- what the flows have left of it
pub is_settled : (l : Lowered) (s new : ClassDraft) (flows : List Flow) → AreFlows l (length l.code) flows → IsNew s (l.globals + l.sites) (length l.functions) → IsDraft new → Keeps s new → ((f : Flow) → Contains flows f → HasFlowed new f ⊎ IsIdle new f) → ((c : Classed) → IsForced c s → All (Holds c) flows → IsForced c new) → IsSettled l new
is_settled l s new flows f n d k each forced = record {
  draft = d;
  members = k.members ∙ members_are s (l.globals + l.sites) (length l.functions) n;
  functions = k.functions ∙ n.functions_are;
  settled = record { flows = flows; are = f; each = each };
  forced = λ c legal. forced c (new_forced s (l.globals + l.sites) (length l.functions) n c)
      (f.hold c (record { globals = legal.globals; sites = legal.sites }) (λ g at i lt b e. legal.instrs g at i b e));
}
