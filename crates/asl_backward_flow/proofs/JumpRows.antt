-- The jumps to each pc, as rows.
use Rattle.std.proofs.Common.{◌≡◌, ◌≢◌, ◌↔◌, ◌⊎◌, ⊎_elim, ℕ, suc, ◌+◌, ◌<◌, Bool, IsTrue, true, false, List, [], ◌∷◌, ◌++◌, Some, None, length, slice_get, slice_set, refl, ap, sym, subst, ◌∙◌, inl, inr, arith}
use Rattle.asl_code.specs.declared.instr.Instr.{Instr}
use Rattle.asl_code.specs.declared.instr.Instr.TheVariants as instr
use Rattle.asl_lower.specs.Lowered.{Lowered}
use Rattle.asl_lower.specs.LegalLowering.{IsLegalLowering}
use Rattle.asl_lower.specs.OpenSections.{FlowsTo}
use Rattle.asl_backward_flow.specs.Found.{list_at}
use Rattle.asl_backward_flow.specs.Graph.{HasRows, IsEdge, IsJump, goes_to_next, jump_target}
use Rattle.asl_backward_flow.proofs.Sets.{some_same}
use Rattle.asl_backward_flow.proofs.Rows.{some_begin, some_more, some_end}

-- where control continues to is in the code
pub edge_there : (l : Lowered) → IsLegalLowering l → (pc : ℕ) → pc < length l.code → (i : Instr) (to : ℕ) → slice_get l.code pc ≡ Some i → FlowsTo i pc to → to < length l.code
edge_there l kept pc lt i to at goes =
    let layout = kept.layout in
    let body = layout.parted.owned pc lt in
    layout.parted.in_code to _ (layout.inside.body pc to _ i body at goes)

-- where control continues to from an instruction
pub jumps_there : (i : Instr) (pc target : ℕ) → jump_target i ≡ Some target → FlowsTo i pc target
jumps_there (instr.Jump t) pc target is = some_same (sym is)
jumps_there (instr.JumpIfZero test t) pc target is = inl (some_same (sym is))
jumps_there i pc target is = absurd cc

pub goes_there : (i : Instr) (pc : ℕ) → goes_to_next i ≡ true → FlowsTo i pc (suc pc)
goes_there (instr.Jump t) pc is = absurd cc
goes_there (instr.Return f) pc is = absurd cc
goes_there (instr.JumpIfZero test t) pc is = inr refl
goes_there i pc is = refl

pub jumps_or_goes : (i : Instr) (pc to : ℕ) → FlowsTo i pc to → (jump_target i ≡ Some to) ⊎ ((goes_to_next i ≡ true) × (to ≡ suc pc))
jumps_or_goes (instr.Jump t) pc to h = inl (ap Some (sym h))
jumps_or_goes (instr.JumpIfZero test t) pc to (inl h) = inl (ap Some (sym h))
jumps_or_goes (instr.JumpIfZero test t) pc to (inr h) = inr (refl, h)
jumps_or_goes (instr.Return f) pc to h = absurd h
jumps_or_goes i pc to h = inr (refl, h)

-- whether control continues from the instruction at a pc
module _ (l : Lowered) (pc to : ℕ) (i : Instr) (at : slice_get l.code pc ≡ Some i) where
  of_flow : FlowsTo i pc to → IsEdge l to pc
  of_flow h = (i, at, h)

  flow_of : IsEdge l to pc → FlowsTo i pc to
  flow_of e = subst (λ (x : Instr). FlowsTo x pc to) (some_same (sym e.1 ∙ at)) e.2

  pub edge_by_jump : jump_target i ≡ Some to → IsTrue true ↔ IsEdge l to pc
  edge_by_jump is = (λ e. of_flow (jumps_there i pc to is), λ e. refl)

  module _ (no : jump_target i ≡ Some to → ⊥) where
    pub edge_nowhere : goes_to_next i ≡ false → IsTrue false ↔ IsEdge l to pc
    edge_nowhere ends = (λ e. absurd cc, λ e. ⊎_elim (λ j. absurd (no j)) (λ h. (let goes : goes_to_next i ≡ true = h.0 in absurd cc)) (jumps_or_goes i pc to (flow_of e)))

    pub edge_to_next : goes_to_next i ≡ true → (told : Bool) → (told ≡ true → to ≡ pc + 1) → (to ≡ pc + 1 → told ≡ true) → IsTrue told ↔ IsEdge l to pc
    edge_to_next goes told next tells = (
      λ e. (let is = next e in let at_next : suc pc ≡ to = omega (arith, is) in of_flow (subst (FlowsTo i pc) at_next (goes_there i pc goes))),
      λ e. ⊎_elim (λ j. absurd (no j)) (λ h. (let is = h.1 in tells (omega (arith, is)))) (jumps_or_goes i pc to (flow_of e)),
    )

-- the rows with the jump of one more pc
module _ (l : Lowered) (pc : ℕ) (i : Instr) (at : slice_get l.code pc ≡ Some i) (rows : List (List ℕ)) (has : HasRows rows (IsJump l) pc) where
  jump_only : (n : ℕ) → IsJump l n pc → jump_target i ≡ Some n
  jump_only n r = ⊎_elim (λ j. j) (λ h. (let is = h.1 in absurd (r.1 (omega (arith, is))))) (jumps_or_goes i pc n (flow_of l pc n i at r.0))

  pub no_jump : jump_target i ≡ None → HasRows rows (IsJump l) (pc + 1)
  no_jump none = some_end rows (IsJump l) pc [] (some_begin rows (IsJump l) pc has) (λ n r. (let never : None ≡ Some n = sym none ∙ jump_only n r in absurd cc))

  module _ (target : ℕ) (is : jump_target i ≡ Some target) where
    pub jump_to_next : target ≡ pc + 1 → HasRows rows (IsJump l) (pc + 1)
    jump_to_next next = some_end rows (IsJump l) pc [] (some_begin rows (IsJump l) pc has) (λ n r. (let same : target ≡ n = some_same (sym is ∙ jump_only n r) in absurd (r.1 (sym same ∙ next))))

    pub jump_there : IsLegalLowering l → pc < length l.code → target < length l.code
    jump_there kept lt = edge_there l kept pc lt i target at (jumps_there i pc target is)

    pub one_jump : target ≢ pc + 1 → target < length rows → (new : List (List ℕ)) → new ≡ slice_set rows target (list_at rows target ++ pc ∷ []) → HasRows new (IsJump l) (pc + 1)
    one_jump other there new made =
        some_end new (IsJump l) pc (target ∷ [])
        (some_more rows new (IsJump l) pc target [] there ((i, at, jumps_there i pc target is), other) made (some_begin rows (IsJump l) pc has))
        (λ n r. (0, sym is ∙ jump_only n r))
