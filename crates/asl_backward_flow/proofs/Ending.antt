-- Nothing is needed at the end of a region.
use Rattle.std.proofs.Common.{◌≡◌, ℕ, Bool, suc, ◌+◌, Some, slice_get, option_map, ap, sym, ◌∙◌, subst, arith}
use Rattle.asl_code.specs.declared.image.Function as entry
use Rattle.asl_code.specs.declared.instr.Instr.{Instr}
use Rattle.asl_code.specs.declared.instr.Instr.TheVariants as instr
use Rattle.asl_code.specs.declared.lock.Lock.{Lock}
use Rattle.asl_lower.specs.declared.section.Section.{Section}
use Rattle.asl_lower.specs.Lowered.{Lowered}
use Rattle.asl_lower.specs.OpenSections.{FlowsTo, start_of, InBody}
use Rattle.asl_lower.specs.Regions.{Region, Body, Inside, IsIn, IsEnd, Between}
use Rattle.asl_lower.specs.LegalLowering.{IsLegalLowering}
use Rattle.asl_lower.proofs.Counts.{sum_more}
use Rattle.asl_points_to.specs.Classes.{Classed}
use Rattle.asl_lock_expr.specs.Links.{LinkContext, view, IsOne, accesses}
use Rattle.asl_backward_flow.specs.Needed.{Needed, Accessed, Linked, Entered, Before}
use Rattle.asl_backward_flow.proofs.Sets.{some_same}

abbrev IsReturn : Instr → Type 0
IsReturn (instr.Return from) = Unit {0}
IsReturn i = ⊥

-- a region's end is none of its points, or it is the `ret` of a body
end_returns : (l : Lowered) → IsLegalLowering l → (r : Region) (f pc : ℕ) (i : Instr) → IsIn l r f pc → IsEnd l r pc → slice_get l.code pc ≡ Some i → IsReturn i
end_returns l kept (Body g) f pc i isin end at =
    let body : InBody l g pc = isin.2 in
    let next : start_of l.functions (suc g) ≡ start_of l.functions g + body.function.len = sum_more (λ (e : entry.Function). e.len) l.functions g body.function body.in_table in
    let ret = kept.layout.returns.there g pc body.function body.in_table (sym next ∙ sym end) in
    subst IsReturn (some_same (sym ret ∙ at)) tt
end_returns l kept (Inside n) f pc i isin end at = absurd (before_end isin)
  where
    before_end : Between l n f pc → ⊥
    before_end b =
        let is : Some b.is.release ≡ Some pc = ap (λ o. option_map (λ (s : Section). s.release) o) (sym b.in_table) ∙ end in
        let same : b.is.release ≡ pc = some_same is in
        let ahead = b.ahead in omega (arith, same, ahead)

no_access : (v : LinkContext) (i : Instr) (n : Lock) → IsReturn i → IsOne (accesses v i) n → ⊥
no_access v (instr.Return from) n ret o = o
no_access v i n ret o = absurd ret

no_way_on : (i : Instr) (pc next : ℕ) → IsReturn i → FlowsTo i pc next → ⊥
no_way_on (instr.Return from) pc next ret goes = goes
no_way_on i pc next ret goes = absurd ret

module _ (l : Lowered) (c : Classed) (stores : ℕ → ℕ → Bool) (k_limit : ℕ) (kept : IsLegalLowering l) where
  pub none_at_end : (r : Region) (pc : ℕ) (n : Lock) → IsEnd l r pc → Needed l c stores k_limit r pc n → ⊥
  none_at_end _ _ _ end (Accessed r f pc i n isin at o) = no_access (view c stores k_limit f) i n (end_returns l kept r f pc i isin end at) o
  none_at_end _ _ _ end (Linked r f pc next i m n isin at goes k o) = no_way_on i pc next (end_returns l kept r f pc i isin end at) goes
  none_at_end _ _ _ end (Entered r f pc to first h callee m p n isin at there k o s) = end_returns l kept r f pc (instr.Call to first h) isin end at
  none_at_end _ _ _ end (Before r pc m n k o) = none_at_end r pc m end k
