-- The lines of locals, one more at a time.
use Rattle.std.proofs.Common.{◌≡◌, ℕ, suc, ◌-◌, ◌+◌, ◌<◌, ◌≤◌, List, ◌++◌, ap, sym, ◌∙◌, append_assoc, arith}
use Rattle.std.proofs.lemmas.List.{append-nil}
use Rattle.asl_parallel_c.specs.declared.options.Options.{Options}
use Rattle.asl_parallel_c.specs.Functions.{local_text, locals_from}

module _ (options : Options) (number : ℕ) (template : List ℕ) where
  -- one more of the locals is done
  pub local_left : (all mid new : List ℕ) (register end : ℕ) → register < end → mid ++ locals_from options number template register (end - register) ≡ all
      → new ≡ mid ++ local_text options number template register → new ++ locals_from options number template (register + 1) (end - (register + 1)) ≡ all
  local_left all mid new register end lt h w =
      let count : end - register ≡ suc (end - (register + 1)) = omega arith in
      let one : List ℕ = local_text options number template register in
      let rest : List ℕ = locals_from options number template (register + 1) (end - (register + 1)) in
      ap (λ (t : List ℕ). t ++ rest) w ∙ append_assoc mid one rest ∙ ap (λ (n : ℕ). mid ++ locals_from options number template register n) (sym count) ∙ h

  -- all of the locals are done
  pub no_local_left : (all new : List ℕ) (register end : ℕ) → end ≤ register → new ++ locals_from options number template register (end - register) ≡ all → new ≡ all
  no_local_left all new register end le h =
      let count : end - register ≡ 0 = omega arith in
      sym (append-nil new) ∙ ap (λ (n : ℕ). new ++ locals_from options number template register n) (sym count) ∙ h

  -- all of the locals are to be done
  pub locals_left : (old : List ℕ) (first count : ℕ) → old ++ locals_from options number template first (first + count - first) ≡ old ++ locals_from options number template first count
  locals_left old first count =
      let is : first + count - first ≡ count = omega arith in
      ap (λ (n : ℕ). old ++ locals_from options number template first n) is
