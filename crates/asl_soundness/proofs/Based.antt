-- The needed locks begin on registers, or on globals that are there.
use Rattle.std.proofs.Common.{◌≡◌, ℕ, ◌+◌, ◌<◌, ◌++◌, Bool, List, [], ◌∷◌, Some, length, slice_get, sym, subst}
use Rattle.std.specs.Prelude.{nat_lt}
use Rattle.asl_code.specs.declared.instr.Instr.{Instr}
use Rattle.asl_code.specs.declared.instr.Instr.TheVariants as instr
use Rattle.asl_code.specs.declared.value.Effect.{Effect}
use Rattle.asl_code.specs.declared.value.Effect.TheVariants.{Read, Write}
use Rattle.asl_code.specs.declared.lock.Base.{Base}
use Rattle.asl_code.specs.declared.lock.Base.TheVariants.{Reg, Global}
use Rattle.asl_code.specs.declared.lock.Lock.{Lock}
use Rattle.asl_code.specs.declared.lock.Lock.TheVariants as lock
use Rattle.asl_code.specs.declared.path.Op.{Op}
use Rattle.asl_lower.specs.Lowered.{Lowered}
use Rattle.asl_lower.specs.Regions.{Region, IsIn}
use Rattle.asl_lower.specs.Operands.{HasOperands}
use Rattle.asl_lower.specs.Facts.{HasLayout}
use Rattle.asl_lower.proofs.Inside.{region_body}
use Rattle.asl_points_to.specs.Classes.{Classed, IsLegal}
use Rattle.asl_lock_expr.specs.Links.{LinkContext, view, on, is_star, accesses, renamed, renamed_on, prefixes, dereferenced}
use Rattle.asl_backward_flow.specs.Needed.{Needed, Accessed, Linked, Entered, Before}
use Rattle.asl_soundness.specs.Protected.{BaseThere, LockThere}
use Rattle.asl_soundness.proofs.Protecting.{AllThere}
use Rattle.asl_soundness.proofs.Links.{GlobalsThere, none_there, alone_there, either_there, both_there, settle_there, link_there}

accesses_there : (v : LinkContext) (i : Instr) → AllThere v.classes (accesses v i)
accesses_there v (instr.Load a b) = settle_there v (on (Reg b) [] Read) tt
accesses_there v (instr.Store a b) = settle_there v (on (Reg a) [] Write) tt
accesses_there v i = none_there v.classes

renamed_there : (c : Classed) (first params : ℕ) (m : Lock) → LockThere c m → AllThere c (renamed first params m)
renamed_there c first params (lock.Root effect) there = alone_there c (lock.Root effect) tt
renamed_there c first params (lock.Class x effect) there = alone_there c (lock.Class x effect) tt
renamed_there c first params (lock.Expr e effect) there = by_base e.base e.path effect there
  where
    by_base : (base : Base) (path : List Op) (effect : Effect) → BaseThere c base → AllThere c (renamed_on first params base path effect)
    by_base (Reg n) path effect there = either_there c (nat_lt n params) (on (Reg (first + n)) path effect ∷ []) [] (alone_there c (on (Reg (first + n)) path effect) tt) (none_there c)
    by_base (Global g) path effect there = alone_there c (on (Global g) path effect) there

prefixes_there : (c : Classed) (base : Base) (done ops : List Op) → BaseThere c base → AllThere c (prefixes base done ops)
prefixes_there c base done [] there = none_there c
prefixes_there c base done (op ∷ ops) there =
    both_there c _ _ (either_there c (is_star op) (on base done Read ∷ []) [] (alone_there c (on base done Read) there) (none_there c)) (prefixes_there c base (done ++ op ∷ []) ops there)

dereferenced_there : (c : Classed) (m : Lock) → LockThere c m → AllThere c (dereferenced m)
dereferenced_there c (lock.Root effect) there = none_there c
dereferenced_there c (lock.Class x effect) there = none_there c
dereferenced_there c (lock.Expr e effect) there = prefixes_there c e.base [] e.path there

named : (l : Lowered) (c : Classed) (registers : ℕ) (i : Instr) → length c.globals ≡ l.globals → HasOperands l registers i → GlobalsThere c i
named l c registers (instr.GlobalAddress a g) same has = subst (λ n. g < n) (sym same) has.1.0
named l c registers i same has = tt

module _ (l : Lowered) (c : Classed) (stores : ℕ → ℕ → Bool) (k_limit : ℕ) (lay : HasLayout l) (legal : IsLegal l c) where
  -- the global that an instruction of a region names is there
  globals_there : (r : Region) (f pc : ℕ) (i : Instr) → IsIn l r f pc → slice_get l.code pc ≡ Some i → GlobalsThere c i
  globals_there r f pc i isin at =
      let body = region_body l lay r f pc isin in
      named l c body.function.regs i legal.globals (lay.operands pc f body.function i body body.in_table at)

  pub needed_there : (r : Region) (pc : ℕ) (n : Lock) → Needed l c stores k_limit r pc n → LockThere c n
  needed_there _ _ _ (Accessed r f pc i n isin at o) = accesses_there (view c stores k_limit f) i n o
  needed_there _ _ _ (Linked r f pc next i m n isin at goes k o) = link_there (view c stores k_limit f) i m (globals_there r f pc i isin at) (needed_there r next m k) n o
  needed_there _ _ _ (Entered r f pc to first g callee m p n isin at there k o q) = settle_there (view c stores k_limit f) p (renamed_there c first callee.params m (needed_there _ _ m k) p o) n q
  needed_there _ _ _ (Before r pc m n k o) = dereferenced_there c m (needed_there r pc m k) n o
