-- Families of locks that have what is needed at once and are closed under what follows from it. The needed locks are the
-- least such family.
use Rattle.std.specs.Prelude.{◌≡◌, ℕ, Bool, Some, slice_get}
use Rattle.asl_code.specs.declared.image.Function as entry
use Rattle.asl_code.specs.declared.instr.Instr.{Instr}
use Rattle.asl_code.specs.declared.instr.Instr.TheVariants as instr
use Rattle.asl_code.specs.declared.lock.Lock.{Lock}
use Rattle.asl_lower.specs.Lowered.{Lowered}
use Rattle.asl_lower.specs.OpenSections.{FlowsTo, start_of}
use Rattle.asl_lower.specs.Regions.{Region, Body, IsIn}
use Rattle.asl_points_to.specs.Classes.{Classed}
use Rattle.asl_lock_expr.specs.Links.{view, IsOne, link, settle, accesses, renamed, dereferenced}

-- a set of locks for each point of each region
abbrev pub Family : Type 1
Family = Region → ℕ → Lock → Type 0

-- the family has what accesses need, and is closed under links, entries of calls and prefixes
pub record IsClosed (l : Lowered) (c : Classed) (stores : ℕ → ℕ → Bool) (k_limit : ℕ) (K : Family) : Type 0 where
  pub accessed : (r : Region) (f pc : ℕ) (i : Instr) (n : Lock) → IsIn l r f pc → slice_get l.code pc ≡ Some i →
      IsOne (accesses (view c stores k_limit f) i) n → K r pc n
  pub linked : (r : Region) (f pc next : ℕ) (i : Instr) (m n : Lock) → IsIn l r f pc → slice_get l.code pc ≡ Some i → FlowsTo i pc next →
      K r next m → IsOne (link (view c stores k_limit f) i m) n → K r pc n
  -- m is needed at the callee's start; p is m over the registers of the caller; n is p, or its class where the path is too long
  pub entered : (r : Region) (f pc to first g : ℕ) (callee : entry.Function) (m p n : Lock) → IsIn l r f pc → slice_get l.code pc ≡ Some (instr.Call to first g) →
      slice_get l.functions g ≡ Some callee → K (Body g) (start_of l.functions g) m → IsOne (renamed first callee.params m) p →
      IsOne (settle (view c stores k_limit f) p) n → K r pc n
  pub before : (r : Region) (pc : ℕ) (m n : Lock) → K r pc m → IsOne (dereferenced m) n → K r pc n
