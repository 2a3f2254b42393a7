-- The needed locks are the least closed family, and nothing is needed outside a region.
use Rattle.std.proofs.Common.{ℕ, Bool}
use Rattle.asl_code.specs.declared.lock.Lock.{Lock}
use Rattle.asl_lower.specs.Lowered.{Lowered}
use Rattle.asl_lower.specs.Regions.{Region, IsIn}
use Rattle.asl_points_to.specs.Classes.{Classed}
use Rattle.asl_backward_flow.specs.Needed.{Needed, Accessed, Linked, Entered, Before}
use Rattle.asl_backward_flow.specs.Closed.{Family, IsClosed}

pub needed_closed : (l : Lowered) (c : Classed) (stores : ℕ → ℕ → Bool) (k_limit : ℕ) → IsClosed l c stores k_limit (Needed l c stores k_limit)
needed_closed l c stores k_limit = record {
  accessed = λ r f pc i n isin at o. Accessed r f pc i n isin at o;
  linked = λ r f pc next i m n isin at goes k o. Linked r f pc next i m n isin at goes k o;
  entered = λ r f pc to first g callee m p n isin at there k o q. Entered r f pc to first g callee m p n isin at there k o q;
  before = λ r pc m n k o. Before r pc m n k o;
}

pub needed_least : (l : Lowered) (c : Classed) (stores : ℕ → ℕ → Bool) (k_limit : ℕ) (K : Family) → IsClosed l c stores k_limit K → (r : Region) (pc : ℕ) (n : Lock) → Needed l c stores k_limit r pc n → K r pc n
needed_least l c stores k_limit K h _ _ _ (Accessed r f pc i n isin at o) = h.accessed r f pc i n isin at o
needed_least l c stores k_limit K h _ _ _ (Linked r f pc next i m n isin at goes k o) = h.linked r f pc next i m n isin at goes (needed_least l c stores k_limit K h r next m k) o
needed_least l c stores k_limit K h _ _ _ (Entered r f pc to first g callee m p n isin at there k o q) = h.entered r f pc to first g callee m p n isin at there (needed_least l c stores k_limit K h _ _ m k) o q
needed_least l c stores k_limit K h _ _ _ (Before r pc m n k o) = h.before r pc m n (needed_least l c stores k_limit K h r pc m k) o

pub needed_inside : (l : Lowered) (c : Classed) (stores : ℕ → ℕ → Bool) (k_limit : ℕ) (r : Region) (pc : ℕ) (n : Lock) → Needed l c stores k_limit r pc n → (f : ℕ) × IsIn l r f pc
needed_inside l c stores k_limit _ _ _ (Accessed r f pc i n isin at o) = (f, isin)
needed_inside l c stores k_limit _ _ _ (Linked r f pc next i m n isin at goes k o) = (f, isin)
needed_inside l c stores k_limit _ _ _ (Entered r f pc to first g callee m p n isin at there k o q) = (f, isin)
needed_inside l c stores k_limit _ _ _ (Before r pc m n k o) = needed_inside l c stores k_limit r pc m k
