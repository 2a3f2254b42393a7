-- The owner of a place is the function in whose body it lies.
use Rattle.std.proofs.Common.{◌≡◌, ℕ, zero, suc, ◌+◌, ◌-◌, ◌<◌, ◌≤◌, nat_lt, List, [], ◌∷◌, take, Option, Some, None, option_map, slice_get, refl, ap, ◌∙◌, arith}
use Rattle.std.proofs.lemmas.Bool.{cond-true, cond-false, lt-ltb, le-ltb}
use Rattle.std.proofs.lemmas.List.Sums.{sum_by-cons}
use Rattle.asl_code.specs.declared.image.Function as entry
use Rattle.asl_lower.specs.OpenSections.{start_of, owner_of}

-- a body begins where those before it end
pub start_after : (f : entry.Function) (fs : List entry.Function) (n : ℕ) → start_of (f ∷ fs) (suc n) ≡ f.len + start_of fs n
start_after f fs n = sum_by-cons (λ (x : entry.Function). x.len) f (take n fs)

pub owner_is : (fs : List entry.Function) (n pc : ℕ) (f : entry.Function) → slice_get fs n ≡ Some f → start_of fs n ≤ pc → pc < start_of fs n + f.len → owner_of fs pc ≡ n
owner_is [] n pc f e low high = cc
owner_is (g ∷ fs) zero pc f e low high =
    let same : g ≡ f = cc in
    let inside : pc < g.len = omega (arith, ap (λ (x : entry.Function). x.len) same, high) in
    cond-true (nat_lt pc g.len) 0 (suc (owner_of fs (pc - g.len))) (lt-ltb pc g.len inside)
owner_is (g ∷ fs) (suc n) pc f e low high =
    let s = start_after g fs n in
    cond-false (nat_lt pc g.len) 0 (suc (owner_of fs (pc - g.len))) (le-ltb pc g.len (omega (arith, s, low)))
    ∙ ap suc (owner_is fs n (pc - g.len) f e (omega (arith, s, low)) (omega (arith, s, low, high)))

-- of what is told through a function, there is something
pub from_mapped : {A B : Type 0} (f : A → B) (o : Option A) (y : B) → option_map f o ≡ Some y → (x : A) × (o ≡ Some x) × (f x ≡ y)
from_mapped f None y e = cc
from_mapped f (Some x) y e = (x, refl, cc)
