-- Where functions begin.
use Rattle.std.proofs.Common.{◌≡◌, ℕ, zero, suc, ◌+◌, ◌<◌, List, [], ◌∷◌, length, get_or, refl, sym, ◌∙◌, arith}
use Rattle.asl_code.specs.declared.image.Function.{Function}
use Rattle.asl_code.specs.Bodies.{first_of}
use Rattle.asl_code.proofs.BodyPlaces.{begin-suc}
use Rattle.asl_machine.specs.Ready.{firsts_from}

-- there is one place a function
pub length-firsts : (first : ℕ) (fs : List Function) → length (firsts_from first fs) ≡ length fs
length-firsts first [] = refl
length-firsts first (f ∷ fs) = let l = length-firsts (first + f.len) fs in omega arith

-- the place of each function is the one after those before it
pub first_at : (first : ℕ) (fs : List Function) (n d : ℕ) → n < length fs → get_or (firsts_from first fs) n d ≡ first + first_of fs n
first_at first [] n d lt = absurd (omega arith)
first_at first (f ∷ fs) zero d lt = omega arith
first_at first (f ∷ fs) (suc n) d lt = first_at (first + f.len) fs n d (omega arith) ∙ sym (begin-suc first f fs n)
