-- Where the bodies of an image's functions lie: one after the other from place 0 of the code (docs/INSTRUCTIONS.md).
use Rattle.std.specs.Prelude.{ℕ, ◌+◌, Bool, ◌&&◌, nat_lt, nat_le, List, [], ◌∷◌, Option, sum_by, take, find}
use Rattle.asl_code.specs.declared.image.Function.{Function}
use Rattle.asl_code.specs.declared.image.Image.{Image}

-- a function, and the place of its first instruction
pub record Body : Type 0 where
  pub first : ℕ
  pub function : Function

-- the bodies of these functions, of which the first begins at this place
abbrev pub bodies_from : ℕ → List Function → List Body
bodies_from first [] = []
bodies_from first (f ∷ fs) = record { first = first; function = f } ∷ bodies_from (first + f.len) fs

-- the instructions that these functions have together
abbrev pub total_len : List Function → ℕ
total_len fs = sum_by (λ (f : Function). f.len) fs

-- where the body of a function begins, by its number: after the bodies of those before it
abbrev pub first_of : List Function → ℕ → ℕ
first_of fs number = total_len (take number fs)

-- whether the place lies in the body
abbrev pub is_inside : ℕ → Body → Bool
is_inside pc b = nat_le b.first pc && nat_lt pc (b.first + b.function.len)

-- the body in which the place lies, if it lies in one
abbrev pub body_of : Image → ℕ → Option Body
body_of i pc = find (is_inside pc) (bodies_from 0 i.functions)
