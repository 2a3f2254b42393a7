-- Where the bodies of functions begin.
use Rattle.std.proofs.Common.{◌≡◌, ℕ, ◌+◌, ◌<◌, ◌≤◌, List, length, get_or, take, ap, arith}
use Rattle.std.specs.Prelude.{Some, slice_get}
use Rattle.std.proofs.lemmas.Option.{slice_get-get_or}
use Rattle.std.proofs.lemmas.List.Sums.{sum_by-take-le, sum_by_more, sum_by_more_le}
use Rattle.asl_code.specs.Bodies.{first_of, total_len}
use Rattle.asl_code.specs.Fits.{LiesIn}
use Rattle.asl_code.specs.declared.image.Function.{Function}
use Rattle.asl_code.specs.declared.image.Image.{Image}

abbrev len_of : Function → ℕ
len_of f = f.len

-- a function begins no later than the code ends
pub begins_within : (fs : List Function) (n : ℕ) → total_len (take n fs) ≤ total_len fs
begins_within fs n = sum_by-take-le len_of fs n

-- the next one begins behind the one before it
pub begins_behind : (fs : List Function) (n : ℕ) (d : Function) → n < length fs → first_of fs (n + 1) ≡ first_of fs n + (get_or fs n d).len
begins_behind fs n d there = sum_by_more len_of fs n d there

-- a body ends no later than the code
pub ends_within : (fs : List Function) (n : ℕ) (d : Function) → n < length fs → first_of fs n + (get_or fs n d).len ≤ total_len fs
ends_within fs n d there = sum_by_more_le len_of fs n d there

-- a place from where a body begins, and before it ends, lies in it
pub lies : (i : Image) (n place : ℕ) (d : Function) → n < length i.functions → first_of i.functions n ≤ place → place < first_of i.functions n + (get_or i.functions n d).len
    → (f : Function) × LiesIn i n place f
lies i n place d there low high = (get_or i.functions n d, record { function = slice_get-get_or i.functions n d there; low = low; high = high })
