-- Machinery of the proofs, not of the promise: stretches of many blanks in a source (src/gaps.rt).
use Rattle.std.specs.Prelude.{ℕ, List, Bool, ◌&&◌, nat_lt}
use Rattle.std.specs.List.{list_all, slice_range}
use Rattle.asl_class_text.specs.Places.{is_blank}
use Rattle.asl_explain.specs.declared.gaps.Gap.{Gap}

-- whether only blanks stand from the one place of the gap up to the other
abbrev pub is_gap : List ℕ → Gap → Bool
is_gap source g = nat_lt g.from g.to && list_all is_blank (slice_range source g.from g.to)

-- so of each of these
abbrev pub are_gaps : List ℕ → List Gap → Bool
are_gaps source gaps = list_all (is_gap source) gaps
