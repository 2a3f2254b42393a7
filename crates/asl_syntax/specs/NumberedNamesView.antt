-- Machinery of the proofs, not of the promise: which names of a name space of docs/SOURCE.md the code's rows and maps know
-- (src/numbered_names.rt).
use Rattle.std.specs.Prelude.{ℕ, List, is_some, bytes_eq}
use Rattle.std.specs.Borrow.{Bor}
use Rattle.std.specs.Option.{option_or}
use Rattle.std.specs.Ordering.{nat_cmp}
use Rattle.std.specs.Cmp.Lexicographic.{slice_cmp}
use Rattle.std.specs.Map.{lookup}
use Rattle.std.specs.BTreeMap as tree
use Rattle.asl_syntax.specs.declared.numbered_names.NumberedNames as code
use Rattle.asl_syntax.specs.Rules.{Names, Counts}

-- the number beside the first such name in a row
abbrev pub number_among : List (Bor (List ℕ) × ℕ) → Counts
number_among names q = lookup (λ (k : Bor (List ℕ)). bytes_eq k.now q) names

-- the number beside a name in the map
abbrev pub number_in_tree : code.NumberedNames → Counts
number_in_tree m q = tree.get_by (λ (k : Bor (List ℕ)). slice_cmp nat_cmp q k.now) m.names

-- the number beside a name, in the row or else in the map
abbrev pub counts_in : code.NumberedNames → Counts
counts_in m q = option_or (number_among m.few.items q) (number_in_tree m q)

-- which names there are
abbrev pub names_known : code.NumberedNames → Names
names_known m q = is_some (counts_in m q)
