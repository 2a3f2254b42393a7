-- Machinery of the proofs, not of the promise: which texts a map holds (src/extern_words.rt).
use Rattle.std.specs.Prelude.{◌≡◌, List, is_some}
use Rattle.std.specs.Cmp.Lexicographic.{slice_cmp}
use Rattle.std.specs.Ordering.{nat_cmp}
use Rattle.std.specs.BTreeMap as tree
use Rattle.std.specs.BTreeMap.{BTreeMap}
use denote.Ref.{Bor}
use Rattle.clap.specs.Words.{Text}
use Rattle.asl_command_line.specs.Externs.{is_among}

-- the map holds these texts and no others
abbrev pub Hold : BTreeMap (Bor Text) (Unit {0}) → List Text → Type 0
Hold held all = (q : Text) → is_some (tree.get_by (λ k. slice_cmp nat_cmp q k.now) held) ≡ is_among all q
