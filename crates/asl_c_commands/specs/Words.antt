-- The words of a text: what stands between its line feeds (docs/EMBEDDING.md, "The commands from C").
use Rattle.std.specs.Prelude.{◌==◌, ℕ, List, [], ◌∷◌}
use Rattle.std.specs.List.{slice_split}

-- the empty text has none
abbrev pub words_of : List ℕ → List (List ℕ)
words_of [] = []
words_of (b ∷ bs) = slice_split (λ c. c == 10) (b ∷ bs)
