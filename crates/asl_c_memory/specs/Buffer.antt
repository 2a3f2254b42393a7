-- What a buffer has after a text was put into it (docs/EMBEDDING.md, "The commands from C" and "Sessions from C").
use Rattle.std.specs.Prelude.{◌≡◌, ◌++◌, ℕ, List, length, take, drop}

-- the text as far as there is room, and then what the buffer had
abbrev pub Holds : List ℕ → List ℕ → List ℕ → Type 0
Holds text old new = new ≡ take (length old) text ++ drop (length text) old
