-- The words that name statements which bring most of the locks of a region.
use Rattle.std.specs.Prelude.{ℕ, ◌-◌, ◌==◌, List, [], ◌++◌, Option, None, Some, codes, drop, take, if◌then◌else◌}
use Rattle.std.specs.Fmt.{decimal}
use Rattle.asl_diagnose_text.specs.Position.{line_behind}
use Rattle.asl_diagnose_text.specs.Shown.{quoted}
use Rattle.asl_diagnose.specs.declared.most.Bringers.{Bringers}

-- the line of a place
abbrev pub line_at : List ℕ → ℕ → List ℕ
line_at text at = decimal (line_behind (take at text))

-- one statement, without its semicolon, or the lines of more
abbrev pub one_text : List ℕ → Bringers → List ℕ
one_text text b =
    codes "line " ++ line_at text b.from ++ codes " " ++ quoted (drop b.from (take (b.to - 1) text)) ++ codes " brings most of them: without it "

-- several statements, by the lines of the first and the last
abbrev pub more_text : List ℕ → Bringers → List ℕ
more_text text b = codes "lines " ++ line_at text b.from ++ codes " to " ++ line_at text b.to ++ codes " bring most of them: without them "

-- how many locks are needed without them
abbrev pub left_text : ℕ → List ℕ
left_text left = decimal left ++ codes " " ++ (if left == 1 then codes "lock is" else codes "locks are") ++ codes " needed\n"

-- which statements bring most of the locks, and how many are needed without them; nothing where none were found
abbrev pub bringers_text : List ℕ → Option Bringers → List ℕ
bringers_text text None = []
bringers_text text (Some b) = (if b.count == 1 then one_text text b else more_text text b) ++ left_text b.left
