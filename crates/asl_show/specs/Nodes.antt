-- The lines of nodes: of those that a thread holds, of those that it asks for, and of those who are in its way
-- (docs/JOURNAL.md, "The view" and "Stacks, objects and requests").
use Rattle.std.specs.Prelude.{ℕ, List, [], ◌∷◌, ◌++◌, ◌==◌, ◌||◌, length, Option, None, Some, codes, if◌then◌else◌}
use Rattle.std.specs.Fmt.{decimal}
use Rattle.std.specs.Option.{option_map_or}
use Rattle.asl_mode_lanes.specs.declared.mode.Mode.{Mode}
use Rattle.asl_mode_lanes.specs.declared.mode.Mode.TheVariants.{NL, IS, IX, S, SIX, X}
use Rattle.asl_mode_lanes.specs.Mode.{is_compatible}
use Rattle.asl_lock_forest.specs.declared.node.Node.{Node}
use Rattle.asl_lock_forest.specs.declared.node.Node.TheVariants.{Root, Class, Leaf}
use Rattle.asl_lock_forest.specs.Holding.{Request, asked, held}
use Rattle.asl_machine.specs.State.{State, class_of}
use Rattle.asl_show.specs.Replies.{address_text}
use Rattle.asl_show.specs.Lines.{lines_from}
use Rattle.asl_show.specs.Objects.{cell_count, cell_of}

-- ---- one node

-- the name of a mode, but of NL
abbrev pub mode_name : Mode → Option (List ℕ)
mode_name NL = None
mode_name IS = Some (codes "IS")
mode_name IX = Some (codes "IX")
mode_name S = Some (codes "S")
mode_name SIX = Some (codes "SIX")
mode_name X = Some (codes "X")

-- a node, as `root`, `class 0` or `leaf 0.1`
abbrev pub node_text : Node → List ℕ
node_text Root = codes "root"
node_text (Class class) = codes "class " ++ decimal class
node_text (Leaf cell class) = codes "leaf " ++ address_text cell.object cell.offset

-- the line of a node, if the thread holds it
abbrev pub held_line : State → ℕ → Node → List ℕ
held_line s t node =
    option_map_or (λ name. codes "held " ++ decimal t ++ codes " " ++ node_text node ++ codes " " ++ name ++ 10 ∷ []) (mode_name (held s.holding t node)) []

-- the line of a node, if the request asks for it
abbrev pub ask_line : ℕ → Request → Node → List ℕ
ask_line t request node =
    option_map_or (λ name. codes "asks " ++ decimal t ++ codes " " ++ node_text node ++ codes " " ++ name ++ 10 ∷ []) (mode_name (asked request node)) []

-- who asks for which node
abbrev pub asker_text : ℕ → Node → List ℕ
asker_text t node = codes "clash " ++ decimal t ++ codes " " ++ node_text node ++ codes " "

-- the mode that is asked, by its name, and who holds the node in which one
abbrev pub clashing_text : List ℕ → ℕ → List ℕ → List ℕ
clashing_text name other held_name = name ++ codes " " ++ decimal other ++ codes " " ++ held_name ++ 10 ∷ []

-- the line of a clash: a thread asks for the node in the mode of the first name, and the other thread holds it in that of the
-- second
abbrev pub clash_line : ℕ → Node → List ℕ → ℕ → List ℕ → List ℕ
clash_line t node name other held_name = asker_text t node ++ clashing_text name other held_name

-- the same, if the other is another thread, whose mode does not go with the one that is asked
abbrev pub clash_at : State → ℕ → Node → Mode → List ℕ → ℕ → List ℕ
clash_at s t node mode name other =
    if other == t || is_compatible mode (held s.holding other node) then []
    else option_map_or (clash_line t node name other) (mode_name (held s.holding other node)) []

-- the clashes of a thread that asks for the node in the mode of this name, by the other thread
abbrev pub clashes_at : State → ℕ → Node → Mode → List ℕ → List ℕ
clashes_at s t node mode name = lines_from (clash_at s t node mode name) 0 (length s.threads)

-- the clashes at a node, if the request asks for it
abbrev pub clash_lines : State → ℕ → Request → Node → List ℕ
clash_lines s t request node = option_map_or (clashes_at s t node (asked request node)) (mode_name (asked request node)) []

-- ---- all nodes

-- the lines of the leaves of an object of the class
abbrev pub leaves_of : State → (Node → List ℕ) → ℕ → ℕ → List ℕ
leaves_of s line o class = lines_from (λ i. line (Leaf (cell_of o i) class)) 0 (cell_count s o)

-- the lines of the leaves of an object
abbrev pub leaf_lines : State → (Node → List ℕ) → ℕ → List ℕ
leaf_lines s line o = option_map_or (leaves_of s line o) (class_of s.objects o) []

-- the lines of the nodes that there are: of the root, of the classes, so many, of the leaves by object and offset
abbrev pub node_lines : ℕ → State → (Node → List ℕ) → List ℕ
node_lines classes s line = line Root ++ (lines_from (λ class. line (Class class)) 0 classes ++ lines_from (leaf_lines s line) 0 (length s.objects))
