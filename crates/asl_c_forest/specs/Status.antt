-- What a call on a forest answers where it cannot be done: the status of the first thing that is wrong. 0 is that nothing is. These
-- are wrong of what is asked, in this order: 4 the thread, 5 a kind of node, 6 a class, 7 a mode, 8 a node is named twice, 9 a parent is
-- not asked, 10 the thread holds something. 11 is a count of threads (docs/EMBEDDING.md, "The lock forest from C").
use Rattle.std.specs.Prelude.{ℕ, ◌&&◌, nat_lt, nat_le, Bool, true, List, [], ◌∷◌, map, if◌then◌else◌}
use Rattle.std.specs.List.{list_all}
use Rattle.asl_code.specs.Versions.{newest_threads}
use Rattle.asl_mode_lanes.specs.declared.mode.Mode.TheVariants.{NL}
use Rattle.asl_mode_lanes.specs.Mode.{is_at_most}
use Rattle.asl_lock_forest.specs.declared.node.Node.{Node}
use Rattle.asl_lock_forest.specs.declared.node.Node.TheVariants.{Root, Class, Leaf}
use Rattle.asl_lock_forest.specs.Held.{Held}
use Rattle.asl_lock_forest.specs.Holding.{Holding, held}
use Rattle.asl_lock_forest.specs.Request.{names_once, asks_modes, asks_parents}
use Rattle.asl_lock_queue.specs.declared.ask.Ask.{Ask}
use Rattle.asl_lock_queue.specs.Asks.{is_kind, has_kinds, node_of, ask_of}

-- the status of the first test that fails, and 0 where none does
abbrev pub first_failing : List (Bool × ℕ) → ℕ
first_failing [] = 0
first_failing (test ∷ others) = if test.0 then first_failing others else test.1

-- whether the node's class, if it has one, is below the count
abbrev pub is_there : ℕ → Node → Bool
is_there classes Root = true
is_there classes (Class class) = nat_lt class classes
is_there classes (Leaf cell class) = nat_lt class classes

-- whether each node's class is below the count
abbrev pub has_classes : ℕ → List Ask → Bool
has_classes classes asks = list_all (λ ask. is_there classes (node_of ask)) asks

-- whether the thread holds nothing at the root; who holds anything holds the root
abbrev pub holds_nothing : Holding → ℕ → Bool
holds_nothing h thread = is_at_most (held h thread Root) NL

-- why no forest can be made for so many threads
unfoldable pub new_fault : ℕ → ℕ
new_fault threads = first_failing ((nat_le 1 threads && nat_le threads newest_threads, 11) ∷ [])

-- why the thread cannot ask this
unfoldable pub acquire_fault : Held → ℕ → List Ask → ℕ
acquire_fault forest thread asks = first_failing (
    (nat_lt thread forest.threads, 4)
    ∷ (has_kinds asks, 5)
    ∷ (has_classes forest.classes asks, 6)
    ∷ (asks_modes (map ask_of asks), 7)
    ∷ (names_once (map ask_of asks), 8)
    ∷ (asks_parents (map ask_of asks), 9)
    ∷ (holds_nothing forest.holding thread, 10)
    ∷ [])

-- why the thread cannot give back what it holds
unfoldable pub release_fault : ℕ → ℕ → ℕ
release_fault threads thread = first_failing ((nat_lt thread threads, 4) ∷ [])

-- why it cannot be determined in which mode the thread holds the node
unfoldable pub mode_fault : ℕ → ℕ → ℕ → Ask → ℕ
mode_fault classes threads thread at = first_failing (
    (nat_lt thread threads, 4)
    ∷ (is_kind at.kind, 5)
    ∷ (is_there classes (node_of at), 6)
    ∷ [])

-- why it cannot be determined whether the thread covers the cell
unfoldable pub covers_fault : ℕ → ℕ → ℕ → Ask → ℕ
covers_fault classes threads thread at = first_failing ((nat_lt thread threads, 4) ∷ (nat_lt at.class classes, 6) ∷ [])
