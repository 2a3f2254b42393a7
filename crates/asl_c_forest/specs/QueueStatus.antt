-- What a call on a queue answers where it cannot be done: the status of the first thing that is wrong. Beside those of
-- Status these are wrong of what is asked: 20 the nodes do not rise, 21 the thread waits already
-- (docs/EMBEDDING.md, "The queue from C").
use Rattle.std.specs.Prelude.{ℕ, ◌∷◌, [], nat_lt, nat_le, List, map}
use Rattle.asl_lock_forest.specs.Request.{asks_modes, asks_parents}
use Rattle.asl_lock_queue.specs.Order.{is_rising}
use Rattle.asl_lock_queue.specs.Waiting.{is_absent}
use Rattle.asl_lock_queue.specs.QueueState.{QueueState}
use Rattle.asl_lock_queue.specs.declared.ask.Ask.{Ask}
use Rattle.asl_lock_queue.specs.Asks.{has_kinds, ask_of}
use Rattle.asl_c_forest.specs.Status.{first_failing, has_classes, holds_nothing}

-- why the thread cannot ask this
unfoldable pub queue_fault : QueueState → ℕ → List Ask → ℕ
queue_fault queue thread asks = first_failing (
    (nat_lt thread queue.threads, 4)
    ∷ (has_kinds asks, 5)
    ∷ (has_classes queue.classes asks, 6)
    ∷ (asks_modes (map ask_of asks), 7)
    ∷ (is_rising (map ask_of asks), 20)
    ∷ (asks_parents (map ask_of asks), 9)
    ∷ (holds_nothing queue.holding thread, 10)
    ∷ (is_absent thread queue.waiting, 21)
    ∷ [])

-- why the thread cannot give back what it holds, where so many numbers can be written
unfoldable pub leave_fault : ℕ → ℕ → ℕ → ℕ
leave_fault threads thread room = first_failing ((nat_lt thread threads, 4) ∷ (nat_le threads room, 11) ∷ [])
