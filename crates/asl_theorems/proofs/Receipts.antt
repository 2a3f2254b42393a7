-- What holds of each reply in a journal holds of each that a worker has a receipt of.
use Rattle.std.proofs.Common.{ℕ, ◌+◌, Bool, true, false, List, [], ◌∷◌, map, sym, subst}
use Rattle.std.specs.Prelude.{All, ◌%◌, ◌==◌, if◌then◌else◌}
use Rattle.std.proofs.lemmas.List.Elements.{All-nil, All-cons, All-head, All-tail}
use Rattle.asl_machine.specs.declared.reply.Reply.{Reply}
use Rattle.asl_journal.specs.declared.event.Event.{Event}
use Rattle.asl_journal.specs.declared.event.Receipt.{Receipt}
use Rattle.asl_journal.specs.Journal.{replies_in}
use Rattle.asl_runner.specs.History.{Entry, entry, entry_of, entries_of, IsDealt}

module _ (P : Reply → Type 0) where
  abbrev Holds : Entry → Type 0
  Holds e = P e.reply

  one_more : (mine : Bool) (e : Entry) (es : List Entry) → Holds e → All Holds es → All Holds (if mine then e ∷ es else es)
  one_more true e es h k = All-cons Holds e es h k
  one_more false e es h k = k

  of_entries : (workers worker index : ℕ) (events : List Event) → All P (replies_in events) → All Holds (entries_of workers worker index events)
  of_entries workers worker index [] h = All-nil Holds
  of_entries workers worker index (event ∷ events) h =
      one_more ((event.thread % workers) == worker) (entry index event.thread event.reply) (entries_of workers worker (index + 1) events)
      (All-head P event.reply (replies_in events) h) (of_entries workers worker (index + 1) events (All-tail P event.reply (replies_in events) h))

  of_receipts : (mine : List Receipt) → All Holds (map entry_of mine) → All (λ (r : Receipt). P r.reply) mine
  of_receipts [] h = All-nil (λ (r : Receipt). P r.reply)
  of_receipts (receipt ∷ mine) h =
      All-cons (λ (r : Receipt). P r.reply) receipt mine (All-head Holds (entry_of receipt) (map entry_of mine) h) (of_receipts mine (All-tail Holds (entry_of receipt) (map entry_of mine) h))

  pub dealt_all : (workers worker : ℕ) (events : List Event) (mine : List Receipt) → IsDealt workers worker events mine → All P (replies_in events) → All (λ (r : Receipt). P r.reply) mine
  dealt_all workers worker events mine dealt h = of_receipts mine (subst (All Holds) (sym dealt) (of_entries workers worker 0 events h))
