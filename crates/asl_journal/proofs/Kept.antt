-- What was kept of a journal's events, as a journal with its threads.
use Rattle.std.proofs.Common.{◌≡◌, ℕ, List, Option, None, Some, sym, ap, subst}
use Rattle.std.specs.Option.{option_map}
use Rattle.asl_loader.specs.SharedFields.{IsKept}
use Rattle.asl_journal.specs.declared.event.Event.{Event}
use Rattle.asl_journal.specs.Journal.{Log}

abbrev log : ℕ → List Event → Log
log threads events = record { threads = threads; events = events }

pub kept_log : (threads : ℕ) (kept : Option (List Event)) (events : List Event) → IsKept kept events → IsKept (option_map (log threads) kept) (log threads events)
kept_log threads None events is = tt
kept_log threads (Some mine) events is = ap (log threads) is

-- what was kept is the journal that was read
pub kept_is : (threads : ℕ) (kept : Option (List Event)) (mine : List Event) (read : Log) → kept ≡ Some mine → IsKept (option_map (log threads) kept) read
    → read ≡ log threads mine
kept_is threads kept mine read is held = sym (subst (λ o. IsKept (option_map (log threads) o) read) is held)
