-- What the evaluation of a list answers, and what it leaves of what it was to write (docs/EMBEDDING.md, "The request of a list from C").
use Rattle.std.specs.Prelude.{◌≡◌, IsTrue, ◌<◌, ◌≤◌, ◌*◌, ◌⊎◌, ℕ, List, length, map, take, drop, Option, None, Some}
use Rattle.asl_code.specs.declared.lock.Lock.{Lock}
use Rattle.asl_expression.specs.Expression.{cell_of}
use Rattle.asl_lock_queue.specs.Asks.{ask_of, has_kinds}
use Rattle.asl_lock_queue.specs.declared.ask.Ask.{Ask}
use Rattle.asl_c_requests.specs.Requested.{IsNeeded, IsRequest}
use Rattle.asl_c_requests.specs.declared.shown.ShownCell.{ShownCell}
use Rattle.asl_c_requests.specs.declared.shown.ShownObject.{ShownObject}
use Rattle.asl_c_requests.specs.declared.shown.ShownValue.{ShownValue}
use Rattle.asl_c_programs.specs.declared.entries.RequestEntry.{RequestEntry}

-- the first words are the request, and the others are as they were
pub record IsWritten (locks : List Lock) (registers : List ShownValue) (objects : List ShownObject) (cells : List ShownCell) (old new : List Ask) (count : ℕ) : Type 0 where
  pub within : count ≤ length new
  pub kinds : IsTrue (has_kinds (take count new))
  pub request : IsRequest registers objects cells locks (map ask_of (take count new))
  pub rest : drop count new ≡ drop count old

-- 24: there is no such list. Else 27: there is room for less than three words for each of its locks. Else 0: its request was written; or
-- 26: a cell was written of which nothing is told, and which is read to know the request
abbrev pub IsRequestPut : Option (List Lock) → List ShownValue → List ShownObject → List ShownCell → List Ask → List Ask → RequestEntry → ℕ → Type 0
IsRequestPut None registers objects cells old new entry status = status ≡ 24
IsRequestPut (Some locks) registers objects cells old new entry status =
    ((status ≡ 27) × (length old < 3 * length locks))
    ⊎ ((status ≡ 0) × (3 * length locks ≤ length old) × IsWritten locks registers objects cells old new entry.count)
    ⊎ ((status ≡ 26) × (3 * length locks ≤ length old) × IsNeeded registers objects cells locks (cell_of entry.object entry.offset))
