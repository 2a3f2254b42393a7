-- A worker from call to call.
use Rattle.std.proofs.Common.{◌≡◌, ◌≢◌, ◌⊎◌, inl, inr, ℕ, zero, suc, ◌+◌, Bool, true, false, List, [], ◌∷◌, ◌++◌, length, Some, slice_get, set, refl, ap, sym, ◌∙◌, arith}
use Rattle.std.proofs.lemmas.List.{length-append, length-set}
use Rattle.std.proofs.lemmas.Bool.{cases_eq, false≢true}
use Rattle.std.proofs.lemmas.Option.{slice_get_within}
use Rattle.asl_machine.proofs.Lists.{get_other, get_before, get_last}
use Rattle.asl_turns.specs.Turn.{Word, Turn}
use Rattle.asl_journal.specs.declared.event.Receipt.{Receipt}
use Rattle.asl_runner.specs.Ending.{IsMine, IsToldEnded}
use Rattle.asl_runner.specs.History.{AreEndsLast}
use Rattle.asl_runner.proofs.Joins.{at_or_last}
use Rattle.asl_runner.specs.Working.{HasLeft, HasStopped, IsWorking, WasRefused}

-- a receipt more keeps what was told
told_still : (rs : List Receipt) (r : Receipt) (t : ℕ) → IsToldEnded rs t → IsToldEnded (rs ++ r ∷ []) t
told_still rs r t (n, x, at, is, ended) = (n, x, get_before rs (r ∷ []) n x at, is, ended)

-- and tells of its own thread, where it has ended
told_now : (rs : List Receipt) (r : Receipt) → r.ended ≡ true → IsToldEnded (rs ++ r ∷ []) r.thread
told_now rs r ended = (length rs, r, get_last rs r, refl, ended)

-- a receipt more tells of no other thread, and of its own only where it has ended
untold_still : (rs : List Receipt) (r : Receipt) (t : ℕ) → ¬ IsToldEnded rs t → (r.thread ≡ t → r.ended ≡ true → ⊥) → ¬ IsToldEnded (rs ++ r ∷ []) t
untold_still rs r t none not (n, x, at, is, ended) =
    elim (at_or_last rs r x n at) [
      | inl there ↦ none (n, x, there, is, ended)
      | inr last ↦ not (ap (λ (y : Receipt). y.thread) (sym last.1) ∙ is) (ap (λ (y : Receipt). y.ended) (sym last.1) ∙ ended)
    ]

-- a receipt more of a thread that was not told ended
last_still : (rs : List Receipt) (r : Receipt) → AreEndsLast rs → ¬ IsToldEnded rs r.thread → AreEndsLast (rs ++ r ∷ [])
last_still rs r h none n later x next at ended there same =
    elim (at_or_last rs r x n at) [
      | inl old ↦ elim (at_or_last rs r next later there) [
        | inl before ↦ h n later x next old ended before same
        | inr last ↦ absurd (none (n, x, old, sym same ∙ ap (λ (y : Receipt). y.thread) last.1, ended))
      ]
      | inr last ↦ omega (arith, last.0, slice_get_within (rs ++ r ∷ []) later next there, length-append rs (r ∷ []))
    ]

-- a seat with one ticket more
abbrev pub one_more : Turn → ℕ → Turn
one_more seat ticket = record { of = seat.of; left = seat.left; spent = seat.spent; tickets = seat.tickets ++ ticket ∷ [] }

one_drawn : (seat new : Turn) (ticket : ℕ) (rs : List Receipt) (r : Receipt) → new ≡ one_more seat ticket → length rs ≡ length seat.tickets → length (rs ++ r ∷ []) ≡ length new.tickets
one_drawn seat new ticket rs r is drawn =
    length-append rs (r ∷ []) ∙ ap (λ n. n + 1) drawn ∙ sym (ap (λ (t : Turn). length t.tickets) is ∙ length-append seat.tickets (ticket ∷ []))

unset : (going : List Bool) (t : ℕ) → slice_get (set going t false) t ≡ Some true → ⊥
unset [] t e = cc
unset (g ∷ going) zero e = cc
unset (g ∷ going) (suc t) e = unset going t e

-- a worker with one ticket and one receipt more, whose thread continues
pub goes_on : (word : Word) (count workers worker : ℕ) (seat new : Turn) (ticket : ℕ) (rs : List Receipt) (r : Receipt) (going : List Bool)
    → IsWorking word count workers worker seat rs going → new ≡ one_more seat ticket → slice_get going r.thread ≡ Some true → r.ended ≡ false
    → IsWorking word count workers worker new (rs ++ r ∷ []) going
goes_on word count workers worker seat new ticket rs r going h is goes runs =
    record {
      of = ap (λ (t : Turn). t.of) is ∙ h.of;
      left = ap (λ (t : Turn). t.left) is ∙ h.left;
      spent = ap (λ (t : Turn). t.spent) is ∙ h.spent;
      drawn = one_drawn seat new ticket rs r is h.drawn;
      room = h.room;
      each = λ t mine. elim (h.each t mine) [ inl is ↦ inl is | inr told ↦ inr (told_still rs r t told) ];
      untold = λ t at. untold_still rs r t (h.untold t at) (λ same ended. absurd (false≢true (sym runs ∙ ended)));
      last = last_still rs r h.last (h.untold r.thread goes);
    }

each_after : (count workers worker : ℕ) (rs : List Receipt) (r : Receipt) (going : List Bool) → r.ended ≡ true
    → ((t : ℕ) → IsMine count workers worker t → (slice_get going t ≡ Some true) ⊎ IsToldEnded rs t)
    → (t : ℕ) → IsMine count workers worker t → (slice_get (set going r.thread false) t ≡ Some true) ⊎ IsToldEnded (rs ++ r ∷ []) t
each_after count workers worker rs r going ended each t mine =
    elim (cases_eq t r.thread) [
      | inl same ↦ inr (rw same (told_now rs r ended))
      | inr other ↦ elim (each t mine) [ inl is ↦ inl (get_other going r.thread t false other ∙ is) | inr told ↦ inr (told_still rs r t told) ]
    ]

untold_after : (rs : List Receipt) (r : Receipt) (going : List Bool) → ((t : ℕ) → slice_get going t ≡ Some true → ¬ IsToldEnded rs t)
    → (t : ℕ) → slice_get (set going r.thread false) t ≡ Some true → ¬ IsToldEnded (rs ++ r ∷ []) t
untold_after rs r going untold t at =
    elim (cases_eq t r.thread) [
      | inl same ↦ absurd (unset going r.thread (ap (slice_get (set going r.thread false)) (sym same) ∙ at))
      | inr other ↦ untold_still rs r t (untold t (sym (get_other going r.thread t false other) ∙ at)) (λ same ended. other (sym same))
    ]

-- the same where the thread has ended
pub ends : (word : Word) (count workers worker : ℕ) (seat new : Turn) (ticket : ℕ) (rs : List Receipt) (r : Receipt) (going : List Bool)
    → IsWorking word count workers worker seat rs going → new ≡ one_more seat ticket → slice_get going r.thread ≡ Some true
    → r.ended ≡ true → IsWorking word count workers worker new (rs ++ r ∷ []) (set going r.thread false)
ends word count workers worker seat new ticket rs r going h is goes ended =
    record {
      of = ap (λ (t : Turn). t.of) is ∙ h.of;
      left = ap (λ (t : Turn). t.left) is ∙ h.left;
      spent = ap (λ (t : Turn). t.spent) is ∙ h.spent;
      drawn = one_drawn seat new ticket rs r is h.drawn;
      room = length-set going r.thread false ∙ h.room;
      each = each_after count workers worker rs r going ended h.each;
      untold = untold_after rs r going h.untold;
      last = last_still rs r h.last (h.untold r.thread goes);
    }

-- a worker none of whose threads continues was told that all have ended
pub all_told : (word : Word) (count workers worker : ℕ) (seat : Turn) (rs : List Receipt) (going : List Bool) → IsWorking word count workers worker seat rs going
    → ((t : ℕ) → IsMine count workers worker t → slice_get going t ≢ Some true) → HasStopped word count workers worker seat rs
all_told word count workers worker seat rs going h none =
    record {
      pass = record { of = h.of; passes = omega (arith, h.left, h.spent) };
      drawn = h.drawn;
      last = h.last;
      why = inr (λ t mine. elim (h.each t mine) [ inl is ↦ absurd (none t mine is) | inr told ↦ told ]);
    }

-- a worker with one ticket and one receipt more, whose thread no longer continues where the receipt says that it has ended
pub steps_as : (word : Word) (count workers worker : ℕ) (seat new : Turn) (ticket : ℕ) (rs all : List Receipt) (r : Receipt) (going still : List Bool)
    → IsWorking word count workers worker seat rs going → new ≡ one_more seat ticket → all ≡ rs ++ r ∷ [] → slice_get going r.thread ≡ Some true
    → (r.ended ≡ true → still ≡ set going r.thread false) → (r.ended ≡ false → still ≡ going) → IsWorking word count workers worker new all still
steps_as word count workers worker seat new ticket rs all r going still h is more goes ends_so goes_so =
    elim r.ended as (λ b. r.ended ≡ b → IsWorking word count workers worker new all still) [
      | true ↦ λ e. rw (more, ends_so e) (ends word count workers worker seat new ticket rs r going h is goes e)
      | false ↦ λ e. rw (more, goes_so e) (goes_on word count workers worker seat new ticket rs r going h is goes e)
    ] refl

-- a worker that has a thread that continues, and to which an allocation fails: before it draws a ticket, and after that
pub refused_first : (word : Word) (count workers worker t : ℕ) (seat : Turn) (rs : List Receipt) (going : List Bool) → IsWorking word count workers worker seat rs going
    → IsMine count workers worker t → slice_get going t ≡ Some true → WasRefused word count workers worker seat rs
unfolding WasRefused
refused_first word count workers worker t seat rs going h mine goes =
    record {
      pass = record { of = h.of; passes = omega (arith, h.left, h.spent) };
      unspent = h.spent;
      thread = t;
      mine = mine;
      untold = h.untold t goes;
    }

pub refused_then : (word : Word) (count workers worker t : ℕ) (seat new : Turn) (ticket : ℕ) (rs : List Receipt) (going : List Bool) → IsWorking word count workers worker seat rs going
    → new ≡ one_more seat ticket → IsMine count workers worker t → slice_get going t ≡ Some true → WasRefused word count workers worker new rs
unfolding WasRefused
refused_then word count workers worker t seat new ticket rs going h is mine goes =
    let left = ap (λ (t : Turn). t.left) is ∙ h.left in
    let spent = ap (λ (t : Turn). t.spent) is ∙ h.spent in
    record {
      pass = record { of = ap (λ (t : Turn). t.of) is ∙ h.of; passes = omega (arith, left, spent) };
      unspent = spent;
      thread = t;
      mine = mine;
      untold = h.untold t goes;
    }

-- what a worker leaves to which an allocation failed
pub left_refused : (word : Word) (count workers worker : ℕ) (seat : Turn) (rs : List Receipt) (refused : Bool) → refused ≡ true → WasRefused word count workers worker seat rs
    → HasLeft word count workers worker seat rs refused
unfolding WasRefused
left_refused word count workers worker seat rs refused is h =
    record {
      pass = h.pass;
      stopped = λ n. (let no : true ≡ false = sym is ∙ n in absurd cc);
      wanted = λ e. h;
    }
