-- What the writer of a journal has written in the end.
use Rattle.std.proofs.Common.{◌≡◌, ℕ, ◌<◌, ◌^◌, List, [], ◌∷◌, ◌++◌, length, ap, ◌∙◌, append_assoc}
use Rattle.std.specs.List.{flat_map, AllByRecursion}
use Rattle.std.proofs.lemmas.List.Elements.{All-tail, All-head}
use Rattle.asl_code.specs.Versions.{version_for}
use Rattle.asl_loader.specs.Bytes.{Field, text_of, one, two}
use Rattle.asl_loader.specs.SharedFields.{Writes}
use Rattle.asl_loader.specs.Writing.{WritesEach}
use Rattle.asl_loader.proofs.Reader.{text_of-append}
use Rattle.asl_journal.specs.declared.event.Event.{Event}
use Rattle.asl_journal.specs.Journal.{Log, IsLog, AreThere}
use Rattle.asl_journal.specs.Bytes.{letters, four, event_fields, IsReply, IsEvent, SpellsLog}

-- events of threads that are there, whose replies fit
each_event : (threads : ℕ) (events : List Event) → AreThere threads events → AllByRecursion (λ event. IsReply event.reply) events → AllByRecursion (IsEvent threads) events
each_event threads [] there each = tt
each_event threads (e ∷ es) there each =
    (record { there = All-head (λ (e : Event). e.thread < threads) e es there; fits = each.0 }, each_event threads es (All-tail (λ (e : Event). e.thread < threads) e es there) each.1)

texts : (m v t n e : List Field) → (((text_of m ++ text_of v) ++ text_of t) ++ text_of n) ++ text_of e ≡ text_of (m ++ (v ++ (t ++ (n ++ e))))
texts m v t n e = simp (text_of-append, append_assoc)

pub log_written : (log : Log) (b0 b1 b2 b3 b4 : List ℕ) → IsLog log → b0 ≡ text_of (letters ∷ [])
    → Writes ℕ (λ n. n < 2 ^ 16) (λ n. two n ∷ []) b0 b1 (version_for log.threads)
    → Writes ℕ (λ n. n < 256) (λ n. one n ∷ []) b1 b2 log.threads
    → Writes ℕ (λ n. n < 2 ^ 32) (λ n. four n ∷ []) b2 b3 (length log.events)
    → WritesEach Event (λ event. IsReply event.reply) event_fields b3 b4 log.events
    → SpellsLog log b4
log_written log b0 b1 b2 b3 b4 is e0 w1 w2 w3 w4 =
    let m : List Field = letters ∷ [] in
    let v : List Field = two (version_for log.threads) ∷ [] in
    let t : List Field = one log.threads ∷ [] in
    let n : List Field = four (length log.events) ∷ [] in
    let e : List Field = flat_map event_fields log.events in
    let e1 : b1 ≡ text_of m ++ text_of v = w1.added ∙ ap (λ (x : List ℕ). x ++ text_of v) e0 in
    let e2 : b2 ≡ (text_of m ++ text_of v) ++ text_of t = w2.added ∙ ap (λ (x : List ℕ). x ++ text_of t) e1 in
    let e3 : b3 ≡ ((text_of m ++ text_of v) ++ text_of t) ++ text_of n = w3.added ∙ ap (λ (x : List ℕ). x ++ text_of n) e2 in
    let e4 : b4 ≡ (((text_of m ++ text_of v) ++ text_of t) ++ text_of n) ++ text_of e = w4.added ∙ ap (λ (x : List ℕ). x ++ text_of e) e3 in
    record {
      fits = record { is_log = is; each = each_event log.threads log.events is.there w4.each };
      spelled = e4 ∙ texts m v t n e;
    }
