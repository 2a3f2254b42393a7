-- The reader of a journal reads its fields.
use Rattle.std.proofs.Common.{◌≡◌, ℕ, zero, suc, ◌<◌, ◌≤◌, List, [], ◌∷◌, ◌++◌, length, replicate, Result, Ok, refl, sym, ap, subst, ◌∙◌, arith, lit<, lit≤}
use Rattle.std.specs.List.{flat_map, AllByRecursion}
use Rattle.std.proofs.lemmas.List.{append-nil, length-replicate}
use Rattle.std.proofs.lemmas.List.Elements.{All-from_recursion, All-weaker}
use Rattle.asl_code.specs.Versions.{IsVersion, version_for}
use Rattle.asl_code.proofs.Versions.{version_is_there}
use Rattle.asl_machine.specs.declared.reply.Reply.TheVariants as reply
use Rattle.asl_loader.specs.Bytes.{one, two}
use Rattle.asl_loader.specs.declared.fault.Stop.{Stop}
use Rattle.asl_loader.specs.SharedFields.{◌>>=◌, letters_at, version_at}
use Rattle.asl_loader.specs.ImageFields.{items_at}
use Rattle.asl_loader.proofs.Reader.{Reads, reads_nothing, done, ok_is}
use Rattle.asl_loader.proofs.WrongInTwo.{reads_key}
use Rattle.asl_loader.proofs.Fields.{letters_reads, version_reads}
use Rattle.asl_loader.proofs.Items.{AreSoMany, items_reads}
use Rattle.asl_journal.specs.declared.event.Event.{Event}
use Rattle.asl_journal.specs.Journal.{Log, IsCount, AreThere, most_events}
use Rattle.asl_journal.specs.Bytes.{four, event_fields, log_fields, IsEvent, HasBytes, LogOfSpellingIsOne}
use Rattle.asl_journal.specs.JournalFields.{threads_at, count_at, event_at, log_at}
use Rattle.asl_journal.proofs.Front.{IsCountIn, some_count, threads_reads, count_reads}
use Rattle.asl_journal.proofs.ReplyFields.{event_reads}

-- events whose fields hold them are of threads that are there
pub there_of : (threads : ℕ) (events : List Event) → AllByRecursion (IsEvent threads) events → AreThere threads events
there_of threads events each =
    All-weaker (IsEvent threads) (λ (e : Event). e.thread < threads) (λ e is. is.there) events (All-from_recursion (IsEvent threads) events each)

-- the journal of these parts
log : ℕ → List Event → Log
log threads events = record { threads = threads; events = events }

has_bytes : (threads n : ℕ) (events : List Event) → IsCount threads → n ≤ most_events → AreSoMany Event (IsEvent threads) n events → HasBytes (log threads events)
unfolding log
has_bytes threads n events count few are = record {
  is_log = record { count = count; short = omega (arith, are.count, few); there = there_of threads events are.each };
  each = are.each;
}

-- a first step of thread 0, and so many of them
sample : Event
sample = record { thread = 0; reply = reply.Ran }

samples : (threads n : ℕ) → IsCount threads → AreSoMany Event (IsEvent threads) n (replicate n sample)
unfolding sample
samples threads n count = record { each = copies n; count = length-replicate n sample }
  where
    copies : (n : ℕ) → AllByRecursion (IsEvent threads) (replicate n sample)
    copies zero = tt
    copies (suc n) = (record { there = count.0; fits = tt }, copies n)

log_eq : (l : Log) (threads : ℕ) (events : List Event) → l.threads ≡ threads → l.events ≡ events → l ≡ log threads events
unfolding log
log_eq l threads events p q = rw (← p, ← q) refl

-- the journals with these front parts
abbrev IsOne : ℕ → Log → Type 0
IsOne m l = HasBytes l × (1095978058 ≡ m)

abbrev IsTwo : ℕ → ℕ → Log → Type 0
IsTwo m v l = IsOne m l × (version_for l.threads ≡ v)

abbrev IsThree : ℕ → ℕ → ℕ → Log → Type 0
IsThree m v t l = IsTwo m v l × (l.threads ≡ t)

abbrev IsFour : ℕ → ℕ → ℕ → ℕ → Log → Type 0
IsFour m v t n l = IsThree m v t l × (length l.events ≡ n)

-- the readers of the parts after
behind_events : ℕ → List Event → List ℕ → Result (Log × List ℕ) Stop
behind_events t events bytes = Ok (log t events, bytes)

behind_count : ℕ → ℕ → List ℕ → Result (Log × List ℕ) Stop
behind_count t n bytes = items_at (event_at t) n bytes >>= λ events. behind_events t events.0 events.1

behind_threads : ℕ → List ℕ → Result (Log × List ℕ) Stop
behind_threads t bytes = count_at bytes >>= λ count. behind_count t count.0 count.1

behind_version : ℕ → List ℕ → Result (Log × List ℕ) Stop
behind_version v bytes = threads_at v bytes >>= λ threads. behind_threads threads.0 threads.1

behind_letters : List ℕ → Result (Log × List ℕ) Stop
behind_letters bytes = version_at bytes >>= λ v. behind_version v.0 v.1

module _ (m : ℕ) (is_m : m ≡ 1095978058) (v : ℕ) (is_v : IsVersion v) where
  reads_events : (t : ℕ) → IsCountIn v t → (n : ℕ) → n ≤ most_events → Reads Log (IsFour m v t n) (λ l. flat_map event_fields l.events) (behind_count t n)
  unfolding behind_count behind_events log
  reads_events t is_t n is_n =
      reads_key (List Event) Log (AreSoMany Event (IsEvent t) n) (IsFour m v t n) (λ es. flat_map event_fields es) (λ l. flat_map event_fields l.events) (items_at (event_at t) n)
      (λ events bytes. Ok (record { threads = t; events = events }, bytes))
      (λ l. l.events) (λ l. []) (items_reads Event (IsEvent t) event_fields (event_at t) (event_reads t is_t.0.0 (omega (arith, is_t.0.1))) sample_event (record { there = is_t.0.0; fits = tt }) n)
      (λ es are. reads_nothing Log (λ l. IsFour m v t n l × (l.events ≡ es)) (λ l. []) (record { threads = t; events = es })
      ((((((has_bytes t n es is_t.0 is_n are, sym is_m), is_t.1), refl), are.count)), refl) (λ l is. log_eq l t es is.0.0.1 is.1) refl)
      (λ l is. record { each = each_of l t is.0.1 is.0.0.0.0.each; count = is.1 })
      (λ l is. sym (append-nil (flat_map event_fields l.events)))
      (λ es are. (record { threads = t; events = es }, (((((has_bytes t n es is_t.0 is_n are, sym is_m), is_t.1), refl), are.count)), refl))
    where
      sample_event : Event
      sample_event = record { thread = 0; reply = reply.Ran }

      each_of : (l : Log) (t : ℕ) → l.threads ≡ t → AllByRecursion (IsEvent l.threads) l.events → AllByRecursion (IsEvent t) l.events
      each_of l t e each = subst (λ (k : ℕ). AllByRecursion (IsEvent k) l.events) e each

  reads_count : (t : ℕ) → IsCountIn v t → Reads Log (IsThree m v t) (λ l. four (length l.events) ∷ flat_map event_fields l.events) (behind_threads t)
  unfolding behind_threads log
  reads_count t is_t =
      reads_key ℕ Log (λ n. n ≤ most_events) (IsThree m v t) (λ n. four n ∷ []) (λ l. four (length l.events) ∷ flat_map event_fields l.events) count_at (behind_count t)
      (λ l. length l.events) (λ l. flat_map event_fields l.events) count_reads
      (reads_events t is_t)
      (λ l is. is.0.0.0.is_log.short) (λ l is. refl)
      (λ n is_n. let are = samples t n is_t.0 in (log t (replicate n sample), (((has_bytes t n (replicate n sample) is_t.0 is_n are, sym is_m), is_t.1), refl), are.count))

  reads_threads : Reads Log (IsTwo m v) (λ l. one l.threads ∷ four (length l.events) ∷ flat_map event_fields l.events) (behind_version v)
  unfolding behind_version log
  reads_threads =
      reads_key ℕ Log (IsCountIn v) (IsTwo m v) (λ n. one n ∷ []) (λ l. one l.threads ∷ four (length l.events) ∷ flat_map event_fields l.events) (threads_at v) behind_threads
      (λ l. l.threads) (λ l. four (length l.events) ∷ flat_map event_fields l.events) (threads_reads v is_v)
      reads_count
      (λ l is. (is.0.0.is_log.count, is.1)) (λ l is. refl)
      (λ t is_t. (log t [], ((has_bytes t 0 [] is_t.0 (lit≤ tt) (record { each = tt; count = refl }), sym is_m), is_t.1), refl))

reads_version : (m : ℕ) → m ≡ 1095978058 → Reads Log (IsOne m) (λ l. two (version_for l.threads) ∷ one l.threads ∷ four (length l.events) ∷ flat_map event_fields l.events) behind_letters
unfolding behind_letters log
reads_version m is_m =
    reads_key ℕ Log IsVersion (IsOne m) (λ n. two n ∷ []) (λ l. two (version_for l.threads) ∷ one l.threads ∷ four (length l.events) ∷ flat_map event_fields l.events) version_at behind_version
    (λ l. version_for l.threads) (λ l. one l.threads ∷ four (length l.events) ∷ flat_map event_fields l.events) version_reads
    (λ v is_v. reads_threads m is_m v is_v)
    (λ l is. version_is_there l.threads) (λ l is. refl)
    (λ v is_v. let some = some_count v is_v in (log some.0 [], (has_bytes some.0 0 [] some.1.0.0 (lit≤ tt) (record { each = tt; count = refl }), sym is_m), some.1.0.1))

pub log_reads : Reads Log HasBytes log_fields log_at
unfolding log_at behind_letters behind_version behind_threads behind_count behind_events log
log_reads =
    reads_key ℕ Log (λ n. n ≡ 1095978058) HasBytes (λ n. four n ∷ []) log_fields (letters_at 1095978058) (λ m bytes. behind_letters bytes)
    (λ l. 1095978058) (λ l. two (version_for l.threads) ∷ one l.threads ∷ four (length l.events) ∷ flat_map event_fields l.events) (letters_reads 1095978058 (lit< tt))
    reads_version
    (λ l is. refl) (λ l is. refl)
    (λ m is_m. (log 1 [], has_bytes 1 0 [] (lit< tt, lit≤ tt) (lit≤ tt) (record { each = tt; count = refl }), sym is_m))

-- a spelling is of one journal
pub log_is_one : LogOfSpellingIsOne
log_is_one i j bytes p q =
    let first : log_at (bytes ++ []) ≡ Ok (i, []) = ap (λ (t : List ℕ). log_at (t ++ [])) p.spelled ∙ log_reads.again i [] p.fits in
    let second : log_at (bytes ++ []) ≡ Ok (j, []) = ap (λ (t : List ℕ). log_at (t ++ [])) q.spelled ∙ log_reads.again j [] q.fits in
    let both : done (i, []) ≡ done (j, []) = sym first ∙ second in
    ap (λ (u : Log × List ℕ). u.0) (ok_is (i, []) (j, []) both)
