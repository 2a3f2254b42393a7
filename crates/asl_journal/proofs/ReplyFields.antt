-- The readers of replies and of events read their fields: an event is a thread and the reply to it.
use Rattle.std.proofs.Common.{◌≡◌, ℕ, zero, suc, ◌<◌, ◌≤◌, List, [], ◌∷◌, ◌++◌, drop, Ok, refl, sym, ap, ◌∙◌, arith, lit<, lit≤}
use Rattle.std.proofs.lemmas.List.{append-nil}
use Rattle.asl_code.specs.Spelling.{IsValue}
use Rattle.asl_code.specs.declared.value.Value.{Value}
use Rattle.asl_code.specs.declared.value.Value.TheVariants.{Null}
use Rattle.asl_machine.specs.declared.fault.Fault.{Fault}
use Rattle.asl_machine.specs.declared.fault.Fault.TheVariants as fault
use Rattle.asl_machine.specs.declared.reply.Reply.{Reply}
use Rattle.asl_machine.specs.declared.reply.Reply.TheVariants as reply
use Rattle.asl_loader.specs.Bytes.{Field, one}
use Rattle.asl_loader.specs.SharedFields.{◌>>=◌, below_at}
use Rattle.asl_loader.proofs.Reader.{Reads, reads_nothing}
use Rattle.asl_loader.proofs.WrongInTwo.{reads_both, reads_key}
use Rattle.asl_loader.proofs.Fields.{below_reads}
use Rattle.asl_journal.specs.declared.event.Event.{Event}
use Rattle.asl_journal.specs.Bytes.{value_fields, fault_fields, reply_fields, event_fields, IsFault, IsReply, IsEvent}
use Rattle.asl_journal.specs.JournalFields.{value_at, fault_at, reply_of, reply_at, event_at}
use Rattle.asl_journal.proofs.ValueFields.{value_reads}
use Rattle.asl_journal.proofs.FaultFields.{fault_reads}

-- the byte of a reply
reply_number : Reply → ℕ
reply_number reply.Ran = 0
reply_number (reply.Out value) = 1
reply_number reply.Blocked = 2
reply_number reply.Ended = 3
reply_number (reply.Fault f) = 4

-- the fields after it
after_reply : Reply → List Field
after_reply r = drop 1 (reply_fields r)

-- there are five kinds of replies
reply_below : (r : Reply) → reply_number r < 5
unfolding reply_number
reply_below reply.Ran = lit< tt
reply_below (reply.Out value) = lit< tt
reply_below reply.Blocked = lit< tt
reply_below reply.Ended = lit< tt
reply_below (reply.Fault f) = lit< tt

reply_shows : (r : Reply) → reply_fields r ≡ (one (reply_number r) ∷ []) ++ after_reply r
unfolding reply_number after_reply
reply_shows reply.Ran = refl
reply_shows (reply.Out value) = refl
reply_shows reply.Blocked = refl
reply_shows reply.Ended = refl
reply_shows (reply.Fault f) = refl

-- there is a reply of each kind
reply_filled : (n : ℕ) → n < 5 → (r : Reply) × IsReply r × (reply_number r ≡ n)
unfolding reply_number
reply_filled zero is = (reply.Ran, tt, refl)
reply_filled (suc zero) is = (reply.Out Null, tt, refl)
reply_filled (suc (suc zero)) is = (reply.Blocked, tt, refl)
reply_filled (suc (suc (suc zero))) is = (reply.Ended, tt, refl)
reply_filled (suc (suc (suc (suc zero)))) is = (reply.Fault fault.Full, tt, refl)
reply_filled (suc (suc (suc (suc (suc n))))) is = absurd (omega arith)

-- a reply of each kind, by what it holds
ran_is : (r : Reply) → reply_number r ≡ 0 → r ≡ reply.Ran
unfolding reply_number
ran_is reply.Ran h = refl
ran_is (reply.Out value) h = absurd (omega arith)
ran_is reply.Blocked h = absurd (omega arith)
ran_is reply.Ended h = absurd (omega arith)
ran_is (reply.Fault f) h = absurd (omega arith)

out_is : (r : Reply) → IsReply r → reply_number r ≡ 1 → (value : Value) × IsValue value × (r ≡ reply.Out value)
unfolding reply_number
out_is reply.Ran is h = absurd (omega arith)
out_is (reply.Out value) is h = (value, is, refl)
out_is reply.Blocked is h = absurd (omega arith)
out_is reply.Ended is h = absurd (omega arith)
out_is (reply.Fault f) is h = absurd (omega arith)

blocked_is : (r : Reply) → reply_number r ≡ 2 → r ≡ reply.Blocked
unfolding reply_number
blocked_is reply.Ran h = absurd (omega arith)
blocked_is (reply.Out value) h = absurd (omega arith)
blocked_is reply.Blocked h = refl
blocked_is reply.Ended h = absurd (omega arith)
blocked_is (reply.Fault f) h = absurd (omega arith)

ended_is : (r : Reply) → reply_number r ≡ 3 → r ≡ reply.Ended
unfolding reply_number
ended_is reply.Ran h = absurd (omega arith)
ended_is (reply.Out value) h = absurd (omega arith)
ended_is reply.Blocked h = absurd (omega arith)
ended_is reply.Ended h = refl
ended_is (reply.Fault f) h = absurd (omega arith)

failed_is : (r : Reply) → IsReply r → reply_number r ≡ 4 → (f : Fault) × IsFault f × (r ≡ reply.Fault f)
unfolding reply_number
failed_is reply.Ran is h = absurd (omega arith)
failed_is (reply.Out value) is h = absurd (omega arith)
failed_is reply.Blocked is h = absurd (omega arith)
failed_is reply.Ended is h = absurd (omega arith)
failed_is (reply.Fault f) is h = (f, is, refl)

-- the rest of a reply of each kind
reply_reads_rest : (n : ℕ) → n < 5 → Reads Reply (λ r. IsReply r × (reply_number r ≡ n)) after_reply (reply_of n)
unfolding reply_of reply_number after_reply
reply_reads_rest zero is = reads_nothing Reply (λ r. IsReply r × (reply_number r ≡ 0)) after_reply reply.Ran (tt, refl) (λ r is_r. ran_is r is_r.1) refl
reply_reads_rest (suc zero) is =
    reads_both Value Reply IsValue (λ r. IsReply r × (reply_number r ≡ 1)) value_fields after_reply value_at (λ value bytes. Ok (reply.Out value, bytes))
    (λ r value. r ≡ reply.Out value) (λ r. []) value_reads
    (λ value is_v. reads_nothing Reply (λ r. (IsReply r × (reply_number r ≡ 1)) × (r ≡ reply.Out value)) (λ r. []) (reply.Out value) ((is_v, refl), refl) (λ r is_r. is_r.1) refl)
    (λ r is_r. out_is r is_r.0 is_r.1)
    (λ value r is_v is_r has. ap after_reply has ∙ sym (append-nil (value_fields value)))
    (λ value is_v. (reply.Out value, (is_v, refl), refl))
reply_reads_rest (suc (suc zero)) is = reads_nothing Reply (λ r. IsReply r × (reply_number r ≡ 2)) after_reply reply.Blocked (tt, refl) (λ r is_r. blocked_is r is_r.1) refl
reply_reads_rest (suc (suc (suc zero))) is = reads_nothing Reply (λ r. IsReply r × (reply_number r ≡ 3)) after_reply reply.Ended (tt, refl) (λ r is_r. ended_is r is_r.1) refl
reply_reads_rest (suc (suc (suc (suc zero)))) is =
    reads_both Fault Reply IsFault (λ r. IsReply r × (reply_number r ≡ 4)) fault_fields after_reply fault_at (λ f bytes. Ok (reply.Fault f, bytes))
    (λ r f. r ≡ reply.Fault f) (λ r. []) fault_reads
    (λ f is_f. reads_nothing Reply (λ r. (IsReply r × (reply_number r ≡ 4)) × (r ≡ reply.Fault f)) (λ r. []) (reply.Fault f) ((is_f, refl), refl) (λ r is_r. is_r.1) refl)
    (λ r is_r. failed_is r is_r.0 is_r.1)
    (λ f r is_f is_r has. ap after_reply has ∙ sym (append-nil (fault_fields f)))
    (λ f is_f. (reply.Fault f, (is_f, refl), refl))
reply_reads_rest (suc (suc (suc (suc (suc n))))) is = absurd (omega arith)

pub reply_reads : Reads Reply IsReply reply_fields reply_at
unfolding reply_at
reply_reads =
    reads_key ℕ Reply (λ n. n < 5) IsReply (λ n. one n ∷ []) reply_fields (below_at 5) reply_of
    reply_number after_reply (below_reads 5 (lit< tt) (lit≤ tt)) reply_reads_rest (λ r is. reply_below r) (λ r is. reply_shows r) reply_filled

-- ---- events

-- an event is told by its two parts
event_eq : (e : Event) (thread : ℕ) (r : Reply) → e.thread ≡ thread → e.reply ≡ r → e ≡ record { thread = thread; reply = r }
event_eq e thread r p q = rw (← p, ← q) refl

pub event_reads : (threads : ℕ) → 0 < threads → threads ≤ 256 → Reads Event (IsEvent threads) event_fields (event_at threads)
unfolding event_at
event_reads threads some few =
    reads_key ℕ Event (λ n. n < threads) (IsEvent threads) (λ n. one n ∷ []) event_fields (below_at threads)
    (λ thread bytes. reply_at bytes >>= λ r. Ok (record { thread = thread; reply = r.0 }, r.1))
    (λ e. e.thread) (λ e. reply_fields e.reply) (below_reads threads some few)
    (λ thread is_t. reads_key Reply Event IsReply (λ e. IsEvent threads e × (e.thread ≡ thread)) reply_fields (λ e. reply_fields e.reply) reply_at
    (λ r bytes. Ok (record { thread = thread; reply = r }, bytes))
    (λ e. e.reply) (λ e. []) reply_reads
    (λ r is_r. reads_nothing Event (λ e. (IsEvent threads e × (e.thread ≡ thread)) × (e.reply ≡ r)) (λ e. []) (record { thread = thread; reply = r })
    ((record { there = is_t; fits = is_r }, refl), refl) (λ e is. event_eq e thread r is.0.1 is.1) refl)
    (λ e is. is.0.fits) (λ e is. sym (append-nil (reply_fields e.reply)))
    (λ r is_r. (record { thread = thread; reply = r }, (record { there = is_t; fits = is_r }, refl), refl)))
    (λ e is. is.there) (λ e is. refl)
    (λ thread is_t. (record { thread = thread; reply = reply.Ran }, record { there = is_t; fits = tt }, refl))
