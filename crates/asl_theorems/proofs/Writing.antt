-- In each state that a run leads to, integers fit 32 bits and objects have at most 255 cells. So what the machine replies can be
-- written, and a journal has bytes.
use Rattle.std.proofs.Common.{◌≡◌, ◌<◌, ◌≤◌, ℕ, zero, suc, List, [], ◌∷◌, Option, None, Some, length, map, slice_get, option_and_then, refl, ap, sym, subst, inl, inr, arith}
use Rattle.std.specs.Prelude.{pos}
use Rattle.std.specs.List.{AllByRecursion}
use Rattle.asl_code.specs.declared.image.Image.{Image}
use Rattle.asl_code.specs.declared.value.Value.{Value}
use Rattle.asl_code.specs.declared.value.Value.TheVariants.{Int}
use Rattle.asl_code.specs.Spelling.{IsInstr}
use Rattle.asl_machine.specs.declared.reply.Reply.{Reply}
use Rattle.asl_machine.specs.State.{Thread, Running, Done, Failed, State}
use Rattle.asl_machine.specs.Calls.{function_of}
use Rattle.asl_machine.specs.Step.{StepOf, Step}
use Rattle.asl_machine.specs.Run.{global_object, first_activity, first_threads, start_of}
use Rattle.asl_machine.specs.State.{activity_of}
use Rattle.asl_machine.specs.Run.{IsReached}
use Rattle.asl_machine.specs.WellFormed.{SatisfiesInvariant}
use Rattle.asl_machine.proofs.Reached.{reached_sound}
use Rattle.asl_machine.proofs.Runs.{start_reached, line_reached}
use Rattle.asl_code.specs.Fits.{FitsImage}
use Rattle.asl_code.proofs.FitsLaws.{image_fits}
use Rattle.asl_code.proofs.Versions.{few_threads}
use Rattle.asl_journal.specs.declared.event.Event.{Event}
use Rattle.asl_journal.specs.Bytes.{IsReply, IsEvent, HasBytes}
use Rattle.asl_journal.specs.Journal.{Log, AreThere, LeadsFrom, IsJournal, most_events}
use Rattle.std.proofs.lemmas.List.Elements.{All-head, All-tail}
use Rattle.asl_theorems.proofs.Surely.{get_last}
use Rattle.asl_theorems.proofs.FittingStates.{IntFits, AllFit, ThreadFits, ObjectFits, ObjectsFit, StateFits, small_fits, first_fits}
use Rattle.asl_theorems.proofs.FittingReplies.{Fine, line_fits}

all_at : {X : Type 0} (P : X → Type 0) (xs : List X) (k : ℕ) (x : X) → AllByRecursion P xs → slice_get xs k ≡ Some x → P x
all_at P [] k x all h = absurd (cc)
all_at P (y ∷ ys) zero x all h = let e : y ≡ x = cc in subst P e all.0
all_at P (y ∷ ys) (suc k) x all h = all_at P ys k x all.1 h

module _ (image : Image) (code : AllByRecursion IsInstr image.code) (fits : FitsImage image) (count : ℕ) where
  -- a step of a thread in a reached state
  step_fits : (s : State) (t : ℕ) (r : Reply) (new : State) → IsReached image count s → StateFits s → Step image s t r new → Fine r new
  step_fits s t r new reached v h = by_thread (slice_get s.threads t) refl h
    where
      sound : SatisfiesInvariant image s
      sound = reached_sound image count s fits reached

      by_thread : (o : Option Thread) → slice_get s.threads t ≡ o → StepOf image s t o r new → Fine r new
      by_thread None e k = absurd k
      by_thread (Some (Running a)) e k =
          line_fits (record { image = image; state = s; thread = t; activity = a }) v (v.threads t (Running a) e) sound.formed.objects.few
          (sound.formed.placed t a (ap (option_and_then activity_of) e)).points k.0 r new (all_at IsInstr image.code a.top.pc k.0 code k.1) k.2
      by_thread (Some (Done value)) e k = (subst IsReply (sym k.0) tt, subst StateFits (sym k.1) v)
      by_thread (Some (Failed f)) e k = (subst IsReply (sym k.0) tt, subst StateFits (sym k.1) v)

  pub events_fit : (events : List Event) (s end : State) → IsReached image count s → StateFits s → AreThere count events → LeadsFrom image s events end → AllByRecursion (IsEvent count) events
  events_fit [] s end reached v there leads = tt
  events_fit (e ∷ es) s end reached v there leads =
      let fine = step_fits s e.thread e.reply leads.0 reached v leads.1 in (
        record { there = All-head (λ (x : Event). x.thread < count) e es there; fits = fine.0 },
        events_fit es leads.0 end (line_reached image count s leads.0 e.thread e.reply reached leads.1) fine.1 (All-tail (λ (x : Event). x.thread < count) e es there) leads.2,
      )

  -- the state at the start: globals, and the thread's own number in its first register
  globals_fit : (globals : List ℕ) → ObjectsFit (map global_object globals)
  globals_fit [] k o h = absurd (cc)
  globals_fit (class ∷ globals) zero o h =
      let e : global_object class ≡ o = cc in
      subst ObjectFits e (record {
        cells = λ j v at. one_cell j v at;
        few = omega arith;
      })
    where
      one_cell : (j : ℕ) (v : Value) → slice_get (Int (pos 0) ∷ []) j ≡ Some v → IntFits v
      one_cell zero v at = let e : Int (pos 0) ≡ v = cc in subst IntFits e (small_fits 0 (omega arith))
      one_cell (suc j) v at = absurd (cc)
  globals_fit (class ∷ globals) (suc k) o h = globals_fit globals k o h

  own_number : (t : ℕ) → t < 256 → AllFit (Int (pos t) ∷ [])
  own_number t lt zero v h = let e : Int (pos t) ≡ v = cc in subst IntFits e (small_fits t lt)
  own_number t lt (suc k) v h = absurd (cc)

  first_fit : (n : ℕ) → n ≤ 256 → (t : ℕ) (thread : Thread) → slice_get (first_threads image n) t ≡ Some thread → ThreadFits thread
  first_fit zero le t thread h = absurd (cc)
  first_fit (suc n) le t thread h =
      elim (get_last (first_threads image n) (Running (first_activity image n)) t thread h) [
        | inl old ↦ first_fit n (omega (arith, le)) t thread old
        | inr new ↦ subst ThreadFits new.1 (record {
          top = first_fits (Int (pos n) ∷ []) (function_of image image.start).regs (own_number n (omega (arith, le)));
          below = tt;
        })
      ]

  pub start_fits : count ≤ 256 → StateFits (start_of image count)
  start_fits le = record { objects = globals_fit image.globals; threads = first_fit count le }

-- the bytes of a journal of a program that bytes spell
pub journal_bytes : (image : Image) (log : Log) → AllByRecursion IsInstr image.code → IsJournal image log.threads log.events → length log.events ≤ most_events → HasBytes log
journal_bytes image log code j short =
    let fits = image_fits image j.verified in
    let few = few_threads image.version in
    let counted = j.leads.counted in
    record {
      is_log = record { count = (counted.0, omega (arith, few, counted)); short = short; there = j.there };
      each = events_fit image code fits log.threads log.events (start_of image log.threads) j.end (start_reached image log.threads) (start_fits image code fits log.threads (omega (arith, few, counted))) j.there j.leads.runs;
    }
