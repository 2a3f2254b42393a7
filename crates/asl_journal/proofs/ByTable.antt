-- Journals by the instruction table, and by the computed step.
use Rattle.std.proofs.Common.{◌≡◌, ℕ, ◌<◌, List, [], ◌∷◌, ◌++◌, length, refl, sym, subst}
use Rattle.std.proofs.lemmas.List.Elements.{All-map}
use Rattle.asl_code.specs.declared.image.Image.{Image}
use Rattle.asl_code.specs.Verified.{IsVerified}
use Rattle.asl_code.proofs.FitsLaws.{image_fits}
use Rattle.asl_machine.specs.declared.reply.Reply.{Reply}
use Rattle.asl_machine.specs.State.{State}
use Rattle.asl_machine.specs.Run.{IsThreadCount, IsReached, start_of, RunsBy}
use Rattle.asl_machine.specs.ComputedRun.{state_after}
use Rattle.asl_machine.specs.Step.{Step}
use Rattle.asl_machine.specs.WellFormed.{SatisfiesInvariant}
use Rattle.asl_machine.proofs.Starts.{start_sound, length-first_threads}
use Rattle.asl_machine.proofs.Reached.{reached_sound, reached_count}
use Rattle.asl_machine.proofs.TableRuns.{run_is, run_only, one_run, state_reached}
use Rattle.asl_journal.specs.declared.event.Event.{Event}
use Rattle.asl_journal.specs.Journal.{AreThere, LeadsFrom, LeadsTo, IsJournal, schedule_of, replies_in}
use Rattle.asl_journal.specs.Computed.{GoesBy, state_at}

-- ---- runs by the table in two parts

-- a run by the table, and one step more
pub runs_snoc : (image : Image) (s : State) (events : List Event) (event : Event) (end new : State) → LeadsFrom image s events end → Step image end event.thread event.reply new → LeadsFrom image s (events ++ event ∷ []) new
runs_snoc image s [] event end new e step = (new, subst (λ (u : State). Step image u event.thread event.reply new) e step, refl)
runs_snoc image s (e ∷ es) event end new runs step = (runs.0, runs.1, runs_snoc image runs.0 es event end new runs.2 step)

-- the first part of a run by the table leads somewhere, and the second goes on from there
pub runs_parts : (image : Image) (s end : State) (events others : List Event) → LeadsFrom image s (events ++ others) end → (u : State) × LeadsFrom image s events u × LeadsFrom image u others end
runs_parts image s end [] others runs = (s, refl, runs)
runs_parts image s end (e ∷ es) others runs =
    let rest = runs_parts image runs.0 end es others runs.2 in
    (rest.0, (runs.0, runs.1, rest.1), rest.2)

-- and two parts are a run
pub runs_append : (image : Image) (s u end : State) (events others : List Event) → LeadsFrom image s events u → LeadsFrom image u others end → LeadsFrom image s (events ++ others) end
runs_append image s u end [] others here there = subst (λ (v : State). LeadsFrom image v others end) here there
runs_append image s u end (e ∷ es) others here there = (here.0, here.1, runs_append image here.0 u end es others here.2 there)

-- ---- by the computed step

-- events that lead from a state to another have the computed replies, and lead to the computed state
pub run_computed : (image : Image) (s end : State) (events : List Event) → LeadsFrom image s events end → GoesBy image s events × (end ≡ state_after image s (schedule_of events))
run_computed image s end events leads = run_only image (schedule_of events) s (replies_in events) end leads

-- so they lead to one state at the most
pub one_end : (image : Image) (s end other : State) (events : List Event) → LeadsFrom image s events end → LeadsFrom image s events other → end ≡ other
one_end image s end other events one two = (one_run image s end other (schedule_of events) (replies_in events) (replies_in events) one two).1

-- and from a sound state events of threads that are there with the computed replies lead there
pub run_leads : (image : Image) (count : ℕ) (s : State) (events : List Event) → SatisfiesInvariant image s → length s.threads ≡ count → AreThere count events → GoesBy image s events → LeadsFrom image s events (state_after image s (schedule_of events))
run_leads image count s events sound threads there goes =
    let steps = All-map (λ (t : ℕ). t < count) (λ (event : Event). event.thread) events there in
    subst (λ (replies : List Reply). RunsBy image s (schedule_of events) replies (state_after image s (schedule_of events))) (sym goes) (run_is image count (schedule_of events) s sound threads steps)

-- each reached state is sound, so this holds of it
pub reached_leads : (image : Image) (count : ℕ) (s : State) (events : List Event) → IsVerified image → IsReached image count s → AreThere count events → GoesBy image s events → LeadsFrom image s events (state_after image s (schedule_of events))
reached_leads image count s events v reached there goes =
    run_leads image count s events (reached_sound image count s (image_fits image v) reached) (reached_count image count s reached) there goes

-- the replies of a journal are the computed ones
pub goes_of : (image : Image) (count : ℕ) (events : List Event) → IsJournal image count events → GoesBy image (start_of image count) events
goes_of image count events j = (run_computed image (start_of image count) j.end events j.leads.runs).0

-- and where they lead is the computed state
pub end_is : (image : Image) (count : ℕ) (events : List Event) (state : State) → LeadsTo image count events state → state ≡ state_at image count events
end_is image count events state leads = (run_computed image (start_of image count) state events leads.runs).1

pub leads_at : (image : Image) (count : ℕ) (events : List Event) → IsJournal image count events → LeadsTo image count events (state_at image count events)
leads_at image count events j = subst (LeadsTo image count events) (end_is image count events j.end j.leads) j.leads

-- the computed run of a schedule of threads that are there goes by the table
pub leads_of : (image : Image) (count : ℕ) (events : List Event) → IsVerified image → IsThreadCount image count → AreThere count events → GoesBy image (start_of image count) events →
    LeadsTo image count events (state_at image count events)
leads_of image count events v counted there goes = record {
  counted = counted;
  runs = run_leads image count (start_of image count) events (start_sound image count (image_fits image v)) (length-first_threads image count) there goes;
}

pub journal_of : (image : Image) (count : ℕ) (events : List Event) → IsVerified image → IsThreadCount image count → AreThere count events → GoesBy image (start_of image count) events → IsJournal image count events
journal_of image count events v counted there goes = record { verified = v; there = there; end = state_at image count events; leads = leads_of image count events v counted there goes }

-- the computed state after a schedule of threads that are there is reached
pub schedule_reached : (image : Image) (count : ℕ) (events : List Event) → IsVerified image → AreThere count events → IsReached image count (state_at image count events)
schedule_reached image count events v there = state_reached image count (schedule_of events) (image_fits image v) (All-map (λ (t : ℕ). t < count) (λ (event : Event). event.thread) events there)

-- and so is where a journal leads
pub lead_reached : (image : Image) (count : ℕ) (events : List Event) (state : State) → IsJournal image count events → LeadsTo image count events state → IsReached image count state
lead_reached image count events state j leads = record {
  schedule = schedule_of events;
  replies = replies_in events;
  threads_there = All-map (λ (t : ℕ). t < count) (λ (event : Event). event.thread) events j.there;
  leads = leads.runs;
}
