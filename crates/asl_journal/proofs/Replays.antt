-- What a replay has followed so far, and where it stops: at an event that the machine does not make, or for want of memory.
use Rattle.std.proofs.Common.{◌≡◌, ◌≢◌, ℕ, ◌+◌, ◌<◌, ◌≤◌, List, [], ◌∷◌, ◌++◌, length, take, get_or, Result, Ok, Err, refl, sym, subst, ◌∙◌}
use Rattle.std.specs.Prelude.{IfErr, IfOk, OnOk}
use Rattle.std.proofs.lemmas.List.{take_more, take_all}
use Rattle.std.proofs.lemmas.Option.{slice_get-get_or}
use Rattle.asl_code.specs.declared.image.Image.{Image}
use Rattle.asl_code.specs.Verified.{IsVerified}
use Rattle.asl_machine.specs.declared.reply.Reply.{Reply}
use Rattle.asl_machine.specs.State.{State}
use Rattle.asl_machine.specs.View.{Configuration}
use Rattle.asl_machine.specs.Run.{IsThreadCount, start_of}
use Rattle.asl_machine.specs.WellFormed.{MayWantMemory}
use Rattle.asl_machine.specs.Step.{Step}
use Rattle.asl_journal.specs.declared.event.Event.{Event}
use Rattle.asl_journal.specs.declared.fault.JournalFault.{JournalFault}
use Rattle.asl_journal.specs.declared.fault.JournalFault.TheVariants as faults
use Rattle.asl_journal.specs.Journal.{Log, AreThere, LeadsFrom, LeadsTo, IsJournal}
use Rattle.asl_journal.specs.Replay.{DiffersFrom, IsFollowFault, IsReplayFault, MayStopAt}
use Rattle.asl_journal.proofs.ByTable.{runs_snoc}

-- the machine has made the steps of the first events, so many, and each replied as it says
pub record HasFollowed (from now : Configuration) (events : List Event) (index : ℕ) : Type 0 where
  pub image : now.image ≡ from.image
  pub leads : LeadsFrom from.image from.state (take index events) now.state
  pub count : length now.state.threads ≡ length from.state.threads

pub none_followed : (from : Configuration) (events : List Event) → HasFollowed from from events 0
none_followed from events = record { image = refl; leads = refl; count = refl }

pub one_followed : (from now new : Configuration) (events : List Event) (index : ℕ) (d : Event) (reply : Reply) → index < length events → HasFollowed from now events index
    → new.image ≡ now.image → Step now.image now.state (get_or events index d).thread reply new.state → length new.state.threads ≡ length now.state.threads → reply ≡ (get_or events index d).reply
    → HasFollowed from new events (index + 1)
one_followed from now new events index d reply lt h image step count same =
    let event : Event = get_or events index d in
    let more : take (index + 1) events ≡ take index events ++ event ∷ [] = take_more events index d lt in
    let here = subst (λ (r : Reply). Step from.image now.state event.thread r new.state) same (subst (λ (i : Image). Step i now.state event.thread reply new.state) h.image step) in
    record {
      image = image ∙ h.image;
      leads = subst (λ (es : List Event). LeadsFrom from.image from.state es new.state) (sym more) (runs_snoc from.image from.state (take index events) event now.state new.state h.leads here);
      count = count ∙ h.count;
    }

pub all_followed : (from now : Configuration) (events : List Event) (index : ℕ) → length events ≤ index → HasFollowed from now events index → LeadsFrom from.image from.state events now.state
all_followed from now events index le h = subst (λ (es : List Event). LeadsFrom from.image from.state es now.state) (take_all index events le) h.leads

pub one_differs : (from now : Configuration) (events : List Event) (index : ℕ) (d : Event) (reply : Reply) (new : State) → index < length events → HasFollowed from now events index
    → Step now.image now.state (get_or events index d).thread reply new → reply ≢ (get_or events index d).reply → DiffersFrom from.image from.state events index
one_differs from now events index d reply new lt h step other =
    let event : Event = get_or events index d in
    record {
      event = event;
      at = slice_get-get_or events index d lt;
      state = now.state;
      before = h.leads;
      reply = reply;
      new = new;
      step = subst (λ (i : Image). Step i now.state event.thread reply new) h.image step;
      differs = λ e. other (sym e);
    }

-- where the step of the next event may want memory
pub may_stop : (from now : Configuration) (events : List Event) (index : ℕ) (d : Event) → index < length events → HasFollowed from now events index
    → MayWantMemory now.image now.state (get_or events index d).thread → MayStopAt from.image from.state events index
may_stop from now events index d lt h wants =
    let event : Event = get_or events index d in
    record {
      event = event;
      at = slice_get-get_or events index d lt;
      state = now.state;
      before = h.leads;
      wants = subst (λ (i : Image). MayWantMemory i now.state event.thread) h.image wants;
    }

-- ---- from the start of a journal

-- what a machine that starts as a journal's has followed
module _ (image : Image) (log : Log) (verified : IsVerified image) (counted : IsThreadCount image log.threads) (there : AreThere log.threads log.events) (start : Configuration) (i : start.image ≡ image)
    (s : start.state ≡ start_of image log.threads) where
  leads_there : (end : State) → LeadsFrom start.image start.state log.events end → LeadsTo image log.threads log.events end
  leads_there end leads = record {
    counted = counted;
    runs = subst (λ (u : State). LeadsFrom image u log.events end) s (subst (λ (j : Image). LeadsFrom j start.state log.events end) i leads);
  }

  pub replayed_journal : (r : Result Configuration JournalFault) → IfOk r (λ behind. LeadsFrom start.image start.state log.events behind.state) → OnOk r (IsJournal image log.threads log.events)
  replayed_journal (Ok behind) leads = record { verified = verified; there = there; end = behind.state; leads = leads_there behind.state leads }
  replayed_journal (Err f) leads = tt

  pub replayed_leads : (r : Result Configuration JournalFault) → IfOk r (λ behind. LeadsFrom start.image start.state log.events behind.state) → IfOk r (λ behind. LeadsTo image log.threads log.events behind.state)
  replayed_leads (Ok behind) leads = leads_there behind.state leads
  replayed_leads (Err f) leads = tt

  pub replayed_refused : {T : Type 0} (r : Result T JournalFault) → IfErr r (IsFollowFault start.image start.state log.events) → IfErr r (IsReplayFault image log)
  replayed_refused (Ok x) is = tt
  replayed_refused (Err (faults.Differs index)) is =
      let d = subst (λ (u : State). DiffersFrom image u log.events index) s (subst (λ (j : Image). DiffersFrom j start.state log.events index) i is) in (
        counted.1,
        record {
          verified = verified;
          event = d.event;
          at = d.at;
          state = d.state;
          before = record { counted = counted; runs = d.before };
          reply = d.reply;
          new = d.new;
          step = d.step;
          differs = d.differs;
        },
      )
  replayed_refused (Err faults.OutOfMemory) is = (counted.1, tt)
  replayed_refused (Err f) is = absurd is
