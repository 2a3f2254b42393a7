-- Runs in two parts.
use Rattle.std.proofs.Common.{◌≡◌, ℕ, ◌<◌, List, [], ◌∷◌, ◌++◌, take, drop, refl, ap, ap₂, sym, subst, ◌∙◌}
use Rattle.std.proofs.lemmas.List.{take-append-drop}
use Rattle.std.proofs.lemmas.List.Elements.{All-take}
use Rattle.asl_code.specs.declared.image.Image.{Image}
use Rattle.asl_machine.specs.declared.reply.Reply.{Reply}
use Rattle.asl_machine.specs.State.{State}
use Rattle.asl_machine.specs.Run.{start_of}
use Rattle.asl_machine.specs.ComputedRun.{state_after}
use Rattle.asl_machine.specs.StepFunction.{step_of}
use Rattle.asl_machine.proofs.Runs.{state_after-append}
use Rattle.asl_journal.specs.declared.event.Event.{Event}
use Rattle.asl_journal.specs.Journal.{schedule_of, IsJournal, LeadsFrom}
use Rattle.asl_journal.specs.Computed.{GoesBy}
use Rattle.asl_journal.proofs.ByTable.{runs_parts}

pub schedule_append : (es fs : List Event) → schedule_of (es ++ fs) ≡ schedule_of es ++ schedule_of fs
schedule_append [] fs = refl
schedule_append (e ∷ es) fs = ap (λ (ts : List ℕ). e.thread ∷ ts) (schedule_append es fs)

-- the state after events in two parts
pub state_events : (image : Image) (s : State) (es fs : List Event) → state_after image s (schedule_of (es ++ fs)) ≡ state_after image (state_after image s (schedule_of es)) (schedule_of fs)
state_events image s es fs = ap (state_after image s) (schedule_append es fs) ∙ state_after-append image s (schedule_of es) (schedule_of fs)

-- the first event goes by its step, and the others by the run after it
pub goes_head : (image : Image) (s : State) (e : Event) (es : List Event) → GoesBy image s (e ∷ es) → e.reply ≡ (step_of image s e.thread).reply
goes_head image s e es h = cc

pub goes_tail : (image : Image) (s : State) (e : Event) (es : List Event) → GoesBy image s (e ∷ es) → GoesBy image (step_of image s e.thread).state es
goes_tail image s e es h = cc

pub goes_cons : (image : Image) (s : State) (e : Event) (es : List Event) → e.reply ≡ (step_of image s e.thread).reply → GoesBy image (step_of image s e.thread).state es → GoesBy image s (e ∷ es)
goes_cons image s e es h t = ap₂ (λ (r : Reply) (rs : List Reply). r ∷ rs) h t

pub goes_append : (image : Image) (s : State) (es fs : List Event) → GoesBy image s es → GoesBy image (state_after image s (schedule_of es)) fs → GoesBy image s (es ++ fs)
goes_append image s [] fs a b = b
goes_append image s (e ∷ es) fs a b = goes_cons image s e (es ++ fs) (goes_head image s e es a) (goes_append image (step_of image s e.thread).state es fs (goes_tail image s e es a) b)

pub goes_back : (image : Image) (s : State) (es fs : List Event) → GoesBy image s (es ++ fs) → GoesBy image (state_after image s (schedule_of es)) fs
goes_back image s [] fs h = h
goes_back image s (e ∷ es) fs h = goes_back image (step_of image s e.thread).state es fs (goes_tail image s e (es ++ fs) h)

-- one event more
pub state_snoc : (image : Image) (s : State) (es : List Event) (e : Event) → state_after image s (schedule_of (es ++ e ∷ [])) ≡ (step_of image (state_after image s (schedule_of es)) e.thread).state
state_snoc image s es e = state_events image s es (e ∷ [])

pub goes_snoc : (image : Image) (s : State) (es : List Event) (e : Event) → GoesBy image s es → e.reply ≡ (step_of image (state_after image s (schedule_of es)) e.thread).reply → GoesBy image s (es ++ e ∷ [])
goes_snoc image s es e a b = goes_append image s es (e ∷ []) a (goes_cons image (state_after image s (schedule_of es)) e [] b refl)

-- the first events of a journal are one
pub prefix_is_journal : (image : Image) (count k : ℕ) (events : List Event) → IsJournal image count events → IsJournal image count (take k events)
prefix_is_journal image count k events j =
    let whole = subst (λ (es : List Event). LeadsFrom image (start_of image count) es j.end) (sym (take-append-drop k events)) j.leads.runs in
    let front = runs_parts image (start_of image count) j.end (take k events) (drop k events) whole in
    record {
      verified = j.verified;
      there = All-take (λ (e : Event). e.thread < count) k events j.there;
      end = front.0;
      leads = record { counted = j.leads.counted; runs = front.1 };
    }
