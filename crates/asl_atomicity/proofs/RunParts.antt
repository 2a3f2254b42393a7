-- A run in two parts: what holds of the whole holds of both, and the other way round. The last step of a thread in a run can be
-- found, and a step that does not count leaves the state.
use Rattle.std.proofs.Common.{◌≡◌, ◌≢◌, ℕ, ◌<◌, ◌==◌, ◌⊎◌, ◌++◌, Bool, true, false, List, [], ◌∷◌, Option, Some, None, length, slice_get, refl, ap, sym, ◌∙◌, inl, inr}
use Rattle.std.specs.Prelude.{if◌then◌else◌}
use Rattle.std.proofs.lemmas.Bool.Decides.{eqb_tells}
use Rattle.std.proofs.lemmas.List.{append_assoc, append-nil}
use Rattle.asl_code.specs.declared.image.Image.{Image}
use Rattle.asl_code.specs.declared.instr.Instr.{Instr}
use Rattle.asl_code.specs.declared.instr.Instr.TheVariants as instr
use Rattle.asl_machine.specs.declared.reply.Reply.{Reply}
use Rattle.asl_machine.specs.declared.reply.Reply.TheVariants as reply
use Rattle.asl_machine.specs.State.{Thread, Running, Done, Failed, State}
use Rattle.asl_machine.specs.ComputedRun.{state_after}
use Rattle.asl_machine.specs.Step.{At, Line, StepOf}
use Rattle.asl_machine.specs.StepFunction.{step_of}
use Rattle.asl_machine.specs.WellFormed.{SatisfiesInvariant}
use Rattle.asl_machine.proofs.Reached.{step_count}
use Rattle.asl_machine.proofs.Table.{step_is}
use Rattle.asl_atomicity.specs.Serial.{heard, IsInside}
use Rattle.asl_atomicity.proofs.Computed.{told, AllCount, IsSerial}
use Rattle.asl_atomicity.proofs.Swapping.{AreOthers, Stands, CanSwap}
use Rattle.asl_atomicity.proofs.Moves.{others_stay, step_stands, inside_stays}

-- ---- runs in two parts

pub told_parts : (image : Image) (a b : List ℕ) (s : State) (x : ℕ) → told image s x (a ++ b) ≡ told image s x a ++ told image (state_after image s a) x b
told_parts image [] b s x = refl
told_parts image (t ∷ a) b s x =
    ap (λ z. (if t == x then heard (step_of image s t).reply else []) ++ z) (told_parts image a b (step_of image s t).state x)
    ∙ sym (append_assoc (if t == x then heard (step_of image s t).reply else []) _ _)

pub counts_split : (image : Image) (a b : List ℕ) (s : State) → AllCount image s (a ++ b) → AllCount image s a × AllCount image (state_after image s a) b
counts_split image [] b s c = (tt, c)
counts_split image (t ∷ a) b s c = let rest = counts_split image a b (step_of image s t).state c.1 in ((c.0, rest.0), rest.1)

pub counts_join : (image : Image) (a b : List ℕ) (s : State) → AllCount image s a → AllCount image (state_after image s a) b → AllCount image s (a ++ b)
counts_join image [] b s c d = d
counts_join image (t ∷ a) b s c d = (c.0, counts_join image a b (step_of image s t).state c.1 d)

abbrev pub last_of : Option ℕ → List ℕ → Option ℕ
last_of before [] = before
last_of before (t ∷ ts) = last_of (Some t) ts

pub last_end : (before : Option ℕ) (a : List ℕ) (t : ℕ) → last_of before (a ++ t ∷ []) ≡ Some t
last_end before [] t = refl
last_end before (u ∷ a) t = last_end (Some u) a t

pub serial_split : (image : Image) (a b : List ℕ) (s : State) (before : Option ℕ) → IsSerial image s before (a ++ b) → IsSerial image s before a × IsSerial image (state_after image s a) (last_of before a) b
serial_split image [] b s before c = (tt, c)
serial_split image (t ∷ a) b s before c = let rest = serial_split image a b (step_of image s t).state (Some t) c.1 in ((c.0, rest.0), rest.1)

pub serial_join : (image : Image) (a b : List ℕ) (s : State) (before : Option ℕ) → IsSerial image s before a → IsSerial image (state_after image s a) (last_of before a) b → IsSerial image s before (a ++ b)
serial_join image [] b s before c d = d
serial_join image (t ∷ a) b s before c d = (c.0, serial_join image a b (step_of image s t).state (Some t) c.1 d)

pub run_stands : (image : Image) (count : ℕ) (a : List ℕ) (s : State) → Stands image count s → Stands image count (state_after image s a)
run_stands image count [] s sound = sound
run_stands image count (t ∷ a) s sound = run_stands image count a (step_of image s t).state (step_stands image count s t sound)

pub run_length : (image : Image) (a : List ℕ) (s : State) → length (state_after image s a).threads ≡ length s.threads
run_length image [] s = refl
run_length image (t ∷ a) s = run_length image a (step_of image s t).state ∙ step_count image s t

pub stays : (image : Image) (t : ℕ) (us : List ℕ) (s : State) → AreOthers t us → slice_get (state_after image s us).threads t ≡ slice_get s.threads t
stays image t [] s others = refl
stays image t (u ∷ us) s others = stays image t us (step_of image s u).state others.1 ∙ others_stay image s u t (λ e. others.0 (sym e))

-- ---- the last step of a thread

pub record LastAt (t : ℕ) (ts : List ℕ) : Type 0 where
  pub front : List ℕ
  pub back : List ℕ
  pub is : ts ≡ (front ++ t ∷ []) ++ back
  pub others : AreOthers t back

pub find_last : (t : ℕ) (ts : List ℕ) → LastAt t ts ⊎ AreOthers t ts
find_last t [] = inr tt
find_last t (u ∷ us) = elim (find_last t us) [
  | inl at ↦ inl (record { front = u ∷ at.front; back = at.back; is = ap (λ z. u ∷ z) at.is; others = at.others })
  | inr none ↦ elim (eqb_tells u t) [
    | inl same ↦ inl (record { front = []; back = us; is = ap (λ z. z ∷ us) same.1; others = none })
    | inr other ↦ inr (other.1, none)
  ]
]

-- the moved step gives the same reply
pub moved_reply : (image : Image) (count : ℕ) → CanSwap image count → (t : ℕ) (us : List ℕ) (s : State) → Stands image count s → IsInside image s t → AreOthers t us → AllCount image s us
    → (step_of image (state_after image s us) t).reply ≡ (step_of image s t).reply
moved_reply image count swap t [] s sound i others counts = refl
moved_reply image count swap t (u ∷ us) s sound i others counts =
    moved_reply image count swap t us (step_of image s u).state (step_stands image count s u sound) (inside_stays image s u t others.0 i) others.1 counts.1
    ∙ (swap s u t sound others.0 counts.0 i).0

-- ---- steps that do not count

line_ended : (at : At) (i : Instr) (n : State) → Line at i reply.Ended n → ⊥
line_ended at instr.Release n h = h
line_ended at i n h = absurd h

line_blocked : (at : At) (i : Instr) (n : State) → Line at i reply.Blocked n → n ≡ at.state
line_blocked at (instr.Acquire list) n h = h.same
line_blocked at i n h = absurd h

unheard_line : (at : At) (i : Instr) (r : Reply) (n : State) → Line at i r n → heard r ≡ [] → n ≡ at.state
unheard_line at i reply.Blocked n h e = line_blocked at i n h
unheard_line at i reply.Ended n h e = absurd (line_ended at i n h)
unheard_line at i reply.Ran n h e = cc
unheard_line at i (reply.Out v) n h e = cc
unheard_line at i (reply.Fault f) n h e = cc

unheard_step : (image : Image) (s : State) (t : ℕ) (o : Option Thread) (r : Reply) (n : State) → StepOf image s t o r n → heard r ≡ [] → n ≡ s
unheard_step image s t None r n h e = absurd h
unheard_step image s t (Some (Running a)) r n h e = unheard_line (record { image = image; state = s; thread = t; activity = a }) h.0 r n h.2 e
unheard_step image s t (Some (Done v)) r n h e = h.1
unheard_step image s t (Some (Failed f)) r n h e = h.1

pub unheard : (image : Image) (s : State) (t : ℕ) → SatisfiesInvariant image s → t < length s.threads → heard (step_of image s t).reply ≡ [] → (step_of image s t).state ≡ s
unheard image s t sound there e = unheard_step image s t (slice_get s.threads t) (step_of image s t).reply (step_of image s t).state (step_is image s t sound there) e

pub tell_heard : (r : Reply) → (heard r ≡ []) ⊎ (heard r ≢ [])
tell_heard reply.Blocked = inl refl
tell_heard reply.Ended = inl refl
tell_heard reply.Ran = inr (λ e. cc)
tell_heard (reply.Out v) = inr (λ e. cc)
tell_heard (reply.Fault f) = inr (λ e. cc)

pub quiet : (b : Bool) (rs : List Reply) → rs ≡ [] → (if b then rs else []) ++ [] ≡ []
quiet true rs e = append-nil rs ∙ e
quiet false rs e = refl
