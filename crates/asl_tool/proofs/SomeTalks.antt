-- Words to a debugger have an answer: it is computed, word for word.
use Rattle.std.proofs.Common.{◌≡◌, ◌==◌, ◌&&◌, ℕ, zero, suc, ◌+◌, ◌-◌, ◌<◌, ◌≤◌, ◌⊎◌, inl, inr, Bool, true, false, IsTrue, if◌then◌else◌, List, [], ◌∷◌, ◌++◌, length, Option, None, Some, IsSomeAnd, refl, sym, subst, arith}
use Rattle.std.specs.Prelude.{slice_get, codes, filter, not, ◌||◌}
use Rattle.std.specs.Fmt.{decimal}
use Rattle.std.proofs.lemmas.Bool.{cases_lt, cases_eq}
use Rattle.asl_code.specs.declared.image.Image.{Image}
use Rattle.asl_machine.specs.State.{Activity, activity_at}
use Rattle.asl_journal.specs.declared.event.Event.{Event}
use Rattle.asl_journal.specs.Journal.{Log, IsJournal}
use Rattle.asl_debugger.specs.Breaks.{has_break, is_place, HasBreak}
use Rattle.asl_debugger.specs.Computed.{machine_before, state_before}
use Rattle.asl_debugger.specs.Session.{Session, IsAtBreak}
use Rattle.asl_debugger.specs.Halts.{IsHalt, IsNextHalt, IsLastHalt}
use Rattle.asl_debugger.proofs.Places.{without_place}
use Rattle.asl_debugger.proofs.ByTable.{is_shown, next_stop_of, last_stop_of}
use Rattle.asl_debugger.proofs.Halts.{IsSearching, searching_start, searching_next, found_next, IsNoneFrom, none_from_start, none_found}
use Rattle.asl_tool.specs.declared.commands.debug.Answer.{Answer}
use Rattle.asl_tool.specs.declared.commands.debug.Answer.TheVariants.{At, AtEnd, AtStart, NoSuchStep}
use Rattle.asl_command_line.specs.declared.debug_word.DebugWord.{DebugWord}
use Rattle.asl_command_line.specs.declared.debug_word.DebugWord.TheVariants as word
use Rattle.asl_command_line.specs.declared.debug_word.Move.{Move}
use Rattle.asl_command_line.specs.declared.debug_word.Move.TheVariants as step
use Rattle.asl_tool.specs.Debug.{IsAnswer, IsTalk, answer_text}
use Rattle.asl_show.specs.View.{view_text}
use Rattle.asl_show.specs.Asks.{asks_text}
use Rattle.asl_show.specs.Stack.{stack_text}
use Rattle.asl_show.specs.Objects.{objects_text}
use Rattle.asl_tool.proofs.Talks.{at, place_of, arrives}

-- ---- there is an answer

dec_some_and : {X : Type 0} (o : Option X) (P : X → Type 0) → ((x : X) → P x ⊎ (P x → ⊥)) → IsSomeAnd o P ⊎ (IsSomeAnd o P → ⊥)
dec_some_and None P f = inr (λ h. h)
dec_some_and (Some x) P f = f x

dec_true : (b : Bool) → IsTrue b ⊎ (IsTrue b → ⊥)
dec_true true = inl refl
dec_true false = inr (λ e. cc)

dec_stop : (s : Session) (k : ℕ) → IsHalt s k ⊎ (IsHalt s k → ⊥)
dec_stop s k =
    dec_some_and (slice_get s.log.events k) (λ (e : Event). IsAtBreak s.breakpoints (state_before s.image s.log k) e.thread)
    (λ e. dec_some_and (activity_at (state_before s.image s.log k).threads e.thread) (λ (a : Activity). IsTrue (has_break s.breakpoints a.top.pc)) (λ a. dec_true (has_break s.breakpoints a.top.pc)))

next_from : (s : Session) (gap k : ℕ) → k + gap ≡ length s.log.events → IsSearching s (machine_before s.image s.log k) k → (j : ℕ) × IsNextHalt s j
next_from s zero k e h = (k, found_next s (machine_before s.image s.log k) k h (inr (let end : k ≡ length s.log.events = omega (arith, e) in end)))
next_from s (suc gap) k e h =
    elim (dec_stop s k) [
      | inl stop ↦ (k, found_next s (machine_before s.image s.log k) k h (inl stop))
      | inr away ↦ next_from s gap (k + 1) (omega (arith, e)) (searching_next s (machine_before s.image s.log k) (machine_before s.image s.log (k + 1)) k (omega (arith, e)) h away refl)
    ]

some_next : (s : Session) → s.position < length s.log.events → (k : ℕ) × IsNextHalt s k
some_next s lt =
    let gap : (s.position + 1) + (length s.log.events - (s.position + 1)) ≡ length s.log.events = omega (arith, lt) in
    next_from s (length s.log.events - (s.position + 1)) (s.position + 1) gap (searching_start s (machine_before s.image s.log (s.position + 1)) lt refl)

last_from : (s : Session) (until : ℕ) → 0 < s.position → IsNoneFrom s until → (k : ℕ) × IsLastHalt s k
last_from s zero some h = (0, none_found s some h)
last_from s (suc until) some h =
    elim (dec_stop s until) [
      | inl stop ↦ (
        until,
        record {
          earlier = omega (arith, h.within);
          none_between = λ j low high. h.none_between j (omega (arith, low)) high;
          stops = inl stop;
        },
      )
      | inr away ↦ last_from s until some (record {
        within = omega (arith, h.within);
        none_between = λ j low high. elim (cases_lt j (suc until)) [
          | inl before ↦ (let same : until ≡ j = omega (arith, low, before) in subst (λ (n : ℕ). IsHalt s n → ⊥) same away)
          | inr past ↦ h.none_between j past high
        ];
      })
    ]

-- an answer, and the position to which it leads
abbrev SomeAnswer : Session → Move → Type 0
SomeAnswer s m = (a : Answer) × IsAnswer s m a × (place_of s.position a ≤ length s.log.events)

some_answer : (s : Session) (m : Move) → IsJournal s.image s.log.threads s.log.events → s.position ≤ length s.log.events → SomeAnswer s m
some_answer s (step.Goto k) j within =
    elim (cases_lt (length s.log.events) k) [
      | inl past ↦ (NoSuchStep, past, within)
      | inr there ↦ (At k, (there, refl), there)
    ]
some_answer s step.Forward j within =
    elim (cases_eq s.position (length s.log.events)) [
      | inl end ↦ (AtEnd, end, within)
      | inr more ↦ (let lt : s.position < length s.log.events = omega (arith, within, more) in (At (s.position + 1), (lt, refl), omega (arith, lt)))
    ]
some_answer s step.Back j within =
    elim (cases_eq s.position 0) [
      | inl start ↦ (AtStart, start, within)
      | inr more ↦ (At (s.position - 1), omega (arith, more), omega (arith, within))
    ]
some_answer s step.Next j within =
    elim (cases_eq s.position (length s.log.events)) [
      | inl end ↦ (AtEnd, end, within)
      | inr more ↦ (let k = some_next s (omega (arith, within, more)) in (At k.0, next_stop_of s j k.0 k.1, k.1.within))
    ]
some_answer s step.Previous j within =
    elim (cases_eq s.position 0) [
      | inl start ↦ (AtStart, start, within)
      | inr more ↦ (let k = last_from s s.position (omega (arith, more)) (none_from_start s) in (At k.0, last_stop_of s j k.0 k.1, omega (arith, k.1.earlier, within)))
    ]

abbrev break_text : ℕ → List ℕ
break_text pc = codes "break " ++ decimal pc ++ 10 ∷ []

abbrev clear_text : ℕ → List ℕ
clear_text pc = codes "clear " ++ decimal pc ++ 10 ∷ []

either : (b c : Bool) → (b || c) ≡ (if b then true else c)
either true c = refl
either false c = refl

abbrev without : ℕ → List ℕ → List ℕ
without pc places = filter (λ place. not (place == pc)) places

abbrev with_place : ℕ → List ℕ → List ℕ
with_place pc bs = if is_place pc then pc ∷ bs else bs

put_place : (pc : ℕ) (bs : List ℕ) → HasBreak bs (with_place pc bs) pc
put_place pc bs place = by (is_place pc)
  where
    by : (b : Bool) → has_break (if b then pc ∷ bs else bs) place ≡ (if b && (pc == place) then true else has_break bs place)
    by true = either (pc == place) (has_break bs place)
    by false = refl

pub some_talk : (image : Image) (log : Log) → IsJournal image log.threads log.events → (p : ℕ) (bs : List ℕ) (ws : List DebugWord) → p ≤ length log.events → (text : List ℕ) × IsTalk (at image log p bs) ws text
some_talk image log j p bs [] within = ([], refl)
some_talk image log j p bs (word.Move m ∷ ws) within =
    let a = some_answer (at image log p bs) m j within in
    let rest = some_talk image log j (place_of p a.0) bs ws a.2 in
    (answer_text a.0 ++ rest.0, (at image log (place_of p a.0) bs, answer_text a.0, rest.0, (a.0, a.1, sym (arrives image log p bs a.0), refl), rest.1, refl))
some_talk image log j p bs (word.Break pc ∷ ws) within =
    let rest = some_talk image log j p (with_place pc bs) ws within in
    (break_text pc ++ rest.0, (at image log p (with_place pc bs), break_text pc, rest.0, (refl, put_place pc bs, refl), rest.1, refl))
some_talk image log j p bs (word.Clear pc ∷ ws) within =
    let rest = some_talk image log j p (without pc bs) ws within in
    (clear_text pc ++ rest.0, (at image log p (without pc bs), clear_text pc, rest.0, (refl, (λ place. without_place pc place bs), refl), rest.1, refl))
some_talk image log j p bs (word.View ∷ ws) within =
    let rest = some_talk image log j p bs ws within in
    let shown = view_text (machine_before image log p) in
    (shown ++ rest.0, (at image log p bs, shown, rest.0, (refl, machine_before image log p, is_shown (at image log p bs) j (machine_before image log p) refl, refl), rest.1, refl))
some_talk image log j p bs (word.Asks ∷ ws) within =
    let rest = some_talk image log j p bs ws within in
    let shown = asks_text (machine_before image log p) in
    (shown ++ rest.0, (at image log p bs, shown, rest.0, (refl, machine_before image log p, is_shown (at image log p bs) j (machine_before image log p) refl, refl), rest.1, refl))
some_talk image log j p bs (word.Stack ∷ ws) within =
    let rest = some_talk image log j p bs ws within in
    let shown = stack_text (state_before image log p) in
    (shown ++ rest.0, (at image log p bs, shown, rest.0, (refl, machine_before image log p, is_shown (at image log p bs) j (machine_before image log p) refl, refl), rest.1, refl))
some_talk image log j p bs (word.Objects ∷ ws) within =
    let rest = some_talk image log j p bs ws within in
    let shown = objects_text (state_before image log p) in
    (shown ++ rest.0, (at image log p bs, shown, rest.0, (refl, machine_before image log p, is_shown (at image log p bs) j (machine_before image log p) refl, refl), rest.1, refl))
