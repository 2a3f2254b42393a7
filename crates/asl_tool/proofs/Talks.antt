-- Words to a debugger have at most one answer: each move leads to one position, whatever list keeps the breakpoints.
use Rattle.std.proofs.Common.{◌≡◌, ◌==◌, ◌&&◌, ℕ, ◌<◌, inl, inr, Bool, true, false, IsTrue, if◌then◌else◌, List, [], ◌∷◌, ◌++◌, Option, None, Some, IsSomeAnd, refl, sym, ap, ap₂, subst, ◌∙◌, arith}
use Rattle.std.proofs.lemmas.Bool.{cases_lt}
use Rattle.asl_code.specs.declared.image.Image.{Image}
use Rattle.asl_machine.specs.State.{State, Activity, activity_at}
use Rattle.asl_machine.specs.View.{Configuration}
use Rattle.asl_journal.specs.Journal.{Log, IsJournal}
use Rattle.asl_debugger.specs.Breaks.{has_break, is_place, HasBreak, HasNoBreak}
use Rattle.asl_debugger.specs.Session.{Session, IsAtBreak, IsStop, IsNextStop, IsLastStop}
use Rattle.asl_debugger.proofs.ByTable.{shown_is}
use Rattle.asl_tool.specs.declared.commands.debug.Answer.{Answer}
use Rattle.asl_tool.specs.declared.commands.debug.Answer.TheVariants.{At, AtEnd, AtStart, NoSuchStep}
use Rattle.asl_command_line.specs.declared.debug_word.DebugWord.{DebugWord}
use Rattle.asl_command_line.specs.declared.debug_word.DebugWord.TheVariants as word
use Rattle.asl_command_line.specs.declared.debug_word.Move.{Move}
use Rattle.asl_command_line.specs.declared.debug_word.Move.TheVariants as step
use Rattle.asl_tool.specs.Debug.{IsAnswer, IsTalk, arrived, answer_text}
use Rattle.asl_show.specs.View.{view_text}
use Rattle.asl_show.specs.Asks.{asks_text}
use Rattle.asl_show.specs.Stack.{stack_text}
use Rattle.asl_show.specs.Objects.{objects_text}

-- the same places are breakpoints
abbrev Alike : List ℕ → List ℕ → Type 0
Alike bs cs = (place : ℕ) → has_break bs place ≡ has_break cs place

abbrev back : (bs cs : List ℕ) → Alike bs cs → Alike cs bs
back bs cs same place = sym (same place)

-- ---- stops

some_and : {X : Type 0} (o : Option X) (P Q : X → Type 0) → ((x : X) → P x → Q x) → IsSomeAnd o P → IsSomeAnd o Q
some_and None P Q f h = h
some_and (Some x) P Q f h = f x h

at_break : (bs cs : List ℕ) (s : State) (t : ℕ) → Alike bs cs → IsAtBreak bs s t → IsAtBreak cs s t
at_break bs cs s t same h =
    some_and (activity_at s.threads t) (λ (a : Activity). IsTrue (has_break bs a.top.pc)) (λ (a : Activity). IsTrue (has_break cs a.top.pc))
    (λ a is. subst IsTrue (same a.top.pc) is) h

-- a session of a journal
abbrev pub at : Image → Log → ℕ → List ℕ → Session
at image log p bs = record { image = image; log = log; position = p; breakpoints = bs }

stop_alike : (image : Image) (log : Log) (p q : ℕ) (bs cs : List ℕ) (k : ℕ) → Alike bs cs → IsStop (at image log p bs) k → IsStop (at image log q cs) k
stop_alike image log p q bs cs k same h = record { event = h.event; there = h.there; state = h.state; leads = h.leads; breaks = at_break bs cs h.state h.event.thread same h.breaks }

next_not_before : (image : Image) (log : Log) (p : ℕ) (bs cs : List ℕ) (k j : ℕ) → Alike bs cs → IsNextStop (at image log p bs) k → IsNextStop (at image log p cs) j → k < j → ⊥
next_not_before image log p bs cs k j same x y lt =
    elim x.stops [
      | inl stop ↦ y.none_between k x.later lt (stop_alike image log p p bs cs k same stop)
      | inr end ↦ absurd (omega (arith, end, lt, y.within))
    ]

last_not_before : (image : Image) (log : Log) (p : ℕ) (bs cs : List ℕ) (k j : ℕ) → Alike bs cs → IsLastStop (at image log p bs) k → IsLastStop (at image log p cs) j → k < j → ⊥
last_not_before image log p bs cs k j same x y lt =
    elim y.stops [
      | inl stop ↦ x.none_between j lt y.earlier (stop_alike image log p p cs bs j (back bs cs same) stop)
      | inr start ↦ absurd (omega (arith, start, lt))
    ]

one_of : (k j : ℕ) → (k < j → ⊥) → (j < k → ⊥) → k ≡ j
one_of k j low high =
    elim (cases_lt k j) [
      | inl lt ↦ absurd (low lt)
      | inr ge ↦ elim (cases_lt j k) [
        | inl gt ↦ absurd (high gt)
        | inr le ↦ (let same : k ≡ j = omega (arith, ge, le) in same)
      ]
    ]

next_one : (image : Image) (log : Log) (p : ℕ) (bs cs : List ℕ) (k j : ℕ) → Alike bs cs → IsNextStop (at image log p bs) k → IsNextStop (at image log p cs) j → k ≡ j
next_one image log p bs cs k j same x y =
    one_of k j (next_not_before image log p bs cs k j same x y) (next_not_before image log p cs bs j k (back bs cs same) y x)

last_one : (image : Image) (log : Log) (p : ℕ) (bs cs : List ℕ) (k j : ℕ) → Alike bs cs → IsLastStop (at image log p bs) k → IsLastStop (at image log p cs) j → k ≡ j
last_one image log p bs cs k j same x y =
    one_of k j (last_not_before image log p bs cs k j same x y) (last_not_before image log p cs bs j k (back bs cs same) y x)

-- ---- answers

answer_one : (image : Image) (log : Log) (p : ℕ) (bs cs : List ℕ) (m : Move) (a b : Answer) → Alike bs cs → IsAnswer (at image log p bs) m a → IsAnswer (at image log p cs) m b → a ≡ b
answer_one image log p bs cs (step.Goto k) (At i) (At j) same x y = ap At (x.1 ∙ sym y.1)
answer_one image log p bs cs (step.Goto k) (At i) NoSuchStep same x y = absurd (omega (arith, x.0, y))
answer_one image log p bs cs (step.Goto k) NoSuchStep (At j) same x y = absurd (omega (arith, x, y.0))
answer_one image log p bs cs (step.Goto k) NoSuchStep NoSuchStep same x y = refl
answer_one image log p bs cs step.Forward (At i) (At j) same x y = ap At (x.1 ∙ sym y.1)
answer_one image log p bs cs step.Forward (At i) AtEnd same x y = absurd (omega (arith, x.0, y))
answer_one image log p bs cs step.Forward AtEnd (At j) same x y = absurd (omega (arith, x, y.0))
answer_one image log p bs cs step.Forward AtEnd AtEnd same x y = refl
answer_one image log p bs cs step.Back (At i) (At j) same x y = ap At (let e : i ≡ j = omega (arith, x, y) in e)
answer_one image log p bs cs step.Back (At i) AtStart same x y = absurd (omega (arith, x, y))
answer_one image log p bs cs step.Back AtStart (At j) same x y = absurd (omega (arith, x, y))
answer_one image log p bs cs step.Back AtStart AtStart same x y = refl
answer_one image log p bs cs step.Next (At i) (At j) same x y = ap At (next_one image log p bs cs i j same x y)
answer_one image log p bs cs step.Next (At i) AtEnd same x y = absurd (omega (arith, x.later, x.within, y))
answer_one image log p bs cs step.Next AtEnd (At j) same x y = absurd (omega (arith, y.later, y.within, x))
answer_one image log p bs cs step.Next AtEnd AtEnd same x y = refl
answer_one image log p bs cs step.Previous (At i) (At j) same x y = ap At (last_one image log p bs cs i j same x y)
answer_one image log p bs cs step.Previous (At i) AtStart same x y = absurd (omega (arith, x.earlier, y))
answer_one image log p bs cs step.Previous AtStart (At j) same x y = absurd (omega (arith, y.earlier, x))
answer_one image log p bs cs step.Previous AtStart AtStart same x y = refl
answer_one image log p bs cs (step.Goto k) (At i) b same x y = absurd y
answer_one image log p bs cs (step.Goto k) NoSuchStep b same x y = absurd y
answer_one image log p bs cs step.Forward (At i) b same x y = absurd y
answer_one image log p bs cs step.Forward AtEnd b same x y = absurd y
answer_one image log p bs cs step.Back (At i) b same x y = absurd y
answer_one image log p bs cs step.Back AtStart b same x y = absurd y
answer_one image log p bs cs step.Next (At i) b same x y = absurd y
answer_one image log p bs cs step.Next AtEnd b same x y = absurd y
answer_one image log p bs cs step.Previous (At i) b same x y = absurd y
answer_one image log p bs cs step.Previous AtStart b same x y = absurd y
answer_one image log p bs cs m a b same x y = absurd x

-- ---- the words

-- where an answer leads
abbrev pub place_of : ℕ → Answer → ℕ
place_of p (At k) = k
place_of p answer = p

pub arrives : (image : Image) (log : Log) (p : ℕ) (bs : List ℕ) (a : Answer) → arrived (at image log p bs) a ≡ at image log (place_of p a) bs
arrives image log p bs (At k) = refl
arrives image log p bs AtEnd = refl
arrives image log p bs AtStart = refl
arrives image log p bs NoSuchStep = refl

broken_alike : (bs cs new other : List ℕ) (pc : ℕ) → Alike bs cs → HasBreak bs new pc → HasBreak cs other pc → Alike new other
broken_alike bs cs new other pc same x y place =
    x place ∙ ap (λ (b : Bool). if is_place pc && (pc == place) then true else b) (same place) ∙ sym (y place)

cleared_alike : (bs cs new other : List ℕ) (pc : ℕ) → Alike bs cs → HasNoBreak bs new pc → HasNoBreak cs other pc → Alike new other
cleared_alike bs cs new other pc same x y place =
    x place ∙ ap (λ (b : Bool). if pc == place then false else b) (same place) ∙ sym (y place)

pub talk_one : (image : Image) (log : Log) → IsJournal image log.threads log.events → (p : ℕ) (bs cs : List ℕ) (ws : List DebugWord) (x y : List ℕ) → Alike bs cs → IsTalk (at image log p bs) ws x → IsTalk (at image log p cs) ws y → x ≡ y
talk_one image log j p bs cs [] x y same h k = h ∙ sym k
talk_one image log j p bs cs (word.Move m ∷ ws) x y same h k =
    let a = h.3.0 in
    let b = k.3.0 in
    let one : a ≡ b = answer_one image log p bs cs m a b same h.3.1 k.3.1 in
    let left = subst (λ (s : Session). IsTalk s ws h.2) (h.3.2 ∙ arrives image log p bs a) h.4 in
    let right = subst (λ (s : Session). IsTalk s ws k.2) (k.3.2 ∙ arrives image log p cs b ∙ ap (λ (c : Answer). at image log (place_of p c) cs) (sym one)) k.4 in
    h.5 ∙ ap₂ (λ (u v : List ℕ). u ++ v) (h.3.3 ∙ ap answer_text one ∙ sym k.3.3) (talk_one image log j (place_of p a) bs cs ws h.2 k.2 same left right) ∙ sym k.5
talk_one image log j p bs cs (word.Break pc ∷ ws) x y same h k =
    let left = subst (λ (s : Session). IsTalk s ws h.2) h.3.0 h.4 in
    let right = subst (λ (s : Session). IsTalk s ws k.2) k.3.0 k.4 in
    h.5 ∙ ap₂ (λ (u v : List ℕ). u ++ v) (h.3.2 ∙ sym k.3.2) (talk_one image log j p h.0.breakpoints k.0.breakpoints ws h.2 k.2 (broken_alike bs cs h.0.breakpoints k.0.breakpoints pc same h.3.1 k.3.1) left right) ∙ sym k.5
talk_one image log j p bs cs (word.Clear pc ∷ ws) x y same h k =
    let left = subst (λ (s : Session). IsTalk s ws h.2) h.3.0 h.4 in
    let right = subst (λ (s : Session). IsTalk s ws k.2) k.3.0 k.4 in
    h.5 ∙ ap₂ (λ (u v : List ℕ). u ++ v) (h.3.2 ∙ sym k.3.2) (talk_one image log j p h.0.breakpoints k.0.breakpoints ws h.2 k.2 (cleared_alike bs cs h.0.breakpoints k.0.breakpoints pc same h.3.1 k.3.1) left right) ∙ sym k.5
talk_one image log j p bs cs (word.View ∷ ws) x y same h k =
    let left = subst (λ (s : Session). IsTalk s ws h.2) h.3.0 h.4 in
    let right = subst (λ (s : Session). IsTalk s ws k.2) k.3.0 k.4 in
    h.5 ∙ ap₂ (λ (u v : List ℕ). u ++ v) (h.3.3 ∙ ap (λ (m : Configuration). view_text m) (shown_is (at image log p bs) j h.3.1 h.3.2 ∙ sym (shown_is (at image log p cs) j k.3.1 k.3.2)) ∙ sym k.3.3) (talk_one image log j p bs cs ws h.2 k.2 same left right) ∙ sym k.5
talk_one image log j p bs cs (word.Asks ∷ ws) x y same h k =
    let left = subst (λ (s : Session). IsTalk s ws h.2) h.3.0 h.4 in
    let right = subst (λ (s : Session). IsTalk s ws k.2) k.3.0 k.4 in
    h.5 ∙ ap₂ (λ (u v : List ℕ). u ++ v) (h.3.3 ∙ ap (λ (m : Configuration). asks_text m) (shown_is (at image log p bs) j h.3.1 h.3.2 ∙ sym (shown_is (at image log p cs) j k.3.1 k.3.2)) ∙ sym k.3.3) (talk_one image log j p bs cs ws h.2 k.2 same left right) ∙ sym k.5
talk_one image log j p bs cs (word.Stack ∷ ws) x y same h k =
    let left = subst (λ (s : Session). IsTalk s ws h.2) h.3.0 h.4 in
    let right = subst (λ (s : Session). IsTalk s ws k.2) k.3.0 k.4 in
    h.5 ∙ ap₂ (λ (u v : List ℕ). u ++ v) (h.3.3 ∙ ap (λ (m : Configuration). stack_text m.state) (shown_is (at image log p bs) j h.3.1 h.3.2 ∙ sym (shown_is (at image log p cs) j k.3.1 k.3.2)) ∙ sym k.3.3) (talk_one image log j p bs cs ws h.2 k.2 same left right) ∙ sym k.5
talk_one image log j p bs cs (word.Objects ∷ ws) x y same h k =
    let left = subst (λ (s : Session). IsTalk s ws h.2) h.3.0 h.4 in
    let right = subst (λ (s : Session). IsTalk s ws k.2) k.3.0 k.4 in
    h.5 ∙ ap₂ (λ (u v : List ℕ). u ++ v) (h.3.3 ∙ ap (λ (m : Configuration). objects_text m.state) (shown_is (at image log p bs) j h.3.1 h.3.2 ∙ sym (shown_is (at image log p cs) j k.3.1 k.3.2)) ∙ sym k.3.3) (talk_one image log j p bs cs ws h.2 k.2 same left right) ∙ sym k.5
