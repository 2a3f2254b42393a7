-- How `clap` reads the words of `step`: after two words that are no flags it stands among the words of the schedule.
use Rattle.std.proofs.Common.{◌≡◌, ◌∙◌, ◌&&◌, true≢false, ◌++◌, ℕ, Bool, true, false, cond, List, [], ◌∷◌, length, Option, Some, None, refl, ap, ap₂, sym, subst, arith, codes, append-nil, append_assoc, nat_lt}
use Rattle.std.specs.List.{fold}
use Rattle.std.specs.Str.{bytes_eq}
use Rattle.std.proofs.lemmas.Bool.{le-ltb}
use Rattle.std.proofs.lemmas.Slice.Eq.{bytes_eq-Decides}
use Rattle.std.proofs.lemmas.List.{length-append}
use Rattle.std.proofs.lemmas.List.Sums.{fold-append}
use Rattle.clap.specs.Walk.{Held, Row, Text, Waiting, Walk, idle, option, positional, nothing_held, positional_held, pushed, settled, started, walk_from, walked}
use Rattle.clap.specs.Kinds.{or_else}
use Rattle.clap.specs.Faults.{turn_fault, walk_fault}
use Rattle.asl_command_line.specs.Apart.{IsPlain}
use Rattle.asl_command_line.proofs.Plain.{plain_met, no_dashes, no_long, no_short}
use Rattle.asl_command_line.proofs.StepRules.{schedule, step_rules, step_shape}
use Rattle.asl_command_line.proofs.WalkInvariant.{IsForThreads, Suits, Stands, at, as_at, all_stand}

-- ---- words that are no flags

-- no option waits for its value
abbrev IsFree : Waiting → Type 0
IsFree idle = Unit {0}
IsFree positional = Unit {0}
IsFree (option id) = ⊥

record IsReady (w : Walk) : Type 0 where
  position : w.position ≡ 1
  going : w.stopped ≡ None
  free : IsFree w.waiting

free_then : (b : Bool) (waiting : Waiting) → b ≡ false → IsFree (cond b waiting idle)
free_then true waiting e = cc
free_then false waiting e = tt

threads_full : (p : Option (Text × List Text)) (word : Text) → IsForThreads p
    → nat_lt (Rattle.clap.specs.Walk.pending_count Rattle.asl_command_line.proofs.StepRules.threads (Some ((started (codes "threads") p).0, (started (codes "threads") p).1 ++ word ∷ []))) 1 ≡ false
threads_full None word f = refl
threads_full (Some q) word f =
    rw f (le-ltb (length (q.1 ++ word ∷ [])) 1 (omega (arith, length-append q.1 (word ∷ []))))

-- after one such word no option waits for its value
one_plain : (h : Held) (waiting : Waiting) (trailing : Bool) (word : Text) → Suits waiting h.pending → IsPlain word
    → IsReady (walked step_rules [] (at h waiting trailing) word)
unfolding walked
one_plain h waiting true word s is = record { position = refl; going = refl; free = tt }
one_plain h idle false word s is = rw (plain_met step_rules idle 1 word h is) (record { position = refl; going = refl; free = tt })
one_plain h positional false word s is = rw (plain_met step_rules positional 1 word h is) (record { position = refl; going = refl; free = tt })
one_plain h (option id) false word s is =
    rw (plain_met step_rules (option id) 1 word h is, s.0)
    (record { position = refl; going = refl; free = free_then _ _ (threads_full h.pending word s.1) })

-- a walk among the words of the schedule, which are pending
abbrev pub scheduled : List Row → Text → List Text → ℕ → Bool → Walk
scheduled rows v vs skip trailing = at (record { rows = rows; pending = Some (codes "schedule", v ∷ vs); skip = skip }) positional trailing

abbrev pub IsScheduled : Walk → Type 0
IsScheduled w = (rows : List Row) × (v : Text) × (vs : List Text) × (skip : ℕ) × (trailing : Bool) × (w ≡ scheduled rows v vs skip trailing)

pending_more : (b : Bool) (rows : List Row) (id : Text) (values : List Text) (skip : ℕ) (trailing : Bool) (word : Text) → (b ≡ true → id ≡ codes "schedule")
    → IsScheduled (at (pushed (codes "schedule") word (cond b (record { rows = rows; pending = Some (id, values); skip = skip }) (settled step_rules (record { rows = rows; pending = Some (id, values); skip = skip })))) positional trailing)
pending_more true rows id [] skip trailing word is = (rows, word, [], skip, trailing, rw (is refl) refl)
pending_more true rows id (v ∷ vs) skip trailing word is = (rows, v, vs ++ word ∷ [], skip, trailing, rw (is refl) refl)
pending_more false rows id values skip trailing word is =
    ((settled step_rules (record { rows = rows; pending = Some (id, values); skip = skip })).rows, word, [], skip, trailing, refl)

same_text : (xs ys : List ℕ) (b : Bool) → bytes_eq xs ys ≡ b → b ≡ true → xs ≡ ys
same_text xs ys b is sure = grind (arith, bytes_eq-Decides xs ys, is, sure)

taken : (rows : List Row) (pending : Option (Text × List Text)) (skip : ℕ) (trailing : Bool) (word : Text)
    → IsScheduled (at (positional_held step_rules schedule word (record { rows = rows; pending = pending; skip = skip })) positional trailing)
taken rows None skip trailing word = (rows, word, [], skip, trailing, refl)
taken rows (Some p) skip trailing word =
    elim (bytes_eq p.0 (codes "schedule")) as (λ b. bytes_eq p.0 (codes "schedule") ≡ b
    → IsScheduled (at (pushed (codes "schedule") word (cond (b && true) (record { rows = rows; pending = Some p; skip = skip }) (settled step_rules (record { rows = rows; pending = Some p; skip = skip })))) positional trailing)) [
      | true ↦ λ e. pending_more true rows p.0 p.1 skip trailing word (λ yes. same_text p.0 (codes "schedule") true e refl)
      | false ↦ λ e. pending_more false rows p.0 p.1 skip trailing word (λ no. absurd (true≢false (sym no)))
    ] refl

-- after a second such word the walk is among the words of the schedule
two_plain : (w : Walk) (word : Text) → IsReady w → IsPlain word → IsScheduled (walked step_rules [] w word)
unfolding walked
two_plain w word ready is =
    subst (λ (v : Walk). IsScheduled (walked step_rules [] v word)) as_ready (ready_then w.held w.waiting w.is_trailing ready.free)
  where
    as_ready : at w.held w.waiting w.is_trailing ≡ w
    as_ready = λ i. record { held = w.held; waiting = w.waiting; position = sym ready.position i; is_trailing = w.is_trailing; stopped = sym ready.going i }

    ready_then : (h : Held) (waiting : Waiting) (trailing : Bool) → IsFree waiting → IsScheduled (walked step_rules [] (at h waiting trailing) word)
    ready_then h waiting true free = taken h.rows h.pending h.skip true word
    ready_then h idle false free = rw (plain_met step_rules idle 1 word h is) (taken h.rows h.pending h.skip false word)
    ready_then h positional false free = rw (plain_met step_rules positional 1 word h is) (taken h.rows h.pending h.skip false word)
    ready_then h (option id) false free = absurd free

-- where the walk stands after any words and two that are no flags
pub then_scheduled : (words : List Text) (first second : Text) → IsPlain first → IsPlain second
    → IsScheduled (fold (walked step_rules []) (walk_from nothing_held) (words ++ first ∷ second ∷ []))
then_scheduled words first second one two =
    subst IsScheduled (sym (fold-append (walked step_rules []) (walk_from nothing_held) words (first ∷ second ∷ [])))
    (let w = fold (walked step_rules []) (walk_from nothing_held) words in
    let s : Stands w = all_stand (walk_from nothing_held) words (record { position = refl; going = refl; suits = tt }) in
    let ready : IsReady (walked step_rules [] w first) =
    subst (λ (v : Walk). IsReady (walked step_rules [] v first)) (as_at w s) (one_plain w.held w.waiting w.is_trailing first s.suits one) in
    two_plain (walked step_rules [] w first) second ready two)

-- ---- more words of the schedule

-- each is no flag
abbrev pub ArePlain : List Text → Type 0
ArePlain [] = Unit {0}
ArePlain (word ∷ words) = IsPlain word × ArePlain words

more_plain : (rows : List Row) (v : Text) (vs : List Text) (skip : ℕ) (trailing : Bool) (word : Text) → IsPlain word
    → walked step_rules [] (scheduled rows v vs skip trailing) word ≡ scheduled rows v (vs ++ word ∷ []) skip trailing
unfolding walked
more_plain rows v vs skip true word is = refl
more_plain rows v vs skip false word is =
    rw (plain_met step_rules positional 1 word (record { rows = rows; pending = Some (codes "schedule", v ∷ vs); skip = skip }) is) refl

-- they join what is pending
pub all_plain : (rows : List Row) (v : Text) (vs : List Text) (skip : ℕ) (trailing : Bool) (words : List Text) → ArePlain words
    → fold (walked step_rules []) (scheduled rows v vs skip trailing) words ≡ scheduled rows v (vs ++ words) skip trailing
all_plain rows v vs skip trailing [] are = ap (λ xs. scheduled rows v xs skip trailing) (sym (append-nil vs))
all_plain rows v vs skip trailing (word ∷ words) are =
    ap (λ (w : Walk). fold (walked step_rules []) w words) (more_plain rows v vs skip trailing word are.0)
    ∙ all_plain rows v (vs ++ word ∷ []) skip trailing words are.1
    ∙ ap (λ xs. scheduled rows v xs skip trailing) (append_assoc vs (word ∷ []) words)

plain_turn : (rows : List Row) (v : Text) (vs : List Text) (skip : ℕ) (trailing : Bool) (word : Text) → IsPlain word
    → turn_fault step_shape [] (scheduled rows v vs skip trailing) word ≡ []
plain_turn rows v vs skip true word is = refl
plain_turn rows v vs skip false word is = rw (no_dashes word is, no_long word is, no_short word is) refl

-- none of them is refused
pub plain_faults : (rows : List Row) (v : Text) (vs : List Text) (skip : ℕ) (trailing : Bool) (words : List Text) → ArePlain words
    → walk_fault step_shape [] (scheduled rows v vs skip trailing) words ≡ []
unfolding walk_fault
plain_faults rows v vs skip trailing [] are = refl
plain_faults rows v vs skip trailing (word ∷ words) are =
    ap₂ or_else (plain_turn rows v vs skip trailing word are.0)
    (ap (λ (w : Walk). walk_fault step_shape [] w words) (more_plain rows v vs skip trailing word are.0)
    ∙ plain_faults rows v (vs ++ word ∷ []) skip trailing words are.1)
