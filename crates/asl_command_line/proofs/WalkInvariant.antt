-- Where the walk of `clap` over words of `step` can stand: it has met no subcommand, and an option that waits for its value is
-- `--threads`. Each word keeps this.
use Rattle.std.proofs.Common.{◌≡◌, ◌==◌, ◌||◌, ℕ, zero, suc, Bool, true, false, cond, List, [], ◌∷◌, length, Option, Some, None, refl, sym, subst, codes}
use Rattle.std.specs.Prelude.{encode_utf8, slice_get, drop}
use Rattle.std.specs.List.{fold}
use Rattle.std.specs.Str.{bytes_eq, chars}
use Rattle.clap.specs.Lexer.{long_of, short_of}
use Rattle.clap.specs.Walk.{Held, Outcome, Step, Text, Waiting, Walk, done, waits, plain, refused, idle, option, positional, after_flag, after_step, arg_by_long, bundle, bundle_met, bundle_step, long_met, long_or_other, plain_word, settled, reacted, short_met, short_or_plain, started, walked, word_met}
use Rattle.asl_command_line.proofs.StepRules.{help, named, step_rules}

-- ---- where a walk over words of `step` stands

-- what is pending, if anything is, is the value of `--threads`
abbrev pub IsForThreads : Option (Text × List Text) → Type 0
IsForThreads None = Unit {0}
IsForThreads (Some p) = p.0 ≡ codes "threads"

-- where an option waits for its value, it is `--threads`
abbrev pub Suits : Waiting → Option (Text × List Text) → Type 0
Suits idle p = Unit {0}
Suits positional p = Unit {0}
Suits (option id) p = (id ≡ codes "threads") × IsForThreads p

pub record Stands (w : Walk) : Type 0 where
  pub position : w.position ≡ 1
  pub going : w.stopped ≡ None
  pub suits : Suits w.waiting w.held.pending

-- a walk that has met no subcommand
abbrev pub at : Held → Waiting → Bool → Walk
at h waiting trailing = record { held = h; waiting = waiting; position = 1; is_trailing = trailing; stopped = None }

-- ---- one more word

started_threads : (p : Option (Text × List Text)) → IsForThreads p → (started (codes "threads") p).0 ≡ codes "threads"
started_threads None f = refl
started_threads (Some q) f = f

suits_still : (b : Bool) (p : Option (Text × List Text)) → IsForThreads p → Suits (cond b (option (codes "threads")) idle) p
suits_still true p f = (refl, f)
suits_still false p f = tt

-- a word that is no flag, or is taken for none
plain_stands : (h now : Held) (waiting : Waiting) (trailing : Bool) (word : Text) → Suits waiting now.pending
    → Stands (after_step step_rules word (at h waiting trailing) (plain_word step_rules waiting word now).0 (plain_word step_rules waiting word now).1)
plain_stands h now idle trailing word s = record { position = refl; going = refl; suits = tt }
plain_stands h now positional trailing word s = record { position = refl; going = refl; suits = tt }
plain_stands h now (option id) trailing word s =
    rw s.0 (record { position = refl; going = refl; suits = suits_still _ _ (started_threads now.pending s.1) })

-- what a flag comes to
abbrev Turns : Waiting → Held → Outcome → Type 0
Turns waiting h done = Unit {0}
Turns waiting h (waits id) = (id ≡ codes "threads") × IsForThreads h.pending
Turns waiting h plain = Suits waiting h.pending
Turns waiting h refused = Suits waiting h.pending

flag_stands : (h now : Held) (waiting : Waiting) (trailing : Bool) (word : Text) (o : Outcome) → Turns waiting now o
    → Stands (after_step step_rules word (at h waiting trailing) (after_flag step_rules waiting word now o).0 (after_flag step_rules waiting word now o).1)
flag_stands h now waiting trailing word done t = record { position = refl; going = refl; suits = tt }
flag_stands h now waiting trailing word (waits id) t = record { position = refl; going = refl; suits = t }
flag_stands h now waiting trailing word plain t = plain_stands h now waiting trailing word t
flag_stands h now waiting trailing word refused t = plain_stands h now waiting trailing word t

named_turns : (t r h : Bool) (waiting : Waiting) (v : Option Text) (now : Held) → Suits waiting now.pending
    → Turns waiting (long_met step_rules (named t r h) v now).0 (long_met step_rules (named t r h) v now).1
named_turns true r h waiting (Some v) now s = tt
named_turns true r h waiting None now s = (refl, refl)
named_turns false true h waiting (Some v) now s = s
named_turns false true h waiting None now s = tt
named_turns false false true waiting (Some v) now s = s
named_turns false false true waiting None now s = tt
named_turns false false false waiting v now s = s

long_turns : (waiting : Waiting) (name : Text) (v : Option Text) (now : Held) → Suits waiting now.pending
    → Turns waiting (long_met step_rules (arg_by_long step_rules name) v now).0 (long_met step_rules (arg_by_long step_rules name) v now).1
long_turns waiting name v now s =
    named_turns (bytes_eq (codes "threads") name || false) (bytes_eq (codes "record") name || false) (bytes_eq (codes "help") name || false) waiting v now s

-- no option waits
abbrev IsSettled : Outcome → Type 0
IsSettled (waits id) = ⊥
IsSettled _ = Unit {0}

so_far_turns : (waiting : Waiting) (now : Held) (o : Outcome) → Suits waiting now.pending → IsSettled o → Turns waiting now o
so_far_turns waiting now done s settled = tt
so_far_turns waiting now (waits id) s settled = absurd settled
so_far_turns waiting now plain s settled = s
so_far_turns waiting now refused s settled = s

suits_none : (waiting : Waiting) (p : Option (Text × List Text)) → Suits waiting p → Suits waiting None
suits_none idle p s = tt
suits_none positional p s = tt
suits_none (option id) p s = (s.0, tt)

-- what the rest of a bundle comes to
abbrev RestTurns : Waiting → (Text → ℕ → Outcome → Held → Held × Outcome) → Type 0
RestTurns waiting next =
    (flags : Text) (skip : ℕ) (o : Outcome) (now : Held) → Suits waiting now.pending → IsSettled o → Turns waiting (next flags skip o now).0 (next flags skip o now).1

short_turns : (b : Bool) (waiting : Waiting) (rest : Text) (now : Held) (next : Text → ℕ → Outcome → Held → Held × Outcome) → RestTurns waiting next
    → Suits waiting now.pending
    → Turns waiting (short_met step_rules (cond b (Some help) None) rest now (next rest 0 done)).0 (short_met step_rules (cond b (Some help) None) rest now (next rest 0 done)).1
short_turns true waiting rest now next turns s = turns rest 0 done (reacted step_rules help [] now) (suits_none waiting now.pending s) tt
short_turns false waiting rest now next turns s = s

bundle_step_turns : (waiting : Waiting) (x : Option ℕ) (flags : Text) (skip : ℕ) (o : Outcome) (now : Held)
    (next : Text → ℕ → Outcome → Held → Held × Outcome) → RestTurns waiting next → Suits waiting now.pending → IsSettled o
    → Turns waiting (bundle_step step_rules x flags skip o now next).0 (bundle_step step_rules x flags skip o now next).1
bundle_step_turns waiting None flags skip o now next turns s settled = so_far_turns waiting now o s settled
bundle_step_turns waiting (Some x) flags zero o now next turns s settled =
    short_turns (104 == x || false) waiting (drop (length (encode_utf8 x)) flags) now next turns s
bundle_step_turns waiting (Some x) flags (suc skip) o now next turns s settled = turns (drop (length (encode_utf8 x)) flags) skip o now s settled

bundle_turns : (waiting : Waiting) (k : ℕ) → RestTurns waiting (bundle_met step_rules k)
unfolding bundle_met
bundle_turns waiting zero flags skip o now s settled = so_far_turns waiting now o s settled
bundle_turns waiting (suc k) flags skip o now s settled =
    bundle_step_turns waiting (slice_get (chars flags) 0) flags skip o now (bundle_met step_rules k) (bundle_turns waiting k) s settled

short_stands : (h : Held) (waiting : Waiting) (trailing : Bool) (word : Text) (flags : Option Text) → Suits waiting h.pending
    → Stands (after_step step_rules word (at h waiting trailing) (short_or_plain step_rules waiting word flags h).0 (short_or_plain step_rules waiting word flags h).1)
short_stands h waiting trailing word None s = plain_stands h h waiting trailing word s
short_stands h waiting trailing word (Some flags) s =
    flag_stands h (bundle step_rules flags h).0 waiting trailing word (bundle step_rules flags h).1
    (bundle_turns waiting (length flags) flags h.skip plain (record h { skip = 0 }) s tt)

long_stands : (h : Held) (waiting : Waiting) (trailing : Bool) (word : Text) (o : Option (Text × Option Text)) → Suits waiting h.pending
    → Stands (after_step step_rules word (at h waiting trailing) (long_or_other step_rules waiting word o h).0 (long_or_other step_rules waiting word o h).1)
long_stands h waiting trailing word None s = short_stands h waiting trailing word (short_of word) s
long_stands h waiting trailing word (Some p) s =
    flag_stands h (long_met step_rules (arg_by_long step_rules p.0) p.1 h).0 waiting trailing word (long_met step_rules (arg_by_long step_rules p.0) p.1 h).1
    (long_turns waiting p.0 p.1 h s)

-- what a word is where no subcommand has its name, by whether it is `--`
abbrev dashes_or_other : Bool → Waiting → Text → Held → Held × Step
dashes_or_other b waiting word h = cond b (h, Rattle.clap.specs.Walk.trailing 1) (long_or_other step_rules waiting word (long_of word) h)

dashes_stands : (b : Bool) (h : Held) (waiting : Waiting) (word : Text) → Suits waiting h.pending
    → Stands (after_step step_rules word (at h waiting false) (dashes_or_other b waiting word h).0 (dashes_or_other b waiting word h).1)
dashes_stands true h waiting word s = record { position = refl; going = refl; suits = s }
dashes_stands false h waiting word s = long_stands h waiting false word (long_of word) s

met_is : (waiting : Waiting) (word : Text) (h : Held) → word_met step_rules [] false waiting 1 word h ≡ dashes_or_other (bytes_eq word (45 ∷ 45 ∷ [])) waiting word h
met_is idle word h = refl
met_is (option id) word h = refl
met_is positional word h = refl

word_stands : (h : Held) (waiting : Waiting) (trailing : Bool) (word : Text) → Suits waiting h.pending → Stands (walked step_rules [] (at h waiting trailing) word)
unfolding walked
word_stands h waiting true word s = record { position = refl; going = refl; suits = tt }
word_stands h waiting false word s =
    rw (met_is waiting word h) (dashes_stands (bytes_eq word (45 ∷ 45 ∷ [])) h waiting word s)

-- a walk that stands, as one that has met no subcommand
pub as_at : (w : Walk) → Stands w → at w.held w.waiting w.is_trailing ≡ w
as_at w s = λ i. record { held = w.held; waiting = w.waiting; position = sym s.position i; is_trailing = w.is_trailing; stopped = sym s.going i }

pub all_stand : (w : Walk) (words : List Text) → Stands w → Stands (fold (walked step_rules []) w words)
all_stand w [] s = s
all_stand w (word ∷ words) s =
    all_stand (walked step_rules [] w word) words
    (subst (λ (v : Walk). Stands (walked step_rules [] v word)) (as_at w s) (word_stands w.held w.waiting w.is_trailing word s.suits))
