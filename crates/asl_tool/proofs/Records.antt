-- The journal of a program over a schedule: there is one, and no other.
use Rattle.std.proofs.Common.{◌≡◌, ◌≢◌, ℕ, ◌<◌, ◌⊎◌, inl, inr, List, [], ◌∷◌, length, take, Result, Ok, Err, refl, ap, ap₂, ◌∙◌, sym, subst, arith}
use Rattle.std.specs.List.{AllByRecursion}
use Rattle.std.proofs.lemmas.Bool.{cases_lt}
use Rattle.std.proofs.lemmas.List.{take_all}
use Rattle.std.proofs.lemmas.List.Elements.{All-from_recursion, recursion_from_All, All-take}
use Rattle.asl_code.specs.Verified.{IsVerified}
use Rattle.asl_code.specs.Versions.{most_threads}
use Rattle.asl_code.specs.declared.image.Image.{Image}
use Rattle.asl_machine.specs.declared.reply.Reply.{Reply}
use Rattle.asl_machine.specs.State.{State}
use Rattle.asl_machine.specs.Run.{IsThreadCount, start_of}
use Rattle.asl_machine.specs.ComputedRun.{replies_of}
use Rattle.asl_machine.specs.StepFunction.{step_of}
use Rattle.asl_journal.specs.declared.event.Event.{Event}
use Rattle.asl_journal.specs.declared.fault.JournalFault.{JournalFault}
use Rattle.asl_journal.specs.declared.fault.JournalFault.TheVariants as journal
use Rattle.asl_journal.specs.Journal.{Log, schedule_of, replies_in, most_events}
use Rattle.asl_journal.proofs.ByTable.{goes_of, journal_of}
use Rattle.asl_tool.specs.Step.{AllThere, IsSchedule, IsRecord, IsRefusedRun}

-- ---- the journal

events_are_one : (es fs : List Event) → schedule_of es ≡ schedule_of fs → replies_in es ≡ replies_in fs → es ≡ fs
events_are_one [] [] a b = refl
events_are_one [] (f ∷ fs) a b = cc
events_are_one (e ∷ es) [] a b = cc
events_are_one (e ∷ es) (f ∷ fs) a b =
    let thread : e.thread ≡ f.thread = cc in
    let reply : e.reply ≡ f.reply = cc in
    let head : e ≡ f = ap₂ (λ (t : ℕ) (r : Reply). record { thread = t; reply = r }) thread reply in
    let schedules : schedule_of es ≡ schedule_of fs = cc in
    let replies : replies_in es ≡ replies_in fs = cc in
    ap₂ (λ (x : Event) (xs : List Event). x ∷ xs) head (events_are_one es fs schedules replies)

record_is_one : (image : Image) (n : ℕ) (schedule : List ℕ) (log other : Log) → IsRecord image n schedule log → IsRecord image n schedule other → log ≡ other
record_is_one image n schedule log other h k =
    let threads : log.threads ≡ other.threads = h.threads_are ∙ sym k.threads_are in
    let schedules = h.schedule_is ∙ sym k.schedule_is in
    let replies = goes_of image n log.events h.journal ∙ ap (replies_of image (start_of image n)) schedules ∙ sym (goes_of image n other.events k.journal) in
    ap₂ (λ (t : ℕ) (es : List Event). record { threads = t; events = es }) threads (events_are_one log.events other.events schedules replies)

-- the events of a run
made : Image → State → List ℕ → List Event
made image s [] = []
made image s (t ∷ ts) = record { thread = t; reply = (step_of image s t).reply } ∷ made image (step_of image s t).state ts

made_by : (image : Image) (s : State) (schedule : List ℕ) → schedule_of (made image s schedule) ≡ schedule
unfolding made
made_by image s [] = refl
made_by image s (t ∷ ts) = ap (λ (l : List ℕ). t ∷ l) (made_by image (step_of image s t).state ts)

made_replies : (image : Image) (s : State) (schedule : List ℕ) → replies_in (made image s schedule) ≡ replies_of image s schedule
unfolding made
made_replies image s [] = refl
made_replies image s (t ∷ ts) = ap (λ (l : List Reply). (step_of image s t).reply ∷ l) (made_replies image (step_of image s t).state ts)

made_there : (n : ℕ) (image : Image) (s : State) (schedule : List ℕ) → AllByRecursion (λ t. t < n) schedule → AllByRecursion (λ (e : Event). e.thread < n) (made image s schedule)
unfolding made
made_there n image s [] h = tt
made_there n image s (t ∷ ts) h = (h.0, made_there n image (step_of image s t).state ts h.1)

some_record : (image : Image) (n : ℕ) (schedule : List ℕ) → IsVerified image → IsThreadCount image n → AllThere n schedule → (log : Log) × IsRecord image n schedule log
some_record image n schedule verified count there =
    let start = start_of image n in (
      record { threads = n; events = made image start schedule },
      record {
        threads_are = refl;
        schedule_is = made_by image start schedule;
        journal = journal_of image n (made image start schedule) verified count
            (All-from_recursion (λ (e : Event). e.thread < n) (made image start schedule) (made_there n image start schedule (recursion_from_All (λ t. t < n) schedule there)))
            (made_replies image start schedule ∙ ap (replies_of image start) (sym (made_by image start schedule)));
      },
    )

-- ---- the schedule

counted : (image : Image) (n : ℕ) → IsThreadCount image n ⊎ (IsThreadCount image n → ⊥)
counted image n =
    elim (cases_lt 0 n) [
      | inl some ↦ elim (cases_lt (most_threads image.version) n) [
        | inl many ↦ inr (λ c. absurd (omega (arith, many, c.1)))
        | inr few ↦ inl (some, few)
      ]
      | inr none ↦ inr (λ c. absurd (omega (arith, none, c.0)))
    ]

recurs : (n : ℕ) (schedule : List ℕ) → AllByRecursion (λ t. t < n) schedule ⊎ (AllByRecursion (λ t. t < n) schedule → ⊥)
recurs n [] = inl tt
recurs n (t ∷ schedule) =
    elim (cases_lt t n) [
      | inl low ↦ elim (recurs n schedule) [
        | inl rest ↦ inl (low, rest)
        | inr missing ↦ inr (λ h. missing h.1)
      ]
      | inr high ↦ inr (λ h. absurd (omega (arith, high, h.0)))
    ]

there : (n : ℕ) (schedule : List ℕ) → AllThere n schedule ⊎ (AllThere n schedule → ⊥)
there n schedule =
    elim (recurs n schedule) [
      | inl each ↦ inl (All-from_recursion (λ t. t < n) schedule each)
      | inr missing ↦ inr (λ h. missing (recursion_from_All (λ t. t < n) schedule h))
    ]

-- what a schedule leads to: the journal of a legal one, or the refusal of a faulty one
abbrev pub RunOutcome : Image → ℕ → List ℕ → Result Log JournalFault → Type 0
RunOutcome image n schedule (Ok log) = IsSchedule image n schedule × IsRecord image n schedule log
RunOutcome image n schedule (Err f) = IsRefusedRun image n schedule f × (f ≢ journal.OutOfMemory)

-- a fault of a schedule, by its name
abbrev Named : Image → ℕ → List ℕ → JournalFault → Type 0
Named image n schedule f =
    ((f ≡ journal.BadCount) × (IsThreadCount image n → ⊥))
    ⊎ (((f ≡ journal.BadThread) × IsThreadCount image n × (AllThere n (take most_events schedule) → ⊥))
    ⊎ ((f ≡ journal.JournalFull) × IsThreadCount image n × AllThere n (take most_events schedule) × (most_events < length schedule)))

named : (image : Image) (n : ℕ) (schedule : List ℕ) (f : JournalFault) → IsRefusedRun image n schedule f → f ≢ journal.OutOfMemory → Named image n schedule f
named image n schedule journal.BadCount x tells = inl (refl, x)
named image n schedule journal.BadThread x tells = inr (inl (refl, x.0, x.1))
named image n schedule journal.JournalFull x tells = inr (inr (refl, x.0, x.1, x.2))
named image n schedule journal.OutOfMemory x tells = absurd (tells refl)
named image n schedule f x tells = absurd x

legal_is_none : (image : Image) (n : ℕ) (schedule : List ℕ) (f : JournalFault) → IsSchedule image n schedule → Named image n schedule f → ⊥
legal_is_none image n schedule f legal x =
    elim x [
      | inl count ↦ count.1 legal.count
      | inr others ↦ elim others [
        | inl stranger ↦ stranger.2 (All-take (λ t. t < n) most_events schedule legal.there)
        | inr long ↦ absurd (omega (arith, long.3, legal.short))
      ]
    ]

one_name : (image : Image) (n : ℕ) (schedule : List ℕ) (f g : JournalFault) → Named image n schedule f → Named image n schedule g → f ≡ g
one_name image n schedule f g x y =
    elim x [
      | inl a ↦ elim y [
        | inl b ↦ a.0 ∙ sym b.0
        | inr others ↦ elim others [
          | inl b ↦ absurd (a.1 b.1)
          | inr b ↦ absurd (a.1 b.1)
        ]
      ]
      | inr rest ↦ elim rest [
        | inl a ↦ elim y [
          | inl b ↦ absurd (b.1 a.1)
          | inr others ↦ elim others [
            | inl b ↦ a.0 ∙ sym b.0
            | inr b ↦ absurd (a.2 b.2)
          ]
        ]
        | inr a ↦ elim y [
          | inl b ↦ absurd (b.1 a.1)
          | inr others ↦ elim others [
            | inl b ↦ absurd (b.2 a.2)
            | inr b ↦ a.0 ∙ sym b.0
          ]
        ]
      ]
    ]

pub run_one : (image : Image) (n : ℕ) (schedule : List ℕ) (o p : Result Log JournalFault) → RunOutcome image n schedule o → RunOutcome image n schedule p → o ≡ p
run_one image n schedule (Ok a) (Ok b) x y = ap Ok (record_is_one image n schedule a b x.1 y.1)
run_one image n schedule (Ok a) (Err g) x y = absurd (legal_is_none image n schedule g x.0 (named image n schedule g y.0 y.1))
run_one image n schedule (Err f) (Ok b) x y = absurd (legal_is_none image n schedule f y.0 (named image n schedule f x.0 x.1))
run_one image n schedule (Err f) (Err g) x y = ap Err (one_name image n schedule f g (named image n schedule f x.0 x.1) (named image n schedule g y.0 y.1))

pub some_run : (image : Image) (n : ℕ) (schedule : List ℕ) → IsVerified image → (r : Result Log JournalFault) × RunOutcome image n schedule r
some_run image n schedule verified =
    elim (counted image n) [
      | inl count ↦ elim (there n (take most_events schedule)) [
        | inl each ↦ elim (cases_lt most_events (length schedule)) [
          | inl long ↦ (Err journal.JournalFull, ((count, each, long), λ e. cc))
          | inr short ↦
              (let all = subst (λ (l : List ℕ). AllThere n l) (take_all most_events schedule short) each in
              let r = some_record image n schedule verified count all in
              (Ok r.0, (record { count = count; short = short; there = all }, r.1)))
        ]
        | inr missing ↦ (Err journal.BadThread, ((count, missing), λ e. cc))
      ]
      | inr none ↦ (Err journal.BadCount, (none, λ e. cc))
    ]
