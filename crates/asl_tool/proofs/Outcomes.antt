-- Each command has exactly one outcome, and what `log` prints of a recorded run is what `step` prints of it.
use Rattle.std.proofs.Common.{◌≡◌, ◌↔◌, ℕ, ◌<◌, inl, inr, List, [], arith, All, Bool, false, Result, Ok, Err, MatchResult, refl, sym, ap, ◌∙◌, subst}
use Rattle.std.proofs.lemmas.Bool.{cases_lt}
use Rattle.asl_code.specs.Verified.{IsVerified}
use Rattle.asl_code.specs.Versions.{most_threads}
use Rattle.asl_code.specs.declared.image.Image.{Image}
use Rattle.asl_assembler.specs.declared.assembly.AsmFault.{AsmFault}
use Rattle.asl_assembler.specs.declared.assembly.AsmFault.TheVariants as asm
use Rattle.asl_assembler.specs.Faults as text
use Rattle.asl_assembler.specs.Canonical.{canonical_text}
use Rattle.asl_loader.specs.declared.fault.LoadFault.{LoadFault}
use Rattle.asl_loader.specs.declared.fault.LoadFault.TheVariants as load
use Rattle.asl_loader.specs.Faults as bytes
use Rattle.asl_journal.specs.declared.fault.JournalFault.{JournalFault}
use Rattle.asl_journal.specs.declared.fault.JournalFault.TheVariants as journal
use Rattle.asl_journal.specs.Journal.{Log, IsJournal}
use Rattle.asl_journal.proofs.ByTable.{journal_of}
use Rattle.asl_journal.proofs.Differences.{differs_of}
use Rattle.asl_journal.specs.declared.run_file.FileFault.{FileFault}
use Rattle.asl_journal.specs.declared.run_file.FileFault.TheVariants as file
use Rattle.asl_journal.specs.RunFile.{IsFileOutcome}
use Rattle.asl_journal.proofs.RunFiles.{files_have_an_outcome, run_is_one}
use Rattle.asl_machine.specs.Run.{start_of}
use Rattle.asl_tool.specs.declared.input_program.ProgramFault.{ProgramFault}
use Rattle.asl_tool.specs.declared.input_program.ProgramFault.TheVariants as program
use Rattle.asl_command_line.specs.declared.command.Command.{Command}
use Rattle.asl_command_line.specs.declared.command.Command.TheVariants as command
use Rattle.asl_tool.specs.declared.command_fault.CommandFault.{CommandFault}
use Rattle.asl_tool.specs.declared.command_fault.CommandFault.TheVariants as fault
use Rattle.asl_tool.specs.Program.{BeginsAsImage, IsProgram}
use Rattle.asl_tool.specs.Step.{IsRecorded, IsStepped, written}
use Rattle.asl_command_line.specs.declared.debug_word.DebugWord.{DebugWord}
use Rattle.asl_tool.specs.Debug.{IsDebugged}
use Rattle.asl_tool.specs.Log.{IsLogged}
use Rattle.asl_tool.specs.Replay.{IsTold}
use Rattle.asl_tool.specs.Command.{IsAssembled, IsDisassembled, IsOutput, IsRefusedCommand, IsRefusedStep, IsRefusedText, IsRefusedImage, IsRefusedReplay}
use Rattle.asl_tool.proofs.Differences.{some_difference}
use Rattle.asl_tool.proofs.Records.{RunOutcome, some_run}
use Rattle.asl_tool.proofs.SomeTalks.{some_talk}
use Rattle.asl_tool.proofs.Traces.{log_text}
use Rattle.asl_tool.proofs.Stored.{stored}
use Rattle.asl_tool.specs.Outcome.{IsWantOfMemory, IsOutcome, IsSettled}
use Rattle.asl_tool.proofs.OneProgram.{TextsAreOne, TextsHaveOne, BytesHaveOne, BytesAreOne, begins, ProgramOutcome, from_bytes, from_text, as_text}
use Rattle.asl_tool.proofs.OneRun.{from_run, step_one, step_is, TextOf, replay_is, replays_one, log_told, told_log, same_of}
use Rattle.asl_tool.proofs.OneAnswer.{debug_is, debugs_one, text_is, text_one, image_is, image_one}

-- ---- each command

-- an outcome, by its two cases
abbrev Cases : Command → List ℕ → Result (List ℕ) CommandFault → Type 0
Cases c input o = MatchResult o (λ output. IsOutput c input output) (λ f. IsRefusedCommand c input f × (IsWantOfMemory f → ⊥))

cases : (c : Command) (input : List ℕ) (o : Result (List ℕ) CommandFault) → IsOutcome c input o → Cases c input o
cases c input (Ok output) x = x
cases c input (Err f) x = x

pub one_outcome : TextsAreOne → BytesAreOne → (c : Command) (input : List ℕ) (o p : Result (List ℕ) CommandFault) → IsSettled c → All (λ b. b < 256) input → IsOutcome c input o → IsOutcome c input p → o ≡ p
one_outcome texts bytes (command.Step n schedule record_it) input o p settled all x y =
    let c = command.Step n schedule record_it in
    step_one texts bytes n schedule.items record_it input o p all (step_is n schedule.items record_it input o (cases c input o x)) (step_is n schedule.items record_it input p (cases c input p y))
one_outcome texts bytes command.Assemble input o p settled all x y =
    text_one texts input o p (text_is input o (cases command.Assemble input o x)) (text_is input p (cases command.Assemble input p y))
one_outcome texts bytes command.Disassemble input o p settled all x y =
    image_one bytes input o p all (image_is input o (cases command.Disassemble input o x)) (image_is input p (cases command.Disassemble input p y))
one_outcome texts bytes (command.Compile k_limit as_text) input o p settled all x y = absurd settled
one_outcome texts bytes (command.Check k_limit all_lacks) input o p settled all x y = absurd settled
one_outcome texts bytes command.Map input o p settled all x y = absurd settled
one_outcome texts bytes (command.Explain k_limit all classes) input o p settled all_ x y = absurd settled
one_outcome texts bytes (command.Lists k_limit entries) input o p settled all_ x y = absurd settled
one_outcome texts bytes (command.Diagnose assembly k_limit all) input o p settled all_ x y = absurd settled
one_outcome texts bytes (command.PrintC k_limit checks entries externs) input o p settled all x y = absurd settled
one_outcome texts bytes command.Replay input o p settled all x y =
    replays_one same_of input o p all (replay_is same_of input o (cases command.Replay input o x)) (replay_is same_of input p (cases command.Replay input p y))
one_outcome texts bytes (command.Log trace) input o p settled all x y =
    let c = command.Log trace in
    replays_one (log_text trace) input o p all (replay_is (log_text trace) input o (log_told trace input o (cases c input o x))) (replay_is (log_text trace) input p (log_told trace input p (cases c input p y)))
one_outcome texts bytes (command.Debug words) input o p settled all x y =
    let c = command.Debug words in
    debugs_one words.items input o p all (debug_is words.items input o (cases c input o x)) (debug_is words.items input p (cases c input p y))

-- ---- there is one

want_image : (f : LoadFault) → IsWantOfMemory (fault.Program (program.Image f)) → f ≡ load.OutOfMemory
want_image load.OutOfMemory w = refl
want_image load.Magic w = absurd w
want_image load.Version w = absurd w
want_image (load.Truncated at) w = absurd w
want_image (load.BadField at) w = absurd w
want_image (load.Trailing at) w = absurd w
want_image (load.Verify cause) w = absurd w

want_text : (f : AsmFault) → IsWantOfMemory (fault.Program (program.Text f)) → f ≡ asm.OutOfMemory
want_text asm.OutOfMemory w = refl
want_text (asm.Line number) w = absurd w
want_text (asm.Verify cause) w = absurd w

want_journal : (f : JournalFault) → IsWantOfMemory (fault.Journal f) → f ≡ journal.OutOfMemory
want_journal journal.OutOfMemory w = refl
want_journal f w = absurd w

want_file : (f : FileFault) → IsWantOfMemory (fault.File f) → f ≡ file.OutOfMemory
want_file file.OutOfMemory w = refl
want_file f w = absurd w

by_bytes : (input : List ℕ) (r : Result Image LoadFault) → BeginsAsImage input → bytes.IsOutcome input r → ProgramOutcome input (from_bytes r)
by_bytes input (Ok image) y x = record { as_image = λ _. x; as_text = λ n. absurd (n y) }
by_bytes input (Err f) y x = ((y, x.0), λ w. x.1 (want_image f w))

by_text : (input : List ℕ) (r : Result Image AsmFault) → (BeginsAsImage input → ⊥) → text.IsOutcome input r → ProgramOutcome input (from_text r)
by_text input (Ok image) n x = record { as_image = λ y. absurd (n y); as_text = λ _. x }
by_text input (Err f) n x = ((n, x.0), λ w. x.1 (want_text f w))

some_program : TextsHaveOne → BytesHaveOne → (input : List ℕ) → All (λ b. b < 256) input → (q : Result Image ProgramFault) × ProgramOutcome input q
some_program texts bytes input all =
    elim (begins input) [
      | inl y ↦ (let r = bytes input all in (from_bytes r.0, by_bytes input r.0 y r.1))
      | inr n ↦ (let r = texts input in (from_text r.0, by_text input r.0 n r.1))
    ]

verified_program : (input : List ℕ) (image : Image) → IsProgram input image → IsVerified image
verified_program input image p = elim (begins input) [ inl y ↦ (p.as_image y).verified | inr n ↦ (p.as_text n).verified ]

-- what a run's outcome is to the command
step_run : (n : ℕ) (schedule : List ℕ) (record_it : Bool) (input : List ℕ) (image : Image) (r : Result Log JournalFault) → IsProgram input image → RunOutcome image n schedule r
    → MatchResult (from_run record_it image r) (λ output. IsStepped input n schedule record_it output) (λ f. IsRefusedStep input n schedule f × (IsWantOfMemory f → ⊥))
step_run n schedule record_it input image (Ok log) p x = record { image = image; log = log; program = p; legal = x.0; recorded = x.1; output_is = refl }
step_run n schedule record_it input image (Err f) p x = (record { image = image; program = p; refused = x.0 }, λ w. x.1 (want_journal f w))

some_step : (n : ℕ) (schedule : List ℕ) (record_it : Bool) (input : List ℕ) (q : Result Image ProgramFault) → ProgramOutcome input q
    → (o : Result (List ℕ) CommandFault) × MatchResult o (λ output. IsStepped input n schedule record_it output) (λ f. IsRefusedStep input n schedule f × (IsWantOfMemory f → ⊥))
some_step n schedule record_it input (Ok image) p = let r = some_run image n schedule (verified_program input image p) in (from_run record_it image r.0, step_run n schedule record_it input image r.0 p r.1)
some_step n schedule record_it input (Err f) p = (Err (fault.Program f), (p.0, p.1))

some_replay : (text_of : TextOf) (input : List ℕ) (q : Result (Image × Log) FileFault) → IsFileOutcome input q
    → (o : Result (List ℕ) CommandFault) × MatchResult o (λ output. IsTold text_of input output) (λ f. IsRefusedReplay input f × (IsWantOfMemory f → ⊥))
some_replay text_of input (Ok run) x =
    elim (cases_lt (most_threads run.0.version) run.1.threads) [
      | inl many ↦ (Err (fault.Journal journal.BadCount), (record { image = run.0; log = run.1; run = x; refused = many }, λ w. absurd w))
      | inr few ↦ elim (some_difference run.0 (start_of run.0 run.1.threads) run.1.events) [
        | inl goes ↦
            (Ok (text_of run.0 run.1), record { image = run.0; log = run.1; run = x; journal = journal_of run.0 run.1.threads run.1.events x.program.verified (x.journal.fits.is_log.count.0, few) x.journal.fits.is_log.there goes; output_is = refl })
        | inr d ↦ (Err (fault.Journal (journal.Differs d.0)), (record { image = run.0; log = run.1; run = x; refused = (few, differs_of run.0 run.1.threads run.1.events d.0 x.program.verified (x.journal.fits.is_log.count.0, few) x.journal.fits.is_log.there d.1) }, λ w. absurd w))
      ]
    ]
some_replay text_of input (Err f) x = (Err (fault.File f), (x.0, λ w. x.1 (want_file f w)))

some_debug : (words : List DebugWord) (input : List ℕ) (q : Result (Image × Log) FileFault) → IsFileOutcome input q
    → (o : Result (List ℕ) CommandFault) × MatchResult o (λ output. IsDebugged input words output) (λ f. IsRefusedReplay input f × (IsWantOfMemory f → ⊥))
some_debug words input (Ok run) x =
    elim (cases_lt (most_threads run.0.version) run.1.threads) [
      | inl many ↦ (Err (fault.Journal journal.BadCount), (record { image = run.0; log = run.1; run = x; refused = many }, λ w. absurd w))
      | inr few ↦ elim (some_difference run.0 (start_of run.0 run.1.threads) run.1.events) [
        | inl goes ↦
            (let own = journal_of run.0 run.1.threads run.1.events x.program.verified (x.journal.fits.is_log.count.0, few) x.journal.fits.is_log.there goes in
            let talk = some_talk run.0 run.1 own 0 [] words (omega arith) in
            (Ok talk.0, record { image = run.0; log = run.1; run = x; journal = own; talk = talk.1 }))
        | inr d ↦ (Err (fault.Journal (journal.Differs d.0)), (record { image = run.0; log = run.1; run = x; refused = (few, differs_of run.0 run.1.threads run.1.events d.0 x.program.verified (x.journal.fits.is_log.count.0, few) x.journal.fits.is_log.there d.1) }, λ w. absurd w))
      ]
    ]
some_debug words input (Err f) x = (Err (fault.File f), (x.0, λ w. x.1 (want_file f w)))

some_image : (input : List ℕ) (r : Result Image AsmFault) → text.IsOutcome input r
    → (o : Result (List ℕ) CommandFault) × MatchResult o (λ output. IsAssembled input output) (λ f. IsRefusedText input f × (IsWantOfMemory f → ⊥))
some_image input (Ok image) x =
    let b = stored input image x.spelled x.verified in
    (Ok b.0, record { image = image; program = x; spelled = b.1 })
some_image input (Err f) x = (Err (fault.Program (program.Text f)), (x.0, λ w. x.1 (want_text f w)))

some_text : (input : List ℕ) (r : Result Image LoadFault) → bytes.IsOutcome input r
    → (o : Result (List ℕ) CommandFault) × MatchResult o (λ output. IsDisassembled input output) (λ f. IsRefusedImage input f × (IsWantOfMemory f → ⊥))
some_text input (Ok image) x = (Ok (canonical_text image), record { image = image; program = x; canonical = refl })
some_text input (Err f) x = (Err (fault.Program (program.Image f)), (x.0, λ w. x.1 (want_image f w)))

uncased : (c : Command) (input : List ℕ) (o : Result (List ℕ) CommandFault) → Cases c input o → IsOutcome c input o
uncased c input (Ok output) x = x
uncased c input (Err f) x = x

pub some_outcome : TextsHaveOne → BytesHaveOne → (c : Command) (input : List ℕ) → IsSettled c → All (λ b. b < 256) input → (o : Result (List ℕ) CommandFault) × IsOutcome c input o
some_outcome texts bytes (command.Step n schedule record_it) input settled all =
    let q = some_program texts bytes input all in
    let o = some_step n schedule.items record_it input q.0 q.1 in
    (o.0, uncased (command.Step n schedule record_it) input o.0 o.1)
some_outcome texts bytes command.Assemble input settled all =
    let r = texts input in
    let o = some_image input r.0 r.1 in
    (o.0, uncased command.Assemble input o.0 o.1)
some_outcome texts bytes command.Disassemble input settled all =
    let r = bytes input all in
    let o = some_text input r.0 r.1 in
    (o.0, uncased command.Disassemble input o.0 o.1)
some_outcome texts bytes command.Replay input settled all =
    let q = files_have_an_outcome input all in
    let o = some_replay same_of input q.0 q.1 in
    (o.0, uncased command.Replay input o.0 o.1)
some_outcome texts bytes (command.Log trace) input settled all =
    let q = files_have_an_outcome input all in
    let o = some_replay (log_text trace) input q.0 q.1 in
    (o.0, uncased (command.Log trace) input o.0 (told_log trace input o.0 o.1))
some_outcome texts bytes (command.Debug words) input settled all =
    let q = files_have_an_outcome input all in
    let o = some_debug words.items input q.0 q.1 in
    (o.0, uncased (command.Debug words) input o.0 o.1)
some_outcome texts bytes (command.Compile k_limit as_text) input settled all = absurd settled
some_outcome texts bytes (command.Check k_limit all_lacks) input settled all = absurd settled
some_outcome texts bytes command.Map input settled all = absurd settled
some_outcome texts bytes (command.Explain k_limit all classes) input settled all_ = absurd settled
some_outcome texts bytes (command.Lists k_limit entries) input settled all_ = absurd settled
some_outcome texts bytes (command.Diagnose assembly k_limit all) input settled all_ = absurd settled
some_outcome texts bytes (command.PrintC k_limit checks entries externs) input settled all = absurd settled

-- ---- `log` after `step --record`

ok_same : (x y : List ℕ) → ◌≡◌ {A = Result (List ℕ) CommandFault} (Ok x) (Ok y) → x ≡ y
ok_same x y e = cc

-- the lines of the journal of the input over the schedule
record_lines : (input file : List ℕ) (n : ℕ) (schedule : List ℕ) (r : IsRecorded input n schedule file) → IsStepped input n schedule false (written false r.image r.log)
record_lines input file n schedule r = record { image = r.image; log = r.log; program = r.program; legal = r.legal; recorded = r.recorded; output_is = refl }

pub log_is_step : TextsAreOne → BytesAreOne → (input file output : List ℕ) (n : ℕ) (schedule : List ℕ) → All (λ b. b < 256) input → IsRecorded input n schedule file
    → (IsLogged file false output ↔ IsStepped input n schedule false output)
log_is_step texts bytes input file output n schedule all r = (there, back)
  where
    there : IsLogged file false output → IsStepped input n schedule false output
    there l =
        let same = run_is_one r.image l.image r.log l.log file r.spelled l.run in
        record { image = r.image; log = r.log; program = r.program; legal = r.legal; recorded = r.recorded; output_is = l.lines ∙ ap (λ (g : Log). written false r.image g) (sym same.1) }

    back : IsStepped input n schedule false output → IsLogged file false output
    back s =
        let one = step_one texts bytes n schedule false input (Ok (written false r.image r.log)) (Ok output) all
        (step_is n schedule false input (Ok (written false r.image r.log)) (record_lines input file n schedule r)) (step_is n schedule false input (Ok output) s) in
        record {
          image = r.image;
          log = r.log;
          run = r.spelled;
          journal = subst (λ (k : ℕ). IsJournal r.image k r.log.events) (sym r.recorded.threads_are) r.recorded.journal;
          lines = sym (ok_same (written false r.image r.log) output one);
        }
