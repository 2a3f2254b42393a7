-- Words that ask for `run` ask for nothing else.
use Rattle.std.proofs.Common.{◌≡◌, ◌∙◌, List, [], Option, None, Some, inl, inr, get_or, codes, ap, sym, subst, arith, lit<}
use Rattle.clap.specs.Words.{IsAmong, Kinds, Row, Text, fault_of, subcommand_of}
use Rattle.clap.specs.declared.error.kind.ErrorKind.TheVariants.{DisplayHelp, DisplayVersion}
use Rattle.asl_command_line.specs.declared.command.Command.{Command}
use Rattle.asl_command_line.specs.declared.command.Command.TheVariants as command
use Rattle.asl_command_line.specs.declared.command.RunArguments.{RunArguments}
use Rattle.asl_command_line.specs.declared.command.Invocation.{Invocation}
use Rattle.asl_command_line.specs.declared.command.Invocation.TheVariants.{Alone, Run, Help, Version, WrongUsage}
use Rattle.asl_command_line.specs.Arguments.{asl_app}
use Rattle.asl_command_line.specs.Words.{AsksFor, IsCommand, IsMisused, IsNotTaken, IsTaken, IsTeam}

-- it is `run`
abbrev pub IsRun : Invocation → Type 0
IsRun (Run team) = Unit {0}
IsRun i = ⊥

-- what stands second in a name that is `run`
second : (name other : Text) → name ≡ codes "run" → name ≡ other → get_or other 1 0 ≡ 117
second name other a b = ap (λ (t : Text). get_or t 1 0) (sym b ∙ a)

no_command : (name : Text) (rows : List Row) (c : Command) → name ≡ codes "run" → IsCommand name rows c → ⊥
no_command name rows (command.Step threads schedule record_it) e h = let n : 116 ≡ 117 = second name (codes "step") e h.0 in omega (arith, n)
no_command name rows command.Assemble e h = let n : 115 ≡ 117 = second name (codes "asm") e h in omega (arith, n)
no_command name rows command.Disassemble e h = let n : 105 ≡ 117 = second name (codes "dis") e h in omega (arith, n)
no_command name rows (command.Compile k_limit text) e h = let n : 111 ≡ 117 = second name (codes "compile") e h.0 in omega (arith, n)
no_command name rows (command.Check k_limit all) e h = let n : 104 ≡ 117 = second name (codes "check") e h.0 in omega (arith, n)
no_command name rows command.Map e h = let n : 97 ≡ 117 = second name (codes "map") e h in omega (arith, n)
no_command name rows (command.Explain k_limit all classes) e h = let n : 120 ≡ 117 = second name (codes "explain") e h.0 in omega (arith, n)
no_command name rows (command.Lists k_limit entries) e h = let n : 105 ≡ 117 = second name (codes "lists") e h.0 in omega (arith, n)
no_command name rows (command.Diagnose assembly k_limit all) e h = let n : 105 ≡ 117 = second name (codes "diagnose") e h.0 in omega (arith, n)
no_command name rows (command.PrintC k_limit checks entries externs) e h = let n : 0 ≡ 117 = second name (codes "c") e h.0 in omega (arith, n)
no_command name rows command.Replay e h = let n : 101 ≡ 117 = second name (codes "replay") e h in omega (arith, n)
no_command name rows (command.Log trace) e h = let n : 111 ≡ 117 = second name (codes "log") e h.0 in omega (arith, n)
no_command name rows (command.Debug words) e h = let n : 101 ≡ 117 = second name (codes "debug") e h.0 in omega (arith, n)

no_misuse : (name : Text) (rows : List Row) (team : RunArguments) (text : Text) → IsTeam name rows team → IsMisused name rows text → ⊥
no_misuse name rows team text t (inl h) = let n : 116 ≡ 117 = second name (codes "step") t.name_is h.0 in omega (arith, n)
no_misuse name rows team text t (inr (inl (inl e, h))) = let n : 111 ≡ 117 = second name (codes "compile") t.name_is e in omega (arith, n)
no_misuse name rows team text t (inr (inl (inr (inl e), h))) = let n : 104 ≡ 117 = second name (codes "check") t.name_is e in omega (arith, n)
no_misuse name rows team text t (inr (inl (inr (inr (inl e)), h))) = let n : 120 ≡ 117 = second name (codes "explain") t.name_is e in omega (arith, n)
no_misuse name rows team text t (inr (inl (inr (inr (inr e)), h))) = let n : 105 ≡ 117 = second name (codes "diagnose") t.name_is e in omega (arith, n)
no_misuse name rows team text t (inr (inr (inl (e, inl h)))) = h.none team.threads t.threads
no_misuse name rows team text t (inr (inr (inl (e, inr (inl h))))) = h.none team.workers t.workers
no_misuse name rows team text t (inr (inr (inl (e, inr (inr h))))) = h.none team.limit t.limit
no_misuse name rows team text t (inr (inr (inr (inl h)))) = let n : 101 ≡ 117 = second name (codes "debug") t.name_is h.0 in omega (arith, n)
no_misuse name rows team text t (inr (inr (inr (inr (inl h))))) = h.0 13 [] (lit< tt) t.name_is
no_misuse name rows team text t (inr (inr (inr (inr (inr (inl (inl e, h))))))) = let n : 105 ≡ 117 = second name (codes "lists") t.name_is e in omega (arith, n)
no_misuse name rows team text t (inr (inr (inr (inr (inr (inl (inr e, h))))))) = let n : 0 ≡ 117 = second name (codes "c") t.name_is e in omega (arith, n)
no_misuse name rows team text t (inr (inr (inr (inr (inr (inr (inl h))))))) = let n : 0 ≡ 117 = second name (codes "c") t.name_is h.0 in omega (arith, n)
no_misuse name rows team text t (inr (inr (inr (inr (inr (inr (inr h))))))) = let n : 105 ≡ 117 = second name (codes "diagnose") t.name_is h.0 in omega (arith, n)

run_taken : (o : Option (Text × List Row)) (team : RunArguments) (i : Invocation) → IsTaken o (Run team) → IsTaken o i → IsRun i
run_taken None team i t h = absurd t
run_taken (Some named) team (Alone c) t h = no_command named.0 named.1 c t.name_is h
run_taken (Some named) team (Run other) t h = tt
run_taken (Some named) team (Help page) t h = h
run_taken (Some named) team Version t h = h
run_taken (Some named) team (WrongUsage text) t h = no_misuse named.0 named.1 team _ t h

taken_is_taken : (kinds : Kinds) (words : List Text) (i : Invocation) → kinds ≡ [] → IsNotTaken kinds words i → ⊥
taken_is_taken kinds words (Alone c) none h = h
taken_is_taken kinds words (Run team) none h = h
taken_is_taken kinds words (Help page) none h = subst (IsAmong DisplayHelp) none h.0
taken_is_taken kinds words Version none h = subst (IsAmong DisplayVersion) none h
taken_is_taken kinds words (WrongUsage text) none h = subst (IsAmong h.0) none h.1

pub run_alone : (words : List Text) (team : RunArguments) (i : Invocation) → AsksFor words (Run team) → AsksFor words i → IsRun i
run_alone words team i (inr none) asks = absurd none
run_alone words team i (inl run) (inr none) = absurd (taken_is_taken (fault_of asl_app words) words i run.0 none)
run_alone words team i (inl run) (inl taken) = run_taken (subcommand_of asl_app words) team i run.1 taken.1
