-- The page that words show that ask for help (docs/CLI.md, "Commands"). The pages themselves are constants of the code.
use Rattle.std.specs.Prelude.{◌≡◌, ◌⊎◌, List, [], ◌∷◌, codes}
use Rattle.clap.specs.Words.{Text}
use Rattle.asl_command_line.specs.declared.help.TheConstants.{PROGRAM, ASM, DIS}
use Rattle.asl_command_line.specs.declared.compile_help.TheConstants.{COMPILE, CHECK, MAP, EXPLAIN, LISTS, DIAGNOSE, C}
use Rattle.asl_command_line.specs.declared.run_help.TheConstants.{STEP, RUN, REPLAY, LOG, DEBUG}
use Rattle.asl_command_line.specs.Names.{IsUnknown}

-- the text is the page of the command of this name, or, where no command has it, that of the program
abbrev pub IsPage : Text → Text → Type 0
IsPage name text =
    ((name ≡ codes "compile") × (text ≡ COMPILE.now))
    ⊎ (((name ≡ codes "check") × (text ≡ CHECK.now))
    ⊎ (((name ≡ codes "map") × (text ≡ MAP.now))
    ⊎ (((name ≡ codes "explain") × (text ≡ EXPLAIN.now))
    ⊎ (((name ≡ codes "lists") × (text ≡ LISTS.now))
    ⊎ (((name ≡ codes "diagnose") × (text ≡ DIAGNOSE.now))
    ⊎ (((name ≡ codes "c") × (text ≡ C.now))
    ⊎ (((name ≡ codes "asm") × (text ≡ ASM.now))
    ⊎ (((name ≡ codes "dis") × (text ≡ DIS.now))
    ⊎ (((name ≡ codes "step") × (text ≡ STEP.now))
    ⊎ (((name ≡ codes "run") × (text ≡ RUN.now))
    ⊎ (((name ≡ codes "replay") × (text ≡ REPLAY.now))
    ⊎ (((name ≡ codes "log") × (text ≡ LOG.now))
    ⊎ (((name ≡ codes "debug") × (text ≡ DEBUG.now))
    ⊎ (IsUnknown name × (text ≡ PROGRAM.now)))))))))))))))

-- the text is the page of the command that the first word names, or else that of the program
abbrev pub IsPageOf : List Text → Text → Type 0
IsPageOf [] text = text ≡ PROGRAM.now
IsPageOf (name ∷ words) text = IsPage name text
