-- What the words of a command line ask for (docs/CLI.md, "Commands"). What `clap` makes of words
-- is told by its own definitions: `fault_of` are the kinds of error that it may give, none where it takes the words, and
-- `subcommand_of` is the command that they name, with the values of its arguments by their names.
use Rattle.std.specs.Prelude.{string_bytes, map, ◌≡◌, ◌≢◌, ◌≤◌, ◌⊎◌, ℕ, Bool, true, false, List, [], ◌∷◌, ◌++◌, Option, None, Some, codes, unwrap_or, IfSome, IsSomeAnd, MatchOption}
use Rattle.std.specs.List.{All, Contains}
use Rattle.clap.specs.Words.{Kinds, IsAmong, Row, Text, all_of, fault_of, first_of, one_of, subcommand_of}
use Rattle.clap.specs.declared.error.kind.ErrorKind.{ErrorKind}
use Rattle.clap.specs.declared.error.kind.ErrorKind.TheVariants.{DisplayHelp, DisplayVersion}
use Rattle.asl_command_line.specs.declared.command.Command.{Command}
use Rattle.asl_command_line.specs.declared.command.Command.TheVariants as command
use Rattle.asl_command_line.specs.declared.command.RunArguments.{RunArguments}
use Rattle.asl_command_line.specs.declared.command.Invocation.{Invocation}
use Rattle.asl_command_line.specs.declared.command.Invocation.TheVariants.{Alone, Run, Help, Version, WrongUsage}
use Rattle.asl_command_line.specs.declared.debug_word.DebugWord.{DebugWord}
use Rattle.asl_command_line.specs.declared.debug_word.DebugWord.TheVariants as word
use Rattle.asl_command_line.specs.declared.debug_word.Move.TheVariants as move
use Rattle.asl_command_line.specs.Number.{IsNumber, AreNumbers}
use Rattle.asl_command_line.specs.Arguments.{asl_app}
use Rattle.asl_command_line.specs.declared.extern_words.WhyNot.{WhyNot}
use Rattle.asl_command_line.specs.Externs.{AreExterns, IsWrongOf, why_text}
use Rattle.asl_command_line.specs.Names.{IsUnknown, is_name}
use Rattle.asl_command_line.specs.Pages.{IsPageOf}
use Rattle.asl_command_line.specs.Usage.{SaysWhereHelpIs, a_length, a_length_or_auto, a_name, a_number, a_word, invalid_text, usage_text}

-- ---- the values of arguments

-- the argument's value is this number
abbrev pub IsNumberAt : Text → List Row → ℕ → Type 0
IsNumberAt name rows number = IsSomeAnd (first_of name rows) (λ text. IsNumber text number)

-- the argument's value, and no text where it has none
abbrev pub value_at : Text → List Row → Text
value_at name rows = unwrap_or (first_of name rows) []

-- the words of the argument
abbrev pub words_at : Text → List Row → List Text
words_at name rows = unwrap_or (all_of name rows) []

-- the flag was given or not
pub record IsFlagAt (name : Text) (rows : List Row) (given : Bool) : Type 0 where
  pub yes : one_of name rows ≡ Some (codes "true") → given ≡ true
  pub no : one_of name rows ≡ Some (codes "false") → given ≡ false
  pub none : one_of name rows ≡ None → given ≡ false

-- how long paths may be: as `--k` says, and else 3
abbrev pub IsLengthAt : List Row → ℕ → Type 0
IsLengthAt rows k_limit = MatchOption (first_of (codes "k") rows) (k_limit ≡ 3) (λ text. IsNumber text k_limit)

-- how long paths may be: as `--k` says, and else 3; `auto` sets no limit
abbrev pub IsLimitAt : List Row → Option ℕ → Type 0
IsLimitAt rows None = first_of (codes "k") rows ≡ Some (codes "auto")
IsLimitAt rows (Some k_limit) = IsLengthAt rows k_limit

-- the values of `--entry`, which are names
abbrev pub AreEntriesAt : List Row → List Text → Type 0
AreEntriesAt rows entries = (entries ≡ words_at (codes "entry") rows) × All (λ entry. is_name entry ≡ true) entries

-- the words ask the debugger for this
abbrev pub IsDebugWord : List Text → DebugWord → Type 0
IsDebugWord words (word.Move (move.Goto k)) = (text : Text) × (words ≡ codes "goto" ∷ text ∷ []) × IsNumber text k
IsDebugWord words (word.Move move.Forward) = words ≡ codes "forward" ∷ []
IsDebugWord words (word.Move move.Back) = words ≡ codes "back" ∷ []
IsDebugWord words (word.Move move.Next) = words ≡ codes "next" ∷ []
IsDebugWord words (word.Move move.Previous) = words ≡ codes "prev" ∷ []
IsDebugWord words (word.Break pc) = (text : Text) × (words ≡ codes "break" ∷ text ∷ []) × IsNumber text pc
IsDebugWord words (word.Clear pc) = (text : Text) × (words ≡ codes "clear" ∷ text ∷ []) × IsNumber text pc
IsDebugWord words word.View = words ≡ codes "view" ∷ []
IsDebugWord words word.Asks = words ≡ codes "asks" ∷ []
IsDebugWord words word.Stack = words ≡ codes "stack" ∷ []
IsDebugWord words word.Objects = words ≡ codes "objects" ∷ []

-- the words ask the debugger for these, one after the other
abbrev pub AreDebugWords : List Text → List DebugWord → Type 0
AreDebugWords words [] = words ≡ []
AreDebugWords words (w ∷ ws) = (first : List Text) × (rest : List Text) × (words ≡ first ++ rest) × IsDebugWord first w × AreDebugWords rest ws

-- ---- commands

-- the command has this name and these values
abbrev pub IsCommand : Text → List Row → Command → Type 0
IsCommand name rows (command.Step threads schedule record_it) =
    (name ≡ codes "step") × IsNumberAt (codes "threads") rows threads × AreNumbers (words_at (codes "schedule") rows) schedule.items
    × IsFlagAt (codes "record") rows record_it
IsCommand name rows command.Assemble = name ≡ codes "asm"
IsCommand name rows command.Disassemble = name ≡ codes "dis"
IsCommand name rows (command.Compile k_limit text) =
    (name ≡ codes "compile") × IsLengthAt rows k_limit × IsFlagAt (codes "text") rows text
IsCommand name rows (command.Check k_limit all) =
    (name ≡ codes "check") × IsLengthAt rows k_limit × IsFlagAt (codes "all") rows all
IsCommand name rows command.Map = name ≡ codes "map"
IsCommand name rows (command.Explain k_limit all classes) =
    (name ≡ codes "explain") × IsLengthAt rows k_limit × IsFlagAt (codes "all") rows all × IsFlagAt (codes "classes") rows classes
IsCommand name rows (command.Lists k_limit entries) =
    (name ≡ codes "lists") × IsLimitAt rows k_limit × AreEntriesAt rows (map string_bytes entries.items)
IsCommand name rows (command.Diagnose assembly k_limit all) =
    (name ≡ codes "diagnose") × IsFlagAt (codes "asm") rows assembly × IsLengthAt rows k_limit × IsFlagAt (codes "all") rows all
    × (all ≡ true → assembly ≡ false)
IsCommand name rows (command.PrintC k_limit checks entries externs) =
    (name ≡ codes "c") × IsLimitAt rows k_limit × IsFlagAt (codes "check") rows checks × AreEntriesAt rows (map string_bytes entries.items)
    × AreExterns (words_at (codes "extern") rows) externs.items
IsCommand name rows command.Replay = name ≡ codes "replay"
IsCommand name rows (command.Log trace) = (name ≡ codes "log") × IsFlagAt (codes "trace") rows trace
IsCommand name rows (command.Debug words) = (name ≡ codes "debug") × AreDebugWords (words_at (codes "words") rows) words.items

-- the command is `run` with these values
pub record IsTeam (name : Text) (rows : List Row) (team : RunArguments) : Type 0 where
  pub name_is : name ≡ codes "run"
  pub threads : IsNumberAt (codes "threads") rows team.threads
  pub workers : IsNumberAt (codes "workers") rows team.workers
  pub limit : IsNumberAt (codes "limit") rows team.limit
  pub recorded : IsFlagAt (codes "record") rows team.record

-- ---- wrong use

-- the text names the argument's value, which is no number
pub record TellsNoNumber (name place : Text) (rows : List Row) (text : Text) : Type 0 where
  pub none : (number : ℕ) → IsNumberAt name rows number → ⊥
  pub text_is : text ≡ invalid_text (value_at name rows) place a_number

-- the text names one of the schedule's words, which is no number
pub record TellsNoSchedule (rows : List Row) (text : Text) : Type 0 where
  pub word : Text
  pub its : Contains (words_at (codes "schedule") rows) word
  pub none : (number : ℕ) → IsNumber word number → ⊥
  pub text_is : text ≡ invalid_text word (codes "<T>...") a_number

-- the text names the value of `--k`, which is no number, or one above 8
pub record TellsNoLength (rows : List Row) (text : Text) : Type 0 where
  pub none : (k_limit : ℕ) → k_limit ≤ 8 → IsLengthAt rows k_limit → ⊥
  pub text_is : text ≡ invalid_text (value_at (codes "k") rows) (codes "--k <K>") a_length

-- the text names the value of `--k`, which is no number, or one above 8, and not `auto`
pub record TellsNoLimit (rows : List Row) (text : Text) : Type 0 where
  pub none : (k_limit : Option ℕ) → IfSome k_limit (λ k. k ≤ 8) → IsLimitAt rows k_limit → ⊥
  pub text_is : text ≡ invalid_text (value_at (codes "k") rows) (codes "--k <K>") a_length_or_auto

-- the text names one of the values of `--entry`, which is no name
pub record TellsNoEntry (rows : List Row) (text : Text) : Type 0 where
  pub word : Text
  pub its : Contains (words_at (codes "entry") rows) word
  pub none : is_name word ≡ false
  pub text_is : text ≡ invalid_text word (codes "--entry <F>") a_name

-- the text names one of the values of `--extern`, and what is wrong with it
pub record TellsNoExtern (rows : List Row) (text : Text) : Type 0 where
  pub word : Text
  pub why : WhyNot
  pub wrong : IsWrongOf (words_at (codes "extern") rows) word why
  pub text_is : text ≡ invalid_text word (codes "--extern <F=NAME>") (why_text why)

-- `--all` and `--asm` are both given; the text says that they do not go together
pub record TellsNoSource (rows : List Row) (text : Text) : Type 0 where
  pub all : IsFlagAt (codes "all") rows true
  pub assembly : IsFlagAt (codes "asm") rows true
  pub text_is : text ≡ usage_text (codes "the argument '--all' cannot be used with '--asm'")

-- the word asks the debugger for nothing, alone and with another after it
pub record IsNoWord (name : Text) : Type 0 where
  pub alone : (asked : DebugWord) → IsDebugWord (name ∷ []) asked → ⊥
  pub followed : (asked : DebugWord) (next : Text) → IsDebugWord (name ∷ next ∷ []) asked → ⊥

-- a number stands after the word
abbrev pub TakesNumber : Text → Type 0
TakesNumber name = (name ≡ codes "goto") ⊎ ((name ≡ codes "break") ⊎ (name ≡ codes "clear"))

-- the words ask the debugger for something, or they are none
abbrev pub AskSomething : List Text → Type 0
AskSomething words = (asked : List DebugWord) × AreDebugWords words asked

-- the words ask the debugger for nothing, because of this word, which is no word of it: those before it ask for something
pub record IsNoWordOf (words : List Text) (word : Text) : Type 0 where
  pub front : List Text
  pub rest : List Text
  pub its : words ≡ front ++ word ∷ rest
  pub before : AskSomething front
  pub none : IsNoWord word

-- the words ask the debugger for nothing, because of this word, which is no number and stands where one must: those before the two ask for
-- something
pub record IsNoNumberOf (words : List Text) (word : Text) : Type 0 where
  pub front : List Text
  pub name : Text
  pub rest : List Text
  pub its : words ≡ front ++ name ∷ word ∷ rest
  pub before : AskSomething front
  pub takes : TakesNumber name
  pub none : (number : ℕ) → IsNumber word number → ⊥

-- the words ask the debugger for nothing, because the last of them wants a number after it: those before it ask for something
pub record LacksNumber (words : List Text) : Type 0 where
  pub front : List Text
  pub name : Text
  pub its : words ≡ front ++ name ∷ []
  pub before : AskSomething front
  pub takes : TakesNumber name

-- the words ask the debugger for nothing; the text names the first one that is no word of it or no number, or says that the last one wants
-- a number after it
abbrev pub TellsNoWord : List Text → Text → Type 0
TellsNoWord words text =
    ((word : Text) × IsNoWordOf words word × (text ≡ invalid_text word (codes "<WORD>...") a_word))
    ⊎ (((word : Text) × IsNoNumberOf words word × (text ≡ invalid_text word (codes "<WORD>...") a_number))
    ⊎ (LacksNumber words × (text ≡ usage_text (codes "a number is required after the last '<WORD>...'"))))

-- the words ask the debugger for nothing
abbrev pub AskNothing : List Row → Type 0
AskNothing rows = (words : List DebugWord) → AreDebugWords (words_at (codes "words") rows) words → ⊥

-- the command has this name, and one of its values is none, or two of its flags do not go together, as the text says
abbrev pub IsMisused : Text → List Row → Text → Type 0
IsMisused name rows text =
    ((name ≡ codes "step") × (TellsNoNumber (codes "threads") (codes "--threads <N>") rows text ⊎ TellsNoSchedule rows text))
    ⊎ ((((name ≡ codes "compile") ⊎ ((name ≡ codes "check") ⊎ ((name ≡ codes "explain") ⊎ (name ≡ codes "diagnose")))) × TellsNoLength rows text)
    ⊎ (((name ≡ codes "run") × (TellsNoNumber (codes "threads") (codes "--threads <N>") rows text
    ⊎ (TellsNoNumber (codes "workers") (codes "--workers <W>") rows text ⊎ TellsNoNumber (codes "limit") (codes "--limit <L>") rows text)))
    ⊎ (((name ≡ codes "debug") × AskNothing rows × TellsNoWord (words_at (codes "words") rows) text)
    ⊎ ((IsUnknown name × (text ≡ usage_text (codes "the command is unknown")))
    ⊎ ((((name ≡ codes "lists") ⊎ (name ≡ codes "c")) × (TellsNoLimit rows text ⊎ TellsNoEntry rows text))
    ⊎ (((name ≡ codes "c") × TellsNoExtern rows text)
    ⊎ ((name ≡ codes "diagnose") × TellsNoSource rows text)))))))

-- what the command of this name with these values asks for
abbrev pub IsReading : Text → List Row → Invocation → Type 0
IsReading name rows (Alone command) = IsCommand name rows command
IsReading name rows (Run team) = IsTeam name rows team
IsReading name rows (Help text) = ⊥
IsReading name rows Version = ⊥
IsReading name rows (WrongUsage text) = IsMisused name rows (string_bytes text)

-- ---- words

-- what words ask for that `clap` takes: what their command asks for
abbrev pub IsTaken : Option (Text × List Row) → Invocation → Type 0
IsTaken (Some named) invocation = IsReading named.0 named.1 invocation
IsTaken None (WrongUsage text) = string_bytes text ≡ usage_text (codes "'asl' requires a command but one was not provided")
IsTaken None invocation = ⊥

-- what words ask for that `clap` does not take: the page that they name, or the version, or else nothing that is legal, with a text that
-- ends by saying where help is
abbrev pub IsNotTaken : Kinds → List Text → Invocation → Type 0
IsNotTaken kinds words (Help page) = IsAmong DisplayHelp kinds × IsPageOf words page.now
IsNotTaken kinds words Version = IsAmong DisplayVersion kinds
IsNotTaken kinds words (WrongUsage text) =
    (kind : ErrorKind) × IsAmong kind kinds × (kind ≢ DisplayHelp) × (kind ≢ DisplayVersion) × SaysWhereHelpIs (string_bytes text)
IsNotTaken kinds words invocation = ⊥

-- what the words ask for: a command where `clap` takes them, help or the version where they ask for it
abbrev pub AsksFor : List Text → Invocation → Type 0
AsksFor words invocation =
    ((fault_of asl_app words ≡ []) × IsTaken (subcommand_of asl_app words) invocation)
    ⊎ IsNotTaken (fault_of asl_app words) words invocation
