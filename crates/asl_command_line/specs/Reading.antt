-- Machinery of the proofs, not of the promise: what private functions answer (src/number_words.rt, src/reading.rt).
use Rattle.std.specs.Prelude.{◌≡◌, ◌≢◌, ℕ, false, codes, List, [], ◌∷◌, Option, None, Some, string_bytes}
use Rattle.std.specs.List.{Contains}
use Rattle.clap.specs.Words.{Text}
use Rattle.clap.specs.declared.error.kind.ErrorKind.{ErrorKind}
use Rattle.clap.specs.declared.error.kind.ErrorKind.TheVariants as kinds
use Rattle.asl_command_line.specs.declared.command.Invocation.{Invocation}
use Rattle.asl_command_line.specs.declared.command.Invocation.TheVariants.{Help, Version, WrongUsage}
use Rattle.asl_command_line.specs.declared.number_words.NumbersFault.{NumbersFault}
use Rattle.asl_command_line.specs.declared.number_words.NumbersFault.TheVariants as fault
use Rattle.asl_command_line.specs.declared.debug_word.DebugWord.{DebugWord}
use Rattle.asl_command_line.specs.declared.debug_words.DebugWordsFault.{DebugWordsFault}
use Rattle.asl_command_line.specs.declared.debug_words.DebugWordsFault.TheVariants as talk
use Rattle.asl_command_line.specs.declared.entry_words.EntriesFault.{EntriesFault}
use Rattle.asl_command_line.specs.declared.entry_words.EntriesFault.TheVariants as entries
use Rattle.asl_command_line.specs.Number.{AreNumbers, IsNumber}
use Rattle.asl_command_line.specs.Pages.{IsPageOf}
use Rattle.asl_command_line.specs.Usage.{SaysWhereHelpIs}
use Rattle.asl_command_line.specs.Words.{AreDebugWords, IsDebugWord, IsNoNumberOf, IsNoWordOf, LacksNumber}
use Rattle.asl_command_line.specs.Names.{is_name}

-- the words are no legal use, as this text says
abbrev pub IsUsage : Text → Invocation → Type 0
IsUsage why (WrongUsage text) = string_bytes text ≡ why
IsUsage why i = ⊥

-- what is made of an error of this kind
abbrev pub IsRefusal : ErrorKind → List Text → Invocation → Type 0
IsRefusal kind words (Help page) = (kind ≡ kinds.DisplayHelp) × IsPageOf words page.now
IsRefusal kind words Version = kind ≡ kinds.DisplayVersion
IsRefusal kind words (WrongUsage text) = (kind ≢ kinds.DisplayHelp) × (kind ≢ kinds.DisplayVersion) × SaysWhereHelpIs (string_bytes text)
IsRefusal kind words i = ⊥

-- the word that is named is one of the texts, and no number
abbrev pub IsNamedNumber : List Text → NumbersFault → Type 0
IsNamedNumber texts (fault.NoNumber word) = Contains texts word.now × ((n : ℕ) → IsNumber word.now n → ⊥)
IsNamedNumber texts fault.OutOfMemory = Unit {0}

-- the word that is named is the first of the texts that is no word of the debugger, or no number; or the last text wants a number after it
abbrev pub IsNamedWord : List Text → DebugWordsFault → Type 0
IsNamedWord texts (talk.NoWord word) = IsNoWordOf texts word.now
IsNamedWord texts (talk.NoNumber word) = IsNoNumberOf texts word.now
IsNamedWord texts talk.NumberMissing = LacksNumber texts
IsNamedWord texts talk.OutOfMemory = Unit {0}

-- the limit of paths that the word is
abbrev pub IsLimit : Text → Option ℕ → Type 0
IsLimit word None = word ≡ codes "auto"
IsLimit word (Some k_limit) = IsNumber word k_limit

-- the word that is named is one of the texts, and no name
abbrev pub IsEntriesFault : List Text → EntriesFault → Type 0
IsEntriesFault texts (entries.NoName word) = Contains texts word.now × (is_name word.now ≡ false)
IsEntriesFault texts entries.OutOfMemory = Unit {0}

-- why texts are no numbers; of lack of memory nothing is said
abbrev pub IsNumbersFault : List Text → NumbersFault → Type 0
IsNumbersFault texts (fault.NoNumber word) = (numbers : List ℕ) → AreNumbers texts numbers → ⊥
IsNumbersFault texts fault.OutOfMemory = Unit {0}

-- the word asks the debugger for nothing where it stands alone
abbrev pub IsNoBareWord : Text → Type 0
IsNoBareWord name = (asked : DebugWord) → IsDebugWord (name ∷ []) asked → ⊥

-- the word asks the debugger for nothing with another after it
abbrev pub IsNoNumberedWord : Text → Type 0
IsNoNumberedWord name = (asked : DebugWord) (text : Text) → IsDebugWord (name ∷ text ∷ []) asked → ⊥

-- why texts ask the debugger for nothing; of lack of memory nothing is said
abbrev pub IsDebugWordsFault : List Text → DebugWordsFault → Type 0
IsDebugWordsFault texts (talk.NoWord word) = (words : List DebugWord) → AreDebugWords texts words → ⊥
IsDebugWordsFault texts (talk.NoNumber word) = (words : List DebugWord) → AreDebugWords texts words → ⊥
IsDebugWordsFault texts talk.NumberMissing = (words : List DebugWord) → AreDebugWords texts words → ⊥
IsDebugWordsFault texts talk.OutOfMemory = Unit {0}
