-- What the command `debug` answers (docs/JOURNAL.md, "The debugger", "Words of the debugger").
use Rattle.std.specs.Prelude.{◌≡◌, ◌+◌, ◌<◌, ◌≤◌, ℕ, List, [], ◌∷◌, ◌++◌, length, codes}
use Rattle.std.specs.Fmt.{decimal}
use Rattle.asl_code.specs.declared.image.Image.{Image}
use Rattle.asl_journal.specs.Journal.{Log, IsJournal}
use Rattle.asl_journal.specs.RunFile.{SpellsRun}
use Rattle.asl_debugger.specs.Breaks.{HasBreak, HasNoBreak}
use Rattle.asl_machine.specs.View.{Configuration}
use Rattle.asl_debugger.specs.Session.{Session, IsNextStop, IsLastStop, IsShown, moved, with_breaks}
use Rattle.asl_debugger.specs.declared.fault.DebugFault.{DebugFault}
use Rattle.asl_debugger.specs.declared.fault.DebugFault.TheVariants as fault
use Rattle.asl_tool.specs.declared.commands.debug.Answer.{Answer}
use Rattle.asl_tool.specs.declared.commands.debug.Answer.TheVariants.{At, AtEnd, AtStart, NoSuchStep}
use Rattle.asl_command_line.specs.declared.debug_word.DebugWord.{DebugWord}
use Rattle.asl_command_line.specs.declared.debug_word.DebugWord.TheVariants as word
use Rattle.asl_command_line.specs.declared.debug_word.Move.{Move}
use Rattle.asl_command_line.specs.declared.debug_word.Move.TheVariants as step
use Rattle.asl_show.specs.View.{view_text}
use Rattle.asl_show.specs.Asks.{asks_text}
use Rattle.asl_show.specs.Stack.{stack_text}
use Rattle.asl_show.specs.Objects.{objects_text}

-- what each move answers: the position to which it leads, or why it leads nowhere
abbrev pub IsAnswer : Session → Move → Answer → Type 0
IsAnswer s (step.Goto k) (At p) = (k ≤ length s.log.events) × (p ≡ k)
IsAnswer s (step.Goto k) NoSuchStep = length s.log.events < k
IsAnswer s step.Forward (At p) = (s.position < length s.log.events) × (p ≡ s.position + 1)
IsAnswer s step.Forward AtEnd = s.position ≡ length s.log.events
IsAnswer s step.Back (At p) = p + 1 ≡ s.position
IsAnswer s step.Back AtStart = s.position ≡ 0
IsAnswer s step.Next (At p) = IsNextStop s p
IsAnswer s step.Next AtEnd = s.position ≡ length s.log.events
IsAnswer s step.Previous (At p) = IsLastStop s p
IsAnswer s step.Previous AtStart = s.position ≡ 0
IsAnswer s m answer = ⊥

-- where the session stands after an answer
abbrev pub arrived : Session → Answer → Session
arrived s (At p) = moved s p
arrived s answer = s

-- the line of an answer
abbrev pub answer_text : Answer → List ℕ
answer_text (At p) = codes "at " ++ decimal p ++ 10 ∷ []
answer_text AtEnd = codes "refused AtEnd\n"
answer_text AtStart = codes "refused AtStart\n"
answer_text NoSuchStep = codes "refused NoSuchStep\n"

-- what a word makes of a session, and the text that answers it
abbrev pub Says : Session → DebugWord → Session → List ℕ → Type 0
Says s (word.Move m) next text = (answer : Answer) × IsAnswer s m answer × (next ≡ arrived s answer) × (text ≡ answer_text answer)
Says s (word.Break pc) next text =
    (next ≡ with_breaks s next.breakpoints) × HasBreak s.breakpoints next.breakpoints pc × (text ≡ codes "break " ++ decimal pc ++ 10 ∷ [])
Says s (word.Clear pc) next text =
    (next ≡ with_breaks s next.breakpoints) × HasNoBreak s.breakpoints next.breakpoints pc × (text ≡ codes "clear " ++ decimal pc ++ 10 ∷ [])
Says s word.View next text = (next ≡ s) × (machine : Configuration) × IsShown s machine × (text ≡ view_text machine)
Says s word.Asks next text = (next ≡ s) × (machine : Configuration) × IsShown s machine × (text ≡ asks_text machine)
Says s word.Stack next text = (next ≡ s) × (machine : Configuration) × IsShown s machine × (text ≡ stack_text machine.state)
Says s word.Objects next text = (next ≡ s) × (machine : Configuration) × IsShown s machine × (text ≡ objects_text machine.state)

-- the texts that answer the words, one after the other
abbrev pub IsTalk : Session → List DebugWord → List ℕ → Type 0
IsTalk s [] text = text ≡ []
IsTalk s (w ∷ words) text =
    (next : Session) × (first : List ℕ) × (rest : List ℕ) × Says s w next first × IsTalk next words rest × (text ≡ first ++ rest)

-- a debugger over a journal, as it is opened
abbrev pub opened : Image → Log → Session
opened image log = record { image = image; log = log; position = 0; breakpoints = [] }

-- the input is a run file whose journal is one of its program, and the output answers the words
pub record IsDebugged (input : List ℕ) (words : List DebugWord) (output : List ℕ) : Type 0 where
  pub image : Image
  pub log : Log
  pub run : SpellsRun image log input
  pub journal : IsJournal image log.threads log.events
  pub talk : IsTalk (opened image log) words output

-- Machinery of private functions: a word's text is added after the text before it.
abbrev pub Follows : Session → DebugWord → Session → List ℕ → List ℕ → Type 0
Follows s w next old new = (added : List ℕ) × Says s w next added × (new ≡ old ++ added)

-- Machinery of private functions: why a move is refused; of lack of memory nothing is said.
abbrev pub IsNoMove : Session → Move → DebugFault → Type 0
IsNoMove s m fault.AtEnd = IsAnswer s m AtEnd
IsNoMove s m fault.AtStart = IsAnswer s m AtStart
IsNoMove s m fault.NoSuchStep = IsAnswer s m NoSuchStep
IsNoMove s m (fault.Differs index) = ⊥
IsNoMove s m fault.BadCount = ⊥
IsNoMove s m fault.OutOfMemory = Unit {0}
