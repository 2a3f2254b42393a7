-- What is told of a session as text (docs/JOURNAL.md, "Words of the debugger" and "log").
use Rattle.std.specs.Prelude.{◌≡◌, ℕ, suc, List, [], ◌∷◌, ◌++◌, drop, length, min}
use Rattle.asl_machine.specs.View.{Configuration}
use Rattle.asl_journal.specs.declared.event.Event.{Event}
use Rattle.asl_journal.specs.Journal.{IsJournal}
use Rattle.asl_debugger.specs.Session.{Session, IsShown}
use Rattle.asl_show.specs.Replies.{step_line}
use Rattle.asl_show.specs.View.{view_text}
use Rattle.asl_show.specs.Asks.{asks_text}
use Rattle.asl_show.specs.Stack.{stack_text}
use Rattle.asl_show.specs.Objects.{objects_text}
use Rattle.asl_c_sessions.specs.declared.pages.Page.{Page}
use Rattle.asl_c_sessions.specs.declared.pages.Page.TheVariants.{View, Asks, Stack, Objects}

-- what the command `debug` prints of a machine for the word
abbrev pub page_text : Page → Configuration → List ℕ
page_text View m = view_text m
page_text Asks m = asks_text m
page_text Stack m = stack_text m.state
page_text Objects m = objects_text m.state

-- the text is the page of the machine at the session's position; the events are a journal of the program, so there is one such machine
pub record IsPage (page : Page) (s : Session) (text : List ℕ) : Type 0 where
  pub journal : IsJournal s.image s.log.threads s.log.events
  pub machine : Configuration
  pub shown : IsShown s machine
  pub spelled : text ≡ page_text page machine

-- the lines of events, numbered from the given number on, as the command `log` prints them
abbrev pub event_lines : ℕ → List Event → List ℕ
event_lines number [] = []
event_lines number (event ∷ events) = step_line number event.thread event.reply ++ event_lines (suc number) events

-- the lines of the events after the first so many, with the numbers that they have among all
abbrev pub log_text : ℕ → List Event → List ℕ
log_text first events = event_lines (min first (length events)) (drop (min first (length events)) events)
