-- Which session bytes open, and why they open none.
use Rattle.std.specs.Prelude.{◌≡◌, ◌<◌, ◌⊎◌, ℕ, List, []}
use Rattle.asl_code.specs.declared.image.Image.{Image}
use Rattle.asl_code.specs.Versions.{most_threads}
use Rattle.asl_opening.specs.Opening.{IsProgram, WhyNotProgram}
use Rattle.asl_machine.specs.Run.{IsThreadCount}
use Rattle.asl_debugger.specs.Session.{Session}

-- the session in which so many threads of the program of the bytes start
pub record IsOpened (bytes : List ℕ) (threads : ℕ) (session : Session) : Type 0 where
  pub program : Image
  pub read : IsProgram bytes program
  pub counted : IsThreadCount program threads
  pub at_start : session ≡ record { image = program; log = record { threads = threads; events = [] }; position = 0; breakpoints = [] }

-- 11: there are no threads, or more than the program may start; else 2: there was no memory
abbrev pub WhyNotStarted : Image → ℕ → ℕ → Type 0
WhyNotStarted program threads status =
    ((status ≡ 11) × ((threads ≡ 0) ⊎ (most_threads program.version < threads))) ⊎ ((status ≡ 2) × IsThreadCount program threads)

-- the bytes are not read as a program; or they are, and so many threads of it are not started
abbrev pub WhyNot : List ℕ → ℕ → ℕ → Type 0
WhyNot bytes threads status = WhyNotProgram bytes status ⊎ ((program : Image) × IsProgram bytes program × WhyNotStarted program threads status)
