-- Runs of a program by the instruction table: the state in which its threads start, where a schedule leads, and which
-- states are reached (docs/INSTRUCTIONS.md, "State" and "A step"). In a state the table has at most one line for a thread,
-- and one in each reached state of a verified program: the law steps_have_one_line. So it is with runs: the law
-- runs_are_the_tables.
use Rattle.std.specs.Prelude.{◌≡◌, ◌<◌, ◌≤◌, ℕ, zero, suc, List, [], ◌∷◌, ◌++◌, map, All, None, pos}
use Rattle.asl_code.specs.Versions.{most_threads}
use Rattle.asl_code.specs.declared.image.Image.{Image}
use Rattle.asl_code.specs.declared.value.Value.TheVariants.{Int}
use Rattle.asl_lock_forest.specs.Holding.{no_holding}
use Rattle.asl_machine.specs.declared.reply.Reply.{Reply}
use Rattle.asl_machine.specs.State.{Object, Activity, Thread, Running, State}
use Rattle.asl_machine.specs.Calls.{first_frame}
use Rattle.asl_machine.specs.Step.{Step}

-- the object of a global: one cell, which holds Int 0
abbrev pub global_object : ℕ → Object
global_object class = record { class = class; cells = Int (pos 0) ∷ [] }

-- what thread t is at when it starts: in the entry function, with its own number as the parameter, in no section
abbrev pub first_activity : Image → ℕ → Activity
first_activity image t = record { depth = 0; top = first_frame image image.start (Int (pos t) ∷ []) None; below = []; fresh = [] }

-- thread t at its start
abbrev pub first_thread : Image → ℕ → Thread
first_thread image t = Running (first_activity image t)

-- the first threads, so many, in order
abbrev pub first_threads : Image → ℕ → List Thread
first_threads image zero = []
first_threads image (suc t) = first_threads image t ++ first_thread image t ∷ []

-- the program may start with so many threads: 1 to as many as its version sets
abbrev pub IsThreadCount : Image → ℕ → Type 0
IsThreadCount image count = (0 < count) × (count ≤ most_threads image.version)

-- the state in which so many threads of the program start
abbrev pub start_of : Image → ℕ → State
start_of image count = record { objects = map global_object image.globals; holding = no_holding; threads = first_threads image count }

-- the schedule leads from a state to an end, each step by a line of the instruction table, with these replies
abbrev pub RunsBy : Image → State → List ℕ → List Reply → State → Type 0
RunsBy image s [] [] end = end ≡ s
RunsBy image s (t ∷ ts) (r ∷ rs) end = (new : State) × Step image s t r new × RunsBy image new ts rs end
RunsBy image s ts rs end = ⊥

-- some schedule of threads below the count leads so many threads of the program from their start to the state, by the
-- table
pub record IsReached (image : Image) (count : ℕ) (s : State) : Type 0 where
  pub schedule : List ℕ
  pub replies : List Reply
  pub threads_there : All (λ t. t < count) schedule
  pub leads : RunsBy image (start_of image count) schedule replies s
