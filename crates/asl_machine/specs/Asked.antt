-- What a thread asks for that stands at an `acq` in no section (docs/LOCKS.md, "Requests"). Who is in its way is told by
-- `IsInTheWay` of asl_lock_forest; the laws of src/asked_laws.rt say when nobody is.
use Rattle.std.specs.Prelude.{ℕ, ◌==◌, List, Option, None, Some, slice_get, option_and_then, if◌then◌else◌}
use Rattle.asl_code.specs.declared.image.Image.{Image}
use Rattle.asl_code.specs.declared.instr.Instr.{Instr}
use Rattle.asl_code.specs.declared.instr.Instr.TheVariants as instr
use Rattle.asl_lock_forest.specs.Holding.{Request}
use Rattle.asl_machine.specs.State.{Object, Activity, State, activity_at}
use Rattle.asl_machine.specs.Request.{request_of, locks_of}

-- what a running thread asks for by the instruction that it is at, over these objects
abbrev pub asked_by : Image → List Object → Activity → Instr → Option Request
asked_by image objects a (instr.Acquire list) = if a.depth == 0 then Some (request_of objects a.top.regs (locks_of image list)) else None
asked_by image objects a i = None

-- what a running thread asks for: the request of the list of the `acq` at which it stands, if it is in no section
abbrev pub asked_of : Image → List Object → Activity → Option Request
asked_of image objects a = option_and_then (asked_by image objects a) (slice_get image.code a.top.pc)

-- what the thread of this number asks for, if it is there, runs, and stands at an `acq` in no section
abbrev pub request_at : Image → State → ℕ → Option Request
request_at image s t = option_and_then (asked_of image s.objects) (activity_at s.threads t)
