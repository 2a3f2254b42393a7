-- The frames of a thread by their numbers: 0 is the top one, and each waits for the one before it (docs/INSTRUCTIONS.md,
-- "State").
use Rattle.std.specs.Prelude.{ℕ, List, ◌∷◌, Option, slice_get, option_and_then}
use Rattle.asl_code.specs.declared.value.Value.{Value}
use Rattle.asl_machine.specs.declared.machine.readers.FramePlace.{FramePlace}
use Rattle.asl_machine.specs.State.{Frame, Activity, State, activity_at}

-- the frames of a running thread
abbrev pub frames_of : Activity → List Frame
frames_of a = a.top ∷ a.below

-- the frame of this number of the thread of this number, if the thread runs and the frame is there
abbrev pub frame_at : State → ℕ → ℕ → Option Frame
frame_at s t index = option_and_then (λ a. slice_get (frames_of a) index) (activity_at s.threads t)

-- a register of that frame, if it is there
abbrev pub frame_reg_at : State → ℕ → ℕ → ℕ → Option Value
frame_reg_at s t index register = option_and_then (λ (f : Frame). slice_get f.regs register) (frame_at s t index)

-- the function of a frame, and where it continues
abbrev pub place_of : Frame → FramePlace
place_of f = record { function = f.function; pc = f.pc }
