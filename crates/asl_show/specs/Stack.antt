-- The frames of the threads, as the word `stack` writes them (docs/JOURNAL.md, "Stacks, objects and requests").
use Rattle.std.specs.Prelude.{ℕ, List, [], ◌∷◌, ◌++◌, length, option_map, codes}
use Rattle.std.specs.Fmt.{decimal}
use Rattle.std.specs.Option.{option_map_or}
use Rattle.asl_code.specs.declared.value.Value.{Value}
use Rattle.asl_machine.specs.declared.machine.readers.FramePlace.{FramePlace}
use Rattle.asl_machine.specs.State.{State}
use Rattle.asl_machine.specs.Frames.{frame_at, frame_reg_at, place_of}
use Rattle.asl_show.specs.Replies.{value_text}
use Rattle.asl_show.specs.Lines.{lines_from}

-- the line of a frame: its thread, its number from the top, its function, and where it continues
abbrev pub frame_line : ℕ → ℕ → FramePlace → List ℕ
frame_line t index f =
    codes "frame " ++ decimal t ++ codes " " ++ decimal index ++ codes " fn " ++ decimal f.function ++ codes " pc " ++ decimal f.pc ++ 10 ∷ []

-- the same of the frame of this number, if it is there
abbrev pub frame_at_line : State → ℕ → ℕ → List ℕ
frame_at_line s t index = option_map_or (frame_line t index) (option_map place_of (frame_at s t index)) []

-- the line of a register of a frame
abbrev pub local_line : ℕ → ℕ → ℕ → Value → List ℕ
local_line t index r value =
    codes "local " ++ decimal t ++ codes " " ++ decimal index ++ codes " " ++ decimal r ++ codes " " ++ value_text value ++ 10 ∷ []

-- the same of the register of this number, if it is there
abbrev pub local_at : State → ℕ → ℕ → ℕ → List ℕ
local_at s t index r = option_map_or (local_line t index r) (frame_reg_at s t index r) []

-- a frame, if it is there: its line, and its registers, of which there are 64 at most
abbrev pub frame_text : State → ℕ → ℕ → List ℕ
frame_text s t index = frame_at_line s t index ++ lines_from (local_at s t index) 0 64

-- the frames of a thread, of which there are 256 at most, the top one first: none where it has ended
abbrev pub stack_of : State → ℕ → List ℕ
stack_of s t = lines_from (frame_text s t) 0 256

-- the frames of all threads
abbrev pub stack_text : State → List ℕ
stack_text s = lines_from (stack_of s) 0 (length s.threads)
