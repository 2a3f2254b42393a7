-- A frame that is not there has no text.
use Rattle.std.proofs.Common.{◌≡◌, ℕ, [], ◌++◌, Option, None, Some, option_map, slice_get, refl, ap, ◌∙◌}
use Rattle.std.specs.Option.{option_and_then, option_map_or}
use Rattle.asl_machine.specs.State.{State, Frame}
use Rattle.asl_machine.specs.Frames.{frame_at, place_of}
use Rattle.asl_show.specs.Lines.{lines_from}
use Rattle.asl_show.specs.Stack.{frame_line, frame_text, local_at, local_line}
use Rattle.asl_show.proofs.Lines.{no_lines}

none_mapped : (frame : Option Frame) → option_map place_of frame ≡ None → frame ≡ None
none_mapped None e = refl
none_mapped (Some f) e = cc

pub no_frame : (s : State) (t index : ℕ) → option_map place_of (frame_at s t index) ≡ None → frame_text s t index ≡ []
no_frame s t index e =
    let none = none_mapped (frame_at s t index) e in
    let no_local : (r : ℕ) → local_at s t index r ≡ [] = λ r. ap (λ (frame : Option Frame). option_map_or (local_line t index r) (option_and_then (λ (f : Frame). slice_get f.regs r) frame) []) none in
    ap (λ place. option_map_or (frame_line t index) place [] ++ lines_from (local_at s t index) 0 64) e ∙ no_lines (local_at s t index) 0 64 no_local
