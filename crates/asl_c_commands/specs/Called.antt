-- What a call of a command leaves: the status, in each buffer a text as far as there is room, and the whole lengths
-- (docs/EMBEDDING.md, "The commands from C").
use Rattle.std.specs.Prelude.{◌≡◌, ◌<◌, ◌⊎◌, ℕ, List, length, IsUtf8}
use Rattle.asl_tool.specs.declared.endings.ending.Ending.{Ending}
use Rattle.asl_tool.specs.Ending.{ending_status, ending_text}
use Rattle.asl_tool.specs.Memory.{EndsOver}
use Rattle.asl_tool.specs.Tool.{AsksForWork}
use Rattle.asl_c_commands.specs.declared.call.Answer.{Answer}
use Rattle.asl_c_commands.specs.Words.{words_of}
use Rattle.asl_c_memory.specs.Buffer.{Holds}

-- the words are UTF-8, and the call did what they ask for, over the input: the buffers hold the output, and what is said of the ending, as far as there is
-- room, and the answer has their lengths
pub record IsDone (words input output errors output_now errors_now : List ℕ) (answer : Answer) : Type 0 where
  pub utf8 : IsUtf8 words
  pub ending : Ending
  pub written : List ℕ
  pub ends : EndsOver (words_of words) input written ending
  pub status : answer.status ≡ ending_status ending
  pub holds_output : Holds written output output_now
  pub holds_errors : Holds (ending_text ending) errors errors_now
  pub output_length : answer.output_length ≡ length written
  pub errors_length : answer.errors_length ≡ length (ending_text ending)

-- why nothing was done: the words are not UTF-8; memory ran out for them; or they ask for `run`
abbrev pub SaysWhyNot : List ℕ → ℕ → Type 0
SaysWhyNot words status = ((status ≡ 253) × ¬ (IsUtf8 words)) ⊎ (((status ≡ 254) × IsUtf8 words × 0 < length words) ⊎ ((status ≡ 255) × AsksForWork (words_of words)))

-- the call did nothing, and the status says why
pub record IsRefusedCall (words output errors output_now errors_now : List ℕ) (answer : Answer) : Type 0 where
  pub why : SaysWhyNot words answer.status
  pub output_kept : output_now ≡ output
  pub errors_kept : errors_now ≡ errors
  pub no_output : answer.output_length ≡ 0
  pub no_errors : answer.errors_length ≡ 0

-- what the call leaves
abbrev pub IsAnswered : List ℕ → List ℕ → List ℕ → List ℕ → List ℕ → List ℕ → Answer → Type 0
IsAnswered words input output errors output_now errors_now answer =
    IsDone words input output errors output_now errors_now answer ⊎ IsRefusedCall words output errors output_now errors_now answer
