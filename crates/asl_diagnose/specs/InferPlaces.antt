-- Where a fault of a program is for which no lists are inferred.
use Rattle.std.specs.Prelude.{◌≡◌, ℕ, List, length}
use Rattle.asl_grammar.specs.Lex.{tokens_of}
use Rattle.asl_syntax.specs.Tree.{Item}
use Rattle.asl_syntax.specs.Parsed.{Parses}
use Rattle.asl_lower.specs.Lowered.{Lowered, IsLowering}
use Rattle.asl_backward_flow.specs.declared.region.Region.{Region}
use Rattle.asl_backward_flow.specs.declared.region.Region.TheVariants as region
use Rattle.asl_emitter.specs.declared.fault.InferFault.{InferFault}
use Rattle.asl_emitter.specs.declared.fault.InferFault.TheVariants as infer
use Rattle.asl_diagnose_text.specs.declared.word_place.Word.TheVariants as word
use Rattle.asl_diagnose_text.specs.Places.{accesses_before, IsWordAt, IsOverfull}

-- where a region is: at its function's `fn`, or at its `atomic`
abbrev pub IsRegionPlace : List ℕ → Region → ℕ → Type 0
IsRegionPlace text (region.Body function) at = IsWordAt (tokens_of text) word.Fn function at
IsRegionPlace text (region.Section section) at = IsWordAt (tokens_of text) word.Atomic section at

-- the `fn` of the function at which the code of the text's program passes 65,535 instructions
pub record IsOverfullPlace (text : List ℕ) (at : ℕ) : Type 0 where
  pub tree : List Item
  pub parses : Parses text tree
  pub number : ℕ
  pub overfull : IsOverfull tree number
  pub place : IsWordAt (tokens_of text) word.Fn number at

-- the `*` of the load or store at a pc: as many stand before it as the code of the text's program has loads and stores before the pc
pub record IsAccessPlace (text : List ℕ) (pc at : ℕ) : Type 0 where
  pub tree : List Item
  pub parses : Parses text tree
  pub lowered : Lowered
  pub lowering : IsLowering tree lowered
  pub place : IsWordAt (tokens_of text) word.Star (accesses_before lowered.code pc) at

-- where a fault of a program is: a function at its `fn`, an access at its `*`, too many classes at the text's end
abbrev pub IsInferPlace : List ℕ → InferFault → ℕ → Type 0
IsInferPlace text (infer.Registers function) at = IsWordAt (tokens_of text) word.Fn function at
IsInferPlace text infer.CodeSize at = IsOverfullPlace text at
IsInferPlace text (infer.AccessOutsideSection function pc) at = IsAccessPlace text pc at
IsInferPlace text infer.TooManyClasses at = at ≡ length text
IsInferPlace text (infer.TooManyLocks r) at = IsRegionPlace text r at
IsInferPlace text infer.OutOfMemory at = Unit {0}
