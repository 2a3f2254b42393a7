-- What the command `diagnose` answers: why a text is refused, and where that is asked for what the text of a source may lack
-- (docs/ANALYSIS.md, "What the text may lack").
use Rattle.std.specs.Prelude.{◌≡◌, ◌⊎◌, ℕ, Bool, true, false, List, []}
use Rattle.asl_map.specs.Mapped.{IsRefusedMapping, IsOutOfMemory}
use Rattle.asl_map.specs.declared.fault.MapFault.{MapFault}
use Rattle.asl_class_text.specs.declared.facts.Known.{Known}
use Rattle.asl_class_text.specs.Classes.{IsKnown}
use Rattle.asl_warnings.specs.Texts.{joined, warnings_text}
use Rattle.asl_diagnose.specs.RefusalText.{IsTold}

-- the source has no classes: it is no program, it has no code, or it has too many of them
abbrev pub HasNoClasses : List ℕ → Type 0
HasNoClasses source = (cause : MapFault) × IsRefusedMapping source cause × (¬ IsOutOfMemory cause)

-- the text of what a source may lack, by its classes; where it has none there is nothing to tell
abbrev pub AreWarnings : List ℕ → List ℕ → Type 0
AreWarnings source text = ((known : Known) × IsKnown source known × (text ≡ warnings_text known)) ⊎ (HasNoClasses source × (text ≡ []))

-- the diagnosis of a source, and behind an empty line its warnings; where there is only one of the two, this alone
pub record IsToldWhole (source : List ℕ) (k_limit : ℕ) (text : List ℕ) : Type 0 where
  pub diagnosis : List ℕ
  pub told : IsTold source false k_limit diagnosis
  pub warnings : List ℕ
  pub lacking : AreWarnings source warnings
  pub whole : text ≡ joined diagnosis warnings

-- the diagnosis of a text, and with `all` what a source may lack; of an assembly text there is no more to tell
abbrev pub IsDiagnosed : List ℕ → Bool → ℕ → Bool → List ℕ → Type 0
IsDiagnosed input true k_limit all text = IsTold input true k_limit text
IsDiagnosed input false k_limit false text = IsTold input false k_limit text
IsDiagnosed input false k_limit true text = IsToldWhole input k_limit text
