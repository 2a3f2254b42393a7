-- What `diagnose --all` tells of a source, put together of its two parts.
use Rattle.std.proofs.Common.{◌≡◌, ℕ, false, List}
use Rattle.asl_warnings.specs.Texts.{joined}
use Rattle.asl_diagnose.specs.RefusalText.{IsTold}
use Rattle.asl_tool.specs.Diagnose.{IsToldWhole, AreWarnings}

pub told_with : (source : List ℕ) (k : ℕ) (diagnosis warnings text : List ℕ) → IsTold source false k diagnosis → AreWarnings source warnings → text ≡ joined diagnosis warnings → IsToldWhole source k text
told_with source k diagnosis warnings text told lacking whole =
    record { diagnosis = diagnosis; told = told; warnings = warnings; lacking = lacking; whole = whole }
