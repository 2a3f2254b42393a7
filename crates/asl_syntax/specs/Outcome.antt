-- A fault that a text has by itself (docs/SOURCE.md, "Refusals").
use Rattle.std.specs.Prelude.{◌≢◌, ℕ, List}
use Rattle.asl_syntax.specs.declared.fault.SyntaxFault as code
use Rattle.asl_syntax.specs.declared.fault.SyntaxFault.TheVariants as fault
use Rattle.asl_syntax.specs.Fault.{IsFault}

-- it has a fault; running out of memory is none
pub record HasFault (text : List ℕ) : Type 0 where
  pub found : code.SyntaxFault
  pub holds : IsFault text found
  pub real : found ≢ fault.OutOfMemory
