-- What words ask for, from what `clap` says of the program that was built.
use Rattle.std.proofs.Common.{◌≡◌, ◌≢◌, ◌⊎◌, ◌∙◌, inl, inr, ap, refl, subst, sym, true, List, [], Option}
use Rattle.clap.specs.Words.{App, IsAmong, Kinds, Row, Text, fault_of, is_simple, is_simple_and_free, subcommand_of}
use Rattle.clap.specs.declared.error.kind.ErrorKind.{ErrorKind}
use Rattle.clap.specs.declared.error.kind.ErrorKind.TheVariants.{DisplayHelp, DisplayVersion, OutOfMemory}
use Rattle.clap.proofs.OnLiterals.{clap_on_literals}
use Rattle.asl_command_line.specs.declared.command.Invocation.{Invocation}
use Rattle.asl_command_line.specs.declared.command.Invocation.TheVariants.{Alone, Run, Help, Version, WrongUsage}
use Rattle.asl_command_line.specs.Arguments.{asl_app}
use Rattle.asl_command_line.specs.Reading.{IsRefusal}
use Rattle.asl_command_line.specs.Words.{AsksFor, IsTaken}

asl_is_simple : is_simple asl_app ≡ true
unfolding clap_on_literals
asl_is_simple = refl

asl_is_free : is_simple_and_free asl_app ≡ true
unfolding clap_on_literals
asl_is_free = refl

-- words that were taken
pub taken_words : (app : App) (words : List Text) (named : Option (Text × List Row)) (i : Invocation) → app ≡ asl_app
    → (is_simple_and_free app ≡ true → fault_of app words ≡ []) → (is_simple app ≡ true → named ≡ subcommand_of app words)
    → IsTaken named i → AsksFor words i
taken_words app words named i app_is free simple taken =
    let none = subst (λ (a : App). fault_of a words ≡ []) app_is (free (ap is_simple_and_free app_is ∙ asl_is_free)) in
    let same = subst (λ (a : App). named ≡ subcommand_of a words) app_is (simple (ap is_simple app_is ∙ asl_is_simple)) in
    inl (none, subst (λ (n : Option (Text × List Row)). IsTaken n i) same taken)

-- an error of words that were not, as what it is made of
made_of : (kinds : Kinds) (words : List Text) (kind : ErrorKind) (i : Invocation) → fault_of asl_app words ≡ kinds → IsAmong kind kinds → IsRefusal kind words i
    → AsksFor words i
made_of kinds words kind (Alone command) same among refusal = absurd refusal
made_of kinds words kind (Run team) same among refusal = absurd refusal
made_of kinds words kind (Help page) same among refusal =
    inr (subst (IsAmong DisplayHelp) (sym same) (subst (λ (k : ErrorKind). IsAmong k kinds) refusal.0 among), refusal.1)
made_of kinds words kind Version same among refusal =
    inr (subst (IsAmong DisplayVersion) (sym same) (subst (λ (k : ErrorKind). IsAmong k kinds) refusal among))
made_of kinds words kind (WrongUsage text) same among refusal = inr (kind, subst (IsAmong kind) (sym same) among, refusal.0, refusal.1, refusal.2)

-- words that were not taken
pub refused_words : (app : App) (words : List Text) (kind : ErrorKind) (i : Invocation) → app ≡ asl_app
    → (is_simple_and_free app ≡ true → (kind ≡ OutOfMemory) ⊎ IsAmong kind (fault_of app words)) → kind ≢ OutOfMemory
    → IsRefusal kind words i → AsksFor words i
refused_words app words kind i app_is free other refusal =
    let kinds = subst (λ (a : App). (kind ≡ OutOfMemory) ⊎ IsAmong kind (fault_of a words)) app_is (free (ap is_simple_and_free app_is ∙ asl_is_free)) in
    elim kinds [ inl memory ↦ absurd (other memory) | inr among ↦ made_of (fault_of asl_app words) words kind i refl among refusal ]
