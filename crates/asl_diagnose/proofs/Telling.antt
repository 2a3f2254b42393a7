-- What is told of a refusal, of its parts.
use Rattle.std.proofs.Common.{◌≡◌, ◌≢◌, ℕ, List, Option, None, Some, sym, subst}
use Rattle.std.specs.Prelude.{Result, Ok, Err, IsSome, OnErr}
use Rattle.asl_syntax.specs.declared.fault.SyntaxFault.{SyntaxFault}
use Rattle.asl_syntax.specs.declared.fault.SyntaxFault.TheVariants as syntax
use Rattle.asl_syntax.specs.Fault.{IsFault}
use Rattle.asl_syntax.specs.Tree.{Item}
use Rattle.asl_syntax.specs.Parsed.{Parses}
use Rattle.asl_emitter.specs.declared.fault.InferFault.{InferFault}
use Rattle.asl_emitter.specs.declared.fault.InferFault.TheVariants as infer
use Rattle.asl_emitter.specs.Refused.{IsRefusedInference}
use Rattle.asl_diagnose.specs.declared.diagnosis.Refusal.{Refusal}
use Rattle.asl_diagnose.specs.declared.diagnosis.Refusal.TheVariants as refusal
use Rattle.asl_diagnose.specs.declared.diagnosis.Diagnosis.{Diagnosis}
use Rattle.asl_diagnose_text.specs.Position.{IsPosition}
use Rattle.asl_diagnose_text.specs.SyntaxPlaces.{IsSyntaxPlace, IsExpectedFor}
use Rattle.asl_diagnose.specs.InferPlaces.{IsInferPlace}
use Rattle.asl_diagnose.specs.Diagnosed.{IsSourceRefusal, IsSourcePlace, IsSourceDiagnosis, HasFirst, HasKinds, HasBringers}

-- what holds whatever the answer is
pub on_err : {R E : Type 0} (a : Result R E) (P : Type 0) → P → OnErr a P
on_err (Ok r) P holds = tt
on_err (Err e) P holds = holds

-- an answer that is there
pub some_told : (o : Option Diagnosis) (P : Option Diagnosis → Type 0) → IsSome o → P o → (d : Diagnosis) × P (Some d)
some_told None P some holds = absurd (cc)
some_told (Some d) P some holds = (d, holds)

pub syntax_told : (source : List ℕ) (k : ℕ) (d : Diagnosis) (fault : SyntaxFault) → IsFault source fault → fault ≢ syntax.OutOfMemory → d.refusal ≡ refusal.Syntax fault → IsSyntaxPlace source fault d.first d.at → IsExpectedFor source fault d.expected.items d.may_end → IsPosition source d.at d.line d.column
    → HasFirst (refusal.Syntax fault) d.first → HasKinds (refusal.Syntax fault) d.expected.items d.may_end → d.bringers ≡ None → IsSourceDiagnosis source k d
syntax_told source k d fault h real e place expected position first kinds bringers = record {
  refusal = subst (λ (r : Refusal). IsSourceRefusal source k r) (sym e) (h, real);
  place = subst (λ (r : Refusal). IsSourcePlace source r d) (sym e) (place, expected);
  position = position;
  first = subst (λ (r : Refusal). HasFirst r d.first) (sym e) first;
  kinds = subst (λ (r : Refusal). HasKinds r d.expected.items d.may_end) (sym e) kinds;
  bringers = subst (λ (r : Refusal). HasBringers source k r d.bringers) (sym e) bringers;
}

pub infer_told : (source : List ℕ) (k : ℕ) (d : Diagnosis) (fault : InferFault) (tree : List Item) → Parses source tree → IsRefusedInference tree k fault → fault ≢ infer.OutOfMemory → d.refusal ≡ refusal.Infer fault → IsInferPlace source fault d.at → IsPosition source d.at d.line d.column
    → HasFirst d.refusal d.first → HasKinds d.refusal d.expected.items d.may_end → HasBringers source k d.refusal d.bringers → IsSourceDiagnosis source k d
infer_told source k d fault tree p h real e place position first kinds bringers = record {
  refusal = subst (λ (r : Refusal). IsSourceRefusal source k r) (sym e) (record { tree = tree; parsed = p; refused = h }, real);
  place = subst (λ (r : Refusal). IsSourcePlace source r d) (sym e) place;
  position = position;
  first = first;
  kinds = kinds;
  bringers = bringers;
}
