-- A text has one outcome: what the reader answers for it, judged where it is an image.
use Rattle.std.proofs.Common.{◌≡◌, ℕ, List, Result, Ok, Err, refl, ap, subst, inl, inr}
use Rattle.asl_code.specs.declared.fault.VerifyFault.{VerifyFault}
use Rattle.asl_code.specs.declared.image.Image.{Image}
use Rattle.asl_code.specs.Verified.{IsAnswer, IsVerified}
use Rattle.asl_code.proofs.OneAnswer.{one_answer, no_answer, some_answer}
use Rattle.asl_assembler.specs.declared.assembly.AsmFault.{AsmFault}
use Rattle.asl_assembler.specs.declared.assembly.AsmFault.TheVariants.{Line, Verify, OutOfMemory}
use Rattle.asl_assembler.specs.declared.image_draft.Place.TheVariants.{Version}
use Rattle.asl_assembler.specs.Words.{lines_of}
use Rattle.asl_assembler.specs.Text.{Spells}
use Rattle.asl_assembler.specs.Faults.{IsOutcome}
use Rattle.asl_assembler.specs.Reading.{image_from, blank_image}
use Rattle.asl_assembler.proofs.Texts.{image_spelled, one_image, one_line, bad_line, not_both}

-- the images that one text spells have one answer
one_cause : (text : List ℕ) (i j : Image) (a b : VerifyFault) → Spells text i → IsAnswer i a → Spells text j → IsAnswer j b → a ≡ b
one_cause text i j a b s u t w = one_answer i a b u (subst (λ (x : Image). IsAnswer x b) (one_image text j i t s) w)

-- and none where one of them is verified
no_cause : (text : List ℕ) (i j : Image) (b : VerifyFault) → Spells text i → IsVerified i → Spells text j → IsAnswer j b → ⊥
no_cause text i j b s v t w = no_answer i b v (subst (λ (x : Image). IsAnswer x b) (one_image text j i t s) w)

one_fault : (text : List ℕ) (f g : AsmFault) → IsOutcome text (Err f) → IsOutcome text (Err g) → f ≡ g
one_fault text (Line n) (Line m) is also = ap Line (one_line (lines_of text) n m is.0 also.0)
one_fault text (Line n) (Verify b) is also = absurd (not_both (lines_of text) also.0.0 n also.0.1 is.0)
one_fault text (Verify a) (Line m) is also = absurd (not_both (lines_of text) is.0.0 m is.0.1 also.0)
one_fault text (Verify a) (Verify b) is also = ap Verify (one_cause text is.0.0 also.0.0 a b is.0.1 is.0.2 also.0.1 also.0.2)
one_fault text OutOfMemory g is also = absurd (is.1 refl)
one_fault text f OutOfMemory is also = absurd (also.1 refl)

not_refused : (text : List ℕ) (i : Image) (f : AsmFault) → IsOutcome text (Ok i) → IsOutcome text (Err f) → ⊥
not_refused text i (Line n) is also = not_both (lines_of text) i n is.spelled also.0
not_refused text i (Verify b) is also = no_cause text i also.0.0 b is.spelled is.verified also.0.1 also.0.2
not_refused text i OutOfMemory is also = also.1 refl

pub outcome_is_one : (text : List ℕ) (outcome other : Result Image AsmFault) → IsOutcome text outcome → IsOutcome text other → outcome ≡ other
outcome_is_one text (Ok i) (Ok j) is also = ap (λ (x : Image). Ok x) (one_image text i j is.spelled also.spelled)
outcome_is_one text (Ok i) (Err g) is also = absurd (not_refused text i g is also)
outcome_is_one text (Err f) (Ok j) is also = absurd (not_refused text j f also is)
outcome_is_one text (Err f) (Err g) is also = ap (λ (x : AsmFault). Err x) (one_fault text f g is also)

judged_image : (text : List ℕ) (i : Image) → Spells text i → (outcome : Result Image AsmFault) × IsOutcome text outcome
judged_image text i spells =
    elim (some_answer i) [
      | inl verified ↦ (Ok i, record { spelled = spells; verified = verified })
      | inr broken_by ↦ (Err (Verify broken_by.0), ((i, spells, broken_by.1), λ e. absurd cc))
    ]

pub some_outcome : (text : List ℕ) → (outcome : Result Image AsmFault) × IsOutcome text outcome
some_outcome text = of_reader (image_from 0 Version blank_image (lines_of text)) refl
  where
    of_reader : (r : Result Image ℕ) → image_from 0 Version blank_image (lines_of text) ≡ r → (outcome : Result Image AsmFault) × IsOutcome text outcome
    of_reader (Ok i) e = judged_image text i (image_spelled text i e)
    of_reader (Err n) e = (Err (Line n), (bad_line (lines_of text) n e, λ z. absurd cc))
