-- Bytes have one outcome: each is what the reader of all the bytes answers, judged where it is an image.
use Rattle.std.proofs.Common.{◌≡◌, ◌≢◌, ℕ, Bool, true, false, eqb, List, Result, Ok, Err, refl, sym, ap, subst, ◌∙◌, inl, inr}
use Rattle.std.proofs.lemmas.Bool.{eqb-true}
use Rattle.asl_code.specs.declared.fault.VerifyFault.{VerifyFault}
use Rattle.asl_code.specs.declared.image.Image.{Image}
use Rattle.asl_code.specs.Verified.{IsAnswer, IsVerified}
use Rattle.asl_code.proofs.OneAnswer.{one_answer, some_answer}
use Rattle.asl_code.proofs.Values.{AreBytes}
use Rattle.asl_loader.specs.Bytes.{SpellsImage}
use Rattle.asl_loader.specs.Faults.{IsFault, IsOutcome, BytesHaveAnOutcome, OutcomeIsOne}
use Rattle.asl_loader.specs.ImageFields.{bad_fault, whole_of}
use Rattle.asl_loader.specs.declared.fault.LoadFault.{LoadFault}
use Rattle.asl_loader.specs.declared.fault.LoadFault.TheVariants.{Magic, Version, Truncated, BadField, Trailing, Verify, OutOfMemory}
use Rattle.asl_loader.proofs.Loads.{whole_found, whole_again, whole_refused, refused_again, not_both}
use Rattle.asl_loader.proofs.Whole.{are_bytes, ends_within, has_bad, goes_on}

other_fault : (at : ℕ) → at ≢ 0 → at ≢ 4 → bad_fault at ≡ BadField at
other_fault at some far = by_tests (eqb at 0) (eqb at 4) refl refl
  where
    by_tests : (p q : Bool) → eqb at 0 ≡ p → eqb at 4 ≡ q → bad_fault at ≡ BadField at
    by_tests true q e f = absurd (some (eqb-true at 0 e))
    by_tests false true e f = absurd (far (eqb-true at 4 f))
    by_tests false false e f = rw (e, f) refl

-- ---- what an outcome is

data Settled (bytes : List ℕ) (outcome : Result Image LoadFault) : Type 0 where
  refused : (f : LoadFault) → whole_of bytes ≡ Err f → outcome ≡ Err f → Settled bytes outcome
  loaded : (i : Image) → whole_of bytes ≡ Ok i → IsVerified i → outcome ≡ Ok i → Settled bytes outcome
  broken : (i : Image) (cause : VerifyFault) → whole_of bytes ≡ Ok i → IsAnswer i cause → outcome ≡ Err (Verify cause) → Settled bytes outcome

settled_fault : (bytes : List ℕ) (f : LoadFault) → AreBytes bytes → IsFault bytes f → f ≢ OutOfMemory → Settled bytes (Err f)
settled_fault bytes Magic fit is known = refused Magic (refused_again bytes Magic fit (has_bad 0 is refl)) refl
settled_fault bytes Version fit is known = refused Version (refused_again bytes Version fit (has_bad 4 is refl)) refl
settled_fault bytes (Truncated at) fit is known = refused (Truncated at) (refused_again bytes (Truncated at) fit (ends_within is.1 (ap (λ (n : ℕ). Truncated n) is.0))) refl
settled_fault bytes (BadField at) fit is known = refused (BadField at) (refused_again bytes (BadField at) fit (has_bad at is.2 (sym (other_fault at is.0 is.1)))) refl
settled_fault bytes (Trailing at) fit is known = refused (Trailing at) (refused_again bytes (Trailing at) fit (goes_on at is.1.0 is.0 is.1.1.fits is.1.1.spelled refl)) refl
settled_fault bytes (Verify cause) fit is known = broken is.0 cause (whole_again bytes is.0 is.1) is.2 refl
settled_fault bytes OutOfMemory fit is known = absurd (known refl)

settled : (bytes : List ℕ) (outcome : Result Image LoadFault) → AreBytes bytes → IsOutcome bytes outcome → Settled bytes outcome
settled bytes (Ok i) fit is = loaded i (whole_again bytes i is.spelled) is.verified refl
settled bytes (Err f) fit is = settled_fault bytes f fit is.0 is.1

answered : Image → Result Image LoadFault
answered i = Ok i

one_image : (bytes : List ℕ) (i j : Image) → whole_of bytes ≡ Ok i → whole_of bytes ≡ Ok j → i ≡ j
unfolding answered
one_image bytes i j d e = let both : answered i ≡ answered j = sym d ∙ e in cc

one_settled : (bytes : List ℕ) (outcome other : Result Image LoadFault) → Settled bytes outcome → Settled bytes other → outcome ≡ other
one_settled bytes outcome other (refused f d e) (refused g h k) = e ∙ sym d ∙ h ∙ sym k
one_settled bytes outcome other (refused f d e) (loaded j h v k) = absurd cc
one_settled bytes outcome other (refused f d e) (broken j b h w k) = absurd cc
one_settled bytes outcome other (loaded i d u e) (refused g h k) = absurd cc
one_settled bytes outcome other (loaded i d u e) (loaded j h v k) = e ∙ sym d ∙ h ∙ sym k
one_settled bytes outcome other (loaded i d u e) (broken j b h w k) = absurd (not_both i b u (subst (λ (x : Image). IsAnswer x b) (one_image bytes j i h d) w))
one_settled bytes outcome other (broken i a d u e) (refused g h k) = absurd cc
one_settled bytes outcome other (broken i a d u e) (loaded j h v k) = absurd (not_both j a v (subst (λ (x : Image). IsAnswer x a) (one_image bytes i j d h) u))
one_settled bytes outcome other (broken i a d u e) (broken j b h w k) =
    let same = one_answer i a b u (subst (λ (x : Image). IsAnswer x b) (one_image bytes j i h d) w) in
    e ∙ ap (λ (c : VerifyFault). Err (Verify c)) same ∙ sym k

-- ---- the laws

pub outcome_is_one : OutcomeIsOne
outcome_is_one bytes outcome other all is also =
    let fit = are_bytes bytes all in
    one_settled bytes outcome other (settled bytes outcome fit is) (settled bytes other fit also)

judged_image : (bytes : List ℕ) (i : Image) → SpellsImage i bytes → (outcome : Result Image LoadFault) × IsOutcome bytes outcome
judged_image bytes i spells =
    elim (some_answer i) [
      | inl verified ↦ (Ok i, record { spelled = spells; verified = verified })
      | inr broken_by ↦ (Err (Verify broken_by.0), ((i, spells, broken_by.1), λ e. absurd cc))
    ]

pub some_outcome : BytesHaveAnOutcome
some_outcome bytes all = of_whole (whole_of bytes) refl
  where
    of_whole : (r : Result Image LoadFault) → whole_of bytes ≡ r → (outcome : Result Image LoadFault) × IsOutcome bytes outcome
    of_whole (Ok i) e = judged_image bytes i (whole_found bytes i (are_bytes bytes all) e)
    of_whole (Err f) e = (Err f, whole_refused bytes f (are_bytes bytes all) e)
