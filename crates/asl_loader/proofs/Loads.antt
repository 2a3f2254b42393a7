-- What the reader of all the bytes answers is the image that they spell, or the first thing that is wrong with them.
use Rattle.std.proofs.Common.{◌≡◌, ◌≢◌, ℕ, Bool, true, false, eqb, inl, inr, List, Result, Ok, Err, refl, sym, subst, ◌∙◌}
use Rattle.std.proofs.lemmas.Bool.{eqb-true}
use Rattle.asl_code.specs.declared.fault.VerifyFault.{VerifyFault}
use Rattle.asl_code.specs.declared.fault.VerifyFault.TheVariants.{Limit}
use Rattle.asl_code.specs.declared.image.Image.{Image}
use Rattle.asl_code.specs.Verified.{applies, IsAnswer, IsVerified}
use Rattle.asl_loader.specs.Bytes.{image_fields, IsImage, SpellsImage}
use Rattle.asl_loader.specs.Faults.{are_short, IsBadImageByte, IsFault}
use Rattle.asl_loader.specs.ImageFields.{Answers, image_at, bad_fault, whole_of}
use Rattle.asl_loader.specs.declared.fault.LoadFault.{LoadFault}
use Rattle.asl_loader.specs.declared.fault.LoadFault.TheVariants.{Truncated, Trailing, Verify, OutOfMemory}
use Rattle.asl_code.proofs.Values.{AreBytes}
use Rattle.asl_loader.proofs.Images.{image_reads}
use Rattle.asl_loader.proofs.Lists.{verified_short, long_is_answer}
use Rattle.asl_loader.proofs.Whole as whole
use Rattle.asl_loader.proofs.Whole.{IsWrong}

-- the fault is the first thing that is wrong with the bytes of an image
abbrev pub Wrong : List ℕ → LoadFault → Type 0
Wrong bytes f = IsWrong Image LoadFault IsImage image_fields (λ n. Truncated n) bad_fault (λ n. Trailing n) bytes f

abbrev answered : Image → Result Image LoadFault
answered i = Ok i

abbrev refused : LoadFault → Result Image LoadFault
refused f = Err f

pub whole_found : (bytes : List ℕ) (i : Image) → AreBytes bytes → whole_of bytes ≡ Ok i → SpellsImage i bytes
unfolding whole_of
whole_found bytes i fit e =
    let w = whole.whole_found Image LoadFault IsImage image_fields image_at image_reads (λ n. Truncated n) bad_fault (λ n. Trailing n) bytes i fit e in
    record { fits = w.0; spelled = w.1 }

pub whole_again : (bytes : List ℕ) (i : Image) → SpellsImage i bytes → whole_of bytes ≡ Ok i
unfolding whole_of
whole_again bytes i s = whole.whole_again Image LoadFault IsImage image_fields image_at image_reads (λ n. Truncated n) bad_fault (λ n. Trailing n) bytes i s.fits s.spelled

-- the fault of a bad byte names it, and is not running out of memory
bad_is : (bytes : List ℕ) (at : ℕ) (p q : Bool) → eqb at 0 ≡ p → eqb at 4 ≡ q → IsBadImageByte bytes at → IsFault bytes (bad_fault at) × (bad_fault at ≢ OutOfMemory)
bad_is bytes at true q e f bad = rw e (subst (IsBadImageByte bytes) (eqb-true at 0 e) bad, λ z. absurd cc)
bad_is bytes at false true e f bad = rw (e, f) (subst (IsBadImageByte bytes) (eqb-true at 4 f) bad, λ z. absurd cc)
bad_is bytes at false false e f bad =
    let no : at ≢ 0 = λ z. let y : eqb at 0 ≡ true = rw z refl in absurd cc in
    let nor : at ≢ 4 = λ z. let y : eqb at 4 ≡ true = rw z refl in absurd cc in
    rw (e, f) ((no, nor, bad), λ z. absurd cc)

wrong_is : (bytes : List ℕ) (f : LoadFault) → Wrong bytes f → IsFault bytes f × (f ≢ OutOfMemory)
wrong_is bytes f (whole.ends_within cut e) = rw e ((refl, cut), λ z. absurd cc)
wrong_is bytes f (whole.has_bad at bad e) = rw e (bad_is bytes at (eqb at 0) (eqb at 4) refl refl bad)
wrong_is bytes f (whole.goes_on at i lt is spelled e) = rw e ((lt, (i, record { fits = is; spelled = spelled })), λ z. absurd cc)

pub whole_refused : (bytes : List ℕ) (f : LoadFault) → AreBytes bytes → whole_of bytes ≡ Err f → IsFault bytes f × (f ≢ OutOfMemory)
unfolding whole_of
whole_refused bytes f fit e =
    wrong_is bytes f (whole.whole_refused Image LoadFault IsImage image_fields image_at image_reads (λ n. Truncated n) bad_fault (λ n. Trailing n) bytes f fit e)

pub refused_again : (bytes : List ℕ) (f : LoadFault) → AreBytes bytes → Wrong bytes f → whole_of bytes ≡ Err f
unfolding whole_of
refused_again bytes f fit wrong = whole.refused_again Image LoadFault IsImage image_fields image_at image_reads (λ n. Truncated n) bad_fault (λ n. Trailing n) bytes f fit wrong

-- ---- the clauses of load

pub found_is : (bytes : List ℕ) (i : Image) → AreBytes bytes → Answers (Ok i) (whole_of bytes) → SpellsImage i bytes
found_is bytes i fit w =
    elim w [
      | inl e ↦ whole_found bytes i fit (sym e)
      | inr (inl long) ↦ let both : answered i ≡ refused (Verify Limit) = long.0 in absurd cc
      | inr (inr out) ↦ let both : answered i ≡ refused OutOfMemory = out.0 in absurd cc
    ]

pub refused_is : (bytes : List ℕ) (f : LoadFault) → AreBytes bytes → Answers (Err f) (whole_of bytes) → IsFault bytes f
refused_is bytes f fit w =
    elim w [
      | inl e ↦ (whole_refused bytes f fit (sym e)).0
      | inr (inl long) ↦
          let both : refused f ≡ refused (Verify Limit) = long.0 in
          let same : Verify Limit ≡ f = cc in
          subst (IsFault bytes) same (long.1.0, whole_found bytes long.1.0 fit long.1.1, long_is_answer long.1.0 long.1.2)
      | inr (inr out) ↦
          let both : refused f ≡ refused OutOfMemory = out.0 in
          let same : OutOfMemory ≡ f = cc in
          subst (IsFault bytes) same (out.1.0, whole_found bytes out.1.0 fit out.1.1, out.1.2)
    ]

-- the image that is spelled is the one that was read
pub only_is : (bytes : List ℕ) (i j : Image) → Answers (Ok i) (whole_of bytes) → SpellsImage j bytes → i ≡ j
only_is bytes i j w s =
    elim w [
      | inl e ↦ let both : answered i ≡ answered j = e ∙ whole_again bytes j s in cc
      | inr (inl long) ↦ let both : answered i ≡ refused (Verify Limit) = long.0 in absurd cc
      | inr (inr out) ↦ let both : answered i ≡ refused OutOfMemory = out.0 in absurd cc
    ]

-- a program is refused only because memory ran out
pub only_memory : (bytes : List ℕ) (f : LoadFault) (j : Image) → Answers (Err f) (whole_of bytes) → SpellsImage j bytes → IsVerified j → f ≡ OutOfMemory
only_memory bytes f j w s verified =
    elim w [
      | inl e ↦ let both : refused f ≡ answered j = e ∙ whole_again bytes j s in absurd cc
      | inr (inl long) ↦
          let both : answered long.1.0 ≡ answered j = sym long.1.1 ∙ whole_again bytes j s in
          let same : long.1.0 ≡ j = cc in
          let some : are_short j.lists ≡ false = subst (λ (i : Image). are_short i.lists ≡ false) same long.1.2 in
          let none = verified_short j verified in
          absurd cc
      | inr (inr out) ↦ let both : refused f ≡ refused OutOfMemory = out.0 in cc
    ]

-- no fault applies to a verified image
pub not_both : (i : Image) (cause : VerifyFault) → IsVerified i → IsAnswer i cause → ⊥
not_both i cause verified answer = let yes : applies i cause ≡ true = answer.holds in let no : applies i cause ≡ false = verified cause in absurd cc
