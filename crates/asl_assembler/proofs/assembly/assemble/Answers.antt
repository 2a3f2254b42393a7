use Rattle.std.proofs.Common.{◌≡◌, true, false, refl, ap, Err, inl, inr}
use Rattle.asl_code.specs.Verified.{IsAnswer, applies, keeps_limits}
use Rattle.asl_code.specs.declared.fault.VerifyFault.TheVariants.{Limit}
use Rattle.asl_assembler.specs.Words.{lines_of}
use Rattle.asl_assembler.specs.Text.{Spells}
use Rattle.asl_code.proofs.OneAnswer.{limit_answer}
use Rattle.asl_assembler.proofs.Overs.{spelled_over}
use Rattle.asl_assembler.proofs.Texts.{image_spelled, one_image, bad_line, not_both}
use Rattle.asl_assembler.proofs.assembly.assemble.Goals as goal

pub returns-in-Err-Line-clause-only : goal.returns-in-Err-Line-clause-only
returns-in-Err-Line-clause-only c =
    let text = c.args.text.now in
    let number = c.in-Err-Line.number in
    λ image spelled verified. absurd (not_both (lines_of text) image number spelled (bad_line (lines_of text) number (rw c.in-Err-Line.field-0-is at c.in-Err-Line.ensures)))

pub returns-in-Err-Line-clause-refused : goal.returns-in-Err-Line-clause-refused
returns-in-Err-Line-clause-refused c = bad_line (lines_of c.args.text.now) c.in-Err-Line.number (rw c.in-Err-Line.field-0-is at c.in-Err-Line.ensures)

pub returns-in-Ok-verify-clause-spelled : goal.returns-in-Ok-verify-clause-spelled
returns-in-Ok-verify-clause-spelled c =
    let same : c.in-Ok-verify.program ≡ c.in-Ok.image = c.in-Ok-verify.ensures.program in
    let spelled : Spells c.args.text.now c.in-Ok.image = image_spelled c.args.text.now c.in-Ok.image c.in-Ok.ensures in
    rw same spelled

pub returns-in-Ok-verify-clause-only : goal.returns-in-Ok-verify-clause-only
returns-in-Ok-verify-clause-only c = λ image spelled verified.
    let text = c.args.text.now in
    let same : c.in-Ok-verify.program ≡ c.in-Ok.image = c.in-Ok-verify.ensures.program in
    let one : c.in-Ok.image ≡ image = one_image text c.in-Ok.image image (image_spelled text c.in-Ok.image c.in-Ok.ensures) spelled in
    inl (cc)

pub returns-clause-only : goal.returns-clause-only
returns-clause-only c = λ image spelled verified.
    let text = c.args.text.now in
    let answer : IsAnswer c.in-Ok.image c.in-Err.cause = c.in-Err.ensures.fault in
    let one : c.in-Ok.image ≡ image = one_image text c.in-Ok.image image (image_spelled text c.in-Ok.image c.in-Ok.ensures) spelled in
    let holds : applies c.in-Ok.image c.in-Err.cause ≡ true = answer.holds in
    let here : applies image c.in-Err.cause ≡ true = rw one at holds in
    let not : applies image c.in-Err.cause ≡ false = verified c.in-Err.cause in
    absurd (cc)

pub returns-clause-refused : goal.returns-clause-refused
returns-clause-refused c = (c.in-Ok.image, image_spelled c.args.text.now c.in-Ok.image c.in-Ok.ensures, c.in-Err.ensures.fault)

pub returns-in-Err-Over-clause-only : goal.returns-in-Err-Over-clause-only
returns-in-Err-Over-clause-only c = λ image spelled verified.
    elim c.line_or.ensures [
      | inl line ↦ absurd (not_both (lines_of c.args.text.now) image line.0 spelled line.2)
      | inr other ↦
          let over : keeps_limits image ≡ false = spelled_over c.args.text.now image (rw c.in-Err-Over.field-0-is at c.in-Err-Over.ensures) spelled in
          let kept : applies image Limit ≡ false = verified Limit in
          let broken : applies image Limit ≡ true = rw over refl in
          absurd (cc)
    ]

pub returns-in-Err-Over-clause-refused : goal.returns-in-Err-Over-clause-refused
returns-in-Err-Over-clause-refused c =
    elim c.line_or.ensures [
      | inl line ↦ rw line.1 line.2
      | inr other ↦
          rw other.1 (other.0.0, other.0.1, limit_answer other.0.0 (spelled_over c.args.text.now other.0.0 (rw c.in-Err-Over.field-0-is at c.in-Err-Over.ensures) other.0.1))
    ]

pub returns-in-Err-OutOfMemory-clause-only : goal.returns-in-Err-OutOfMemory-clause-only
returns-in-Err-OutOfMemory-clause-only c = λ image spelled verified.
    elim c.line_or-in-Err-OutOfMemory.ensures [
      | inl line ↦ absurd (not_both (lines_of c.args.text.now) image line.0 spelled line.2)
      | inr other ↦ inr (ap Err other.1)
    ]
