use Rattle.std.proofs.Common.{◌≡◌, ℕ, ◌<◌, List, Some, length, slice_get, sym, ap, ◌∙◌, subst, arith}
use Rattle.std.specs.List.{Contains}
use Rattle.asl_code.specs.declared.instr.Instr.{Instr}
use Rattle.asl_lower.specs.Lowered.{Lowered}
use Rattle.asl_lower.specs.OpenSections.{successors}
use Rattle.asl_lower.specs.LegalLowering.{lowered_of}
use Rattle.asl_lower.proofs.Reaching.{read_at}
use Rattle.asl_lower.proofs.Told.{listed_goes, goes_listed}
use Rattle.asl_lower.proofs.lowering.Lowering.successors.Goals as goal

pub returns-clause-listed : goal.returns-clause-listed
returns-clause-listed c i stands =
    let l = lowered_of c.self.inside.draft in
    let same : l.code ≡ c.args.self.now.code = ap (λ (m : Lowered). m.code) c.self.view_is in
    let low : c.from.result < length l.code = omega (arith, c.requires, c.from.ensures, ap (length {A = Instr}) same) in
    let read = read_at l.code c.from.result c.index.result.now low c.index.ensures in
    let q : Some c.index.result.now ≡ Some i = sym read ∙ ap (slice_get l.code) c.from.ensures ∙ ap (λ (code : List Instr). slice_get code c.args.pc) same ∙ stands in
    let is : c.index.result.now ≡ i = cc in
    c.successors.ensures ∙ ap (λ j. successors j c.args.pc) is

pub returns-clause-goes_on : goal.returns-clause-goes_on
returns-clause-goes_on c i stands to =
    let P : List ℕ → Type 0 = λ xs. Contains xs to in
    let listed = returns-clause-listed c i stands in (
      λ h. listed_goes i c.args.pc to (subst P listed h),
      λ g. subst P (sym listed) (goes_listed i c.args.pc to g),
    )
