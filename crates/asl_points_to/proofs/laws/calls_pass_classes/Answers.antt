use Rattle.asl_code.specs.declared.instr.Instr.TheVariants as instr
use Rattle.asl_points_to.proofs.laws.calls_pass_classes.Goals as goal

pub returns : goal.returns
returns c = record {
  arguments = λ l d f pc a first g n callee legal b e t lt. (legal.instrs f pc (instr.Call a first g) b e).passed callee n t lt;
  result = λ l d f pc a first g last r legal b e end at. (legal.instrs f pc (instr.Call a first g) b e).returned last r end at;
}
