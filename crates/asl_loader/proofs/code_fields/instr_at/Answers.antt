use Rattle.std.proofs.Common.{arith}
use Rattle.std.proofs.lemmas.List.{take_rest}
use Rattle.asl_code.proofs.Values.{AreBytes}
use Rattle.asl_loader.proofs.Eight.{instr_at-short, gives_ok, gives_err}
use Rattle.asl_loader.proofs.code_fields.instr_at.Goals as goal

pub returns-then-bytes-lt8 : goal.returns-then-bytes-lt8
returns-then-bytes-lt8 c = (instr_at-short c.args.bytes.now c.if-bytes-lt8.true)

pub returns-in-Ok : goal.returns-in-Ok
returns-in-Ok c =
    let fit : AreBytes c.args.bytes.now = λ i. omega (arith, c.type_inv.bytes i) in
    rw (take_rest c.args.bytes.now 8) (gives_ok c.args.bytes.now c.eight_of.result c.if-bytes-lt8.false fit c.eight_of.ensures c.get_instr.result c.get_instr.ensures.found c.get_instr.ensures.refused c.in-Ok.instr c.in-Ok.is)

pub returns-in-Err : goal.returns-in-Err
returns-in-Err c =
    let fit : AreBytes c.args.bytes.now = λ i. omega (arith, c.type_inv.bytes i) in
    gives_err c.args.bytes.now c.eight_of.result c.if-bytes-lt8.false fit c.eight_of.ensures c.get_instr.result c.get_instr.ensures.found c.get_instr.ensures.refused c.in-Err.place c.in-Err.is
