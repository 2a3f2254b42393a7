use Rattle.asl_code.proofs.GoodRows.{made_is}
use Rattle.asl_code.specs.Reading.{row_of}
use Rattle.asl_code.proofs.instr_bytes.instr_of_fields.Goals as goal

pub returns-in-None : goal.returns-in-None
returns-in-None c = made_is (row_of c.args.op) c.in-Some.used c.in-Some.greatest c.args.a c.args.b c.args.c c.args.d c.made_of.result c.in-Some.ensures c.in-None.ensures c.made_of.ensures
