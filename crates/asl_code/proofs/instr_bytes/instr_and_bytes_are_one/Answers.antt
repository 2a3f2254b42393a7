use Rattle.asl_code.proofs.Instrs.{instr_is_one, spelling_is_one, place_is_one}
use Rattle.asl_code.proofs.instr_bytes.instr_and_bytes_are_one.Goals as goal

pub returns-clause-instr : goal.returns-clause-instr
returns-clause-instr c = instr_is_one

pub returns-clause-bytes : goal.returns-clause-bytes
returns-clause-bytes c = spelling_is_one

pub returns-clause-place : goal.returns-clause-place
returns-clause-place c = place_is_one
