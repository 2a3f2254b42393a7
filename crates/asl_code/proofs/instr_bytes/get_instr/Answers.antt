use Rattle.asl_code.proofs.Instrs.{AreEight, eight_are, fields_are, is_found, is_read, is_refused}
use Rattle.asl_code.proofs.instr_bytes.get_instr.Goals as goal

pub returns-clause-found : goal.returns-clause-found
returns-clause-found c =
    let bytes = c.args.bytes.now in
    let is : AreEight bytes = record { len = c.told-bytes; fit = c.fits-bytes } in
    is_found bytes _ _ _ _ _ c.from_be_bytes.result (fields_are bytes c.from_be_bytes.result is c.from_be_bytes.type_inv) (eight_are bytes c.from_be_bytes.result is c.from_be_bytes.ensures) c.instr_of_fields.ensures

pub returns-clause-only : goal.returns-clause-only
returns-clause-only c i s =
    let bytes = c.args.bytes.now in
    let is : AreEight bytes = record { len = c.told-bytes; fit = c.fits-bytes } in
    is_read bytes _ _ _ _ _ c.from_be_bytes.result i (fields_are bytes c.from_be_bytes.result is c.from_be_bytes.type_inv) (eight_are bytes c.from_be_bytes.result is c.from_be_bytes.ensures) c.instr_of_fields.ensures s

pub returns-clause-refused : goal.returns-clause-refused
returns-clause-refused c =
    let bytes = c.args.bytes.now in
    let is : AreEight bytes = record { len = c.told-bytes; fit = c.fits-bytes } in
    is_refused bytes _ _ _ _ _ c.from_be_bytes.result (fields_are bytes c.from_be_bytes.result is c.from_be_bytes.type_inv) (eight_are bytes c.from_be_bytes.result is c.from_be_bytes.ensures) c.instr_of_fields.ensures
