use Rattle.std.proofs.Common.{refl}
use Rattle.asl_diagnose.proofs.assembly_refusal.told.Goals as goal

pub returns : goal.returns
returns c = record {
  fault = c.args.fault;
  refusal = refl;
  holds = c.requires.fault;
  real = c.requires.real;
  place = c.assembly_place-at.ensures;
  position = record { line = c.line-line.ensures; column = c.column-column.ensures };
  first = refl;
  kinds = (c.new.ensures.items, refl);
  bringers = refl;
}
