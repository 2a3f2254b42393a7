use Rattle.std.proofs.Common.{arith}
use Rattle.std.proofs.lemmas.Option.{slice_get_within}
use Rattle.asl_backward_flow.proofs.masks.split.Goals as goal

pub returns-then-len-eq0-clause-none : goal.returns-then-len-eq0-clause-none
returns-then-len-eq0-clause-none c e n here there = let lt = slice_get_within c.args.touched.now n _ there in omega (arith, lt, c.len.ensures, c.if-len-eq0.true)
