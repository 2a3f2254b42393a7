use Rattle.asl_syntax.proofs.ReadBack.{sound, read_back, too_long}
use Rattle.asl_syntax.proofs.laws.a_printed_tree_is_read_back.Goals as goal

pub returns-clause-kept : goal.returns-clause-kept
returns-clause-kept c = λ t text p. read_back t (sound text t p)

pub returns-clause-long : goal.returns-clause-long
returns-clause-long c = λ t text p. too_long t (sound text t p)
