use Rattle.std.proofs.Common.{arith}
use Rattle.asl_diagnose.proofs.infer_place.region_place.Goals as goal

pub word_place-requires : goal.word_place-requires
word_place-requires c = omega (arith, c.from.ensures, c.requires.section c.in-Section.section c.in-Section.is)

pub word_place-requires-in-Body : goal.word_place-requires-in-Body
word_place-requires-in-Body c = omega (arith, c.from-in-Body.ensures, c.requires.body c.in-Body.function c.in-Body.is)
