use Rattle.std.proofs.Common.{rules, ◌<◌, slice_index, refl, subst, arith}
use Rattle.asl_machine.specs.Places.{chain_of}
use Rattle.asl_machine.proofs.NodePlaces.{noted}
use Rattle.asl_machine.proofs.places.Places.note.Goals as goal

pub returns : goal.returns
returns c request mode count h none =
    let few = c.requires in
    noted request c.args.node mode c.args.self.now _ (slice_index c.args.self.now.last (chain_of c.args.node))
    (subst (λ n. n < 512) c.chain_of-chain.ensures.chain c.chain_of-chain.ensures.within) (omega (arith, count, few)) refl (search rules) (search rules) h none
