use Rattle.std.proofs.Common.{◌+◌, ◌<◌, length, arith}
use Rattle.asl_grammar.specs.Reader.{spots_left}
use Rattle.asl_grammar.specs.View.{spot_of}
use Rattle.asl_map.proofs.Tokens.{first_within}
use Rattle.asl_map.proofs.walker.take.Goals as goal

pub returns-in-Token : goal.returns-in-Token
returns-in-Token c =
    let within : c.in-Token.spot.at < c.args.tokens.now.at + length c.args.tokens.now.rest.now =
    first_within c.args.tokens.now.rest.now 0 c.args.tokens.now.at (spot_of c.in-Token.spot) (spots_left c.next.new.self) c.in-Token.ensures.found.0 in
    (c.in-Token.ensures.found.0, omega (arith, within, c.args.tokens.now.fits), c.in-Token.ensures.shorter)
