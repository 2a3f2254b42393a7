use Rattle.std.proofs.Common.{◌<◌, refl, arith}
use Rattle.asl_class_reasons.proofs.Searching.{entry_seen, found_at}
use Rattle.asl_class_reasons.proofs.search.Search.visit_of.Goals as goal

pub returns-else-at-eq0-clause-some : goal.returns-else-at-eq0-clause-some
returns-else-at-eq0-clause-some c =
    let has = c.if-not-is_there.ensures.0 refl in
    let is = entry_seen c.args.self.now c.args.place c.number.result c.index-at.result.now c.requires has c.number.ensures c.index-at.ensures in
    let some : 0 < c.index-at.result.now = (let n = c.if-at-eq0.false in omega arith) in
    found_at c.args.self.now c.args.place c.index-at.result.now c.requires has some is
