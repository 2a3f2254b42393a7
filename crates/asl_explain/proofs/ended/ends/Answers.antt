use Rattle.std.proofs.Common.{rules, ◌≤◌, length, true≢false, sym, arith}
use Rattle.std.proofs.lemmas.Option.{slice_get_within}
use Rattle.asl_explain.proofs.Dropping.{made_dropped}
use Rattle.asl_explain.proofs.ended.ends.Goals as goal

pub returns : goal.returns
returns c = (
  λ e. absurd (true≢false (sym e)),
  λ ends.
      let has = c.requires.news ends.0 ends.1.to (made_dropped c.args.analysis.now c.args.at.number c.args.at.section c.requires.there ends.0 c.args.lock.now ends.1) in
      let within = slice_get_within c.args.news.now has.0 ends.0 has.1 in
      let all : length c.args.news.now ≤ c.loop-pc.pc-index = search rules in
      absurd (c.loop-pc.invariant has.0 ends.0 (omega (arith, within, all)) has.1 ends.1),
)
