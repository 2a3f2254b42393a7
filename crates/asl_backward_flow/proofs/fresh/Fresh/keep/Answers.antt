use Rattle.std.proofs.Common.{◌∙◌, Some, map, ap, arith}
use Rattle.asl_backward_flow.specs.Fresh.{set_of}
use Rattle.asl_backward_flow.specs.Found.{list_at}
use Rattle.asl_backward_flow.proofs.Keeping.{put_here, put_else, none_more}
use Rattle.asl_backward_flow.proofs.fresh.Fresh.keep.Goals as goal

pub loop-self-preserved : goal.loop-self-preserved
loop-self-preserved c = record {
  followed = c.loop-self.invariant.followed;
  kept = λ k. ap (λ xs. list_at (map set_of xs) k) c.in_ok-push.ensures.items ∙ none_more c.loop-self.self.sets.items k ∙ c.loop-self.invariant.kept k;
}

pub returns-clause-here : goal.returns-clause-here
returns-clause-here c =
    let lt = c.loop-self-test.false in let len = c.len.ensures in let ok = c.loop-self.self.sets.ok.0 in
    put_here c.loop-self.self.sets.items c.args.place (Some c.args.set) (omega (arith, lt, len, ok))

pub returns-clause-rest : goal.returns-clause-rest
returns-clause-rest c = λ k ne. put_else c.loop-self.self.sets.items c.args.place (Some c.args.set) k ne ∙ c.loop-self.invariant.kept k
