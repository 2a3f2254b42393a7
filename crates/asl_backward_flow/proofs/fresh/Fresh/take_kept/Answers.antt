use Rattle.std.proofs.Common.{◌∙◌, ap, sym, arith}
use Rattle.asl_backward_flow.specs.Fresh.{set_of}
use Rattle.asl_backward_flow.proofs.Keeping.{put_here, put_else, set_past}
use Rattle.asl_backward_flow.proofs.fresh.Fresh.take_kept.Goals as goal

pub returns-then-place-len-clause-none : goal.returns-then-place-len-clause-none
returns-then-place-len-clause-none c =
    let lt = c.if-place-len.true in let len = c.len.ensures in let ok = c.args.self.now.sets.ok.0 in
    put_here c.args.self.now.sets.items c.args.place c.replace.new.dest (omega (arith, lt, len, ok)) ∙ ap set_of c.replace.ensures.after

pub returns-then-place-len-clause-rest : goal.returns-then-place-len-clause-rest
returns-then-place-len-clause-rest c = λ k ne. put_else c.args.self.now.sets.items c.args.place c.replace.new.dest k ne

pub returns-clause-set : goal.returns-clause-set
returns-clause-set c =
    let lt = c.if-place-len.false in let len = c.len.ensures in let ok = c.args.self.now.sets.ok.0 in
    sym (set_past c.args.self.now.sets.items c.args.place (omega (arith, lt, len, ok)))

pub returns-clause-none : goal.returns-clause-none
returns-clause-none c =
    let lt = c.if-place-len.false in let len = c.len.ensures in let ok = c.args.self.now.sets.ok.0 in
    set_past c.args.self.now.sets.items c.args.place (omega (arith, lt, len, ok))
