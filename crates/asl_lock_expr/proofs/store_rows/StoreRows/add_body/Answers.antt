use Rattle.std.proofs.Common.{◌≡◌, ◌<◌, ℕ, length, ap, arith}
use Rattle.asl_lower.specs.OpenSections.{owner_of}
use Rattle.asl_lock_expr.proofs.Storings.{instr_read}
use Rattle.asl_lock_expr.proofs.store_rows.StoreRows.add_body.Goals as goal

pub loop-pc-preserved : goal.loop-pc-preserved
loop-pc-preserved c =
    let l = c.args.lowering.now in
    let pc : ℕ = c.loop-pc.pc in
    let inside : pc < length c.code.result.now = omega (arith, ap length c.code.ensures.code, c.requires.there, c.loop-pc-test.true) in
    let stands = instr_read l.code c.code.result.now pc _ c.code.ensures.code inside in
    let owner : owner_of l.functions pc ≡ c.args.function = c.requires.body pc c.loop-pc.invariant.from_start c.loop-pc-test.true in
    let before = c.loop-pc.invariant in
    record {
      from_start = omega (arith, before.from_start);
      to_end = omega (arith, c.loop-pc-test.true);
      stores = λ first. c.in_ok-add.ensures.stores.listed l pc owner stands (before.stores first);
      calls = λ first. c.in_ok-add.ensures.calls.listed l pc owner stands (before.calls first);
      few = λ h. c.in_ok-add.ensures.stores.few (before.few h);
      few_calls = λ h. c.in_ok-add.ensures.calls.few (before.few_calls h);
    }
