use Rattle.std.proofs.Common.{◌≡◌, ◌+◌, ◌*◌, arith, subst}
use Rattle.asl_mode_lanes.proofs.Rows.{Joined, chunk_joined, code_joined}
use Rattle.asl_mode_lanes.proofs.RowCodes.{joined_codes, joined_modes}
use Rattle.asl_mode_lanes.proofs.row.join_rows.Goals as goal

pub loop-k-preserved : goal.loop-k-preserved
loop-k-preserved c =
    let next : c.loop-k.k * 16 + 16 ≡ (c.loop-k.k + 1) * 16 = omega arith in
    subst (Joined c.args.into.now _ c.args.from.now) next
    (chunk_joined c.args.into.now c.loop-k.into _ c.args.from.now (c.loop-k.k * 16) c.loop-k.invariant c.join_lanes.ensures.joined c.join_lanes.ensures.len)

pub loop-t-preserved : goal.loop-t-preserved
loop-t-preserved c = code_joined c.args.into.now c.loop-t.into c.args.from.now c.loop-t.t c.loop-t.invariant (omega arith)

pub returns-clause-codes : goal.returns-clause-codes
returns-clause-codes c k d there =
    joined_codes c.args.into.now c.loop-t.into c.args.from.now c.loop-t.t c.loop-t.invariant (omega arith) c.requires.same_length c.requires.into_codes c.requires.from_codes k d there

pub returns-clause-joined : goal.returns-clause-joined
returns-clause-joined c t =
    joined_modes c.args.into.now c.loop-t.into c.args.from.now c.loop-t.t c.loop-t.invariant (omega arith) c.requires.same_length c.requires.into_codes c.requires.from_codes t

pub returns-clause-len : goal.returns-clause-len
returns-clause-len c = c.loop-t.invariant.same_length
