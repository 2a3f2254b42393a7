use Rattle.std.proofs.Common.{arith, rules}
use Rattle.std.proofs.lemmas.List.{length-take-le}
use Rattle.asl_tool.proofs.Parting.{sized_more, parted_more, none_at_first, some_read}
use Rattle.asl_tool.proofs.streams.read_whole.Goals as goal

pub loop-preserved : goal.loop-preserved
loop-preserved g c =
    let count = c.in-Ok.count in
    let sized = length-take-le count c.take_bytes.new.buffer (search rules) in
    record {
      grows = omega arith;
      short = omega arith;
      wanted = some_read _ _ (omega arith);
      sized = sized_more _ count _ _ _ c.loop.invariant.sized sized c.with_bytes-kept.ensures;
      told = λ bytes is. parted_more bytes _ _ _ count _ _ _ (c.loop.invariant.told bytes is) (search rules) sized c.with_bytes-kept.ensures;
    }

pub returns-in-Err-clause-fault : goal.returns-in-Err-clause-fault
returns-in-Err-clause-fault g c = none_at_first _ _ _ _ c.loop.invariant.told c.in-Err.ensures.unknown
