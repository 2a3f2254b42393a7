use Rattle.std.proofs.Common.{arith}
use Rattle.asl_lock_expr.proofs.Sets.{length_at, lengths_kept, class_added}
use Rattle.asl_lock_expr.proofs.stores.add_to.Goals as goal

pub add-requires : goal.add-requires
add-requires c = c.requires.below c.args.function _ (length_at c.args.sets.now.items c.args.function c.index_mut.result.now (omega (arith, c.requires.there)) c.index_mut.ensures.value)

pub returns-clause-lengths : goal.returns-clause-lengths
returns-clause-lengths c = lengths_kept c.args.sets.now.items c.args.function c.args.class c.index_mut.result.now c.add.new.self (omega (arith, c.requires.there)) c.index_mut.ensures.value c.add.ensures.length

pub returns-clause-classes : goal.returns-clause-classes
returns-clause-classes c = class_added c.args.sets.now.items c.args.function c.args.class c.index_mut.result.now c.add.new.self (omega (arith, c.requires.there)) c.index_mut.ensures.value c.add.ensures.numbers
