-- Machinery of the proofs, not of the promise: what the code has built (src/build.rt), as the value that specs/Built
-- speaks of, the builder of docs/SOURCE.md's trees.
use Rattle.std.specs.Prelude.{ℕ, List, Option, Some, None, map, Vec}
use Rattle.std.specs.declared.alloc.Global.{Global}
use Rattle.asl_syntax.specs.declared.tree.Statement as tree
use Rattle.asl_syntax.specs.declared.open_block.Part as part
use Rattle.asl_syntax.specs.declared.open_block.Header as header
use Rattle.asl_syntax.specs.declared.open_block.Header.TheVariants as headers
use Rattle.asl_syntax.specs.declared.open_block.Frame as frame
use Rattle.asl_syntax.specs.Tree.{Block}
use Rattle.asl_syntax.specs.View.{statement_of, block_of}
use Rattle.asl_syntax.specs.Built.{Header, ThenBlock, ElseBlock, WhileBlock, AtomicBlock, Part, Frame}

-- an `if` that waits
abbrev pub pending_of : Option (List ℕ × Vec tree.Statement Global) → Option (List ℕ × Block)
pending_of None = None
pending_of (Some p) = Some (p.0, block_of p.1.items)

-- the statements of a block so far
abbrev pub part_of : part.Part → Part
part_of p = record { done = map statement_of p.done.items; pending = pending_of p.pending }

-- whose block an open block is
abbrev pub header_in : header.Header → Header
header_in (headers.Then x) = ThenBlock x
header_in (headers.Else x a) = ElseBlock x (block_of a.items)
header_in (headers.While x) = WhileBlock x
header_in headers.Atomic = AtomicBlock

-- an open block
abbrev pub frame_of : frame.Frame → Frame
frame_of f = record { header = header_in f.header; outer = map statement_of f.outer.items }
