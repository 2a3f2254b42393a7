-- Machinery of the proofs, not of the promise: the code's mentions (src/mentions.rt) of the names of docs/SOURCE.md as
-- values.
use Rattle.std.specs.Prelude.{List, map}
use Rattle.asl_syntax.specs.declared.mentions.Mention as code
use Rattle.asl_syntax.specs.declared.mentions.Mention.TheVariants as codes
use Rattle.asl_syntax.specs.Mentions.{Mention, DeclaresGlobal, DeclaresFunction, DeclaresParameter, AssignsLocal, UsesLocal, UsesGlobal, CallsFunction}

-- a mention, with the names that its references point to
abbrev pub mention_of : code.Mention → Mention
mention_of (codes.Global x) = DeclaresGlobal x.now
mention_of (codes.Function x) = DeclaresFunction x.now
mention_of (codes.Parameter x) = DeclaresParameter x.now
mention_of (codes.Assigned x) = AssignsLocal x.now
mention_of (codes.Local x) = UsesLocal x.now
mention_of (codes.GlobalUse x) = UsesGlobal x.now
mention_of (codes.Call x n) = CallsFunction x.now n

-- a list of them
abbrev pub mentions_of : List code.Mention → List Mention
mentions_of ms = map mention_of ms
