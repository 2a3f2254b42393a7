-- All facts of the lowering of a program together.
use Rattle.std.proofs.Math.Logic.{∥∥₁_elim}
use Rattle.asl_syntax.specs.Tree.{Item}
use Rattle.asl_syntax.specs.Parsed.{IsParsed}
use Rattle.std.proofs.Common.{List}
use Rattle.asl_lower.specs.Lowered.{Lowered, IsLowering}
use Rattle.asl_lower.specs.Facts.{HasLayout}
use Rattle.asl_lower.proofs.BodyFacts.{lowering_parted, lowering_nested, lowering_returns}
use Rattle.asl_lower.proofs.SectionFacts.{lowering_sections, lowering_stays, lowering_numbered}
use Rattle.asl_lower.proofs.Ruled.{lowering_operands}
use Rattle.asl_lower.proofs.Limited.{lowering_limits, lowering_main}
use Rattle.asl_lower.proofs.Props.{HasLayout-prop}

pub lowering_layout : (is : List Item) (l : Lowered) → IsParsed is → IsLowering is l → HasLayout l
lowering_layout is l parsed h =
    record {
      parted = lowering_parted is l h;
      nested = lowering_nested is l h;
      sections = lowering_sections is l h;
      returns = lowering_returns is l h;
      inside = lowering_stays is l h;
      numbered = lowering_numbered is l h;
      operands = lowering_operands is l parsed h;
      limits = lowering_limits is l parsed h;
      main = lowering_main is l parsed h;
    }

-- also where the text that spells the program is not at hand
pub emitted_layout : (is : List Item) (l : Lowered) → ∥ IsParsed is ∥₁ → IsLowering is l → HasLayout l
emitted_layout is l parsed h = ∥∥₁_elim parsed (HasLayout-prop l) (λ p. lowering_layout is l p h)
