use Rattle.asl_syntax.specs.NumberedNamesView.{counts_in}
use Rattle.asl_lower.proofs.Numbered.{all_numbered, none_numbered}
use Rattle.asl_lower.proofs.item_numbers.or_empty.Goals as goal

pub returns-in-Ok : goal.returns-in-Ok
returns-in-Ok c = λ names h. all_numbered (counts_in c.in-Ok.numbering) names (rw c.in-Ok.is at h)

pub returns-in-Err : goal.returns-in-Err
returns-in-Err c = λ names h. none_numbered (counts_in c.new.result) names c.new.ensures.counts
