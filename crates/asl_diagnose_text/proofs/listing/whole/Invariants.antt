use Rattle.asl_diagnose_text.specs.TextLines.{rows_left}
use Rattle.asl_diagnose_text.proofs.listing.whole.Given as goal

abbrev pub decreases-rows : goal.decreases-rows
decreases-rows l = rows_left l.rows
