use Rattle.asl_journal.proofs.ByTable.{goes_of, end_is, leads_at, journal_of, run_computed, reached_leads}
use Rattle.asl_journal.proofs.laws.journals_are_computed.Goals as goal

pub returns : goal.returns
returns c = record {
  computed = λ image count events j. (goes_of image count events j, leads_at image count events j);
  one = end_is;
  only = journal_of;
  from = run_computed;
  onwards = reached_leads;
}
