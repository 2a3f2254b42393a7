use Rattle.asl_journal.proofs.ByTable.{one_end, lead_reached}
use Rattle.asl_journal.proofs.laws.events_lead_to_one_state.Goals as goal

pub returns : goal.returns
returns c = record { one = one_end; reached = lead_reached }
