-- A handle may go to another thread.
use denote.Param.Send.{IsSend}
use Rattle.asl_c_sessions.specs.contracts.session_handle.Handle.{the_row}
use Rattle.asl_c_sessions.proofs.session_handle.Handle.TheSendSync.{the_send}

pub handle_send : IsSend the_row
handle_send = the_send
