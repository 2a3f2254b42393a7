-- A handle may go to another thread.
use denote.Param.Send.{IsSend}
use Rattle.asl_c_programs.specs.contracts.program_handle.Handle.{the_row}
use Rattle.asl_c_programs.proofs.program_handle.Handle.TheSendSync.{the_send}

pub handle_send : IsSend the_row
handle_send = the_send
