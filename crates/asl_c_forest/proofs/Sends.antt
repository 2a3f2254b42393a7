-- A handle may go to another thread.
use denote.Param.Send.{IsSend}
use Rattle.asl_c_forest.specs.contracts.forest_handle.Handle.{the_row}
use Rattle.asl_c_forest.proofs.forest_handle.Handle.TheSendSync.{the_send}
use Rattle.asl_c_forest.specs.contracts.queue_handle.QueueHandle.{the_row as queue_row}
use Rattle.asl_c_forest.proofs.queue_handle.QueueHandle.TheSendSync.{the_send as queue_send}

pub handle_send : IsSend the_row
handle_send = the_send

pub queue_handle_send : IsSend queue_row
queue_handle_send = queue_send
