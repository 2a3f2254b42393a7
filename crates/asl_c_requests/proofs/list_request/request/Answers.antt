use Rattle.std.proofs.Common.{◌≡◌, Ok, Err, map, take, [], IfOk, IfErr}
use Rattle.asl_lock_queue.specs.Asks.{ask_of}
use Rattle.asl_c_requests.specs.Requested.{IsRequest, IsNeeded}
use Rattle.asl_c_requests.specs.Traced.{gathered}
use Rattle.asl_c_requests.proofs.Promises.{request_is, cell_is_needed}
use Rattle.asl_c_requests.proofs.list_request.request.Goals as goal

pub returns-clause-request : goal.returns-clause-request
returns-clause-request c =
    elim c.gather.result as (λ r. IfOk r (λ n. gathered c.args.registers.now c.args.objects.now c.args.cells.now c.args.locks.now (Ok []) ≡ Ok (map ask_of (take n c.gather.new.asks))) →
    IfOk r (λ n. IsRequest c.args.registers.now c.args.objects.now c.args.cells.now c.args.locks.now (map ask_of (take n c.gather.new.asks)))) [
      | Ok n ↦ λ h. request_is _ _ _ _ _ h
      | Err cell ↦ λ h. tt
    ] c.gather.ensures.gathered

pub returns-clause-needed : goal.returns-clause-needed
returns-clause-needed c =
    elim c.gather.result as (λ r. IfErr r (λ cell. gathered c.args.registers.now c.args.objects.now c.args.cells.now c.args.locks.now (Ok []) ≡ Err cell) →
    IfErr r (IsNeeded c.args.registers.now c.args.objects.now c.args.cells.now c.args.locks.now)) [
      | Ok n ↦ λ h. tt
      | Err cell ↦ λ h. cell_is_needed _ _ _ _ cell _ h
    ] c.gather.ensures.needed
