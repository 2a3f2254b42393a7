-- Each run of a guarded image has a serial one.
use Rattle.std.proofs.Common.{ℕ}
use Rattle.asl_code.specs.declared.image.Image.{Image}
use Rattle.asl_code.specs.Fits.{FitsImage}
use Rattle.asl_machine.proofs.Starts.{length-first_threads}
use Rattle.asl_atomicity.proofs.Computed.{HasSerialRuns, IsGuarded}
use Rattle.asl_atomicity.proofs.Guards.{entries_unseen}
use Rattle.asl_atomicity.proofs.Swaps.{can_swap}
use Rattle.asl_atomicity.proofs.Serials.{has_serial}

pub serial_runs : (image : Image) (count : ℕ) → FitsImage image → IsGuarded image count → HasSerialRuns image count
serial_runs image count fits guarded schedule there m =
    has_serial image count schedule fits (can_swap image count (entries_unseen image count guarded)) (rw (length-first_threads image count) there) m
