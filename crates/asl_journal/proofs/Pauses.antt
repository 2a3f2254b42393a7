-- What is left of a machine with its journal, and the two again.
use Rattle.std.proofs.Common.{◌≡◌, List, length, sym, subst}
use Rattle.asl_code.specs.declared.image.Image.{Image}
use Rattle.asl_machine.specs.State.{State}
use Rattle.asl_machine.specs.View.{Configuration}
use Rattle.asl_machine.specs.Paused.{Rest}
use Rattle.asl_journal.specs.declared.event.Event.{Event}
use Rattle.asl_journal.specs.Recorded.{Fits}

-- the machine's part of what is left fits as the machine did
pub left_fits : (machine : Configuration) (rest : Rest) (events : List Event) → Fits machine (length machine.state.threads) events → rest.state ≡ machine.state
    → Fits (record { image = machine.image; state = rest.state }) (length rest.state.threads) events
left_fits machine rest events fits state = subst (λ (s : State). Fits (record { image = machine.image; state = s }) (length s.threads) events) (sym state) fits

-- the machine again fits as what was left of it
pub again_fits : (image : Image) (machine : Configuration) (rest : Rest) (events : List Event) → Fits (record { image = image; state = rest.state }) (length rest.state.threads) events → machine.image ≡ image → machine.state ≡ rest.state
    → Fits machine (length machine.state.threads) events
again_fits image machine rest events fits i s =
    subst (λ (j : Image). Fits (record { image = j; state = machine.state }) (length machine.state.threads) events) (sym i)
    (subst (λ (u : State). Fits (record { image = image; state = u }) (length u.threads) events) (sym s) fits)
