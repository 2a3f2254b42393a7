-- Positions, their states and stops by the table, from the computed ones.
use Rattle.std.proofs.Common.{◌≡◌, ℕ, inl, inr, take, Option, None, Some, refl, sym, subst}
use Rattle.std.specs.Prelude.{slice_get, IsSomeAnd}
use Rattle.asl_code.specs.declared.image.Image.{Image}
use Rattle.asl_machine.specs.State.{State}
use Rattle.asl_machine.specs.View.{Configuration}
use Rattle.asl_machine.specs.WellFormed.{MayWantMemory}
use Rattle.asl_journal.specs.declared.event.Event.{Event}
use Rattle.asl_journal.specs.Journal.{Log, IsJournal}
use Rattle.asl_journal.proofs.ByTable.{leads_at, end_is}
use Rattle.asl_journal.proofs.Runs.{prefix_is_journal}
use Rattle.asl_debugger.specs.Halts.{MayWantMemoryBefore, IsHalt, IsNextHalt, IsLastHalt}
use Rattle.asl_debugger.specs.Computed.{state_before, machine_before}
use Rattle.asl_debugger.specs.Session.{Session, IsStateAt, IsShown, MayWantMemoryAt, IsAtBreak, IsStop, IsNextStop, IsLastStop}
use Rattle.asl_debugger.proofs.Positions.{is_at}

module _ (image : Image) (log : Log) (j : IsJournal image log.threads log.events) where
  -- the computed state is the one at the position, and no other is
  pub leads_before : (k : ℕ) → IsStateAt image log k (state_before image log k)
  leads_before k = leads_at image log.threads (take k log.events) (prefix_is_journal image log.threads k log.events j)

  pub is_before : (k : ℕ) (s : State) → IsStateAt image log k s → s ≡ state_before image log k
  is_before k s leads = end_is image log.threads (take k log.events) s leads

  -- where the computed state before an event may want memory, the state of the journal there may
  pub wants_of : (k : ℕ) → MayWantMemoryBefore image log k → MayWantMemoryAt image log k
  wants_of k h =
      elim (slice_get log.events k) as (λ o. slice_get log.events k ≡ o → IsSomeAnd o (λ (e : Event). MayWantMemory image (state_before image log k) e.thread) → MayWantMemoryAt image log k) [
        | None ↦ λ e w. absurd w
        | Some event ↦ λ e w. record { event = event; there = e; state = state_before image log k; leads = leads_before k; wants = w }
      ] refl h

-- the machine that a session shows
module _ (s : Session) (j : IsJournal s.image s.log.threads s.log.events) where
  pub is_shown : (machine : Configuration) → machine ≡ machine_before s.image s.log s.position → IsShown s machine
  is_shown machine at = subst (IsShown s) (sym at) (record { image = refl; state = leads_before s.image s.log j s.position })

  pub shown_is : (machine : Configuration) → IsShown s machine → machine ≡ machine_before s.image s.log s.position
  shown_is machine shown = is_at machine s.image (state_before s.image s.log s.position) shown.image (is_before s.image s.log j s.position machine.state shown.state)

  pub stop_of : (k : ℕ) → IsHalt s k → IsStop s k
  stop_of k h =
      elim (slice_get s.log.events k) as (λ o. slice_get s.log.events k ≡ o → IsSomeAnd o (λ (e : Event). IsAtBreak s.breakpoints (state_before s.image s.log k) e.thread) → IsStop s k) [
        | None ↦ λ e b. absurd b
        | Some event ↦ λ e b. record { event = event; there = e; state = state_before s.image s.log k; leads = leads_before s.image s.log j k; breaks = b }
      ] refl h

  pub halt_of : (k : ℕ) → IsStop s k → IsHalt s k
  halt_of k h =
      let here = subst (λ (u : State). IsAtBreak s.breakpoints u h.event.thread) (is_before s.image s.log j k h.state h.leads) h.breaks in
      subst (λ (o : Option Event). IsSomeAnd o (λ (e : Event). IsAtBreak s.breakpoints (state_before s.image s.log k) e.thread)) (sym h.there) here

  pub next_stop_of : (k : ℕ) → IsNextHalt s k → IsNextStop s k
  next_stop_of k h = record {
    later = h.later;
    within = h.within;
    none_between = λ i low high stop. h.none_between i low high (halt_of i stop);
    stops = elim h.stops [ inl halt ↦ inl (stop_of k halt) | inr end ↦ inr end ];
  }

  pub last_stop_of : (k : ℕ) → IsLastHalt s k → IsLastStop s k
  last_stop_of k h = record {
    earlier = h.earlier;
    none_between = λ i low high stop. h.none_between i low high (halt_of i stop);
    stops = elim h.stops [ inl halt ↦ inl (stop_of k halt) | inr start ↦ inr start ];
  }
