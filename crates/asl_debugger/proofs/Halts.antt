-- Stops, and searches for them.
use Rattle.std.proofs.Common.{◌≡◌, ℕ, ◌+◌, ◌<◌, ◌≤◌, ◌⊎◌, inl, inr, length, get_or, Option, Some, None, refl, sym, subst, arith}
use Rattle.std.specs.Prelude.{IsSomeAnd}
use Rattle.std.proofs.lemmas.Bool.{cases_lt}
use Rattle.std.proofs.lemmas.Option.{slice_get-get_or}
use Rattle.asl_machine.specs.View.{Configuration}
use Rattle.asl_journal.specs.declared.event.Event.{Event}
use Rattle.asl_debugger.specs.Halts.{IsHalt, IsNextHalt, IsLastHalt}
use Rattle.asl_debugger.specs.Computed.{machine_before, state_before}
use Rattle.asl_debugger.specs.Session.{Session, IsAtBreak}
use Rattle.asl_debugger.specs.Search.{IsFound}

abbrev StopsBy : Session → ℕ → Option Event → Type 0
StopsBy s k o = IsSomeAnd o (λ (e : Event). IsAtBreak s.breakpoints (state_before s.image s.log k) e.thread)

-- the position is a stop where its thread is at a breakpoint in the machine there
pub is_stop : (s : Session) (k : ℕ) (d : Event) (machine : Configuration) → k < length s.log.events → machine ≡ machine_before s.image s.log k → IsAtBreak s.breakpoints machine.state (get_or s.log.events k d).thread → IsHalt s k
is_stop s k d machine lt at here =
    let moved : IsAtBreak s.breakpoints (state_before s.image s.log k) (get_or s.log.events k d).thread = subst (λ (m : Configuration). IsAtBreak s.breakpoints m.state (get_or s.log.events k d).thread) at here in
    subst (StopsBy s k) (sym (slice_get-get_or s.log.events k d lt)) moved

pub is_no_stop : (s : Session) (k : ℕ) (d : Event) (machine : Configuration) → k < length s.log.events → machine ≡ machine_before s.image s.log k → (IsAtBreak s.breakpoints machine.state (get_or s.log.events k d).thread → ⊥) → IsHalt s k → ⊥
is_no_stop s k d machine lt at away stop =
    let here : IsAtBreak s.breakpoints (state_before s.image s.log k) (get_or s.log.events k d).thread = subst (StopsBy s k) (slice_get-get_or s.log.events k d lt) stop in
    away (subst (λ (m : Configuration). IsAtBreak s.breakpoints m.state (get_or s.log.events k d).thread) (sym at) here)

-- a search onwards: the machine is at the position, and no position between is a stop
pub record IsSearching (s : Session) (machine : Configuration) (k : ℕ) : Type 0 where
  pub at : machine ≡ machine_before s.image s.log k
  pub later : s.position < k
  pub within : k ≤ length s.log.events
  pub none_between : (j : ℕ) → s.position < j → j < k → ¬ IsHalt s j

pub searching_start : (s : Session) (machine : Configuration) → s.position < length s.log.events → machine ≡ machine_before s.image s.log (s.position + 1) → IsSearching s machine (s.position + 1)
searching_start s machine lt at = record { at = at; later = omega arith; within = omega arith; none_between = λ j low high. absurd (omega arith) }

pub searching_next : (s : Session) (old machine : Configuration) (k : ℕ) → k < length s.log.events → IsSearching s old k → (IsHalt s k → ⊥) → machine ≡ machine_before s.image s.log (k + 1) → IsSearching s machine (k + 1)
searching_next s old machine k lt h away at = record {
  at = at;
  later = let l = h.later in omega arith;
  within = omega arith;
  none_between = λ j low high. elim (cases_lt j k) [
    | inl before ↦ h.none_between j low before
    | inr le ↦ let same : k ≡ j = omega arith in subst (λ (n : ℕ). ¬ IsHalt s n) same away
  ];
}

pub found_next : (s : Session) (machine : Configuration) (k : ℕ) → IsSearching s machine k → IsHalt s k ⊎ (k ≡ length s.log.events) → IsNextHalt s k
found_next s machine k h stops = record { later = h.later; within = h.within; none_between = h.none_between; stops = stops }

-- a search over a stretch, one position more
pub found_none : (s : Session) (start : ℕ) → IsFound s start start None
found_none s start = λ j low high. absurd (omega arith)

pub found_here : (s : Session) (start k : ℕ) → start ≤ k → IsHalt s k → IsFound s start (k + 1) (Some k)
found_here s start k le stop = (le, omega arith, stop, λ j low high. absurd (omega arith))

pub found_not_here : (s : Session) (start k : ℕ) (found : Option ℕ) → IsFound s start k found → (IsHalt s k → ⊥) → IsFound s start (k + 1) found
found_not_here s start k None h away =
    λ j low high. elim (cases_lt j k) [ inl before ↦ h j low before | inr le ↦ let same : k ≡ j = omega arith in subst (λ (n : ℕ). ¬ IsHalt s n) same away ]
found_not_here s start k (Some i) h away =
    (h.0, let lt = h.1 in omega arith, h.2, λ j low high. elim (cases_lt j k) [ inl before ↦ h.3 j low before | inr le ↦ let same : k ≡ j = omega arith in subst (λ (n : ℕ). ¬ IsHalt s n) same away ])

-- no stop from here on and before the position
pub record IsNoneFrom (s : Session) (until : ℕ) : Type 0 where
  pub within : until ≤ s.position
  pub none_between : (j : ℕ) → until ≤ j → j < s.position → ¬ IsHalt s j

pub none_from_start : (s : Session) → IsNoneFrom s s.position
none_from_start s = record { within = omega arith; none_between = λ j low high. absurd (omega arith) }

pub none_from_earlier : (s : Session) (start until : ℕ) → start ≤ until → IsNoneFrom s until → IsFound s start until None → IsNoneFrom s start
none_from_earlier s start until le h found = record {
  within = let w = h.within in omega arith;
  none_between = λ j low high. elim (cases_lt j until) [ inl before ↦ found j low before | inr past ↦ h.none_between j past high ];
}

pub last_found : (s : Session) (start until k : ℕ) → IsNoneFrom s until → IsFound s start until (Some k) → IsLastHalt s k
last_found s start until k h found = record {
  earlier = let w = h.within in let lt = found.1 in omega arith;
  none_between = λ j low high. elim (cases_lt j until) [ inl before ↦ found.3 j low before | inr past ↦ h.none_between j past high ];
  stops = inl found.2;
}

pub none_found : (s : Session) → 0 < s.position → IsNoneFrom s 0 → IsLastHalt s 0
none_found s some h = record { earlier = some; none_between = λ j low high. h.none_between j (omega arith) high; stops = inr refl }
