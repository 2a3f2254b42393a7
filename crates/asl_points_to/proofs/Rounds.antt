-- A round of flows.
use Rattle.std.proofs.Common.{◌≡◌, ℕ, ◌+◌, ◌≤◌, ◌⊎◌, inl, inr, List, [], ◌∷◌, ◌++◌, length, get_or, Some, slice_get, refl, sym, ap, ◌∙◌, subst, arith}
use Rattle.std.proofs.lemmas.Option.{get_or_from_slice_get, slice_get_within}
use Rattle.std.specs.List.{All, Contains}
use Rattle.std.proofs.lemmas.List.{length_push}
use Rattle.std.proofs.lemmas.List.Elements.{All-contains, Contains-get_or, Contains-append_left, Contains-push, Contains-push_cases}
use Rattle.asl_points_to.specs.declared.class_draft.ClassDraft.{ClassDraft}
use Rattle.asl_points_to.specs.declared.value_flow.Flow.{Flow}
use Rattle.asl_points_to.specs.Classes.{Classed}
use Rattle.asl_points_to.specs.Draft.{Holds, IsThere, IsDraft, IsForced, Keeps, HasFlowed, IsIdle}
use Rattle.asl_points_to.proofs.Keeping.{keeps_itself, keeps_on, flowed_on}

-- so it stands within a round: each flow has flowed, is left, or waits; and where as many are left or wait as there were, nothing
-- has changed, and those that are left are idle
pub record IsRound (flows : List Flow) (old now : ClassDraft) (left waiting : List Flow) : Type 0 where
  pub draft : IsDraft now
  pub keeps : Keeps old now
  pub fewer : length left + length waiting ≤ length flows
  pub flowed : (f : Flow) → Contains flows f → HasFlowed now f ⊎ (Contains left f ⊎ Contains waiting f)
  pub left_among : (f : Flow) → Contains left f → Contains flows f
  pub waiting_among : (f : Flow) → Contains waiting f → Contains flows f
  pub idle : length left + length waiting ≡ length flows → (now ≡ old) × ((f : Flow) → Contains left f → IsIdle now f)
  pub forced : (c : Classed) → IsForced c old → All (Holds c) flows → IsForced c now

contains_none : (f : Flow) → Contains [] f → ⊥
contains_none f h = omega (arith, h.1)

pub round_begins : (flows : List Flow) (s : ClassDraft) → IsDraft s → IsRound flows s s [] flows
round_begins flows s d = record {
  draft = d;
  keeps = keeps_itself s;
  fewer = omega arith;
  flowed = λ f h. inr (inr h);
  left_among = λ f h. absurd (contains_none f h);
  waiting_among = λ f h. h;
  idle = λ e. (refl, λ f h. absurd (contains_none f h));
  forced = λ c f h. f;
}

-- the flow that waits last is there
pub last_there : (flows : List Flow) (old now : ClassDraft) (left before waiting : List Flow) (f : Flow) → waiting ≡ before ++ f ∷ [] → IsRound flows old now left waiting → All (IsThere (length old.registers.items) (length old.sets)) flows → IsThere (length now.registers.items) (length now.sets) f
last_there flows old now left before waiting f e r there =
    let W : List Flow → Type 0 = λ w. Contains w f in
    let inside = r.waiting_among f (subst W (sym e) (Contains-push before f)) in
    let h = All-contains (IsThere (length old.registers.items) (length old.sets)) flows f there inside in
    let P : ℕ → Type 0 = λ n. IsThere n (length old.sets) f in
    let Q : ℕ → Type 0 = λ n. IsThere (length now.registers.items) n f in
    subst Q (sym r.keeps.members) (subst P (sym r.keeps.functions) h)

-- it flows
pub round_flows : (flows : List Flow) (old now new : ClassDraft) (left before waiting : List Flow) (f : Flow) → waiting ≡ before ++ f ∷ [] → IsRound flows old now left waiting → IsDraft new → Keeps now new → HasFlowed new f → ((c : Classed) → IsForced c now → Holds c f → IsForced c new) → IsRound flows old new left before
round_flows flows old now new left before waiting f e r d k has forced =
    let W : List Flow → Type 0 = λ w. Contains w f in
    let inside = r.waiting_among f (subst W (sym e) (Contains-push before f)) in
    let len : length waiting ≡ length before + 1 = ap length e ∙ length_push before f in
    record {
      draft = d;
      keeps = keeps_on old now new r.keeps k;
      fewer = omega (arith, r.fewer);
      flowed = λ g h. elim (r.flowed g h) [
        | inl done ↦ inl (flowed_on now new k g done)
        | inr (inl l) ↦ inr (inl l)
        | inr (inr w) ↦ (
            let V : List Flow → Type 0 = λ ws. Contains ws g in
            let Has : Flow → Type 0 = λ x. HasFlowed new x in
            elim (Contains-push_cases before f g (subst V e w)) [ inl b ↦ inr (inr b) | inr same ↦ inl (subst Has same has) ])
      ];
      left_among = r.left_among;
      waiting_among = λ g h. (let V : List Flow → Type 0 = λ ws. Contains ws g in r.waiting_among g (subst V (sym e) (Contains-append_left before (f ∷ []) g h)));
      idle = λ all. absurd (omega (arith, r.fewer));
      forced = λ c o h. forced c (r.forced c o h) (All-contains (Holds c) flows f h inside);
    }

-- it is idle
pub round_leaves : (flows : List Flow) (old now new : ClassDraft) (left before waiting : List Flow) (f : Flow) → waiting ≡ before ++ f ∷ [] → IsRound flows old now left waiting → new ≡ now → IsIdle now f → IsRound flows old new (left ++ f ∷ []) before
round_leaves flows old now new left before waiting f e r same idle =
    let W : List Flow → Type 0 = λ w. Contains w f in
    let inside = r.waiting_among f (subst W (sym e) (Contains-push before f)) in
    let len : length waiting ≡ length before + 1 = ap length e ∙ length_push before f in
    let more : length (left ++ f ∷ []) ≡ length left + 1 = length_push left f in
    let P : ClassDraft → Type 0 = λ d. IsRound flows old d (left ++ f ∷ []) before in
    subst P (sym same) (record {
      draft = r.draft;
      keeps = r.keeps;
      fewer = omega (arith, r.fewer);
      flowed = λ g h. elim (r.flowed g h) [
        | inl done ↦ inl done
        | inr (inl l) ↦ inr (inl (Contains-append_left left (f ∷ []) g l))
        | inr (inr w) ↦ (
            let V : List Flow → Type 0 = λ ws. Contains ws g in
            let L : Flow → Type 0 = λ x. Contains (left ++ f ∷ []) x in
            elim (Contains-push_cases before f g (subst V e w)) [ inl b ↦ inr (inr b) | inr is ↦ inr (inl (subst L is (Contains-push left f))) ])
      ];
      left_among = λ g h. (
          let F : Flow → Type 0 = λ x. Contains flows x in
          elim (Contains-push_cases left f g h) [ inl l ↦ r.left_among g l | inr is ↦ subst F is inside ]);
      waiting_among = λ g h. (let V : List Flow → Type 0 = λ ws. Contains ws g in r.waiting_among g (subst V (sym e) (Contains-append_left before (f ∷ []) g h)));
      idle = λ all. (
          let was = r.idle (omega arith) in
          let I : Flow → Type 0 = λ x. IsIdle now x in
          (was.0, λ g h. elim (Contains-push_cases left f g h) [ inl l ↦ was.1 g l | inr is ↦ subst I is idle ]));
      forced = r.forced;
    })

-- so it stands between two rounds
pub record IsSettling (flows : List Flow) (old now : ClassDraft) (waiting : List Flow) : Type 0 where
  pub draft : IsDraft now
  pub keeps : Keeps old now
  pub flowed : (f : Flow) → Contains flows f → HasFlowed now f ⊎ Contains waiting f
  pub among : (f : Flow) → Contains waiting f → Contains flows f
  pub forced : (c : Classed) → IsForced c old → All (Holds c) flows → IsForced c now

pub settling_begins : (flows : List Flow) (s : ClassDraft) → IsDraft s → IsSettling flows s s flows
settling_begins flows s d =
    record { draft = d; keeps = keeps_itself s; flowed = λ f h. inr h; among = λ f h. h; forced = λ c f h. f }

-- what holds of all flows holds of those that wait
pub all_waiting : (P : Flow → Type 0) (flows waiting : List Flow) → ((f : Flow) → Contains waiting f → Contains flows f) → All P flows → All P waiting
all_waiting P flows waiting among h = λ k d low. All-contains P flows (get_or waiting k d) h (among (get_or waiting k d) (Contains-get_or waiting k d low))

pub settles_there : (flows : List Flow) (old now : ClassDraft) (waiting : List Flow) → IsSettling flows old now waiting → All (IsThere (length old.registers.items) (length old.sets)) flows → All (IsThere (length now.registers.items) (length now.sets)) waiting
settles_there flows old now waiting s h =
    let P : ℕ → Type 0 = λ n. All (IsThere n (length old.sets)) waiting in
    let Q : ℕ → Type 0 = λ n. All (IsThere (length now.registers.items) n) waiting in
    subst Q (sym s.keeps.members) (subst P (sym s.keeps.functions) (all_waiting (IsThere (length old.registers.items) (length old.sets)) flows waiting s.among h))

-- a round more
pub record IsDone (waiting : List Flow) (now new : ClassDraft) (left : List Flow) : Type 0 where
  pub draft : IsDraft new
  pub keeps : Keeps now new
  pub flowed : (f : Flow) → Contains waiting f → HasFlowed new f ⊎ Contains left f
  pub among : (f : Flow) → Contains left f → Contains waiting f
  pub forced : (c : Classed) → IsForced c now → All (Holds c) waiting → IsForced c new

pub settling_goes : (flows : List Flow) (old now new : ClassDraft) (waiting left : List Flow) → IsSettling flows old now waiting → IsDone waiting now new left → IsSettling flows old new left
settling_goes flows old now new waiting left s r = record {
  draft = r.draft;
  keeps = keeps_on old now new s.keeps r.keeps;
  flowed = λ f h. elim (s.flowed f h) [ inl done ↦ inl (flowed_on now new r.keeps f done) | inr w ↦ r.flowed f w ];
  among = λ f h. s.among f (r.among f h);
  forced = λ c o h. r.forced c (s.forced c o h) (all_waiting (Holds c) flows waiting s.among h);
}

-- flows that have flowed meanwhile, in any order
pub record IsAhead (flows : List Flow) (now new : ClassDraft) : Type 0 where
  pub draft : IsDraft new
  pub keeps : Keeps now new
  pub forced : (c : Classed) → IsForced c now → All (Holds c) flows → IsForced c new

pub ahead_begins : (flows : List Flow) (s : ClassDraft) → IsDraft s → IsAhead flows s s
ahead_begins flows s d = record { draft = d; keeps = keeps_itself s; forced = λ c f h. f }

pub ahead_there : (flows : List Flow) (now new : ClassDraft) (f : Flow) → IsAhead flows now new → Contains flows f → All (IsThere (length now.registers.items) (length now.sets)) flows → IsThere (length new.registers.items) (length new.sets) f
ahead_there flows now new f a inside there =
    let h = All-contains (IsThere (length now.registers.items) (length now.sets)) flows f there inside in
    let P : ℕ → Type 0 = λ n. IsThere n (length now.sets) f in
    let Q : ℕ → Type 0 = λ n. IsThere (length new.registers.items) n f in
    subst Q (sym a.keeps.members) (subst P (sym a.keeps.functions) h)

pub ahead_goes : (flows : List Flow) (old now new : ClassDraft) (f : Flow) → IsAhead flows old now → Contains flows f → IsDraft new → Keeps now new → ((c : Classed) → IsForced c now → Holds c f → IsForced c new) → IsAhead flows old new
ahead_goes flows old now new f a inside d k forced = record {
  draft = d;
  keeps = keeps_on old now new a.keeps k;
  forced = λ c o h. forced c (a.forced c o h) (All-contains (Holds c) flows f h inside);
}

pub settling_ahead : (flows : List Flow) (old now new : ClassDraft) (waiting : List Flow) → IsSettling flows old now waiting → IsAhead waiting now new → IsSettling flows old new waiting
settling_ahead flows old now new waiting s a = record {
  draft = a.draft;
  keeps = keeps_on old now new s.keeps a.keeps;
  flowed = λ f h. elim (s.flowed f h) [ inl done ↦ inl (flowed_on now new a.keeps f done) | inr w ↦ inr w ];
  among = s.among;
  forced = λ c o h. a.forced c (s.forced c o h) (all_waiting (Holds c) flows waiting s.among h);
}

-- a flow of a number is one of the flows
pub contains_at : (flows : List Flow) (n : ℕ) (f : Flow) → slice_get flows n ≡ Some f → Contains flows f
contains_at flows n f e =
    subst (Contains flows) (get_or_from_slice_get flows n f f e) (Contains-get_or flows n f (slice_get_within flows n f e))
