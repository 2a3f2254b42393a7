-- What a machine whose steps are written down keeps.
use Rattle.std.proofs.Common.{◌≡◌, ℕ, ◌<◌, ◌≤◌, ◌⊎◌, inl, inr, List, [], ◌∷◌, ◌++◌, length, Option, None, Some, Bool, true, false, not, refl, ap, sym, subst, ◌∙◌, arith}
use Rattle.std.specs.Prelude.{is_none, is_some, option_map}
use Rattle.std.proofs.lemmas.Bool.{cases_lt}
use Rattle.std.proofs.lemmas.List.{length_push}
use Rattle.std.proofs.lemmas.List.Elements.{All-push, All-nil}
use Rattle.asl_code.specs.Verified.{IsVerified}
use Rattle.asl_code.specs.Versions.{most_threads}
use Rattle.asl_code.specs.declared.image.Image.{Image}
use Rattle.asl_code.proofs.Versions.{few_threads}
use Rattle.asl_machine.specs.State.{State}
use Rattle.asl_machine.specs.View.{Configuration}
use Rattle.asl_machine.specs.Run.{IsThreadCount, start_of}
use Rattle.asl_machine.specs.Step.{Step}
use Rattle.asl_machine.proofs.Starts.{length-first_threads}
use Rattle.asl_journal.specs.declared.event.Event.{Event}
use Rattle.asl_journal.specs.Journal.{AreThere, IsCount, LeadsTo, most_events}
use Rattle.asl_journal.specs.Recorded.{Fits}
use Rattle.asl_journal.proofs.ByTable.{runs_snoc}

-- the events lead to a state, and are a journal
fits_of : (machine : Configuration) (count : ℕ) (events : List Event) → length machine.state.threads ≡ count → IsCount count → length events ≤ most_events → IsVerified machine.image → AreThere count events →
    LeadsTo machine.image count events machine.state → Fits machine count events
fits_of machine count events threads counted short v there leads = record {
  threads = threads;
  counted = counted;
  short = short;
  journal = record { verified = v; there = there; end = machine.state; leads = leads };
  leads = leads;
}

-- the start fits no events
pub fits_start : (machine : Configuration) (image : Image) (n : ℕ) → IsThreadCount image n → IsVerified machine.image → machine.image ≡ image → machine.state ≡ start_of image n →
    Fits machine (length machine.state.threads) []
fits_start machine image n is v i s =
    let threads : length machine.state.threads ≡ n = ap (λ (u : State). length u.threads) s ∙ length-first_threads image n in
    let start : machine.state ≡ start_of machine.image (length machine.state.threads) = s ∙ ap (λ (k : ℕ). start_of image k) (sym threads) ∙ ap (λ (j : Image). start_of j (length machine.state.threads)) (sym i) in
    let counted = subst (λ (j : Image). IsThreadCount j (length machine.state.threads)) (sym i) (subst (IsThreadCount image) (sym threads) is) in
    fits_of machine (length machine.state.threads) [] refl (subst IsCount (sym threads) (is.0, omega (arith, is.1, few_threads image.version))) (omega arith) v
    (All-nil (λ (e : Event). e.thread < length machine.state.threads)) (record { counted = counted; runs = start })

-- one step more fits one event more
pub fits_step : (old new : Configuration) (events : List Event) (event : Event) → Fits old (length old.state.threads) events → length events < most_events → event.thread < length old.state.threads
    → new.image ≡ old.image → Step old.image old.state event.thread event.reply new.state → length new.state.threads ≡ length old.state.threads
    → Fits new (length new.state.threads) (events ++ event ∷ [])
fits_step old new events event fits room lt image step count =
    let n = length old.state.threads in
    let leads : LeadsTo old.image n (events ++ event ∷ []) new.state = record {
      counted = fits.leads.counted;
      runs = runs_snoc old.image (start_of old.image n) events event old.state new.state fits.leads.runs step;
    } in
    let known : Fits new n (events ++ event ∷ []) =
    fits_of new n (events ++ event ∷ []) count fits.counted (omega (arith, length_push events event)) (subst IsVerified (sym image) fits.journal.verified)
    (All-push (λ (e : Event). e.thread < n) events event fits.journal.there lt) (subst (λ (i : Image). LeadsTo i n (events ++ event ∷ []) new.state) (sym image) leads) in
    subst (λ (k : ℕ). Fits new k (events ++ event ∷ [])) (sym count) known

-- a machine at its start has as many threads as were asked for
pub machine_count : (machine : Configuration) (image : Image) (n : ℕ) → machine.state ≡ start_of image n → length machine.state.threads ≡ n
machine_count machine image n s = ap (λ (u : State). length u.threads) s ∙ length-first_threads image n

-- a number that a machine does not refuse
pub in_count : (image : Image) (n : ℕ) → ((n ≡ 0) ⊎ (most_threads image.version < n) → ⊥) → IsThreadCount image n
in_count image n taken =
    (elim (cases_lt 0 n) [ inl lt ↦ lt | inr le ↦ absurd (taken (inl (omega arith))) ], elim (cases_lt (most_threads image.version) n) [ inl lt ↦ absurd (taken (inr lt)) | inr le ↦ le ])

-- where some pc is there or not, some activity is there or not
pub no_activity : {A B : Type 0} (f : A → B) (o : Option A) (p : Option B) (ended : Bool) → p ≡ option_map f o → is_some p ≡ not ended → ended ≡ is_none o
no_activity f None p ended e h = told ended (sym h ∙ ap is_some e)
  where
    told : (b : Bool) → not b ≡ false → b ≡ true
    told true e = refl
    told false e = sym e
no_activity f (Some a) p ended e h = told ended (sym h ∙ ap is_some e)
  where
    told : (b : Bool) → not b ≡ true → b ≡ false
    told true e = sym e
    told false e = refl
