-- Where there is a need, a chain comes to it; what a chain comes to is needed.
use Rattle.std.proofs.Common.{◌≡◌, ⊎_elim, ℕ, zero, suc, List, [], ◌∷◌, ◌++◌, length, Some, slice_get, refl, sym, ap, ap₂, ◌∙◌, subst, arith}
use Rattle.std.proofs.lemmas.Option.{same_Some, slice_get_within}
use Rattle.asl_code.specs.declared.image.Function as entry
use Rattle.asl_code.specs.declared.instr.Instr.{Instr}
use Rattle.asl_code.specs.declared.instr.Instr.TheVariants as instr
use Rattle.asl_code.specs.declared.lock.Lock.{Lock}
use Rattle.asl_lower.specs.OpenSections.{FlowsTo, start_of}
use Rattle.asl_lower.specs.Regions.{Region, Body, Inside, IsIn}
use Rattle.asl_lock_expr.specs.Links.{view, IsOne, link, settle, accesses, renamed, dereferenced}
use Rattle.asl_backward_flow.specs.declared.region.Region as code
use Rattle.asl_backward_flow.specs.declared.region.Region.TheVariants as variant
use Rattle.asl_backward_flow.specs.Needed.{Accessed, Linked, Entered, Before, region_of}
use Rattle.asl_explain.specs.declared.explained_value.Step.{Step}
use Rattle.asl_explain.specs.declared.explained_value.Why.{Why}
use Rattle.asl_explain.specs.declared.explained_value.Why.TheVariants as why
use Rattle.asl_explain.specs.Chains.{Read, Needs, Stays, Here, Over, IsAccess, FollowsBy, Follows, AreSteps, EndsAt, IsChain}
use Rattle.asl_explain.proofs.Ends.{get_more, at_old, at_end, length_more}

-- a region as the code names it
abbrev named : Region → code.Region
named (Body f) = variant.Body f
named (Inside s) = variant.Section s

named_of : (a : code.Region) → named (region_of a) ≡ a
named_of (variant.Body f) = refl
named_of (variant.Section s) = refl

named_is : (r : Region) → region_of (named r) ≡ r
named_is (Body f) = refl
named_is (Inside s) = refl

abbrev step_at : Region → ℕ → Lock → Why → Step
step_at r pc lock reason = record { region = named r; pc = pc; lock = lock; why = reason }

step_same : (s : Step) (r : code.Region) (lock : Lock) → s.region ≡ r → s.lock ≡ lock → s ≡ record { region = r; pc = s.pc; lock = lock; why = s.why }
step_same s r lock p q = ap₂ (λ (a : code.Region) (l : Lock). record { region = a; pc = s.pc; lock = l; why = s.why }) p q

module _ (x : Read) where
  -- ---- what a chain comes to is needed

  follows_needed : (w : Why) (before s : Step) → FollowsBy w x before s → Needs x (region_of s.region) s.pc s.lock
  follows_needed why.Accessed before s h = absurd h
  follows_needed why.Linked before s h =
      Linked (region_of s.region) h.function s.pc h.next h.instruction before.lock s.lock h.at.inside h.at.stands h.goes_on h.needed h.links
  follows_needed why.Entered before s h =
      Entered (region_of s.region) h.function s.pc h.to h.first h.callee h.called before.lock h.lock s.lock h.at.inside h.at.stands h.in_table h.needed h.renames h.settles
  follows_needed why.Dereferenced before s h =
      Before (region_of s.region) s.pc before.lock s.lock h.needed h.reads

  access_needed : (s : Step) → IsAccess x s → Needs x (region_of s.region) s.pc s.lock
  access_needed s h = Accessed (region_of s.region) h.function s.pc h.instruction s.lock h.at.inside h.at.stands h.accesses

  stays_needed : (r : Region) (lock : Lock) (from to : ℕ) → Stays x r lock from to → Needs x r to lock → Needs x r from lock
  stays_needed r lock from _ Here needed = needed
  stays_needed r lock from _ (Over pc next stays keeps) needed =
      stays_needed r lock from pc stays (Linked r keeps.function pc next keeps.instruction lock lock keeps.at.inside keeps.at.stands keeps.goes_on needed keeps.keeps)

  -- a step that is no first one has one before it
  earlier_step : (steps : List Step) (n : ℕ) (s : Step) → slice_get steps (suc n) ≡ Some s → (before : Step) × (slice_get steps n ≡ Some before)
  earlier_step [] n s at = cc
  earlier_step (t ∷ steps) zero s at = (t, refl)
  earlier_step (t ∷ steps) (suc n) s at = earlier_step steps n s at

  pub step_need : (steps : List Step) → AreSteps x steps → (n : ℕ) (s : Step) → slice_get steps n ≡ Some s → Needs x (region_of s.region) s.pc s.lock
  step_need steps are zero s at = access_needed s (are.begins s at)
  step_need steps are (suc n) s at =
      let before = earlier_step steps n s at in
      follows_needed s.why before.0 s (are.follows n before.0 s before.1 at)

  pub chain_need : (r : Region) (pc : ℕ) (lock : Lock) (steps : List Step) → IsChain x r pc lock steps → Needs x r pc lock
  chain_need r pc lock steps chain =
      let e = chain.ends in
      let there = step_need steps chain.path e.number e.step e.at in
      stays_needed r lock pc e.step.pc e.stays (subst (λ (l : Lock). Needs x r e.step.pc l) e.holds (subst (λ (q : Region). Needs x q e.step.pc e.step.lock) e.region there))

  -- ---- where there is a need, a chain comes to it

  access_step : (r : Region) (f pc : ℕ) (i : Instr) (n : Lock) → IsIn x.lowered r f pc → slice_get x.lowered.code pc ≡ Some i → IsOne (accesses (view x.classes x.stores x.k_limit f) i) n
      → IsAccess x (step_at r pc n why.Accessed)
  access_step (Body g) f pc i n isin at one = record { why = refl; function = f; instruction = i; at = record { inside = isin; stands = at }; accesses = one }
  access_step (Inside s) f pc i n isin at one = record { why = refl; function = f; instruction = i; at = record { inside = isin; stands = at }; accesses = one }

  link_step : (r : Region) (f pc next p : ℕ) (i : Instr) (m n : Lock) (w : Why) → IsIn x.lowered r f pc → slice_get x.lowered.code pc ≡ Some i → FlowsTo i pc next → Needs x r next m
      → IsOne (link (view x.classes x.stores x.k_limit f) i m) n → Stays x r m next p → FollowsBy why.Linked x (step_at r p m w) (step_at r pc n why.Linked)
  link_step (Body g) f pc next p i m n w isin at goes needed one stays =
      record { same = refl; function = f; instruction = i; at = record { inside = isin; stands = at }; next = next; goes_on = goes; needed = needed; stays = stays; links = one }
  link_step (Inside s) f pc next p i m n w isin at goes needed one stays =
      record { same = refl; function = f; instruction = i; at = record { inside = isin; stands = at }; next = next; goes_on = goes; needed = needed; stays = stays; links = one }

  entry_step : (r : Region) (f pc to first g p : ℕ) (callee : entry.Function) (m k n : Lock) (w : Why) → IsIn x.lowered r f pc → slice_get x.lowered.code pc ≡ Some (instr.Call to first g)
      → slice_get x.lowered.functions g ≡ Some callee → Needs x (Body g) (start_of x.lowered.functions g) m → IsOne (renamed first callee.params m) k
      → IsOne (settle (view x.classes x.stores x.k_limit f) k) n → Stays x (Body g) m (start_of x.lowered.functions g) p → FollowsBy why.Entered x (step_at (Body g) p m w) (step_at r pc n why.Entered)
  entry_step (Body h) f pc to first g p callee m k n w isin at there needed one settles stays = record {
    function = f;
    to = to;
    first = first;
    callee = g;
    at = record { inside = isin; stands = at };
    called = callee;
    in_table = there;
    body = refl;
    needed = needed;
    stays = stays;
    lock = k;
    renames = one;
    settles = settles;
  }
  entry_step (Inside s) f pc to first g p callee m k n w isin at there needed one settles stays = record {
    function = f;
    to = to;
    first = first;
    callee = g;
    at = record { inside = isin; stands = at };
    called = callee;
    in_table = there;
    body = refl;
    needed = needed;
    stays = stays;
    lock = k;
    renames = one;
    settles = settles;
  }

  front_step : (r : Region) (pc p : ℕ) (m n : Lock) (w : Why) → Needs x r pc m → IsOne (dereferenced m) n → Stays x r m pc p → FollowsBy why.Dereferenced x (step_at r p m w) (step_at r pc n why.Dereferenced)
  front_step (Body g) pc p m n w needed one stays = record { same = refl; needed = needed; stays = stays; reads = one }
  front_step (Inside s) pc p m n w needed one stays = record { same = refl; needed = needed; stays = stays; reads = one }

  -- an access alone
  chain_one : (r : Region) (pc : ℕ) (lock : Lock) → IsAccess x (step_at r pc lock why.Accessed) → (steps : List Step) × IsChain x r pc lock steps
  chain_one r pc lock access = (
    step_at r pc lock why.Accessed ∷ [],
    record {
      path = record { begins = λ t at. subst (IsAccess x) (first_same t at) access; follows = λ n before t at next. absurd (none n t next) };
      ends = record { number = 0; last = refl; step = step_at r pc lock why.Accessed; at = refl; region = named_is r; holds = refl; stays = Here };
    },
  )
    where
      first_same : (t : Step) → slice_get (step_at r pc lock why.Accessed ∷ []) 0 ≡ Some t → step_at r pc lock why.Accessed ≡ t
      first_same t at = same_Some _ _ at

      none : (n : ℕ) (t : Step) → slice_get (step_at r pc lock why.Accessed ∷ []) (suc n) ≡ Some t → ⊥
      none n t at = cc

  -- a chain with one step more at its end
  chain_more : (r q : Region) (from pc : ℕ) (before lock : Lock) (reason : Why) (steps : List Step) → IsChain x q from before steps
      → ((p : ℕ) (w : Why) → Stays x q before from p → FollowsBy reason x (step_at q p before w) (step_at r pc lock reason)) → (all : List Step) × IsChain x r pc lock all
  chain_more r q from pc before lock reason steps chain next = (
    steps ++ s ∷ [],
    record {
      path = record {
        begins = λ t at. ⊎_elim (λ h. chain.path.begins t h) (λ h. absurd (not_empty h.0)) (get_more steps s 0 t at);
        follows = λ n b t at there. ⊎_elim (λ h. chain.path.follows n b t (kept n b t h at) h) (λ h. last_one n b t h.0 h.1 at) (get_more steps s (suc n) t there);
      };
      ends = record { number = length steps; last = longer; step = s; at = at_end steps s; region = named_is r; holds = refl; stays = Here };
    },
  )
    where
      s : Step
      s = step_at r pc lock reason

      e : EndsAt x q from before steps
      e = chain.ends

      longer : suc (length steps) ≡ length (steps ++ s ∷ [])
      longer = (let l = length_more steps s in omega (arith, l))

      not_empty : 0 ≡ length steps → ⊥
      not_empty none = (let last = e.last in omega (arith, none, last))

      kept : (n : ℕ) (b t : Step) → slice_get steps (suc n) ≡ Some t → slice_get (steps ++ s ∷ []) n ≡ Some b → slice_get steps n ≡ Some b
      kept n b t there at =
          let low = slice_get_within steps (suc n) t there in
          ⊎_elim (λ h. h) (λ h. (let same = h.0 in absurd (omega (arith, same, low)))) (get_more steps s n b at)

      step_is : e.step ≡ step_at q e.step.pc before e.step.why
      step_is = step_same e.step (named q) before (sym (named_of e.step.region) ∙ ap named e.region) e.holds

      last_one : (n : ℕ) (b t : Step) → suc n ≡ length steps → s ≡ t → slice_get (steps ++ s ∷ []) n ≡ Some b → Follows x b t
      last_one n b t same is at =
          let last = e.last in
          let number : e.number ≡ n = omega (arith, same, last) in
          let there : slice_get (steps ++ s ∷ []) n ≡ Some e.step = subst (λ (m : ℕ). slice_get (steps ++ s ∷ []) m ≡ Some e.step) number (at_old steps s e.number e.step e.at) in
          let own : b ≡ step_at q e.step.pc before e.step.why = same_Some _ _ (sym at ∙ there) ∙ step_is in
          subst (λ (u : Step). Follows x b u) is (subst (λ (u : Step). Follows x u s) (sym own) (next e.step.pc e.step.why e.stays))

  pub chain_found : (r : Region) (pc : ℕ) (lock : Lock) → Needs x r pc lock → (steps : List Step) × IsChain x r pc lock steps
  chain_found _ _ _ (Accessed r f pc i n isin at one) = chain_one r pc n (access_step r f pc i n isin at one)
  chain_found _ _ _ (Linked r f pc next i m n isin at goes needed one) =
      let inner = chain_found r next m needed in
      chain_more r r next pc m n why.Linked inner.0 inner.1 (λ p w stays. link_step r f pc next p i m n w isin at goes needed one stays)
  chain_found _ _ _ (Entered r f pc to first g callee m k n isin at there needed one settles) =
      let inner = chain_found (Body g) (start_of x.lowered.functions g) m needed in
      chain_more r (Body g) (start_of x.lowered.functions g) pc m n why.Entered inner.0 inner.1 (λ p w stays. entry_step r f pc to first g p callee m k n w isin at there needed one settles stays)
  chain_found _ _ _ (Before r pc m n needed one) =
      let inner = chain_found r pc m needed in
      chain_more r r pc pc m n why.Dereferenced inner.0 inner.1 (λ p w stays. front_step r pc p m n w needed one stays)
