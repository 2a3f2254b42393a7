-- What is found out of a step.
use Rattle.std.proofs.Common.{◌≡◌, ℕ, Bool, IsTrue, List, [], ◌∷◌, ◌++◌, ◌⊎◌, ⊎_elim, inl, inr, Option, Some, IfSome, Result, Ok, Err, IfOk, slice_get, refl, sym, ap, subst}
use Rattle.std.proofs.lemmas.Option.{same_Some}
use Rattle.std.specs.List.{flat_map}
use Rattle.asl_code.specs.declared.image.Function as entry
use Rattle.asl_code.specs.declared.instr.Instr.{Instr}
use Rattle.asl_code.specs.declared.instr.Instr.TheVariants as instr
use Rattle.asl_code.specs.declared.lock.Lock.{Lock}
use Rattle.asl_lower.specs.Regions.{Region, Body, IsIn}
use Rattle.asl_lower.specs.OpenSections.{start_of}
use Rattle.asl_lock_expr.specs.Links.{LinkContext, view, IsOne, settle, renamed}
use Rattle.asl_lock_expr.specs.Stores.{stores}
use Rattle.asl_backward_flow.specs.declared.region.Region.TheVariants as variant
use Rattle.asl_backward_flow.specs.Needed.{RegionNeeds, region_of}
use Rattle.asl_backward_flow.proofs.Leasts.{needed_inside}
use Rattle.asl_explain.specs.declared.explain_analysis.ExplainAnalysis.{ExplainAnalysis}
use Rattle.asl_explain.specs.declared.explained_value.Step.{Step}
use Rattle.asl_explain.specs.Chains.{Needs, Stays, StandsAt, IsEntry}
use Rattle.asl_explain.specs.Analysed.{read, IsAnalysed}

-- what a part of the flow says is needed
pub needed_told : (a : ExplainAnalysis) → IsAnalysed a → (r : Region) (place pc number : ℕ) (lock : Lock) (p : RegionNeeds) → slice_get a.flow place ≡ Some p → p.region ≡ r → slice_get p.locks number ≡ Some lock
    → ((k : ℕ) × (slice_get p.needs k ≡ Some (pc, number))) → Needs (read a) r pc lock
needed_told a known r place pc number lock p at same own there = (known.tells r pc lock).0 (place, p, at, same, (number, there.0, there.1, own))

-- the instruction at a pc at which a region needs a lock
pub stands_here : (a : ExplainAnalysis) (r : Region) (pc f : ℕ) (i : Instr) (lock : Lock) → Needs (read a) r pc lock → ((function q : ℕ) → IsIn a.lowering r function q → Some f ≡ Some function) → slice_get a.lowering.code pc ≡ Some i
    → StandsAt (read a) r pc f i
stands_here a r pc f i lock needed tells at =
    let is = needed_inside a.lowering a.classes (stores a.writes) a.k_limit r pc lock needed in
    let same : is.0 ≡ f = same_Some _ _ (sym (tells is.0 pc is.1)) in
    record { inside = subst (λ g. IsIn a.lowering r g pc) same is.1; stands = at }

pub some_holds : {X : Type 0} (P : X → Type 0) (o : Option X) (x : X) → o ≡ Some x → IfSome o P → P x
some_holds {X} P o x is h = subst (λ (k : Option X). IfSome k P) is h

pub if_ok_so : {E : Type 0} (result : Result Bool E) (Has So : Type 0) → (Has → So) → IfOk result (λ b. IsTrue b → Has) → IfOk result (λ b. IsTrue b → So)
if_ok_so (Ok b) Has So f h = λ t. f (h t)
if_ok_so (Err e) Has So f h = tt

one_either : (ms ns : List Lock) (a : Lock) → IsOne (ms ++ ns) a → IsOne ms a ⊎ IsOne ns a
one_either [] ns a e = inr e
one_either (m ∷ ms) ns a (inl e) = inl (inl e)
one_either (m ∷ ms) ns a (inr e) = ⊎_elim (λ x. inl (inr x)) (λ y. inr y) (one_either ms ns a e)

-- one of what becomes of the locks of a list
pub one_settled : (v : LinkContext) (locks : List Lock) (n : Lock) → IsOne (flat_map (settle v) locks) n → (m : Lock) × IsOne locks m × IsOne (settle v m) n
one_settled v [] n h = absurd h
one_settled v (m ∷ ms) n h = ⊎_elim (λ k. (m, inl refl, k)) (λ k. let t = one_settled v ms n k in (t.0, inr t.1, t.2)) (one_either (settle v m) (flat_map (settle v) ms) n h)

-- a lock at a callee's entry, which becomes the step's at the call
pub entry_of : {E : Type 0} (a : ExplainAnalysis) (before s : Step) (f to first callee params : ℕ) (i : Instr) → StandsAt (read a) (region_of s.region) s.pc f i → i ≡ instr.Call to first callee → before.region ≡ variant.Body callee
    → (e : entry.Function) × (slice_get a.lowering.functions callee ≡ Some e) × (e.params ≡ params) × Needs (read a) (Body callee) (start_of a.lowering.functions callee) before.lock
    × Stays (read a) (Body callee) before.lock (start_of a.lowering.functions callee) before.pc
    → (v : LinkContext) → v ≡ view a.classes (stores a.writes) a.k_limit f → (result : Result Bool E) → IfOk result (λ b. IsTrue b → IsOne (flat_map (settle v) (renamed first params before.lock)) s.lock)
    → IfOk result (λ b. IsTrue b → IsEntry (read a) before s)
entry_of a before s f to first callee params i at is body entry v seen (Err e) tells = tt
entry_of a before s f to first callee params i at is body entry v seen (Ok b) tells = λ t.
    let one = one_settled v (renamed first params before.lock) s.lock (tells t) in
    record {
      function = f;
      to = to;
      first = first;
      callee = callee;
      at = subst (StandsAt (read a) (region_of s.region) s.pc f) is at;
      called = entry.0;
      in_table = entry.1;
      body = ap region_of body;
      needed = entry.3;
      stays = entry.4;
      lock = one.0;
      renames = subst (λ n. IsOne (renamed first n before.lock) one.0) (sym entry.2) one.1;
      settles = subst (λ (u : LinkContext). IsOne (settle u one.0) s.lock) seen one.2;
    }
