-- Told chains grow by a step, and links lead on.
use Rattle.std.proofs.Common.{◌≡◌, ℕ, ◌+◌, ◌<◌, List, [], ◌∷◌, ◌++◌, length, drop, get_or, slice_get, Some, refl, sym, subst, inl, inr, ◌∙◌}
use Rattle.std.proofs.lemmas.List.{at_drop_more}
use Rattle.asl_class_reasons.specs.declared.place.Place.{Place}
use Rattle.asl_class_reasons.specs.declared.place.Step.{Step}
use Rattle.asl_class_reasons.specs.declared.place.Link.{Link}
use Rattle.asl_class_reasons.specs.declared.straight.StraightChain.{StraightChain}
use Rattle.asl_class_reasons.specs.Reasons.{Leads, IsChain, IsStraight}
use Rattle.asl_lower.specs.Lowered.{Lowered}
use Rattle.asl_class_text.specs.declared.told.ToldStep.{ToldStep}
use Rattle.asl_class_text.specs.Kinds.{start_of, end_of}
use Rattle.asl_class_text.specs.Chains.{IsTold, IsToldChain, IsStraightChain}

-- so far the chain is told, and where all links lead to a place, those that are left do
pub record Along (steps : List Step) (from : Place) (links : List Link) (into at : Place) (n : ℕ) (chain : List ToldStep) : Type 0 where
  pub told : IsToldChain steps from chain at
  pub rest : IsChain steps from links into → IsChain steps at (drop n links) into

-- what is told of a straight chain
pub straight_told : (l : Lowered) (reasons : List Step) (from into : Place) (c : StraightChain) (steps : List Step) (ts : List ToldStep) → IsStraight l reasons from into c → steps ≡ c.steps.items → IsToldChain steps from ts into → IsStraightChain l reasons from into ts
straight_told l reasons from into c steps ts straight is told = record {
  before = c.before;
  apart = straight.apart;
  steps = c.steps.items;
  reasoned = straight.reasoned;
  chain = subst (λ (es : List Step). IsToldChain es from ts into) is told;
}

pub leads_not : (s : Step) (a b : Place) → (s.from ≡ a → s.into ≡ b → ⊥) → (s.into ≡ a → s.from ≡ b → ⊥) → Leads s a b → ⊥
leads_not s a b ahead back (inl h) = ahead h.0 h.1
leads_not s a b ahead back (inr h) = back h.0 h.1

pub told_more : (steps : List Step) (a : Place) (ts : List ToldStep) (b : Place) (t : ToldStep) → IsToldChain steps a ts b → slice_get steps t.number ≡ Some t.step → start_of t ≡ b → IsToldChain steps a (ts ++ t ∷ []) (end_of t)
told_more steps a [] b t h s e = (s, e ∙ sym h, refl)
told_more steps a (u ∷ ts) b t h s e = (h.0, h.1, told_more steps (end_of u) ts b t h.2 s e)

-- the links from a number on lead from the place after the first of them
pub leads_here : (steps : List Step) (at into : Place) (links : List Link) (n : ℕ) (d k : Link) → n < length links → k ≡ get_or links n d → IsChain steps at (drop n links) into → (s : Step) × (slice_get steps k.step ≡ Some s) × Leads s at k.into × IsChain steps k.into (drop (n + 1) links) into
leads_here steps at into links n d k low is h =
    let F : List Link → Type 0 = λ ks. IsChain steps at ks into in
    let here : IsChain steps at (get_or links n d ∷ drop (n + 1) links) into = subst (λ (ks : List Link). IsChain steps at ks into) (at_drop_more (λ (ks : List Link). ks) links n d low) h in
    subst (λ (j : Link). (s : Step) × (slice_get steps j.step ≡ Some s) × Leads s at j.into × IsChain steps j.into (drop (n + 1) links) into) (sym is) here

pub along_more : (steps : List Step) (from : Place) (links : List Link) (into at : Place) (n : ℕ) (chain new : List ToldStep) (d k : Link) (t : ToldStep) → n < length links → k ≡ get_or links n d → IsTold steps at k t → new ≡ chain ++ t ∷ []
    → Along steps from links into at n chain → Along steps from links into (end_of t) (n + 1) new
along_more steps from links into at n chain new d k t low is told grows h = record {
  told = subst (λ (ts : List ToldStep). IsToldChain steps from ts (end_of t)) (sym grows) (told_more steps from chain at t h.told told.its told.starts);
  rest = λ all. subst (λ (p : Place). IsChain steps p (drop (n + 1) links) into) (sym told.ends) (leads_here steps at into links n d k low is (h.rest all)).3;
}
