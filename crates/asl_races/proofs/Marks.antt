-- Threads that know, and marks: what threads that knew have given back. Whoever does not know holds nothing that does not go with a
-- mark; who is granted something that does not go with one knows from then on.
use Rattle.std.proofs.Common.{◌≡◌, ℕ, zero, suc, ◌⊎◌, ◌||◌, ◌==◌, true, false, List, [], ◌∷◌, Some, slice_get, refl, ap, sym, ◌∙◌, subst, inl, inr, eq-eqb, eqb-true}
use Rattle.std.specs.Prelude.{IsTrue}
use Rattle.std.proofs.lemmas.Bool.{or_right}
use Rattle.std.proofs.lemmas.Option.{same_Some}
use Rattle.asl_code.specs.declared.image.Image.{Image}
use Rattle.asl_code.specs.declared.value.Cell.{Cell}
use Rattle.asl_code.specs.declared.value.Effect.{Effect}
use Rattle.asl_code.specs.declared.value.Effect.TheVariants.{Write}
use Rattle.asl_mode_lanes.specs.Mode.{AreCompatible}
use Rattle.asl_lock_forest.specs.declared.node.Node.{Node}
use Rattle.asl_lock_forest.specs.Node.{IsRooted}
use Rattle.asl_lock_forest.specs.Holding.{Holding, Request, held, asked, grant, Covers}
use Rattle.asl_lock_forest.proofs.NinePairs.{no_two_cover, not_both_cover}
use Rattle.asl_machine.specs.declared.reply.Reply.{Reply}
use Rattle.asl_machine.specs.State.{State}
use Rattle.asl_machine.specs.Cover.{is_fresh}
use Rattle.asl_machine.specs.WellFormed.{SatisfiesInvariant}
use Rattle.asl_machine.specs.Step.{Step}
use Rattle.asl_machine.proofs.Freshness.{or_split}
use Rattle.asl_machine.proofs.LinesLeft.{request_same}
use Rattle.asl_machine.proofs.ValueLines.{at_of}
use Rattle.asl_races.specs.Races.{IsGranted, requested}
use Rattle.asl_races.proofs.Turns.{taken, enters_at}
use Rattle.asl_races.proofs.Modes.{Refuses, goes_or_refuses}

-- what a thread has given back, by a step before which this was held
pub record Mark : Type 0 where
  pub thread : ℕ
  pub holding : Holding

-- the thread is one of these
abbrev pub Knows : List ℕ → ℕ → Type 0
Knows knowers u = IsTrue (is_fresh knowers u)

-- who does not know holds nothing that does not go with a mark
pub record AreMarks (s : State) (knowers : List ℕ) (marks : List Mark) : Type 0 where
  pub rooted : (k : ℕ) (mark : Mark) → slice_get marks k ≡ Some mark → IsRooted (held mark.holding mark.thread)
  pub goes : (u k : ℕ) (mark : Mark) → ¬ Knows knowers u → slice_get marks k ≡ Some mark → (node : Node) → AreCompatible (held mark.holding mark.thread node) (held s.holding u node)

-- who knows covers the cell, or a mark does
abbrev pub IsBound : State → List ℕ → List Mark → Cell → ℕ → Effect → Type 0
IsBound s knowers marks cell class effect =
    ((w : ℕ) × Knows knowers w × Covers s.holding w cell class effect)
    ⊎ ((k : ℕ) × (mark : Mark) × (slice_get marks k ≡ Some mark) × Covers mark.holding mark.thread cell class effect)

-- no thread that does not know covers such a cell so that it is in conflict
pub bound_bars : (image : Image) (s : State) (knowers : List ℕ) (marks : List Mark) (u : ℕ) (cell : Cell) (class : ℕ) (effect another : Effect) → SatisfiesInvariant image s → AreMarks s knowers marks → ¬ Knows knowers u →
    (effect ≡ Write) ⊎ (another ≡ Write) → IsBound s knowers marks cell class effect → Covers s.holding u cell class another → ⊥
bound_bars image s knowers marks u cell class effect another sound are away writes (inl b) covers =
    no_two_cover s.holding sound.lawful b.0 u (λ e. away (subst (Knows knowers) e b.1)) cell class effect another writes b.2 covers
bound_bars image s knowers marks u cell class effect another sound are away writes (inr b) covers =
    not_both_cover b.1.holding s.holding b.1.thread u (are.rooted b.0 b.1 b.2) (sound.lawful.rooted u) (are.goes u b.0 b.1 away b.2) cell class effect another writes b.3 covers

-- ---- one more

pub knows_first : (t : ℕ) (knowers : List ℕ) → Knows (t ∷ knowers) t
knows_first t knowers = ap (λ b. b || is_fresh knowers t) (eq-eqb t t refl)

pub knows_more : (t : ℕ) (knowers : List ℕ) (u : ℕ) → Knows knowers u → Knows (t ∷ knowers) u
knows_more t knowers u e = or_right (t == u) (is_fresh knowers u) e

pub knows_either : (t : ℕ) (knowers : List ℕ) (u : ℕ) → Knows (t ∷ knowers) u → (u ≡ t) ⊎ Knows knowers u
knows_either t knowers u e = elim (or_split (t == u) (is_fresh knowers u) e) [ inl same ↦ inl (sym (eqb-true t u same)) | inr later ↦ inr later ]

-- whether a thread knows
pub tell_knows : (knowers : List ℕ) (u : ℕ) → Knows knowers u ⊎ (¬ Knows knowers u)
tell_knows knowers u = elim (is_fresh knowers u) as (λ b. is_fresh knowers u ≡ b → Knows knowers u ⊎ (¬ Knows knowers u)) [
  | true ↦ λ is. inl is
  | false ↦ λ is. inr (λ e. (let k : false ≡ true = sym is ∙ e in cc))
] refl

-- ---- a granted request

-- the holding after a grant
pub granted_is : (image : Image) (s : State) (t : ℕ) (r : Reply) (new : State) → Step image s t r new → (g : IsGranted image (taken s t r)) → new.holding ≡ grant s.holding t (requested image (taken s t r) g)
granted_is image s t r new step g =
    let e = enters_at image s t r new step g in
    ap (λ (x : State). x.holding) e.goes_on ∙ ap (grant s.holding t) (sym (request_same (at_of image s t g.is_at.activity) g.list e.request e.asks))

-- a request goes with all marks, or is refused by one
abbrev pub IsRefusedBy : List Mark → Request → Type 0
IsRefusedBy marks request = (k : ℕ) × (mark : Mark) × (slice_get marks k ≡ Some mark) × Refuses (held mark.holding mark.thread) request

abbrev pub GoesWith : List Mark → Request → Type 0
GoesWith marks request = (k : ℕ) (mark : Mark) → slice_get marks k ≡ Some mark → (node : Node) → AreCompatible (held mark.holding mark.thread node) (asked request node)

pub tell_marks : (marks : List Mark) (request : Request) → IsRefusedBy marks request ⊎ GoesWith marks request
tell_marks [] request = inr (λ k mark at. absurd cc)
tell_marks (first ∷ marks) request = elim (goes_or_refuses (held first.holding first.thread) request) [
  | inl refuses ↦ inl (zero, first, refl, refuses)
  | inr goes ↦ elim (tell_marks marks request) [
    | inl later ↦ inl (suc later.0, later.1, later.2, later.3)
    | inr rest ↦ inr (both first marks request goes rest)
  ]
]
  where
    both : (first : Mark) (marks : List Mark) (request : Request) → ((node : Node) → AreCompatible (held first.holding first.thread node) (asked request node)) → GoesWith marks request → GoesWith (first ∷ marks) request
    both first marks request goes rest zero mark at node = let same : first ≡ mark = same_Some _ _ at in subst (λ (m : Mark). AreCompatible (held m.holding m.thread node) (asked request node)) same (goes node)
    both first marks request goes rest (suc k) mark at node = rest k mark at node
