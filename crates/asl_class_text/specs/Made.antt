-- Machinery of the proofs, not of the promise: what is known of members, of chains and of grounds while the text is made
-- (src/making.rt, src/grounds.rt).
use Rattle.std.specs.Prelude.{◌≡◌, ◌≢◌, ◌<◌, ◌≤◌, ◌⊎◌, ◌++◌, ℕ, suc, List, [], ◌∷◌, true, false, length, take, Some, slice_get}
use Rattle.asl_lower.specs.Lowered.{Lowered}
use Rattle.asl_class_reasons.specs.declared.place.Place.{Place}
use Rattle.asl_class_reasons.specs.declared.place.Place.TheVariants.{Member}
use Rattle.asl_class_reasons.specs.declared.place.Step.{Step}
use Rattle.asl_class_reasons.specs.Reasons.{Joined}
use Rattle.asl_class_text.specs.declared.told.ToldStep.{ToldStep}
use Rattle.asl_class_text.specs.declared.told.ToldPair.{ToldPair}
use Rattle.asl_class_text.specs.declared.told.ToldGround.{ToldGround}
use Rattle.asl_class_text.specs.declared.told.ToldGrounds.{ToldGrounds}
use Rattle.asl_class_text.specs.Kinds.{end_of}
use Rattle.asl_class_text.specs.Chains.{IsStraightChain}
use Rattle.asl_class_text.specs.Grounds.{is_cells, address_of, Meet, IsOf, Tells, IsNeeded, IsOneOf, AreOnce, Covers, LeavesOut}

-- chains lead from the first member to each of the others, which are further on
abbrev pub AreJoined : List Step → ℕ → List ℕ → Type 0
AreJoined steps first others = (n m : ℕ) → slice_get others n ≡ Some m → (first < m) × Joined steps (Member first) (Member m)

-- so it is of the first of these members and all others
pub record AreAllJoined (steps : List Step) (ms : List ℕ) : Type 0 where
  pub each : (first : ℕ) (others : List ℕ) → ms ≡ first ∷ others → AreJoined steps first others

-- so where two members share a class
abbrev pub AreClassesJoined : List Step → List ℕ → Type 0
AreClassesJoined steps classes = (m n x : ℕ) → slice_get classes m ≡ Some x → slice_get classes n ≡ Some x → Joined steps (Member m) (Member n)

-- ---- grounds

-- the chain is no circle, wherever it begins and ends
pub record IsStraightAnywhere (l : Lowered) (reasons : List Step) (ts : List ToldStep) : Type 0 where
  pub from : Place
  pub into : Place
  pub chain : IsStraightChain l reasons from into ts

-- so are those of these pairs
abbrev pub AreStraight : Lowered → List Step → List ToldPair → Type 0
AreStraight l reasons ps = (k : ℕ) (p : ToldPair) → slice_get ps k ≡ Some p → IsStraightAnywhere l reasons p.chain.items

-- and those of these grounds
abbrev pub AreStraightGrounds : Lowered → List Step → List ToldGround → Type 0
AreStraightGrounds l reasons gs = (n : ℕ) (g : ToldGround) → slice_get gs n ≡ Some g → IsStraightChain l reasons g.one g.other g.chain.items

-- the chain of the ground of a number
pub record IsChainAt (gs : List ToldGround) (k : ℕ) (ts : List ToldStep) : Type 0 where
  pub ground : ToldGround
  pub there : slice_get gs k ≡ Some ground
  pub is : ground.chain.items ≡ ts

-- none of the first so many grounds is of the two places
pub record AreNone (gs : List ToldGround) (n : ℕ) (one other : Place) : Type 0 where
  pub each : (k : ℕ) (g : ToldGround) → k < n → slice_get gs k ≡ Some g → ¬ IsOf g one other

-- where two steps meet, nothing new is to be told; or there is no room; or one ground more is told
pub record IsKept (l : Lowered) (before after : ToldStep) (old new : ToldGrounds) : Type 0 where
  pub same : new ≡ old
  pub told : is_cells (end_of before) ≡ true → address_of l before ≢ address_of l after → Tells old.items.items (address_of l before) (address_of l after)

-- the two steps meet, and their ground is new, but there is no room for it: it is only said that there are more
pub record IsFull (l : Lowered) (most : ℕ) (before after : ToldStep) (old new : ToldGrounds) : Type 0 where
  pub same : new.items.items ≡ old.items.items
  pub more : new.more ≡ true
  pub full : most ≤ length old.items.items
  pub cells : is_cells (end_of before) ≡ true
  pub two : address_of l before ≢ address_of l after
  pub untold : ¬ Tells old.items.items (address_of l before) (address_of l after)

-- the two steps meet, and their ground is new: it is told behind the others, with a chain that is no circle
pub record IsPut (l : Lowered) (reasons : List Step) (most : ℕ) (before after : ToldStep) (old new : ToldGrounds) : Type 0 where
  pub ground : ToldGround
  pub grows : new.items.items ≡ old.items.items ++ ground ∷ []
  pub more : new.more ≡ old.more
  pub room : length old.items.items < most
  pub cells : is_cells (end_of before) ≡ true
  pub one : ground.one ≡ address_of l before
  pub other : ground.other ≡ address_of l after
  pub two : ground.one ≢ ground.other
  pub chain : IsStraightChain l reasons ground.one ground.other ground.chain.items
  pub untold : ¬ Tells old.items.items ground.one ground.other

-- what becomes of the grounds where a chain goes over two steps, one after the other: one of these three
abbrev pub IsMet : Lowered → List Step → ℕ → ToldStep → ToldStep → ToldGrounds → ToldGrounds → Type 0
IsMet l reasons most before after old new = IsKept l before after old new ⊎ (IsFull l most before after old new ⊎ IsPut l reasons most before after old new)

-- the grounds so far of chains of these pairs, and of their own
pub record AreSoFar (l : Lowered) (reasons : List Step) (most : ℕ) (ps : List ToldPair) (gs : ToldGrounds) : Type 0 where
  pub each : AreStraightGrounds l reasons gs.items.items
  pub needed : (n : ℕ) (g : ToldGround) → slice_get gs.items.items n ≡ Some g → IsNeeded l ps (take n gs.items.items) g
  pub once : AreOnce gs.items.items
  pub size : length gs.items.items ≤ most
  pub full : gs.more ≡ true → length gs.items.items ≡ most
  pub left : gs.more ≡ true → LeavesOut l ps gs.items.items

-- no ground is lost
pub record Grows (old new : List ToldGround) : Type 0 where
  pub each : (k : ℕ) (g : ToldGround) → slice_get old k ≡ Some g → slice_get new k ≡ Some g

-- the first so many steps of a chain were gone through
pub record IsGone (l : Lowered) (reasons : List Step) (most : ℕ) (ts : List ToldStep) (number : ℕ) (old new : ToldGrounds) : Type 0 where
  pub grows : Grows old.items.items new.items.items
  pub stays : old.more ≡ true → new.more ≡ true
  pub so_far : (ps : List ToldPair) → IsOneOf ps old.items.items ts → AreSoFar l reasons most ps old → AreSoFar l reasons most ps new
  pub told : new.more ≡ false → (one other : Place) (m : Meet l ts one other) → suc m.at < number → Tells new.items.items one other

-- the chains of the first so many pairs were
pub record ArePairsGone (l : Lowered) (reasons : List Step) (most : ℕ) (ps : List ToldPair) (n : ℕ) (gs : ToldGrounds) : Type 0 where
  pub so_far : AreSoFar l reasons most ps gs
  pub told : gs.more ≡ false → (k : ℕ) (p : ToldPair) → k < n → slice_get ps k ≡ Some p → Covers l p.chain.items gs.items.items

-- those of all pairs, and of the first so many grounds
pub record AreGroundsGone (l : Lowered) (reasons : List Step) (most : ℕ) (ps : List ToldPair) (n : ℕ) (gs : ToldGrounds) : Type 0 where
  pub pairs : ArePairsGone l reasons most ps (length ps) gs
  pub told : gs.more ≡ false → (k : ℕ) (g : ToldGround) → k < n → slice_get gs.items.items k ≡ Some g → Covers l g.chain.items gs.items.items
