-- What may stand in place of a thread, the objects and the holding, so that the state with them still satisfies the invariant;
-- and that what a thread leaves which fails, ends, goes on, is granted a request or gives all back may stand there.
use Rattle.std.proofs.Common.{◌≡◌, ◌≢◌, ℕ, ◌<◌, ◌⊎◌, List, [], ◌∷◌, Option, Some, length, set, slice_get, ap, sym, ◌∙◌, subst, inl, inr, length-set}
use Rattle.std.specs.Prelude.{option_and_then}
use Rattle.std.specs.Option.{option_map_or}
use Rattle.std.proofs.lemmas.Bool.Decides.{eqb_tells}
use Rattle.std.proofs.lemmas.Option.{same_Some}
use Rattle.asl_code.specs.declared.image.Image.{Image}
use Rattle.asl_code.specs.declared.value.Value.{Value}
use Rattle.asl_mode_lanes.specs.declared.mode.Mode.TheVariants.{NL}
use Rattle.asl_lock_forest.specs.declared.node.Node.{Node}
use Rattle.asl_lock_forest.specs.Holding.{Holding, Request, HoldsNothing, held, grant, release, IsLawful, IsWithin}
use Rattle.asl_lock_forest.proofs.Laws.{nothing_released, nothing_kept_release, nothing_kept_grant}
use Rattle.asl_lock_forest.proofs.Lawful.{lawful_release, within_release}
use Rattle.asl_machine.specs.declared.fault.Fault.{Fault}
use Rattle.asl_machine.specs.State.{Object, Frame, Activity, Thread, Running, Done, Failed, State, class_of, activity_of, activity_at, depth_at}
use Rattle.asl_machine.specs.Access.{Points}
use Rattle.asl_machine.specs.Step.{with_fresh, after}
use Rattle.asl_machine.specs.WellFormed.{IsPlaced, AreSuspended, AreWellFormed, SatisfiesInvariant}
use Rattle.asl_machine.specs.Nodes.{IsNode}
use Rattle.asl_machine.proofs.Lists.{get_same, get_other}
use Rattle.asl_machine.proofs.Nodes.{node_kept, released_before}

-- how many sections a thread is in
abbrev pub depth_in : Thread → ℕ
depth_in thread = option_map_or (λ (a : Activity). a.depth) (activity_of thread) 0

-- a thread, objects and a holding that may stand in place of a state's
pub record MayFollow (image : Image) (s : State) (t : ℕ) (thread : Thread) (objects : List Object) (holding : Holding) : Type 0 where
  pub sound : AreWellFormed image objects
  pub grows : (v : Value) → Points s.objects v → Points objects v
  pub classes : (n class : ℕ) → class_of s.objects n ≡ Some class → class_of objects n ≡ Some class
  pub own : (a : Activity) → activity_of thread ≡ Some a → IsPlaced image objects a
  pub ended : (v : Value) → thread ≡ Done v → Points objects v
  pub own_outside : depth_in thread ≡ 0 → HoldsNothing holding t
  pub others : (u : ℕ) → u ≢ t → HoldsNothing s.holding u → HoldsNothing holding u
  pub lawful : IsLawful holding
  pub within : IsWithin image.classes (length s.threads) holding
  pub nodes : (u : ℕ) (n : Node) → held holding u n ≢ NL → (held s.holding u n ≢ NL) ⊎ IsNode image.classes s.objects n

-- frames that wait do so over objects to which all that pointed still points
pub below_grown : (image : Image) (objects more : List Object) → ((v : Value) → Points objects v → Points more v) → (above : ℕ) (result : Option ℕ) (frames : List Frame) →
    AreSuspended image objects above result frames → AreSuspended image more above result frames
below_grown image objects more g above result [] h = h
below_grown image objects more g above result (f ∷ fs) h = (
  record {
    function = h.0.function;
    call = h.0.call;
    to = h.0.to;
    first = h.0.first;
    inside = h.0.inside;
    calls = h.0.calls;
    awaits = h.0.awaits;
    behind = h.0.behind;
    lies = h.0.lies;
    registers = h.0.registers;
    points = λ r v e. g v (h.0.points r v e);
  },
  below_grown image objects more g f.function f.result fs h.1,
)

-- so is a thread placed that was
unfoldable pub grown : (image : Image) (objects more : List Object) (a : Activity) → ((v : Value) → Points objects v → Points more v) → IsPlaced image objects a → IsPlaced image more a
grown image objects more a g p =
    record { function = p.function; lies = p.lies; registers = p.registers; points = λ r v e. g v (p.points r v e); depth = p.depth; below = below_grown image objects more g a.top.function a.top.result a.below p.below; few = p.few }

-- it makes no difference which objects are fresh for it
pub refreshed : (image : Image) (objects : List Object) (a : Activity) (fresh : List ℕ) → IsPlaced image objects a → IsPlaced image objects (with_fresh fresh a)
refreshed image objects a fresh p =
    record { function = p.function; lies = p.lies; registers = p.registers; points = p.points; depth = p.depth; below = p.below; few = p.few }

-- the state in which they stand so is sound
pub sound_after : (image : Image) (s : State) (t : ℕ) (thread : Thread) (objects : List Object) (holding : Holding) → SatisfiesInvariant image s → t < length s.threads →
    MayFollow image s t thread objects holding → SatisfiesInvariant image (after s t thread objects holding)
sound_after image s t thread objects holding sound lt m = record {
  fits = sound.fits;
  formed = record {
    objects = m.sound;
    placed = λ u a e. elim (eqb_tells u t) [
      | inl same ↦
          let here : slice_get (set s.threads t thread) u ≡ Some thread = ap (slice_get (set s.threads t thread)) same.1 ∙ get_same s.threads t thread lt in
          m.own a (sym (ap (option_and_then activity_of) here) ∙ e)
      | inr other ↦
          grown image s.objects objects a m.grows
          (sound.formed.placed u a (sym (ap (option_and_then activity_of) (get_other s.threads t u thread other.1)) ∙ e))
    ];
    ended = λ u v e. elim (eqb_tells u t) [
      | inl same ↦
          let here : slice_get (set s.threads t thread) u ≡ Some thread = ap (slice_get (set s.threads t thread)) same.1 ∙ get_same s.threads t thread lt in
          m.ended v (same_Some _ _ (sym here ∙ e))
      | inr other ↦ m.grows v (sound.formed.ended u v (sym (get_other s.threads t u thread other.1) ∙ e))
    ];
  };
  outside = λ u e. elim (eqb_tells u t) [
    | inl same ↦
        let here : slice_get (set s.threads t thread) u ≡ Some thread = ap (slice_get (set s.threads t thread)) same.1 ∙ get_same s.threads t thread lt in
        let depth : depth_in thread ≡ 0 = sym (ap (λ o. option_map_or (λ (a : Activity). a.depth) (option_and_then activity_of o) 0) here) ∙ e in
        subst (HoldsNothing holding) (sym same.1) (m.own_outside depth)
    | inr other ↦
        m.others u other.1
        (sound.outside u (sym (ap (λ o. option_map_or (λ (a : Activity). a.depth) (option_and_then activity_of o) 0) (get_other s.threads t u thread other.1)) ∙ e))
  ];
  lawful = m.lawful;
  within = subst (λ n. IsWithin image.classes n holding) (sym (length-set s.threads t thread)) m.within;
  there = λ u n ne.
      let kept = node_kept image.classes s.objects objects m.classes m.grows n in
      elim (m.nodes u n ne) [ inl before ↦ kept (sound.there u n before) | inr new ↦ kept new ];
}

-- what a running thread of a sound state is, where it is at an instruction that it continues from
pub record Here (image : Image) (s : State) (t : ℕ) (a : Activity) : Type 0 where
  pub sound : SatisfiesInvariant image s
  pub there : t < length s.threads
  pub is : activity_at s.threads t ≡ Some a
  pub placed : IsPlaced image s.objects a

-- the depth that is read from the threads is that of the activity
depth_here : (image : Image) (s : State) (t : ℕ) (a : Activity) → Here image s t a → depth_at s.threads t ≡ a.depth
depth_here image s t a h = ap (λ o. option_map_or (λ (b : Activity). b.depth) o 0) h.is

-- a thread that is in no section holds nothing
pub outside_here : (image : Image) (s : State) (t : ℕ) (a : Activity) → Here image s t a → a.depth ≡ 0 → HoldsNothing s.holding t
outside_here image s t a h e = h.sound.outside t (depth_here image s t a h ∙ e)

-- a thread that fails
pub follows_fail : (image : Image) (s : State) (t : ℕ) (a : Activity) (f : Fault) → Here image s t a → MayFollow image s t (Failed f) s.objects (release s.holding t)
follows_fail image s t a f h = record {
  sound = h.sound.formed.objects;
  grows = λ v p. p;
  classes = λ n class e. e;
  own = λ b e. cc;
  ended = λ v e. cc;
  own_outside = λ e. nothing_released s.holding t;
  others = λ u ne p. nothing_kept_release s.holding t u p;
  lawful = lawful_release s.holding t h.sound.lawful;
  within = within_release image.classes (length s.threads) s.holding t h.sound.within;
  nodes = λ u n ne. inl (released_before s.holding t u n ne);
}

-- a thread that ends outside all sections
pub follows_end : (image : Image) (s : State) (t : ℕ) (a : Activity) (v : Value) → Here image s t a → a.depth ≡ 0 → Points s.objects v → MayFollow image s t (Done v) s.objects s.holding
follows_end image s t a v h z points = record {
  sound = h.sound.formed.objects;
  grows = λ w p. p;
  classes = λ n class e. e;
  own = λ b e. cc;
  ended = λ w e. let is : v ≡ w = cc in subst (Points s.objects) is points;
  own_outside = λ e. outside_here image s t a h z;
  others = λ u ne p. p;
  lawful = h.sound.lawful;
  within = h.sound.within;
  nodes = λ u n ne. inl ne;
}

-- a thread that continues in sound objects, with its holding as it was
pub follows_changes : (image : Image) (s : State) (t : ℕ) (a b : Activity) (objects : List Object) → Here image s t a → AreWellFormed image objects →
    ((v : Value) → Points s.objects v → Points objects v) → ((n class : ℕ) → class_of s.objects n ≡ Some class → class_of objects n ≡ Some class) →
    IsPlaced image objects b → (b.depth ≡ 0 → a.depth ≡ 0) → MayFollow image s t (Running b) objects s.holding
follows_changes image s t a b objects h sound grows classes placed shallow = record {
  sound = sound;
  grows = grows;
  classes = classes;
  own = λ c e. let is : b ≡ c = cc in subst (IsPlaced image objects) is placed;
  ended = λ v e. cc;
  own_outside = λ e. outside_here image s t a h (shallow e);
  others = λ u ne p. p;
  lawful = h.sound.lawful;
  within = h.sound.within;
  nodes = λ u n ne. inl ne;
}

-- a thread that continues over the same objects, with its holding as it was
pub follows_goes : (image : Image) (s : State) (t : ℕ) (a b : Activity) → Here image s t a → IsPlaced image s.objects b → (b.depth ≡ 0 → a.depth ≡ 0) →
    MayFollow image s t (Running b) s.objects s.holding
follows_goes image s t a b h placed shallow = follows_changes image s t a b s.objects h h.sound.formed.objects (λ v p. p) (λ n class e. e) placed shallow

-- a holding after a request is granted to the thread
pub record Granted (image : Image) (s : State) (t : ℕ) (request : Request) : Type 0 where
  pub lawful : IsLawful (grant s.holding t request)
  pub within : IsWithin image.classes (length s.threads) (grant s.holding t request)
  pub nodes : (u : ℕ) (n : Node) → held (grant s.holding t request) u n ≢ NL → (held s.holding u n ≢ NL) ⊎ IsNode image.classes s.objects n

-- a thread that has been granted a request, and is in a section
pub follows_grant : (image : Image) (s : State) (t : ℕ) (a b : Activity) (request : Request) → Here image s t a → IsPlaced image s.objects b → b.depth ≢ 0 →
    Granted image s t request → MayFollow image s t (Running b) s.objects (grant s.holding t request)
follows_grant image s t a b request h placed inside granted = record {
  sound = h.sound.formed.objects;
  grows = λ v p. p;
  classes = λ n class e. e;
  own = λ c e. let is : b ≡ c = cc in subst (IsPlaced image s.objects) is placed;
  ended = λ v e. cc;
  own_outside = λ e. absurd (inside e);
  others = λ u ne p. nothing_kept_grant s.holding t request u ne p;
  lawful = granted.lawful;
  within = granted.within;
  nodes = granted.nodes;
}

-- a thread that has given all back
pub follows_release : (image : Image) (s : State) (t : ℕ) (a b : Activity) → Here image s t a → IsPlaced image s.objects b → MayFollow image s t (Running b) s.objects (release s.holding t)
follows_release image s t a b h placed = record {
  sound = h.sound.formed.objects;
  grows = λ v p. p;
  classes = λ n class e. e;
  own = λ c e. let is : b ≡ c = cc in subst (IsPlaced image s.objects) is placed;
  ended = λ v e. cc;
  own_outside = λ e. nothing_released s.holding t;
  others = λ u ne p. nothing_kept_release s.holding t u p;
  lawful = lawful_release s.holding t h.sound.lawful;
  within = within_release image.classes (length s.threads) s.holding t h.sound.within;
  nodes = λ u n ne. inl (released_before s.holding t u n ne);
}
