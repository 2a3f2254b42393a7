-- What every machine keeps, at its start and over a step.
use Rattle.std.proofs.Common.{◌≡◌, ℕ, zero, suc, ◌<◌, Bool, true, false, List, [], ◌∷◌, Some, length, get_or, set, slice_get, map, refl, ap, sym, ◌∙◌, subst, arith, length-set}
use Rattle.std.specs.Prelude.{IsTrue}
use Rattle.std.proofs.lemmas.Option.{slice_get_within}
use Rattle.asl_code.specs.declared.image.Image.{Image}
use Rattle.asl_code.specs.Verified.{IsVerified}
use Rattle.asl_code.specs.Versions.{has_fresh}
use Rattle.asl_code.proofs.FitsLaws.{image_fits}
use Rattle.asl_lock_forest.specs.Holding.{Holding, no_holding}
use Rattle.asl_lock_forest.specs.Held.{Held}
use Rattle.asl_machine.specs.State.{Object, Thread, State}
use Rattle.asl_machine.specs.Run.{global_object, first_threads, start_of, IsReached, IsThreadCount}
use Rattle.asl_machine.specs.declared.reply.Reply.{Reply}
use Rattle.asl_machine.specs.declared.reply.Reply.TheVariants.{Blocked}
use Rattle.asl_machine.specs.Step.{after, Step}
use Rattle.asl_machine.specs.World.{SomeoneGoesOn}
use Rattle.asl_machine.specs.View.{Configuration}
use Rattle.asl_machine.proofs.Table.{step_is}
use Rattle.asl_machine.proofs.Reached.{someone_goes_on}
use Rattle.asl_machine.proofs.Runs.{start_reached, line_reached}
use Rattle.asl_machine.specs.StepFunction.{turn_of, step_of, step_at}
use Rattle.asl_machine.specs.WellFormed.{SatisfiesInvariant}
use Rattle.asl_machine.specs.Ready.{IsMachine}
use Rattle.asl_machine.specs.Cover.{is_fresh}
use Rattle.asl_machine.specs.Fresh.{fresh_of, fresh_at, AreApart}
use Rattle.asl_machine.proofs.Invariant.{turn_follows}
use Rattle.asl_machine.proofs.Starts.{start_sound, length-first_threads}
use Rattle.asl_machine.proofs.ReachedApart.{start_apart, step_of_apart}

-- the state that these parts make up
abbrev pub state_of : List Object → Holding → List Thread → State
state_of objects holding threads = record { objects = objects; holding = holding; threads = threads }

same_state : (a b : List Object) (h k : Holding) (ts us : List Thread) → a ≡ b → h ≡ k → ts ≡ us → state_of a h ts ≡ state_of b k us
same_state a b h k ts us p q r = λ i. state_of (p i) (q i) (r i)

-- the start keeps it
pub start_machine : (image : Image) (objects : List Object) (forest : Held) (threads : List Thread) (n : ℕ) → IsVerified image → IsThreadCount image n →
    objects ≡ map global_object image.globals → forest.classes ≡ image.classes → forest.threads ≡ n → forest.holding ≡ no_holding → threads ≡ first_threads image n →
    IsMachine image objects forest threads
start_machine image objects forest threads n verified count os classes counted holding ts =
    let l : length threads ≡ n = ap length ts ∙ length-first_threads image n in
    let starts : start_of image n ≡ state_of objects forest.holding threads = sym (same_state _ _ _ _ _ _ os holding ts) in
    record {
      verified = verified;
      reached = subst (λ k. IsReached image k (state_of objects forest.holding threads)) (sym l) (subst (IsReached image n) starts (start_reached image n));
      sound = subst (SatisfiesInvariant image) starts (start_sound image n (image_fits image verified));
      apart = subst (AreApart image) starts (start_apart image n);
      classes = classes;
      counted = counted ∙ sym l;
      count = subst (IsThreadCount image) (sym l) count;
    }

pub start_state : (image : Image) (objects : List Object) (holding : Holding) (threads : List Thread) (n : ℕ) →
    objects ≡ map global_object image.globals → holding ≡ no_holding → threads ≡ first_threads image n → state_of objects holding threads ≡ start_of image n
start_state image objects holding threads n os h ts = same_state _ _ _ _ _ _ os h ts

-- what a thread's step answers and leaves, over these parts
module _ (image : Image) (objects new_objects : List Object) (forest new_forest : Held) (threads : List Thread) (t : ℕ) (thread new_thread : Thread)
    (m : IsMachine image objects forest threads) (at : slice_get threads t ≡ Some thread)
    (own : new_thread ≡ (turn_of image t thread objects forest.holding).thread)
    (os : new_objects ≡ (turn_of image t thread objects forest.holding).objects)
    (holding : new_forest.holding ≡ (turn_of image t thread objects forest.holding).holding) where
  turn_state : state_of new_objects new_forest.holding (set threads t new_thread)
      ≡ (let turn = turn_of image t thread objects forest.holding in after (state_of objects forest.holding threads) t turn.thread turn.objects turn.holding)
  turn_state = same_state _ _ _ _ _ _ os holding (ap (set threads t) own)

  -- the state after it is the twin's
  pub step_state : state_of new_objects new_forest.holding (set threads t new_thread) ≡ (step_of image (state_of objects forest.holding threads) t).state
  step_state =
      turn_state ∙ sym (ap (λ o. (step_at image (state_of objects forest.holding threads) t o).state) at)

  -- the step keeps what a machine keeps
  pub step_machine : new_forest.classes ≡ forest.classes → new_forest.threads ≡ forest.threads → IsMachine image new_objects new_forest (set threads t new_thread)
  step_machine classes counted =
      let old = state_of objects forest.holding threads in
      let l = length-set threads t new_thread in
      record {
        verified = m.verified;
        reached = subst (λ k. IsReached image k (state_of new_objects new_forest.holding (set threads t new_thread))) (sym l)
            (subst (IsReached image (length threads)) (sym step_state)
            (line_reached image (length threads) old (step_of image old t).state t (step_of image old t).reply m.reached (step_is image old t m.sound (slice_get_within threads t thread at))));
        sound = subst (SatisfiesInvariant image) (sym turn_state) (turn_follows image (state_of objects forest.holding threads) t thread m.sound at);
        apart = subst (AreApart image) (sym step_state) (step_of_apart image (state_of objects forest.holding threads) t m.sound m.apart);
        classes = classes ∙ m.classes;
        counted = counted ∙ m.counted ∙ sym l;
        count = subst (IsThreadCount image) (sym l) m.count;
      }

-- the reply is the twin's
pub step_reply : (image : Image) (objects : List Object) (forest : Held) (threads : List Thread) (t : ℕ) (thread : Thread) → IsMachine image objects forest threads → slice_get threads t ≡ Some thread →
    (turn_of image t thread objects forest.holding).reply ≡ (step_of image (state_of objects forest.holding threads) t).reply
step_reply image objects forest threads t thread m at = sym (ap (λ o. (step_at image (state_of objects forest.holding threads) t o).reply) at)

-- the step is one that the table allows
pub step_table : (image : Image) (objects : List Object) (forest : Held) (threads : List Thread) (t : ℕ) (r : Reply) (new : State) → IsMachine image objects forest threads → t < length threads →
    r ≡ (step_of image (state_of objects forest.holding threads) t).reply → new ≡ (step_of image (state_of objects forest.holding threads) t).state →
    Step image (state_of objects forest.holding threads) t r new
step_table image objects forest threads t r new m lt e f =
    let old = state_of objects forest.holding threads in
    subst (λ x. Step image old t x new) (sym e) (subst (Step image old t (step_of image old t).reply) (sym f) (step_is image old t m.sound lt))

-- the reply decides whether someone continues, who does so in the new state as in the old
pub step_blocked : (image : Image) (objects : List Object) (forest : Held) (threads : List Thread) (t : ℕ) (r : Reply) → IsMachine image objects forest threads →
    r ≡ (step_of image (state_of objects forest.holding threads) t).reply → r ≡ Blocked → SomeoneGoesOn image (state_of objects forest.holding threads)
step_blocked image objects forest threads t r m e b = someone_goes_on image (state_of objects forest.holding threads) t m.sound (sym e ∙ b)

-- the fresh objects of the thread of a number are those of the thread that stands there
pub fresh_at_place : (threads : List Thread) (t : ℕ) (d : Thread) → t < length threads → fresh_of (get_or threads t d) ≡ fresh_at threads t
fresh_at_place [] t d lt = absurd (omega arith)
fresh_at_place (x ∷ threads) zero d lt = refl
fresh_at_place (x ∷ threads) (suc t) d lt = fresh_at_place threads t d (omega arith)

-- what is fresh is there, and there is some only where the image's version has fresh objects
pub fresh_is_there : (m : Configuration) (t o : ℕ) (b : Bool) → AreApart m.image m.state → b ≡ is_fresh (fresh_at m.state.threads t) o → IsTrue b → o < length m.state.objects
fresh_is_there m t o b apart e is = (apart.there t o (sym e ∙ is)).1

pub none_is_fresh : (m : Configuration) (t o : ℕ) (b : Bool) → AreApart m.image m.state → b ≡ is_fresh (fresh_at m.state.threads t) o → has_fresh m.image.version ≡ false → b ≡ false
none_is_fresh m t o true apart e none = let some = apart.version t o (sym e) in cc
none_is_fresh m t o false apart e none = refl
