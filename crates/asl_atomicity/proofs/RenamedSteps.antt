-- A state with other numbers for objects steps alike.
use Rattle.std.proofs.Common.{◌≡◌, ℕ, set, List, Option, Some, None, length, slice_get, refl, ap, ap₂, sym, ◌∙◌, subst}
use Rattle.std.specs.Prelude.{option_map}
use Rattle.std.proofs.lemmas.Option.{slice_get-map}
use Rattle.std.proofs.lemmas.List.{map-set}
use Rattle.asl_code.specs.declared.image.Image.{Image}
use Rattle.asl_lock_forest.specs.Holding.{Holding}
use Rattle.asl_machine.specs.declared.fate.Fate.{Fate}
use Rattle.asl_machine.specs.declared.fate.Fate.TheVariants as fate
use Rattle.asl_machine.specs.State.{Activity, Thread, Running, Done, Failed, State}
use Rattle.asl_machine.specs.Step.{after}
use Rattle.asl_machine.specs.StepFunction.{Left, Turn, Stepped, left_by, left_at, reply_of, thread_after, holding_after, turn_by, step_at, step_of}
use Rattle.asl_machine.specs.WellFormed.{SatisfiesInvariant}
use Rattle.asl_machine.proofs.Invariant.{here_of, instr_here}
use Rattle.asl_atomicity.specs.Renamed.{Renaming, reply_by, activity_by, thread_by, IsRenamed, Keeps}
use Rattle.asl_atomicity.proofs.Uniform.{place_at}
use Rattle.asl_atomicity.proofs.RenamedValues.{fate_by, LeftBy}
use Rattle.asl_atomicity.proofs.Renaming.{ObjectsBy, HoldingBy, release_by}
use Rattle.asl_atomicity.proofs.RenamedInstructions.{left_both}

-- what a turn leaves, with other numbers
record TurnBy (f : ℕ → ℕ) (l m : Turn) : Type 0 where
  reply : m.reply ≡ reply_by f l.reply
  thread : m.thread ≡ thread_by f l.thread
  count : length m.objects ≡ length l.objects
  objects : ObjectsBy f l.objects m.objects
  holding : HoldingBy f l.holding m.holding

module _ (p : Renaming) where
  -- ---- turns and steps

  reply_fate : (w : Fate) → reply_of (fate_by p.new w) ≡ reply_by p.new (reply_of w)
  reply_fate fate.Continues = refl
  reply_fate (fate.Shows v) = refl
  reply_fate (fate.Ends v) = refl
  reply_fate (fate.Fails w) = refl
  reply_fate fate.Waits = refl

  thread_fate : (w : Fate) (a : Activity) → thread_after (fate_by p.new w) (activity_by p.new a) ≡ thread_by p.new (thread_after w a)
  thread_fate fate.Continues a = refl
  thread_fate (fate.Shows v) a = refl
  thread_fate (fate.Ends v) a = refl
  thread_fate (fate.Fails w) a = refl
  thread_fate fate.Waits a = refl

  holding_fate : (w : Fate) (t : ℕ) (h g : Holding) → HoldingBy p.new h g → HoldingBy p.new (holding_after w t h) (holding_after (fate_by p.new w) t g)
  holding_fate fate.Continues t h g k = k
  holding_fate (fate.Shows v) t h g k = k
  holding_fate (fate.Ends v) t h g k = k
  holding_fate (fate.Fails w) t h g k = release_by p h g k t
  holding_fate fate.Waits t h g k = k

  turn_both : (t : ℕ) (l m : Left) → LeftBy p.new l m → TurnBy p.new (turn_by t l) (turn_by t m)
  turn_both t l m k = record {
    reply = ap reply_of k.fate ∙ reply_fate l.fate;
    thread = ap₂ thread_after k.fate k.activity ∙ thread_fate l.fate l.activity;
    count = k.count;
    objects = k.objects;
    holding = subst (λ w. HoldingBy p.new (holding_after l.fate t l.holding) (holding_after w t m.holding)) (sym k.fate) (holding_fate l.fate t l.holding m.holding k.holding);
  }

  -- the steps of two states
  pub record StepBy (one other : Stepped) : Type 0 where
    pub reply : other.reply ≡ reply_by p.new one.reply
    pub state : IsRenamed p.new one.state other.state

  -- a state with other numbers replies alike and leaves a state with other numbers
  module _ (image : Image) (s z : State) (t : ℕ) (sound : SatisfiesInvariant image s) (keeps : Keeps p.new (length image.globals) (length s.objects)) (same : IsRenamed p.new s z) where
    by_turn : (thread : Thread) (l m : Turn) → slice_get s.threads t ≡ Some thread → TurnBy p.new l m →
        StepBy (record { reply = l.reply; state = after s t l.thread l.objects l.holding }) (record { reply = m.reply; state = after z t m.thread m.objects m.holding })
    by_turn thread l m is k = record {
      reply = k.reply;
      state = record {
        count = k.count;
        objects = k.objects;
        holding = k.holding;
        threads = ap₂ (λ ts (x : Thread). set ts t x) same.threads k.thread ∙ sym (map-set (thread_by p.new) s.threads t l.thread);
      };
    }

    at_thread : (o : Option Thread) → slice_get s.threads t ≡ o → StepBy (step_at image s t o) (step_at image z t (option_map (thread_by p.new) o))
    at_thread None is = record { reply = refl; state = same }
    at_thread (Some (Done v)) is = by_turn (Done v) _ _ is (record { reply = refl; thread = refl; count = same.count; objects = same.objects; holding = same.holding })
    at_thread (Some (Failed w)) is = by_turn (Failed w) _ _ is (record { reply = refl; thread = refl; count = same.count; objects = same.objects; holding = same.holding })
    at_thread (Some (Running a)) is =
        let here = here_of image s t a sound is in
        let at = instr_here image s.objects a here.placed sound.fits in
        let b = activity_by p.new a in
        by_turn (Running a) _ _ is (
        subst (λ o. TurnBy p.new (turn_by t (left_at image (place_at t a s.objects s.holding) o)) (turn_by t (left_at image (place_at t b z.objects z.holding) o))) (sym at.1) (turn_both t (left_by image (place_at t a s.objects s.holding) at.0) (left_by image (place_at t b z.objects z.holding) at.0)
        (left_both p image t a s.objects z.objects s.holding z.holding same.count same.objects same.holding keeps a.top.function here.placed.function at.0 at.2))
        )

    pub step_both : StepBy (step_of image s t) (step_of image z t)
    step_both =
        subst (λ o. StepBy (step_of image s t) (step_at image z t o)) (sym (ap (λ (ts : List Thread). slice_get ts t) same.threads ∙ slice_get-map (thread_by p.new) s.threads t)) (at_thread (slice_get s.threads t) refl)
