-- Fresh objects are apart in every state that a run reaches.
use Rattle.std.proofs.Common.{◌≡◌, ◌≢◌, ℕ, zero, suc, ◌++◌, [], ◌∷◌, Some, None, slice_get, refl, ap, sym, ◌∙◌, subst, inl, inr}
use Rattle.std.specs.Prelude.{option_and_then, IsTrue}
use Rattle.std.specs.Option.{option_map_or}
use Rattle.std.proofs.lemmas.Option.{slice_get_within}
use Rattle.asl_code.specs.declared.image.Image.{Image}
use Rattle.asl_code.specs.declared.value.Value.TheVariants.{Addr}
use Rattle.asl_code.specs.declared.value.Cell.{Cell}
use Rattle.asl_code.specs.declared.value.Effect.TheVariants.{Read, Write}
use Rattle.asl_code.specs.Fits.{FitsImage}
use Rattle.asl_machine.specs.Cover.{is_fresh, cover, Allows}
use Rattle.asl_machine.specs.State.{Activity, State, activity_of, activity_at}
use Rattle.asl_machine.specs.WellFormed.{SatisfiesInvariant}
use Rattle.asl_machine.specs.Run.{first_thread, first_threads, start_of, IsReached}
use Rattle.asl_machine.specs.Fresh.{IsFreshFor, AreApart}
use Rattle.asl_machine.specs.StepFunction.{step_of, step_at}
use Rattle.asl_machine.proofs.Lists.{one_more}
use Rattle.asl_machine.proofs.Starts.{start_sound}
use Rattle.asl_machine.proofs.Table.{step_is}
use Rattle.asl_machine.proofs.Lines.{line_sound, reached_keeps}
use Rattle.asl_machine.proofs.Freshness.{no_fresh, allowed_pairs}
use Rattle.asl_machine.proofs.Apart.{step_apart}

first_none : (image : Image) (n u : ℕ) (a : Activity) → activity_at (first_threads image n) u ≡ Some a → a.fresh ≡ []
first_none image zero u a e = cc
first_none image (suc n) u a e =
    elim (slice_get (first_threads image n ++ first_thread image n ∷ []) u) as (λ o. slice_get (first_threads image n ++ first_thread image n ∷ []) u ≡ o → option_and_then activity_of o ≡ Some a → a.fresh ≡ []) [
      | None ↦ λ is f. cc
      | Some thread ↦ λ is f. elim (one_more (first_threads image n) (first_thread image n) thread u is) [
        | inl before ↦ first_none image n u a (ap (option_and_then activity_of) before ∙ f)
        | inr last ↦ sym (ap (λ x. option_map_or (λ (b : Activity). b.fresh) x []) (sym (ap activity_of last) ∙ f))
      ]
    ] refl e

pub start_fresh : (image : Image) (n u o : ℕ) → IsFreshFor (start_of image n) u o → ⊥
start_fresh image n u o f =
    elim (activity_at (first_threads image n) u) as (λ x. activity_at (first_threads image n) u ≡ x → IsTrue (is_fresh (option_map_or (λ (b : Activity). b.fresh) x []) o) → ⊥) [
      | None ↦ λ is g. no_fresh [] o refl g
      | Some a ↦ λ is g. no_fresh a.fresh o (first_none image n u a is) g
    ] refl f

-- at the start no object is fresh
pub start_apart : (image : Image) (n : ℕ) → AreApart image (start_of image n)
start_apart image n = record {
  version = λ u o f. absurd (start_fresh image n u o f);
  outside = λ u a e z. first_none image n u a e;
  there = λ u o f. absurd (start_fresh image n u o f);
  apart = λ u w o ne f g. start_fresh image n u o f;
  registers = λ u w o a ne f e. absurd (start_fresh image n w o f);
  cells = λ u o i cell f e. absurd (start_fresh image n u o f);
}

-- a computed step keeps them apart
pub step_of_apart : (image : Image) (s : State) (t : ℕ) → SatisfiesInvariant image s → AreApart image s → AreApart image (step_of image s t).state
step_of_apart image s t sound fr =
    elim (slice_get s.threads t) as (λ o. slice_get s.threads t ≡ o → AreApart image (step_of image s t).state) [
      | None ↦ λ is. subst (AreApart image) (sym (ap (λ o. (step_at image s t o).state) is)) fr
      | Some thread ↦ λ is. step_apart image s t (step_of image s t).reply (step_of image s t).state sound fr (step_is image s t sound (slice_get_within s.threads t thread is))
    ] refl

-- in every reached state they are apart
pub reached_apart : (image : Image) (count : ℕ) (s : State) → FitsImage image → IsReached image count s → AreApart image s
reached_apart image count s fits r =
    (reached_keeps image count (λ u. SatisfiesInvariant image u × AreApart image u) (start_sound image count fits, start_apart image count)
    (λ u t reply new p h. (line_sound image u t reply new p.0 h, step_apart image u t reply new p.0 p.1 h)) s r).1

-- ---- two threads

-- what another thread has the address of in a register is not fresh for this one
pub not_addressed : (image : Image) (s : State) → AreApart image s → (t u : ℕ) (a b : Activity) (r : ℕ) (cell : Cell) → t ≢ u → activity_at s.threads t ≡ Some a → activity_at s.threads u ≡ Some b →
    slice_get b.top.regs r ≡ Some (Addr cell.object cell.offset) → IsTrue (is_fresh a.fresh cell.object) → ⊥
not_addressed image s fr t u a b r cell apart is_a is_b reads f =
    (fr.registers u t cell.object b (λ e. apart (sym e)) (ap (λ x. is_fresh (option_map_or (λ (d : Activity). d.fresh) x []) cell.object) is_a ∙ f) is_b).0 r cell.offset reads

-- what one thread may read, and is not fresh for the other, the other may not write by an address in a register
pub write_pairs : (image : Image) (s : State) → SatisfiesInvariant image s → AreApart image s → (t u : ℕ) (a b : Activity) (r : ℕ) (cell : Cell) (x : ℕ) → t ≢ u → activity_at s.threads t ≡ Some a → activity_at s.threads u ≡ Some b →
    slice_get b.top.regs r ≡ Some (Addr cell.object cell.offset) → Allows (cover s.holding a.fresh) t cell x Read → Allows (cover s.holding b.fresh) u cell x Write → (IsTrue (is_fresh b.fresh cell.object) → ⊥) → ⊥
write_pairs image s sound fr t u a b r cell x apart is_a is_b reads allows writes other =
    allowed_pairs s.holding sound.lawful t u a.fresh b.fresh apart cell x allows writes (not_addressed image s fr t u a b r cell apart is_a is_b reads) other
