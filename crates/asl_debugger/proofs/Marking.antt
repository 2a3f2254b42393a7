-- Marks between checkpoints.
use Rattle.std.proofs.Common.{◌≡◌, ℕ, ◌<◌, ◌≤◌, inl, inr, Bool, true, false, List, [], ◌∷◌, ◌++◌, length, get_or, Option, ap, sym, subst, ◌∙◌}
use Rattle.std.specs.Prelude.{slice_get, IsSomeAnd, if◌then◌else◌}
use Rattle.std.proofs.lemmas.List.Elements.{All-push}
use Rattle.std.proofs.lemmas.Option.{slice_get_cases, get_or_from_slice_get}
use Rattle.asl_code.specs.declared.image.Image.{Image}
use Rattle.asl_machine.specs.View.{Configuration}
use Rattle.asl_machine.specs.Paused.{Rest, IsRestOf}
use Rattle.asl_journal.specs.Journal.{Log}
use Rattle.asl_debugger.specs.declared.trail.Mark.{Mark}
use Rattle.asl_debugger.specs.Computed.{machine_before}
use Rattle.asl_debugger.specs.Checkpoints.{AreMarks, IsMarkOf}
use Rattle.asl_debugger.proofs.Marks.{mark_of}

-- one mark more, after the others
one_left : (image : Image) (log : Log) (marks : List Mark) (machine : Configuration) (position : ℕ) (rest : Rest) → machine ≡ machine_before image log position → position ≤ length log.events
    → IsRestOf machine.image rest → rest.state ≡ machine.state → AreMarks image log marks → AreMarks image log (marks ++ record { position = position; rest = rest } ∷ [])
one_left image log marks machine position rest at within fits state are =
    All-push (IsMarkOf image log) marks (record { position = position; rest = rest }) are (record { is = mark_of image log position machine rest at fits state; within = within })

-- one mark more, if there was room for it
pub left_or_not : (b : Bool) (image : Image) (log : Log) (marks : List Mark) (machine : Configuration) (position : ℕ) (rest : Rest) → machine ≡ machine_before image log position → position ≤ length log.events
    → IsRestOf machine.image rest → rest.state ≡ machine.state → AreMarks image log marks → AreMarks image log (if b then marks ++ record { position = position; rest = rest } ∷ [] else marks)
left_or_not true image log marks machine position rest at within fits state are = one_left image log marks machine position rest at within fits state are
left_or_not false image log marks machine position rest at within fits state are = are

-- marks that were left in the middle of a way
pub left_in_the_middle : (image : Image) (log : Log) (middle : ℕ) (old new : List Mark) (machine : Configuration) → machine ≡ machine_before image log middle → middle ≤ length log.events → AreMarks image log old
    → ((l : Log) → machine ≡ machine_before machine.image l middle → middle ≤ length l.events → AreMarks machine.image l old → AreMarks machine.image l new) → AreMarks image log new
left_in_the_middle image log middle old new machine at within are left =
    let same : machine.image ≡ image = ap (λ (m : Configuration). m.image) at in
    subst (λ (i : Image). AreMarks i log new) same
    (left log (at ∙ ap (λ (i : Image). machine_before i log middle) (sym same)) within (subst (λ (i : Image). AreMarks i log old) (sym same) are))

-- a mark that was found
pub found : (P : Mark → Type 0) (marks : List Mark) (i : ℕ) → IsSomeAnd (slice_get marks i) P → (i < length marks) × ((d : Mark) → P (get_or marks i d))
found P marks i h = elim (slice_get_cases marks i).1 [
  | inl here ↦
      let at : P here.0 = subst (λ (o : Option Mark). IsSomeAnd o P) here.2 h in
      (here.1, λ d. subst P (sym (get_or_from_slice_get marks i here.0 d here.2)) at)
  | inr none ↦ absurd (subst (λ (o : Option Mark). IsSomeAnd o P) none.1 h)
]
