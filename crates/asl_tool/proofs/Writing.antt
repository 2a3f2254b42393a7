-- What a loop of writes has done: the bytes that the writer holds are those it held at first, and then the first part
-- of the text.
use Rattle.std.proofs.Common.{◌≡◌, ℕ, List, [], ◌∷◌, ◌++◌, length, take, drop, None, Some, inl, inr, ◌+◌, ◌≤◌, refl, sym, ◌∙◌, ap, subst, append_assoc, append-nil, length-drop, arith}
use Rattle.std.proofs.Math.Seq.{take-append_seam}
use Rattle.std.proofs.lemmas.List.{take-append-drop}
use Rattle.std.specs.declared.option.Option.{Option}
use Rattle.std.specs.Io.KnownBytes.{Appends, Keeps}
use Rattle.asl_tool.specs.Streams.{AppendsPart, KeepsRoom, LacksRoom, Tells}

-- what was written, and then what is left, are all bytes
pub record Wrote (old new : Option (List ℕ)) (bytes rest : List ℕ) : Type 0 where
  pub done : List ℕ
  pub whole : done ++ rest ≡ bytes
  pub held : Appends old new done

appends_nothing : (old : Option (List ℕ)) → Appends old old []
appends_nothing None = tt
appends_nothing (Some xs) = sym (append-nil xs)

appends_more : (old mid new : Option (List ℕ)) (first second : List ℕ) → Appends old mid first → Appends mid new second → Appends old new (first ++ second)
appends_more None mid new first second a b = tt
appends_more (Some xs) None new first second a b = absurd a
appends_more (Some xs) (Some ys) None first second a b = absurd b
appends_more (Some xs) (Some ys) (Some zs) first second a b = b ∙ ap (λ l. l ++ second) a ∙ append_assoc xs first second

pub wrote_nothing : (old : Option (List ℕ)) (bytes : List ℕ) → Wrote old old bytes bytes
wrote_nothing old bytes = record { done = []; whole = refl; held = appends_nothing old }

pub wrote_more : (old mid new : Option (List ℕ)) (bytes rest : List ℕ) (n : ℕ) → Wrote old mid bytes rest → Appends mid new (take n rest) → Wrote old new bytes (drop n rest)
wrote_more old mid new bytes rest n w more = record {
  done = w.done ++ take n rest;
  whole = append_assoc w.done (take n rest) (drop n rest) ∙ ap (λ l. w.done ++ l) (take-append-drop n rest) ∙ w.whole;
  held = appends_more old mid new w.done (take n rest) w.held more;
}

pub wrote_kept : (old mid new : Option (List ℕ)) (bytes rest : List ℕ) → Wrote old mid bytes rest → Appends mid new [] → Wrote old new bytes rest
wrote_kept old mid new bytes rest w kept = record {
  done = w.done;
  whole = w.whole;
  held = subst (λ (l : List ℕ). Appends old new l) (append-nil w.done) (appends_more old mid new w.done [] w.held kept);
}

pub kept_appends : (old new : Option (List ℕ)) → Keeps old new → Appends old new []
kept_appends None new kept = tt
kept_appends (Some xs) None kept = absurd kept
kept_appends (Some xs) (Some ys) kept = kept ∙ sym (append-nil xs)

nothing : (rest : List ℕ) → length rest ≡ 0 → rest ≡ []
nothing [] e = refl
nothing (x ∷ rest) e = absurd (omega arith)

pub wrote_all : (old new : Option (List ℕ)) (bytes rest : List ℕ) → length rest ≡ 0 → Wrote old new bytes rest → Appends old new bytes
wrote_all old new bytes rest none w =
    let family : List ℕ → Type 0 = λ l. Appends old new l in
    subst family (sym (append-nil w.done) ∙ ap (λ l. w.done ++ l) (sym (nothing rest none)) ∙ w.whole) w.held

pub wrote_part : (old new : Option (List ℕ)) (bytes rest : List ℕ) → Wrote old new bytes rest → AppendsPart old new bytes
wrote_part old new bytes rest w =
    let family : List ℕ → Type 0 = λ l. Appends old new l in
    (length w.done, subst family (sym (take-append_seam w.done rest) ∙ ap (take (length w.done)) w.whole) w.held)

pub part_nothing : (old : Option (List ℕ)) (bytes : List ℕ) → AppendsPart old old bytes
part_nothing old bytes = (0, appends_nothing old)

-- ---- the room of a writer

-- the room that was known has shrunk by no more than what was written
pub record Kept (old new : Option ℕ) (bytes rest : List ℕ) : Type 0 where
  pub count : ℕ
  pub whole : count + length rest ≡ length bytes
  pub left : KeepsRoom old new count

keeps_nothing : (room : Option ℕ) → KeepsRoom room room 0
keeps_nothing None = tt
keeps_nothing (Some most) = omega arith

keeps_more : (old mid new : Option ℕ) (first second : ℕ) → KeepsRoom old mid first → KeepsRoom mid new second → KeepsRoom old new (first + second)
keeps_more None mid new first second a b = tt
keeps_more (Some x) None new first second a b = absurd a
keeps_more (Some x) (Some y) None first second a b = absurd b
keeps_more (Some x) (Some y) (Some z) first second a b = omega (arith, a, b)

pub kept_at_first : (room : Option ℕ) (bytes : List ℕ) → Kept room room bytes bytes
kept_at_first room bytes = record { count = 0; whole = omega arith; left = keeps_nothing room }

pub kept_more : (old mid new : Option ℕ) (bytes rest : List ℕ) (n : ℕ) → Kept old mid bytes rest → n ≤ length rest → KeepsRoom mid new n → Kept old new bytes (drop n rest)
kept_more old mid new bytes rest n k few more = record {
  count = k.count + n;
  whole = omega (arith, k.whole, few, length-drop n rest);
  left = keeps_more old mid new k.count n k.left more;
}

-- a writer that lacks room for the rest lacked room for all
pub lacked : (old new : Option ℕ) (bytes rest : List ℕ) → Kept old new bytes rest → LacksRoom new rest → LacksRoom old bytes
lacked None new bytes rest k lacks = (omega (arith, k.whole, lacks.0), tt)
lacked (Some x) None bytes rest k lacks = absurd k.left
lacked (Some x) (Some y) bytes rest k lacks = (omega (arith, k.whole, lacks.0), omega (arith, k.whole, k.left, lacks.1))

pub tells_all : (room : Option ℕ) (old new : Option (List ℕ)) (text : List ℕ) → Appends old new text → Tells room old new text
tells_all room old new text h = inl h

pub tells_part : (room : Option ℕ) (old new : Option (List ℕ)) (text : List ℕ) → LacksRoom room text → AppendsPart old new text → Tells room old new text
tells_part room old new text lacks part = inr (lacks, part)
