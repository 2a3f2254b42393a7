-- What a loop of reads has done: what was read, and then what the reader has left, are all bytes that it had.
use Rattle.std.proofs.Common.{◌≡◌, ℕ, ◌+◌, ◌<◌, List, ◌++◌, length, None, Some, IfSome, refl, sym, ◌∙◌, ap, subst, append_assoc}
use Rattle.std.proofs.lemmas.List.{length-append}
use Rattle.std.proofs.lemmas.Option.{none-some}
use Rattle.std.specs.declared.option.Option.{Option}
use Rattle.std.specs.Prelude.{IfNone, IsNone}
use Rattle.std.specs.Io.KnownBytes.{Consumes}

-- so many bytes were read, of which this holds
abbrev pub Sized : ℕ → (List ℕ → Type 0) → Type 0
Sized read P = (front : List ℕ) × (length front ≡ read) × P front

-- the bytes are those that were read, so many, and then those that are left
abbrev pub Parted : List ℕ → Option (List ℕ) → ℕ → (List ℕ → Type 0) → Type 0
Parted bytes left read P =
    (front rest : List ℕ) × (left ≡ Some rest) × (front ++ rest ≡ bytes) × (length front ≡ read) × P front

pub sized_more : (read count : ℕ) (taken : List ℕ) (P Q : List ℕ → Type 0) → Sized read P → length taken ≡ count
    → ((front : List ℕ) → P front → Q (front ++ taken)) → Sized (read + count) Q
sized_more read count taken P Q s e f = (s.0 ++ taken, length-append s.0 taken ∙ ap (λ n. n + length taken) s.1 ∙ ap (λ n. read + n) e, f s.0 s.2)

pub parted_more : (bytes : List ℕ) (old new : Option (List ℕ)) (read count : ℕ) (taken : List ℕ) (P Q : List ℕ → Type 0)
    → Parted bytes old read P → Consumes old new taken → length taken ≡ count → ((front : List ℕ) → P front → Q (front ++ taken))
    → Parted bytes new (read + count) Q
parted_more bytes None new read count taken P Q p c e f = absurd (none-some p.1 p.2)
parted_more bytes (Some old) None read count taken P Q p c e f = absurd c
parted_more bytes (Some old) (Some new) read count taken P Q p c e f =
    (p.0 ++ taken, new, refl, append_assoc p.0 taken new ∙ ap (λ l. p.0 ++ l) (sym c ∙ subst (λ o. IfSome o (λ xs. old ≡ xs)) p.2 refl) ∙ p.3, length-append p.0 taken ∙ ap (λ n. n + length taken) p.4 ∙ ap (λ n. read + n) e, f p.0 p.5)

-- a reader of which nothing is known now is one of which nothing was known
pub none_at_first : (old new : Option (List ℕ)) (read : ℕ) (P : List ℕ → Type 0) → ((bytes : List ℕ) → old ≡ Some bytes → Parted bytes new read P) → IsNone new → IsNone old
none_at_first None new read P told none = refl
none_at_first (Some bytes) None read P told none = let p = told bytes refl in absurd (none-some p.1 p.2)
none_at_first (Some bytes) (Some rest) read P told none = none

-- where something was read, whatever was kept
pub some_read : {T : Type 0} (kept : Option T) (read : ℕ) → 0 < read → IfNone kept (0 < read)
some_read None read some = some
some_read (Some all) read some = tt
