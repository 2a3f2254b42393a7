-- The readers of a journal's counts read their fields.
use Rattle.std.proofs.Common.{◌≡◌, ℕ, ◌<◌, ◌≤◌, ◌^◌, ◌&&◌, Bool, true, false, eqb, ltb, leb, [], ◌∷◌, refl, sym, ◌∙◌, inl, inr, arith, lit<, lit≤, w32}
use Rattle.std.specs.Int.{to_be_bytes}
use Rattle.std.proofs.lemmas.Bool.{eqb-true, eq-eqb, ltb-true, lt-ltb, leb-true, le-leb}
use Rattle.asl_code.specs.Versions.{IsVersion, version_for}
use Rattle.asl_code.proofs.Versions.{version_of_few, version_of_many}
use Rattle.asl_loader.specs.Bytes.{one}
use Rattle.asl_loader.specs.SharedFields.{byte_at, number_at}
use Rattle.asl_loader.proofs.Reader.{Reads}
use Rattle.asl_loader.proofs.FieldNumbers.{reads_as, byte_number, four_number}
use Rattle.asl_loader.proofs.Fields.{reads_number, reads_tested}
use Rattle.asl_journal.specs.Journal.{IsCount, most_events}
use Rattle.asl_journal.specs.Bytes.{four}
use Rattle.asl_journal.specs.JournalFields.{is_count, threads_at, count_at}

pub four_reads : Reads ℕ (λ n. n < 2 ^ 32) (λ n. four n ∷ []) (number_at w32)
four_reads = reads_number (λ n. n < 2 ^ 32) (λ n. to_be_bytes w32 n) 4 (number_at w32) four_number 0 (lit< tt)

both_true : (a b : Bool) → (a && b) ≡ true → (a ≡ true) × (b ≡ true)
both_true true b e = (refl, e)
both_true false b e = absurd cc

-- so many threads have files of this version
abbrev pub IsCountIn : ℕ → ℕ → Type 0
IsCountIn version n = IsCount n × (version_for n ≡ version)

counted : (version n : ℕ) → is_count version n ≡ true → IsCountIn version n
counted version n e =
    let all = both_true (ltb 0 n && leb n 128) (eqb (version_for n) version) e in
    let b = both_true (ltb 0 n) (leb n 128) all.0 in
    ((ltb-true 0 n b.0, leb-true n 128 b.1), eqb-true (version_for n) version all.1)

counts : (version n : ℕ) → IsCountIn version n → is_count version n ≡ true
counts version n is =
    let a = lt-ltb 0 n is.0.0 in
    let b = le-leb n 128 is.0.1 in
    let v = eq-eqb (version_for n) version is.1 in
    rw (a, b, v) refl

-- some number of threads that files of this version have
pub some_count : (version : ℕ) → IsVersion version → (n : ℕ) × (IsCountIn version n × (n < 256))
some_count version (inl first) = (1, (((lit< tt, lit≤ tt), version_of_few 1 (lit≤ tt) ∙ sym first), lit< tt))
some_count version (inr second) = (65, (((lit< tt, lit≤ tt), version_of_many 65 (lit< tt) ∙ sym second), lit< tt))

pub threads_reads : (version : ℕ) → IsVersion version → Reads ℕ (IsCountIn version) (λ n. one n ∷ []) (threads_at version)
unfolding threads_at
threads_reads version there =
    let some = some_count version there in
    reads_as ℕ (λ x. (x < 256) × (is_count version x ≡ true)) (IsCountIn version) (λ n. one n ∷ []) (threads_at version)
    (reads_tested (λ n. n < 256) (λ n. n ∷ []) 1 byte_at byte_number (is_count version) some.0 some.1.1 (counts version some.0 some.1.0))
    (λ x is. counted version x is.1)
    (λ x is. (omega (arith, is.0.1), counts version x is))

pub count_reads : Reads ℕ (λ n. n ≤ most_events) (λ n. four n ∷ []) count_at
unfolding count_at
count_reads =
    reads_as ℕ (λ x. (x < 2 ^ 32) × (leb x most_events ≡ true)) (λ n. n ≤ most_events) (λ n. four n ∷ []) count_at
    (reads_tested (λ n. n < 2 ^ 32) (λ n. to_be_bytes w32 n) 4 (number_at w32) four_number (λ x. leb x most_events) 0 (lit< tt) refl)
    (λ x is. leb-true x most_events is.1)
    (λ x is. (omega (arith, is), le-leb x most_events is))
