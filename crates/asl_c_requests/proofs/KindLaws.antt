-- The kinds of words in memory, with one more word among them.
use Rattle.std.proofs.Common.{◌≡◌, ℕ, ◌<◌, true, IsTrue, List, [], ◌∷◌, ◌++◌, take, drop, set, suc, zero, refl, ap, ◌∙◌}
use Rattle.std.proofs.Math.Seq.{take-set-lt}
use Rattle.std.proofs.lemmas.Bool.{and_parts, and_from}
use Rattle.asl_lock_queue.specs.Asks.{is_kind, has_kinds}
use Rattle.asl_lock_queue.specs.declared.ask.Ask.{Ask}

kinds_set : (asks : List Ask) (i : ℕ) (x : Ask) → has_kinds asks ≡ true → is_kind x.kind ≡ true → has_kinds (set asks i x) ≡ true
kinds_set [] i x all own = refl
kinds_set (ask ∷ others) zero x all own = and_from _ _ own (and_parts (is_kind ask.kind) (has_kinds others) all).1
kinds_set (ask ∷ others) (suc i) x all own =
    let parts = and_parts (is_kind ask.kind) (has_kinds others) all in
    and_from _ _ parts.0 (kinds_set others i x parts.1 own)

kinds_put : (asks : List Ask) (p : ℕ) (x : Ask) → has_kinds asks ≡ true → is_kind x.kind ≡ true → has_kinds (take p asks ++ x ∷ drop p asks) ≡ true
kinds_put asks zero x all own = and_from _ _ own all
kinds_put [] (suc p) x all own = and_from _ _ own refl
kinds_put (ask ∷ others) (suc p) x all own =
    let parts = and_parts (is_kind ask.kind) (has_kinds others) all in
    and_from _ _ parts.0 (kinds_put others p x parts.1 own)

-- a word in the place of one of the first
pub kinds_joined : (asks : List Ask) (count p : ℕ) (x : Ask) → p < count → IsTrue (has_kinds (take count asks)) → IsTrue (is_kind x.kind) → IsTrue (has_kinds (take count (set asks p x)))
kinds_joined asks count p x lt all own = ap has_kinds (take-set-lt count asks p x lt) ∙ kinds_set (take count asks) p x all own

-- a word that is put between others
pub kinds_inserted : (w new : List Ask) (p : ℕ) (x : Ask) → new ≡ take p w ++ x ∷ drop p w → IsTrue (has_kinds w) → IsTrue (is_kind x.kind) → IsTrue (has_kinds new)
kinds_inserted w new p x put all own = ap has_kinds put ∙ kinds_put w p x all own
