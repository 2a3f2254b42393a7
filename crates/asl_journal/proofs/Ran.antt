-- An event whose step ran, read at once.
use Rattle.std.proofs.Common.{◌≡◌, ℕ, ◌<◌, ◌≤◌, ◌-◌, true, ltb, List, [], ◌∷◌, length, get_or, take, drop, Ok, refl, ap, ◌∙◌, arith}
use Rattle.std.proofs.lemmas.Bool.{lt-ltb}
use Rattle.std.proofs.lemmas.List.{take_rest}
use Rattle.asl_machine.specs.declared.reply.Reply.TheVariants.{Ran}
use Rattle.asl_loader.specs.SharedFields.{byte_at, below_at}
use Rattle.asl_journal.specs.JournalFields.{reply_of, reply_at, event_at}

-- the byte of a thread that is there, and the byte of the reply
ran_is : (threads thread : ℕ) (rest : List ℕ) → thread < threads → event_at threads (thread ∷ 0 ∷ rest) ≡ Ok (record { thread = thread; reply = Ran }, rest)
unfolding byte_at below_at reply_of reply_at event_at
ran_is threads thread rest there = let is : ltb thread threads ≡ true = lt-ltb _ _ there in rw is refl

-- the same of bytes whose first two are such
pub ran_read : (threads : ℕ) (bytes : List ℕ) → 2 ≤ length bytes → get_or bytes 1 0 ≡ 0 → get_or bytes 0 0 < threads
    → event_at threads bytes ≡ Ok (record { thread = get_or bytes 0 0; reply = Ran }, take (length bytes - 2) (drop 2 bytes))
ran_read threads [] long ran there = absurd (omega arith)
ran_read threads (thread ∷ []) long ran there = absurd (omega arith)
ran_read threads (thread ∷ reply ∷ rest) long ran there =
    rw (take_rest (thread ∷ reply ∷ rest) 2) (ap (λ n. event_at threads (thread ∷ n ∷ rest)) ran ∙ ran_is threads thread rest there)
