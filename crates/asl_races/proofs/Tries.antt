-- The reads of tries with care are in no race with any access.
use Rattle.std.proofs.Common.{◌≡◌, ℕ, ◌<◌, ◌⊎◌, List, sym, ◌∙◌, subst, inl, inr, arith}
use Rattle.asl_code.specs.declared.image.Image.{Image}
use Rattle.asl_code.specs.Fits.{FitsImage}
use Rattle.asl_code.specs.declared.value.Effect.{Effect}
use Rattle.asl_code.specs.declared.value.Effect.TheVariants.{Read, Write}
use Rattle.asl_atomicity.specs.Serial.{TakenStep}
use Rattle.asl_races.specs.Races.{Accesses, OrdersConflicts}
use Rattle.asl_races.specs.Tries.{AccessesOrTries, HappensBeforeWithTries, Happens, IsSeen, Sees, Between}
use Rattle.asl_races.proofs.Following.{stands_before}
use Rattle.asl_races.proofs.Ordering.{ordered_accesses}
use Rattle.asl_races.proofs.TriesAfter.{tries_after}
use Rattle.asl_races.proofs.TriesBefore.{tries_before}

less : (i k j : ℕ) → i < k → k < j → i < j
less i k j p q = omega (arith, p, q)

-- what comes before another step, by tries too, stands before it
pub tries_stand_before : (image : Image) (run : List TakenStep) (i j : ℕ) → HappensBeforeWithTries image run i j → i < j
tries_stand_before image run _ _ (Happens i j h) = stands_before image run i j h
tries_stand_before image run _ _ (IsSeen i j one other node lt at there back held looks) = lt
tries_stand_before image run _ _ (Sees i j one other node lt at there looks granted asked) = lt
tries_stand_before image run _ _ (Between i k j first second) = less i k j (tries_stand_before image run i k first) (tries_stand_before image run k j second)

-- of two effects, of which one reads, the other writes
other_writes : (one other : Effect) → one ≡ Read → (one ≡ Write) ⊎ (other ≡ Write) → other ≡ Write
other_writes one other is (inl wrote) = absurd (let e : Read ≡ Write = sym is ∙ wrote in cc)
other_writes one other is (inr wrote) = wrote

turned : (one other : Effect) → (one ≡ Write) ⊎ (other ≡ Write) → (other ≡ Write) ⊎ (one ≡ Write)
turned one other (inl e) = inr e
turned one other (inr e) = inl e

pub ordered_tries : (image : Image) (count : ℕ) → FitsImage image → OrdersConflicts image count (HappensBeforeWithTries image) (AccessesOrTries image)
ordered_tries image count fits run end i j one other is lt at there c = elim c.first [
  | inl first ↦ elim c.second [
    | inl second ↦ Happens i j (ordered_accesses image count fits run end i j one other is lt at there (record {
      cell = c.cell;
      effect = c.effect;
      another = c.another;
      threads = c.threads;
      first = first;
      second = second;
      writes = c.writes;
    }))
    | inr z ↦ tries_after image count fits run end is i j one other lt at there c.cell (subst (Accesses image one c.cell) (other_writes c.another c.effect z.0 (turned c.effect c.another c.writes)) first) z.1
  ]
  | inr z ↦ elim c.second [
    | inl second ↦ tries_before image count fits run end is i j one other lt at there c.threads c.cell z.1 (subst (Accesses image other c.cell) (other_writes c.effect c.another z.0 c.writes) second)
    | inr y ↦ absurd (let e : Read ≡ Write = sym y.0 ∙ other_writes c.effect c.another z.0 c.writes in cc)
  ]
]
