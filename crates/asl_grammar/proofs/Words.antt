-- No word has fewer than two bytes.
use Rattle.std.proofs.Common.{◌≡◌, ℕ, ◌<◌, Bool, true, false, ◌&&◌, if◌then◌else◌, Option, None, List, [], ◌∷◌, length, bytes_eq, refl, arith}
use Rattle.asl_grammar.specs.declared.token.Mark.{Mark}
use Rattle.asl_grammar.specs.Lex.{word_of}

and_no : (b : Bool) → (b && false) ≡ false
and_no true = refl
and_no false = refl

-- one byte at the most is not two or more
unlike : (w : List ℕ) (a b : ℕ) (bs : List ℕ) → length w < 2 → bytes_eq w (a ∷ b ∷ bs) ≡ false
unlike [] a b bs l = refl
unlike (x ∷ []) a b bs l = and_no _
unlike (x ∷ y ∷ w) a b bs l = absurd (omega (arith, l))

pass : (b : Bool) (here : Option Mark) (later : Option Mark) → b ≡ false → later ≡ None → (if b then here else later) ≡ None
pass true here later e h = absurd cc
pass false here later e h = h

pub no_word : (w : List ℕ) → length w < 2 → word_of w ≡ None
no_word w l =
    pass _ _ _ (unlike w _ _ _ l) (pass _ _ _ (unlike w _ _ _ l) (pass _ _ _ (unlike w _ _ _ l) (pass _ _ _ (unlike w _ _ _ l) (pass _ _ _ (unlike w _ _ _ l)
    (pass _ _ _ (unlike w _ _ _ l) (pass _ _ _ (unlike w _ _ _ l) (pass _ _ _ (unlike w _ _ _ l) (pass _ _ _ (unlike w _ _ _ l) (pass _ _ _ (unlike w _ _ _ l) refl)))))))))
