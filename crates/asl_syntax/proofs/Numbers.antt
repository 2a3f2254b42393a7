-- The value of digits, cut at a greatest number.
use Rattle.std.proofs.Common.{◌≡◌, ℕ, ◌+◌, ◌-◌, ◌*◌, ◌<◌, min, List, [], ◌∷◌, length, drop, get_or, sym, ap, ◌∙◌, arith}
use Rattle.std.proofs.lemmas.List.{at_drop_more}
use Rattle.asl_grammar.specs.Lex.{value_from}

capped : (bs : List ℕ) (m n c : ℕ) → min m c ≡ min n c → min (value_from m bs) c ≡ min (value_from n bs) c
capped [] m n c e = e
capped (b ∷ bs) m n c e = capped bs (m * 10 + (b - 48)) (n * 10 + (b - 48)) c (omega arith)

-- one more digit
pub capped_more : (ds : List ℕ) (i v w c : ℕ) → i < length ds → min w c ≡ min (v * 10 + (get_or ds i 0 - 48)) c → min (value_from w (drop (i + 1) ds)) c ≡ min (value_from v (drop i ds)) c
capped_more ds i v w c h e =
    capped (drop (i + 1) ds) w (v * 10 + (get_or ds i 0 - 48)) c e
    ∙ sym (ap (λ n. min n c) (at_drop_more (value_from v) ds i 0 h))
