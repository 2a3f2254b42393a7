-- How many bytes stand before the end of a line, byte by byte.
use Rattle.std.proofs.Common.{◌≡◌, ◌<◌, ◌+◌, ℕ, suc, List, ◌∷◌, Bool, false, length, drop, get_or, ap, sym, ◌∙◌}
use Rattle.std.specs.Prelude.{if◌then◌else◌}
use Rattle.std.proofs.lemmas.List.{drop_more}
use Rattle.asl_diagnose_text.specs.Shown.{ends_line, line_len}

-- where a line does not end, one byte stands before the rest
past_one : (b : ℕ) (bs : List ℕ) → ends_line (b ∷ bs) ≡ false → line_len (b ∷ bs) ≡ suc (line_len bs)
past_one b bs e = ap (λ (ends : Bool). if ends then 0 else suc (line_len bs)) e

pub past_byte : (text : List ℕ) (at : ℕ) → at < length text → ends_line (drop at text) ≡ false → line_len (drop at text) ≡ suc (line_len (drop (at + 1) text))
past_byte text at lt e =
    let more : drop at text ≡ get_or text at 0 ∷ drop (at + 1) text = drop_more text at 0 lt in
    ap line_len more ∙ past_one (get_or text at 0) (drop (at + 1) text) (ap ends_line (sym more) ∙ e)
