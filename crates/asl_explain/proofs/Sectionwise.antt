-- The text of the first sections, and of one more.
use Rattle.std.proofs.Common.{◌≡◌, ◌+◌, ℕ, suc, List, [], ◌∷◌, ◌++◌, length, Some, slice_get, refl, sym, ap, ◌∙◌, subst, append_assoc, append-nil, arith}
use Rattle.asl_code.specs.declared.lock.Lock.{Lock}
use Rattle.asl_lower.specs.declared.section.Section.{Section}
use Rattle.asl_explain.specs.declared.explained_value.Ended.{Ended}
use Rattle.asl_explain.specs.declared.explained_value.Listed.{Listed}
use Rattle.asl_explain.specs.Chains.{Read}
use Rattle.asl_explain.specs.Told.{Part, Given, section_told, sections_told}
use Rattle.asl_explain.specs.Telling.{Tells, TellsSection, TellsSections}
use Rattle.asl_explain.proofs.Needing.{sections_more}
use Rattle.asl_explain.proofs.Dropping.{below_more}
use Rattle.asl_explain.proofs.Piecing.{tells_none, tells_then}

-- the words of one section more
told_more : (g : Given) (n : ℕ) (ls : List (List Listed)) (es : List (List Ended)) (l : List Listed) (e : List Ended) → length ls ≡ length es → sections_told g n (ls ++ l ∷ []) (es ++ e ∷ []) ≡ sections_told g n ls es ++ section_told g (n + length ls) l e
told_more g n [] [] l e same =
    let here : n ≡ n + 0 = omega arith in
    append-nil (section_told g n l e) ∙ ap (λ k. section_told g k l e) here
told_more g n [] (f ∷ es) l e same = cc
told_more g n (m ∷ ls) [] l e same = cc
told_more g n (m ∷ ls) (f ∷ es) l e same =
    let next : suc n + length ls ≡ n + suc (length ls) = omega arith in
    let fewer : length ls ≡ length es = omega (arith, same) in
    ap (λ (ps : List Part). section_told g n m f ++ ps) (told_more g (suc n) ls es l e fewer ∙ ap (λ k. sections_told g (suc n) ls es ++ section_told g k l e) next)
    ∙ sym (append_assoc (section_told g n m f) (sections_told g (suc n) ls es) (section_told g (n + suc (length ls)) l e))

module _ (x : Read) (lists : List (List Lock)) (g : Given) where
  pub tells_no_section : (text : List ℕ) → text ≡ [] → TellsSections x lists g 0 text
  tells_no_section text empty = record {
    sections = [];
    ended = [];
    made = record { count = refl; each = λ n is list ls section with at. cc };
    ends = record { count = refl; each = λ n ended at. cc };
    tells = subst (Tells [] []) (sym empty) (tells_none []);
  }

  pub tells_section_more : (n : ℕ) (s : Section) (list : List Lock) (old new : List ℕ) → slice_get x.lowered.sections n ≡ Some s → slice_get lists n ≡ Some list → TellsSections x lists g n old → TellsSection x n s list g old new → TellsSections x lists g (n + 1) new
  tells_section_more n s list old new stands at before one =
      let count = before.made.count in
      let ends = before.ends.count in
      let place : 0 + length before.sections ≡ n = omega (arith, count) in
      let same : length before.sections ≡ length before.ended = omega (arith, count, ends) in
      let whole : sections_told g 0 (before.sections ++ one.listed ∷ []) (before.ended ++ one.ended ∷ []) ≡ sections_told g 0 before.sections before.ended ++ section_told g n one.listed one.ended =
      told_more g 0 before.sections before.ended one.listed one.ended same
      ∙ ap (λ k. sections_told g 0 before.sections before.ended ++ section_told g k one.listed one.ended) place in
      record {
        sections = before.sections ++ one.listed ∷ [];
        ended = before.ended ++ one.ended ∷ [];
        made = sections_more x lists n s list before.sections _ one.listed refl stands at before.made one.made;
        ends = below_more x n before.ended _ one.ended refl before.ends one.ends;
        tells = subst (λ (ps : List Part). Tells ps [] new) (sym whole) (tells_then (sections_told g 0 before.sections before.ended) (section_told g n one.listed one.ended) [] old new before.tells one.tells);
      }
