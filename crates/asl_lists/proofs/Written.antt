-- The pieces of the document's text, put together.
use Rattle.std.proofs.Common.{◌≡◌, ℕ, suc, ◌+◌, List, [], ◌∷◌, ◌++◌, true, false, codes, length, refl, sym, ap, ◌∙◌, append_assoc, append-nil, add-zero, arith}
use Rattle.serde_json.specs.Data.{string, array}
use Rattle.serde_json.specs.View.{items_of}
use Rattle.serde_json.specs.Written.{compact_text, items_text}
use Rattle.asl_explain.specs.declared.explained_value.Listed.{Listed}
use Rattle.asl_explain.specs.declared.opened_explanation.OpenedExplanation.{OpenedExplanation}
use Rattle.asl_explain.specs.Opened.{section_count}
use Rattle.asl_explain.proofs.Opening.{section_more}
use Rattle.asl_lists.specs.declared.facts.Facts.{Facts}
use Rattle.asl_lists.specs.Numbered.{numbered}
use Rattle.asl_lists.specs.Places.{count}
use Rattle.asl_lists.specs.Document.{classes_from, function_data, section_data, warnings_data, document_text}
use Rattle.asl_lists.specs.Written.{before_sections, section_text, behind_sections, HasSection, HasSections, IsTextOf}

-- one piece more, and then another
two_more : (first second third x y : List ℕ) → second ≡ first ++ x → third ≡ second ++ y → third ≡ first ++ (x ++ y)
two_more first second third x y e g = g ∙ ap (λ (l : List ℕ). l ++ y) e ∙ append_assoc first x y

-- what is made of one element more
numbered_more : {A B : Type 0} (made : ℕ → A → List B) (n : ℕ) (xs : List A) (x : A) → numbered made n (xs ++ x ∷ []) ≡ numbered made n xs ++ made (n + length xs) x
numbered_more made n [] x = rw add-zero (append-nil (made n x))
numbered_more {A} {B} made n (y ∷ ys) x =
    ap (λ (l : List B). made n y ++ l) (numbered_more made (suc n) ys x ∙ ap (λ (m : ℕ). numbered made (suc n) ys ++ made m x) (omega arith))
    ∙ sym (append_assoc (made n y) (numbered made (suc n) ys) (made (n + suc (length ys)) x))

-- ---- sections

module _ (f : Facts) where
  later_closed : (n : ℕ) (sections : List (List Listed)) → items_text true (items_of (numbered (section_data f) (suc n) sections)) ≡ numbered (section_text f) (suc n) sections ++ codes "]"
  later_closed n [] = refl
  later_closed n (x ∷ xs) =
      ap (λ (l : List ℕ). section_text f (suc n) x ++ l) (later_closed (suc n) xs)
      ∙ sym (append_assoc (section_text f (suc n) x) (numbered (section_text f) (suc (suc n)) xs) (codes "]"))

  -- the list of the sections
  closed : (sections : List (List Listed)) → items_text false (items_of (numbered (section_data f) 0 sections)) ≡ numbered (section_text f) 0 sections ++ codes "]"
  closed [] = refl
  closed (x ∷ xs) =
      ap (λ (l : List ℕ). section_text f 0 x ++ l) (later_closed 0 xs)
      ∙ sym (append_assoc (section_text f 0 x) (numbered (section_text f) 1 xs) (codes "]"))

module _ (f : Facts) (o : OpenedExplanation) where
  pub more_told : (n : ℕ) (first old new : List ℕ) → HasSections f o n first old → HasSection f o n old new → HasSections f o (n + 1) first new
  more_told n first old new before one = record {
    sections = before.sections ++ one.list ∷ [];
    are = section_more o n before.sections one.list before.are one.is;
    tells = two_more first old new (numbered (section_text f) 0 before.sections) (section_text f n one.list) before.tells one.tells
        ∙ ap (λ (l : List ℕ). first ++ l)
        (sym (numbered_more (section_text f) 0 before.sections one.list
        ∙ ap (λ (m : ℕ). numbered (section_text f) 0 before.sections ++ section_text f m one.list) (omega (arith, before.are.count))));
  }

-- ---- the document

-- members with what stands between them, and what stands at the end
module _ (begin close first last colon comma : List ℕ) where
  joined : (a b c d e g h i j k l m n o end : List ℕ) →
      (begin ++ (a ++ (colon ++ (b ++ (comma ++ (c ++ (colon ++ (d ++ (comma ++ (e ++ (colon ++ (g ++ (comma ++ (h ++ (colon ++ (i ++ (comma ++ (j ++ ((colon ++ first) ++ ((k ++ last) ++ (comma ++ (l ++ (colon ++ (m ++ (comma ++ (n ++ (colon ++ (o ++ close)))))))))))))))))))))))))))) ++ end
      ≡ (((begin ++ a ++ colon) ++ b) ++ ((comma ++ c ++ colon) ++ d) ++ ((comma ++ e ++ colon) ++ g) ++ ((comma ++ h ++ colon) ++ i) ++ (comma ++ j ++ colon) ++ first)
      ++ k ++ ((((last ++ comma) ++ l ++ colon) ++ m) ++ ((comma ++ n ++ colon) ++ o) ++ (close ++ end))
  joined a b c d e g h i j k l m n o end = simp append_assoc

-- the document is its pieces
whole : (f : Facts) (k : ℕ) (added : List ℕ) (sections : List (List Listed)) → document_text f k added sections ≡ before_sections f k added ++ numbered (section_text f) 0 sections ++ behind_sections f
whole f k added sections =
    let name : List ℕ → List ℕ = λ s. compact_text (string s) in
    rw (closed f sections)
    (joined (codes "{") (codes "}") (codes "[") (codes "]") (codes ":") (codes ",")
    (name (codes "classes")) (compact_text (array (items_of (classes_from f 0 f.map.classes))))
    (name (codes "driver")) (compact_text (string added))
    (name (codes "functions")) (compact_text (array (items_of (numbered (function_data f) 0 f.map.functions.items))))
    (name (codes "k")) (compact_text (count k))
    (name (codes "sections")) (numbered (section_text f) 0 sections)
    (name (codes "version")) (compact_text (count 1))
    (name (codes "warnings")) (compact_text (array (items_of (warnings_data f)))) (10 ∷ []))

-- so a text of these pieces is the document
pub told : (f : Facts) (k : ℕ) (added : List ℕ) (o : OpenedExplanation) (none before between text : List ℕ) → none ≡ [] → before ≡ none ++ before_sections f k added
    → HasSections f o (section_count o) before between → text ≡ between ++ behind_sections f → IsTextOf f k added o text
told f k added o none before between text empty first all last = record {
  sections = all.sections;
  are = all.are;
  tells = last ∙ ap (λ (l : List ℕ). l ++ behind_sections f) (all.tells ∙ ap (λ (l : List ℕ). l ++ numbered (section_text f) 0 all.sections) (first ∙ ap (λ (l : List ℕ). l ++ before_sections f k added) empty))
      ∙ sym (whole f k added all.sections);
}
