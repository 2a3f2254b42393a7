-- What the writers have written, put together to lines.
use Rattle.std.proofs.Common.{◌≡◌, ℕ, ◌<◌, ◌≤◌, ◌^◌, List, [], ◌∷◌, ◌++◌, length, map, sym, ap, ◌∙◌, refl, append_assoc, append-nil}
use Rattle.std.specs.Prelude.{codes}
use Rattle.std.specs.List.{flat_map, AllByRecursion}
use Rattle.std.specs.Fmt.{decimal}
use Rattle.std.proofs.lemmas.List.Concat.{flat_map-append}
use Rattle.std.proofs.lemmas.List.Folds.{flat_map-map}
use Rattle.asl_code.specs.Versions.{IsVersion}
use Rattle.asl_code.proofs.Versions.{small_version}
use Rattle.asl_code.specs.declared.image.Image.{Image}
use Rattle.asl_code.specs.declared.lock.Base.{Base}
use Rattle.asl_code.specs.declared.lock.Expr.{Expr}
use Rattle.asl_code.specs.declared.lock.Lock.{Lock}
use Rattle.asl_code.specs.declared.lock.Lock.TheVariants as lock
use Rattle.asl_code.specs.declared.path.Op.{Op}
use Rattle.asl_code.specs.declared.value.Effect.{Effect}
use Rattle.asl_assembler.specs.declared.line.Line.{Line}
use Rattle.asl_assembler.specs.declared.line.Line.TheVariants as line
use Rattle.asl_assembler.specs.Text.{Body, op_token, effect_token, function_lines, list_lines}
use Rattle.asl_assembler.specs.Canonical.{FitsField, FitsLine, FitsText, word_of, later_words, line_text, bodies, canonical_text}
use Rattle.asl_assembler.specs.Writing.{Writes, WritesEach, WritesLine, FitsBaseWord, base_text, FitsOpWord, op_text, FitsGlobalLine, global_text, FitsBodyLines, body_text, FitsListLines, list_text}
use Rattle.asl_assembler.proofs.Writes.{all_append}

-- A lock on an expression.
later_ops : (ops : List Op) (e : Effect) → later_words (codes " ") (map op_token ops ++ effect_token e ∷ []) ≡ flat_map op_text ops ++ (codes " " ++ (word_of (effect_token e) ++ codes "\n"))
later_ops [] e = refl
later_ops (o ∷ ops) e =
    ap (λ (t : List ℕ). 32 ∷ (word_of (op_token o) ++ t)) (later_ops ops e)
    ∙ ap (λ (t : List ℕ). 32 ∷ t) (sym (append_assoc (word_of (op_token o)) (flat_map op_text ops) (codes " " ++ (word_of (effect_token e) ++ codes "\n"))))

ops_fit : (ops : List Op) (e : Effect) → AllByRecursion FitsOpWord ops → AllByRecursion FitsField (map op_token ops ++ effect_token e ∷ [])
ops_fit [] e h = (tt, tt)
ops_fit (o ∷ ops) e h = (h.0, ops_fit ops e h.1)

regrouped : (a b c d e : List ℕ) → (((a ++ b) ++ c) ++ d) ++ e ≡ a ++ (b ++ (c ++ (d ++ e)))
regrouped a b c d e = simp append_assoc

pub expr_written : (old b1 b2 b3 new : List ℕ) (e : Expr) (effect : Effect) → b1 ≡ old ++ codes "expr "
    → Writes Base FitsBaseWord base_text b1 b2 e.base → WritesEach Op FitsOpWord op_text b2 b3 e.path → length e.path ≤ 8
    → new ≡ b3 ++ (codes " " ++ (word_of (effect_token effect) ++ codes "\n")) → WritesLine old new (line.Lock (lock.Expr e effect))
expr_written old b1 b2 b3 new e effect e1 w2 w3 short e4 = record {
  fits = record { fields = (tt, (w2.fits, ops_fit e.path effect w3.each)); kept = short };
  added =
      let end : List ℕ = codes " " ++ (word_of (effect_token effect) ++ codes "\n") in
      let ops : List ℕ = flat_map op_text e.path in
      e4 ∙ ap (λ (t : List ℕ). t ++ end) w3.added ∙ ap (λ (t : List ℕ). (t ++ ops) ++ end) w2.added ∙ ap (λ (t : List ℕ). ((t ++ base_text e.base) ++ ops) ++ end) e1
      ∙ regrouped old (codes "expr ") (base_text e.base) ops end
      ∙ ap (λ (t : List ℕ). old ++ (codes "expr " ++ (base_text e.base ++ t))) (sym (later_ops e.path effect));
}

-- Lines after one another.
abbrev pub WritesLines : List ℕ → List ℕ → List Line → Type 0
WritesLines old new ls = WritesEach Line FitsLine line_text old new ls

pub line_then : (old mid new : List ℕ) (l : Line) (ls : List Line) → WritesLine old mid l → WritesLines mid new ls → WritesLines old new (l ∷ ls)
line_then old mid new l ls w v = record {
  each = (w.fits, v.each);
  added = v.added ∙ ap (λ (t : List ℕ). t ++ flat_map line_text ls) w.added ∙ append_assoc old (line_text l) (flat_map line_text ls);
}

pub lines_then : (old mid new : List ℕ) (ls ms : List Line) → WritesLines old mid ls → WritesLines mid new ms → WritesLines old new (ls ++ ms)
lines_then old mid new ls ms w v = record {
  each = all_append FitsLine ls ms w.each v.each;
  added =
      v.added ∙ ap (λ (t : List ℕ). t ++ flat_map line_text ms) w.added ∙ append_assoc old (flat_map line_text ls) (flat_map line_text ms)
      ∙ ap (λ (t : List ℕ). old ++ t) (sym (flat_map-append line_text ls ms));
}

-- A line is what its thing writes.
pub as_line : (X : Type 0) (f : X → Line) (old new : List ℕ) (x : X) → WritesLine old new (f x) → Writes X (λ x. FitsLine (f x)) (λ x. line_text (f x)) old new x
as_line X f old new x w = record { fits = w.fits; added = w.added }

-- A line each, and lines each.
all_mapped : (X : Type 0) (f : X → Line) (xs : List X) → AllByRecursion (λ x. FitsLine (f x)) xs → AllByRecursion FitsLine (map f xs)
all_mapped X f [] h = tt
all_mapped X f (x ∷ xs) h = (h.0, all_mapped X f xs h.1)

pub lines_mapped : (X : Type 0) (f : X → Line) (old new : List ℕ) (xs : List X) → WritesEach X (λ x. FitsLine (f x)) (λ x. line_text (f x)) old new xs → WritesLines old new (map f xs)
lines_mapped X f old new xs w = record { each = all_mapped X f xs w.each; added = w.added ∙ ap (λ (t : List ℕ). old ++ t) (sym (flat_map-map line_text f xs)) }

all_flat : (X : Type 0) (f : X → List Line) (xs : List X) → AllByRecursion (λ x. AllByRecursion FitsLine (f x)) xs → AllByRecursion FitsLine (flat_map f xs)
all_flat X f [] h = tt
all_flat X f (x ∷ xs) h = all_append FitsLine (f x) (flat_map f xs) h.0 (all_flat X f xs h.1)

flat_texts : (X : Type 0) (f : X → List Line) (xs : List X) → flat_map line_text (flat_map f xs) ≡ flat_map (λ x. flat_map line_text (f x)) xs
flat_texts X f [] = refl
flat_texts X f (x ∷ xs) = flat_map-append line_text (f x) (flat_map f xs) ∙ ap (λ (t : List ℕ). flat_map line_text (f x) ++ t) (flat_texts X f xs)

pub lines_flat : (X : Type 0) (f : X → List Line) (old new : List ℕ) (xs : List X) → WritesEach X (λ x. AllByRecursion FitsLine (f x)) (λ x. flat_map line_text (f x)) old new xs → WritesLines old new (flat_map f xs)
lines_flat X f old new xs w = record { each = all_flat X f xs w.each; added = w.added ∙ ap (λ (t : List ℕ). old ++ t) (sym (flat_texts X f xs)) }

-- What lines write is what their thing writes.
pub as_one : (X : Type 0) (f : X → List Line) (old new : List ℕ) (x : X) → WritesLines old new (f x) → Writes X (λ x. AllByRecursion FitsLine (f x)) (λ x. flat_map line_text (f x)) old new x
as_one X f old new x w = record { fits = w.each; added = w.added }

-- The first two lines.
head_text : (v n : ℕ) → codes "version " ++ (decimal v ++ (codes "\nclasses " ++ (decimal n ++ codes "\n"))) ≡ flat_map line_text (line.Version v ∷ line.Classes n ∷ [])
head_text v n = simp (append_assoc, append-nil)

pub head_written : (old new : List ℕ) (v n : ℕ) → IsVersion v → n < 2 ^ 16 → new ≡ old ++ (codes "version " ++ (decimal v ++ (codes "\nclasses " ++ (decimal n ++ codes "\n")))) → WritesLines old new (line.Version v ∷ line.Classes n ∷ [])
head_written old new v n is fits e = record {
  each = (record { fields = (tt, (small_version v is, tt)); kept = is }, (record { fields = (tt, (fits, tt)); kept = tt }, tt));
  added = e ∙ ap (λ (t : List ℕ). old ++ t) (head_text v n);
}

-- The lines of an image.
pub image_written : (i : Image) (b0 b1 b2 b3 b4 b5 : List ℕ)
    → WritesLines b0 b1 (line.Version i.version ∷ line.Classes i.classes ∷ [])
    → WritesEach ℕ FitsGlobalLine global_text b1 b2 i.globals
    → WritesLine b2 b3 (line.Entry i.start)
    → WritesEach Body FitsBodyLines body_text b3 b4 (bodies i.functions i.code)
    → WritesEach (List Lock) FitsListLines list_text b4 b5 i.lists
    → Writes Image FitsText canonical_text b0 b5 i
image_written i b0 b1 b2 b3 b4 b5 head globals entry functions lists =
    let fs = lines_flat Body function_lines b3 b4 (bodies i.functions i.code) functions in
    let ls = lines_flat (List Lock) list_lines b4 b5 i.lists lists in
    let body = lines_then b3 b4 b5 (flat_map function_lines (bodies i.functions i.code)) (flat_map list_lines i.lists) fs ls in
    let entered = line_then b2 b3 b5 (line.Entry i.start) _ entry body in
    let gs = lines_mapped ℕ line.Global b1 b2 i.globals globals in
    let rest = lines_then b1 b2 b5 (map line.Global i.globals) _ gs entered in
    let all = lines_then b0 b1 b5 (line.Version i.version ∷ line.Classes i.classes ∷ []) _ head rest in
    record { fits = all.each; added = all.added }
