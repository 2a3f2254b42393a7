-- Where regions lie.
use Rattle.std.proofs.Common.{Bool, true, false, ◌≡◌, ◌⊎◌, ⊎_elim, ℕ, zero, suc, ◌+◌, ◌<◌, List, [], ◌∷◌, ◌++◌, Some, length, slice_get, get_or, inl, inr, refl, ap, sym, subst, ◌∙◌, length-append, arith}
use Rattle.std.proofs.lemmas.Option.{get_or_from_slice_get, slice_get-get_or, slice_get_within}
use Rattle.asl_code.specs.declared.image.Function as entry
use Rattle.asl_lower.specs.declared.section.Section.{Section}
use Rattle.asl_lower.specs.Lowered.{Lowered}
use Rattle.asl_lower.specs.OpenSections.{start_of, IsInner, InBody}
use Rattle.asl_lower.specs.Regions.{Region, Body, Inside, IsIn, Between}
use Rattle.asl_lower.specs.LegalLowering.{IsLegalLowering}
use Rattle.asl_lower.proofs.Reaching.{body_within}
use Rattle.std.proofs.lemmas.Bool.{cases_lt}
use Rattle.asl_backward_flow.specs.declared.region.Region as code
use Rattle.asl_backward_flow.specs.declared.region.Region.TheVariants as variant
use Rattle.asl_backward_flow.specs.declared.span.Span.{Span}
use Rattle.asl_backward_flow.specs.Needed.{region_of}
use Rattle.asl_backward_flow.specs.Spans.{IsSpan, AreOfRegions, HasSection, HasBody, AreInPlace, AreDistinct, AreSpans, AreClosed, AreSections, AreBodies}
use Rattle.asl_backward_flow.proofs.Sets.{some_same, at_front, at_push, at_end, at_last}

-- a section as its span, and its bounds
pub record Bounds (l : Lowered) (n : ℕ) (s : Section) : Type 0 where
  pub span : IsSpan l (record { region = variant.Section n; function = s.function; first = s.acquire + 1; end = s.release })
  pub number : n < 1024
  pub acquire : s.acquire < s.release
  pub release : s.release < 65536

pub section_bounds : (l : Lowered) → IsLegalLowering l → (n : ℕ) (d : Section) → n < length l.sections → Bounds l n (get_or l.sections n d)
section_bounds l kept n d lt =
    let layout = kept.layout in
    let there = layout.sections.there n lt in
    let same : get_or l.sections n d ≡ there.section = get_or_from_slice_get l.sections n there.section d there.in_table in
    let in_code = layout.parted.in_code there.section.release there.section.function there.last_inside in
    let few = layout.limits.few_sections in
    let size = kept.size in
    subst (Bounds l n) (sym same) (record {
      span = record {
        points = λ f pc (b : Between l n f pc).
            let is : b.is ≡ there.section = some_same (sym b.in_table ∙ there.in_table) in
            let behind = subst (λ (s : Section). s.acquire < pc) is b.behind in
            let ahead = subst (λ (s : Section). pc < s.release) is b.ahead in
            (sym b.function ∙ ap (λ (s : Section). s.function) is, omega arith, ahead);
        inside = λ pc first end. record { is = there.section; in_table = there.in_table; function = refl; behind = omega arith; ahead = end };
        entry = λ g e. absurd cc;
        section = λ m x e at. section_first n m there.section x (section_of n m e) there.in_table at;
        within = omega arith;
      };
      number = omega arith;
      acquire = there.before;
      release = omega arith;
    })
  where
    number_in : ℕ → variant.the_data → ℕ
    number_in d (variant.Section m) = m
    number_in d (variant.Body m) = d

    section_of : (a b : ℕ) → variant.Section a ≡ variant.Section b → a ≡ b
    section_of a b e = ap (number_in 0) e

    section_first : (a b : ℕ) (x y : Section) → a ≡ b → slice_get l.sections a ≡ Some x → slice_get l.sections b ≡ Some y → x.acquire + 1 ≡ suc y.acquire
    section_first a b x y e at_a at_b =
        let same : x.acquire ≡ y.acquire = ap (λ (s : Section). s.acquire) (some_same (sym at_a ∙ ap (slice_get l.sections) e ∙ at_b)) in
        omega (arith, same)

pub section_of_list : (l : Lowered) → IsLegalLowering l → (sections : List Section) → sections ≡ l.sections → (n : ℕ) → n < length l.sections → (d : Section) → Bounds l n (get_or sections n d)
section_of_list l kept sections same n lt d = subst (λ xs. Bounds l n (get_or xs n d)) (sym same) (section_bounds l kept n d lt)

-- a body as its span, and its bounds
pub record BodyBounds (l : Lowered) (g : ℕ) (f : entry.Function) : Type 0 where
  pub span : IsInner l g → IsSpan l (record { region = variant.Body g; function = g; first = start_of l.functions g; end = start_of l.functions g + f.len })
  pub number : g < 256
  pub end : start_of l.functions g + f.len < 65536

pub body_bounds : (l : Lowered) → IsLegalLowering l → (g : ℕ) (d : entry.Function) → g < length l.functions → BodyBounds l g (get_or l.functions g d)
body_bounds l kept g d lt =
    let layout = kept.layout in
    let few = layout.limits.few_functions in
    let size = kept.size in
    let at : slice_get l.functions g ≡ Some (get_or l.functions g d) = slice_get-get_or l.functions g d lt in
    let within = body_within l layout g (get_or l.functions g d) at in
    record {
      span = λ inner. record {
        points = λ f pc b.
            let body : InBody l g pc = b.2 in
            let same : body.function ≡ get_or l.functions g d = some_same (sym body.in_table ∙ at) in
            let end : pc < start_of l.functions g + (get_or l.functions g d).len = subst (λ (f : entry.Function). pc < start_of l.functions g + f.len) same body.before_end in
            (b.0, body.start, end);
        inside = λ pc first end. (refl, inner, record { function = get_or l.functions g d; in_table = at; start = first; before_end = end });
        entry = λ h e. ap (start_of l.functions) (body_number g h e);
        section = λ n x e at. absurd (no_section n e);
        within = within;
      };
      number = omega arith;
      end = omega arith;
    }
  where
    no_section : (n : ℕ) → variant.Body g ≡ variant.Section n → ⊥
    no_section n e = cc

    number_in : ℕ → variant.the_data → ℕ
    number_in d (variant.Body n) = n
    number_in d (variant.Section n) = d

    body_number : (a b : ℕ) → variant.Body a ≡ variant.Body b → a ≡ b
    body_number a b e = ap (number_in 0) e

pub body_of_list : (l : Lowered) → IsLegalLowering l → (functions : List entry.Function) → functions ≡ l.functions → (g : ℕ) → g < length l.functions → (d : entry.Function) → BodyBounds l g (get_or functions g d)
body_of_list l kept functions same g lt d = subst (λ xs. BodyBounds l g (get_or xs g d)) (sym same) (body_bounds l kept g d lt)

-- one more span
pub each_more : (l : Lowered) (spans : List Span) (s : Span) → AreOfRegions l spans → IsSpan l s → AreOfRegions l (spans ++ s ∷ [])
each_more l spans s each is n t at = ⊎_elim (λ e. each n t e) (λ e. subst (IsSpan l) (sym e) is) (at_push spans s n t at)

pub section_still : (spans : List Span) (s : Span) (n : ℕ) → HasSection spans n → HasSection (spans ++ s ∷ []) n
section_still spans s n h = (h.0, h.1, at_front spans (s ∷ []) h.0 h.1 h.2, h.3)

pub body_still : (spans : List Span) (s : Span) (g : ℕ) → HasBody spans g → HasBody (spans ++ s ∷ []) g
body_still spans s g h = (h.0, h.1, at_front spans (s ∷ []) h.0 h.1 h.2, h.3)

pub section_placed : (spans : List Span) (s : Span) → AreInPlace spans → s.region ≡ variant.Section (length spans) → AreInPlace (spans ++ s ∷ [])
section_placed spans s so region k n t at is =
    ⊎_elim (λ h. so k n t h is)
    (λ h. h.0 ∙ section_number (length spans) n (sym region ∙ ap (λ (x : Span). x.region) (sym h.1) ∙ is))
    (at_end spans s k t at)
  where
    number_of : ℕ → variant.the_data → ℕ
    number_of d (variant.Section m) = m
    number_of d (variant.Body m) = d

    section_number : (a b : ℕ) → variant.Section a ≡ variant.Section b → a ≡ b
    section_number a b e = ap (number_of 0) e

pub body_placed : (spans : List Span) (s : Span) (g : ℕ) → AreInPlace spans → s.region ≡ variant.Body g → AreInPlace (spans ++ s ∷ [])
body_placed spans s g so region k n t at is =
    ⊎_elim (λ h. so k n t h is)
    (λ h. let no : variant.Body g ≡ variant.Section n = sym region ∙ ap (λ (x : Span). x.region) (sym h.1) ∙ is in absurd cc)
    (at_end spans s k t at)

pub distinct_more : (spans : List Span) (s : Span) → AreDistinct spans → ((k : ℕ) (t : Span) → slice_get spans k ≡ Some t → t.region ≡ s.region → ⊥) → AreDistinct (spans ++ s ∷ [])
distinct_more spans s so new j k a b at_j at_k e =
    ⊎_elim
    (λ old_j. ⊎_elim
    (λ old_k. so j k a b old_j old_k e)
    (λ h. absurd (new j a old_j (e ∙ ap (λ (x : Span). x.region) h.1)))
    (at_end spans s k b at_k))
    (λ h. ⊎_elim
    (λ old_k. absurd (new k b old_k (sym e ∙ ap (λ (x : Span). x.region) h.1)))
    (λ i. h.0 ∙ sym i.0)
    (at_end spans s k b at_k))
    (at_end spans s j a at_j)

abbrev number_of_region : Region → ℕ
number_of_region (Body g) = g
number_of_region (Inside n) = n

-- what names the body of a function is that body
pub body_named : (x : code.Region) (g : ℕ) → region_of x ≡ Body g → x ≡ variant.Body g
body_named (variant.Body h) g e = ap variant.Body (ap number_of_region e)
body_named (variant.Section n) g e = absurd cc

-- the number of a body
number_of_body : ℕ → variant.the_data → ℕ
number_of_body d (variant.Body n) = n
number_of_body d (variant.Section n) = d

one_body : (a b : ℕ) → variant.Body a ≡ variant.Body b → a ≡ b
unfolding number_of_body
one_body a b e = ap (number_of_body 0) e

-- sections at their numbers are distinct
sections_distinct : (l : Lowered) (spans : List Span) (i : ℕ) → AreSections l spans i → AreDistinct spans
sections_distinct l spans i so j k s t at_j at_k e =
    let one = so.are j s at_j in
    so.placed j one.0 s at_j one.1 ∙ sym (so.placed k one.0 t at_k (sym e ∙ one.1))

pub below_or_at : (n i : ℕ) → n < i + 1 → (n < i) ⊎ (n ≡ i)
below_or_at n i lt = ⊎_elim (λ h. inl h) (λ h. inr (omega arith)) (cases_lt n i)

pub sections_more : (l : Lowered) (spans : List Span) (s : Span) (i : ℕ) → AreSections l spans i → IsSpan l s → s.region ≡ variant.Section i → AreSections l (spans ++ s ∷ []) (i + 1)
sections_more l spans s i so is region = record {
  each = each_more l spans s so.each is;
  all = λ n lt. ⊎_elim
      (λ h. section_still spans s n (so.all n h))
      (λ (h : n ≡ i). (length spans, s, at_last spans s, region ∙ ap variant.Section (sym h)))
      (below_or_at n i lt);
  count = length-append spans (s ∷ []) ∙ omega (arith, so.count);
  placed = section_placed spans s so.placed (region ∙ ap variant.Section (sym so.count));
  are = λ k t at. ⊎_elim
      (λ h. so.are k t h)
      (λ h. (i, ap (λ (x : Span). x.region) h.1 ∙ region))
      (at_end spans s k t at);
}

pub bodies_begin : (l : Lowered) (spans : List Span) → AreSections l spans (length l.sections) → AreBodies l spans 0
bodies_begin l spans so = record {
  each = so.each;
  sections = so.all;
  all = λ g lt. absurd (omega arith);
  many = omega (arith, so.count);
  few = omega (arith, so.count);
  placed = so.placed;
  distinct = sections_distinct l spans (length l.sections) so;
  below = λ k g s at is.
      let one = so.are k s at in
      let no : variant.Body g ≡ variant.Section one.0 = sym is ∙ one.1 in absurd cc;
}

pub bodies_more : (l : Lowered) (spans : List Span) (s : Span) (i : ℕ) → AreBodies l spans i → IsSpan l s → s.region ≡ variant.Body i → AreBodies l (spans ++ s ∷ []) (i + 1)
bodies_more l spans s i so is region = record {
  each = each_more l spans s so.each is;
  sections = λ n lt. section_still spans s n (so.sections n lt);
  all = λ g lt inner. ⊎_elim
      (λ h. body_still spans s g (so.all g h inner))
      (λ (h : g ≡ i). (length spans, s, at_last spans s, region ∙ ap variant.Body (sym h)))
      (below_or_at g i lt);
  many = let many = so.many in omega (arith, many, length-append spans (s ∷ []));
  few = let few = so.few in omega (arith, length-append spans (s ∷ []));
  placed = body_placed spans s i so.placed region;
  distinct = distinct_more spans s so.distinct (λ k t at e. let lt = so.below k i t at (e ∙ region) in omega (arith, lt));
  below = λ k g t at is. ⊎_elim
      (λ h. let lt = so.below k g t h is in omega (arith, lt))
      (λ h. let same = one_body i g (sym region ∙ sym (ap (λ (x : Span). x.region) h.1) ∙ is) in omega (arith, same))
      (at_end spans s k t at);
}

pub bodies_skip : (l : Lowered) (spans : List Span) (i : ℕ) → AreBodies l spans i → ¬ IsInner l i → AreBodies l spans (i + 1)
bodies_skip l spans i so not = record {
  each = so.each;
  sections = so.sections;
  all = λ g lt inner. ⊎_elim (λ h. so.all g h inner) (λ (h : g ≡ i). absurd (not (subst (IsInner l) h inner))) (below_or_at g i lt);
  many = so.many;
  few = let few = so.few in omega arith;
  placed = so.placed;
  distinct = so.distinct;
  below = λ k g s at is. let lt = so.below k g s at is in omega (arith, lt);
}

pub all_spans : (l : Lowered) → IsLegalLowering l → (spans : List Span) → AreBodies l spans (length l.functions) → AreSpans l spans
all_spans l kept spans so =
    let layout = kept.layout in
    record {
      each = so.each;
      all = λ r f pc. go r f pc;
      sections = so.sections;
      many = so.many;
      few = let few = so.few in let s = layout.limits.few_sections in let f = layout.limits.few_functions in omega arith;
      placed = so.placed;
      distinct = so.distinct;
    }
  where
    between_is : (n f pc : ℕ) → Between l n f pc → Section
    between_is n f pc b = b.is

    between_at : (n f pc : ℕ) (b : Between l n f pc) → slice_get l.sections n ≡ Some (between_is n f pc b)
    between_at n f pc b = b.in_table

    go : (r : Region) (f pc : ℕ) → IsIn l r f pc → (k : ℕ) × (s : Span) × (slice_get spans k ≡ Some s) × (region_of s.region ≡ r)
    go (Body g) f pc b =
        let body : InBody l g pc = b.2 in
        let h = so.all g (slice_get_within l.functions g body.function body.in_table) b.1 in
        (h.0, h.1, h.2, ap region_of h.3)
    go (Inside n) f pc (b) =
        let h = so.sections n (slice_get_within l.sections n (between_is n f pc b) (between_at n f pc b)) in
        (h.0, h.1, h.2, ap region_of h.3)

-- the spans of all regions have those of all bodies
pub all_closed : (l : Lowered) (spans : List Span) → AreSpans l spans → AreClosed l spans
all_closed l spans so = record {
  each = so.each;
  bodies = λ g f pc b. let h = so.all (Body g) f pc b in (h.0, h.1, h.2, body_named h.1.region g h.3);
  few = so.few;
}

-- a mark that is read stands in the list
pub marked_at : (marks : List Bool) (n : ℕ) → get_or marks n false ≡ true → slice_get marks n ≡ Some true
marked_at [] n e = absurd cc
marked_at (m ∷ marks) zero e = ap Some e
marked_at (m ∷ marks) (suc n) e = marked_at marks n e

pub not_marked : (marks : List Bool) (n : ℕ) → get_or marks n false ≡ false → ¬ (slice_get marks n ≡ Some true)
not_marked [] n e h = cc
not_marked (m ∷ marks) zero e h = let f : m ≡ true = some_same h in cc
not_marked (m ∷ marks) (suc n) e h = not_marked marks n e h
