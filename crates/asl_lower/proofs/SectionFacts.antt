-- The facts of sections and of numbers hold of each lowering: each section of the table is entered and left in the code, control
-- stays inside bodies and sections, and the numbers of sites and of sections follow the code.
use Rattle.std.proofs.Common.{◌≡◌, ◌≢◌, ℕ, suc, ◌<◌, inl, inr, IsTrue, List, ◌∷◌, length, Some, option_map, slice_get, sym, ap, ◌∙◌, subst, arith}
use Rattle.std.specs.List.{Contains}
use Rattle.std.proofs.lemmas.Bool.{false≢true}
use Rattle.std.proofs.lemmas.Option.{slice_get_within}
use Rattle.asl_code.specs.declared.instr.Instr.{Instr}
use Rattle.asl_code.specs.declared.instr.Instr.TheVariants as instr
use Rattle.asl_syntax.specs.Tree.{Item}
use Rattle.asl_lower.specs.declared.section.Section.{Section}
use Rattle.asl_lower.specs.Names.{Scope, scope_of, register}
use Rattle.asl_lower.specs.Place.{Place}
use Rattle.asl_lower.specs.Lowered.{Lowered, IsLowering}
use Rattle.asl_lower.specs.OpenSections.{open_at, open_behind, sites_before, sections_before, release_of, InSection, FlowsTo}
use Rattle.asl_lower.specs.Facts.{HasSections, StaysInside, IsNumbered}
use Rattle.asl_lower.proofs.Stands.{is_plain, Stands, Plainly, Makes, Invokes, Jumps, Tests, Enters, Leaves}
use Rattle.asl_lower.proofs.Bodies.{body_of, in_body}
use Rattle.asl_lower.proofs.Points.{body_stands, body_moves}
use Rattle.asl_lower.proofs.SectionSteps.{section_there, Kind, Keeps, Opens, Closes, kind_at}
use Rattle.asl_lower.proofs.Opened.{points}
use Rattle.asl_lower.proofs.BodyFacts.{body_at, all_ended}

-- the section of an `acq`, and of a `rel`
acquire_section : (l : Lowered) (pc number : ℕ) → slice_get l.code pc ≡ Some (instr.Acquire number) → Kind l pc → (s : Section) × (slice_get l.sections number ≡ Some s) × (s.acquire ≡ pc)
acquire_section l pc number e (Keeps i f o a r) =
    absurd (a number (let q : Some i ≡ Some (instr.Acquire number) = sym f ∙ e in cc))
acquire_section l pc number e (Opens n w at) =
    let f : slice_get l.code pc ≡ Some (instr.Acquire n) = ap (slice_get l.code) (sym at) ∙ w.enters in
    let same : n ≡ number = (let q : Some (instr.Acquire n) ≡ Some (instr.Acquire number) = sym f ∙ e in cc) in
    (w.section, ap (slice_get l.sections) (sym same) ∙ w.in_table, at)
acquire_section l pc number e (Closes n w at) =
    (let f : slice_get l.code pc ≡ Some instr.Release = ap (slice_get l.code) (sym at) ∙ w.leaves in cc)

release_section : (l : Lowered) (pc number : ℕ) (around : List ℕ) → slice_get l.code pc ≡ Some instr.Release → open_at l.code pc ≡ number ∷ around → Kind l pc → release_of l number ≡ Some pc
release_section l pc number around e o (Keeps i f k a r) =
    absurd (r (let q : Some i ≡ Some instr.Release = sym f ∙ e in cc))
release_section l pc number around e o (Opens n w at) =
    (let f : slice_get l.code pc ≡ Some (instr.Acquire n) = ap (slice_get l.code) (sym at) ∙ w.enters in cc)
release_section l pc number around e o (Closes n w at) =
    let here : open_at l.code pc ≡ n ∷ open_at l.code w.section.acquire = ap (open_at l.code) (sym at) ∙ w.around in
    let same : n ≡ number = (let q : n ∷ open_at l.code w.section.acquire ≡ number ∷ around = sym here ∙ o in cc) in
    ap (release_of l) (sym same) ∙ ap (option_map (λ (s : Section). s.release)) w.in_table ∙ ap Some at

pub lowering_sections : (is : List Item) (l : Lowered) → IsLowering is l → HasSections l
lowering_sections is l h =
    record {
      there = section_there is l h;
      entered = λ pc number e.
          let a = acquire_section l pc number e (kind_at is l h pc (slice_get_within l.code pc (instr.Acquire number) e)) in
          ap (option_map (λ (s : Section). s.acquire)) a.1 ∙ ap Some a.2;
      left = λ pc number around e o. release_section l pc number around e o (kind_at is l h pc (slice_get_within l.code pc instr.Release e));
    }

-- a section that is open stays open where control continues, but for its `rel`
section_stays : (is : List Item) (l : Lowered) → IsLowering is l → (pc to number : ℕ) (i : Instr) (s : Section) → slice_get l.sections number ≡ Some s → InSection l number pc → pc ≢ s.release → slice_get l.code pc ≡ Some i → FlowsTo i pc to → InSection l number to
section_stays is l h pc to number i s e x other f g =
    let low : pc < length l.code = slice_get_within l.code pc i f in
    let b = body_at is l h pc low in
    let m = body_moves is l b.0 pc to i b.1 f g in
    let same : x.0 ≡ s = (let q : Some x.0 ≡ Some s = sym x.1 ∙ e in cc) in
    let end : x.0.release ≡ s.release = ap (λ (d : Section). d.release) same in
    let further : pc < x.0.release = omega (arith, x.2.within, end, other) in
    let next : InSection l number (suc pc) = (x.0, x.1, record { behind = omega (arith, x.2.behind); within = omega (arith, further) }) in
    let here_open : Contains (open_at l.code (suc pc)) number = (points is l h (suc pc) (omega arith)).opened number next in
    let e2 : open_at l.code to ≡ open_at l.code (suc pc) = m.opened ∙ sym (ap (λ v. open_behind v (open_at l.code pc)) f) in
    let P : List ℕ → Type 0 = λ os. Contains os number in
    (points is l h to (omega (arith, m.high, b.1.placed.after.pc, h.code))).inside number (subst P (sym e2) here_open)

pub lowering_stays : (is : List Item) (l : Lowered) → IsLowering is l → StaysInside l
lowering_stays is l h =
    record {
      body = λ pc to number i x e g.
          let b = body_of is l h number pc x in
          let m = body_moves is l number pc to i b e g in
          in_body is l number to (record { placed = b.placed; low = m.low; high = omega (arith, m.high) });
      section = section_stays is l h;
    }

-- what the site of a `new` is
made_site : (sc : Scope) (l : Lowered) (lo hi : Place) (pc to cells site : ℕ) → slice_get l.code pc ≡ Some (instr.New to cells site) → Stands sc l lo hi pc → (site ≡ sites_before l.code pc) × (site < hi.site)
made_site sc l lo hi pc to cells site e (Plainly i f t) =
    let q : Some i ≡ Some (instr.New to cells site) = sym f ∙ e in
    let same : i ≡ instr.New to cells site = cc in
    let P : Instr → Type 0 = λ j. IsTrue (is_plain j) in
    absurd (false≢true (subst P same t))
made_site sc l lo hi pc to cells site e (Makes r c n f g k x) =
    let q : Some (instr.New r c n) ≡ Some (instr.New to cells site) = sym f ∙ e in
    let same : n ≡ site = cc in
    (sym same ∙ x, omega (arith, k, same))
made_site sc l lo hi pc to cells site e (Invokes r a n f) = cc
made_site sc l lo hi pc to cells site e (Jumps n f g k o) = cc
made_site sc l lo hi pc to cells site e (Tests r n f g k o) = cc
made_site sc l lo hi pc to cells site e (Enters n w at) =
    (let f : slice_get l.code pc ≡ Some (instr.Acquire n) = ap (slice_get l.code) (sym at) ∙ w.enters in cc)
made_site sc l lo hi pc to cells site e (Leaves n w at) =
    (let f : slice_get l.code pc ≡ Some instr.Release = ap (slice_get l.code) (sym at) ∙ w.leaves in cc)

site_of : (is : List Item) (l : Lowered) → IsLowering is l → (pc to cells site : ℕ) → slice_get l.code pc ≡ Some (instr.New to cells site) → (site ≡ sites_before l.code pc) × (site < l.sites)
site_of is l h pc to cells site e =
    let b = body_at is l h pc (slice_get_within l.code pc (instr.New to cells site) e) in
    elim (body_stands is l b.0 pc b.1) [
      | inl s ↦ (let m = made_site _ l _ _ pc to cells site e s in (m.0, omega (arith, m.1, b.1.placed.after.site, h.sites)))
      | inr at ↦ (let r : slice_get l.code pc ≡ Some (instr.Return (register (scope_of is b.0 b.1.placed.function) b.1.placed.function.returned)) = ap (slice_get l.code) at ∙ b.1.placed.lowered.returns in cc)
    ]

-- the number of the section of an `acq`
entered_number : (sc : Scope) (l : Lowered) (lo hi : Place) (pc number : ℕ) → slice_get l.code pc ≡ Some (instr.Acquire number) → Stands sc l lo hi pc → number ≡ sections_before l.code pc
entered_number sc l lo hi pc number e (Plainly i f t) =
    let q : Some i ≡ Some (instr.Acquire number) = sym f ∙ e in
    let same : i ≡ instr.Acquire number = cc in
    let P : Instr → Type 0 = λ j. IsTrue (is_plain j) in
    absurd (false≢true (subst P same t))
entered_number sc l lo hi pc number e (Makes r c n f g k x) = cc
entered_number sc l lo hi pc number e (Invokes r a n f) = cc
entered_number sc l lo hi pc number e (Jumps n f g k o) = cc
entered_number sc l lo hi pc number e (Tests r n f g k o) = cc
entered_number sc l lo hi pc number e (Enters n w at) =
    let f : slice_get l.code pc ≡ Some (instr.Acquire n) = ap (slice_get l.code) (sym at) ∙ w.enters in
    let same : n ≡ number = (let q : Some (instr.Acquire n) ≡ Some (instr.Acquire number) = sym f ∙ e in cc) in
    sym same ∙ w.counted ∙ ap (sections_before l.code) at
entered_number sc l lo hi pc number e (Leaves n w at) =
    (let f : slice_get l.code pc ≡ Some instr.Release = ap (slice_get l.code) (sym at) ∙ w.leaves in cc)

number_of_acquire : (is : List Item) (l : Lowered) → IsLowering is l → (pc number : ℕ) → slice_get l.code pc ≡ Some (instr.Acquire number) → number ≡ sections_before l.code pc
number_of_acquire is l h pc number e =
    let b = body_at is l h pc (slice_get_within l.code pc (instr.Acquire number) e) in
    elim (body_stands is l b.0 pc b.1) [
      | inl s ↦ entered_number _ l _ _ pc number e s
      | inr at ↦ (let r : slice_get l.code pc ≡ Some (instr.Return (register (scope_of is b.0 b.1.placed.function) b.1.placed.function.returned)) = ap (slice_get l.code) at ∙ b.1.placed.lowered.returns in cc)
    ]

pub lowering_numbered : (is : List Item) (l : Lowered) → IsLowering is l → IsNumbered l
lowering_numbered is l h =
    let k = (all_ended is l h).counted in
    record {
      sites = λ pc to cells site e. (site_of is l h pc to cells site e).0;
      sections = number_of_acquire is l h;
      all_sites = ap (sites_before l.code) h.code ∙ k.sites ∙ sym h.sites;
      all_sections = ap (sections_before l.code) h.code ∙ k.sections ∙ sym h.sections;
      known_sites = λ pc to cells site e. (site_of is l h pc to cells site e).1;
    }
