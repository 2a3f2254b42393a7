-- A program without one instruction: what is owed to it is what is owed elsewhere, and who is apart in its draft.
use Rattle.std.proofs.Common.{◌≡◌, ◌≢◌, ℕ, ◌+◌, ◌<◌, inl, inr, Bool, true, false, List, [], ◌∷◌, ◌++◌, length, set, take, Some, None, get_or, slice_get, refl, sym, ap, ◌∙◌, subst, arith, length-append, length-set, get_or-set_same, get_or-set_other}
use Rattle.std.specs.Prelude.{◌↔◌}
use Rattle.std.proofs.lemmas.Bool.{cases_eq}
use Rattle.std.proofs.lemmas.List.{take_more}
use Rattle.std.proofs.lemmas.Option.{slice_get-get_or, slice_get_within, get_or_from_slice_get}
use Rattle.std.proofs.Math.Seq.{get_or-append_seam}
use Rattle.asl_code.specs.declared.instr.Instr.{Instr}
use Rattle.asl_code.specs.declared.instr.Instr.TheVariants as instr
use Rattle.asl_lower.specs.Lowered.{Lowered}
use Rattle.asl_lower.specs.OpenSections.{InBody}
use Rattle.asl_lower.specs.Facts.{HasLayout}
use Rattle.asl_points_to.specs.Classes.{Classed, members, Share, IsLegal, IsLegalAt, GoInto, AreClasses}
use Rattle.asl_class_reasons.specs.declared.place.Place.{Place}
use Rattle.asl_class_reasons.specs.declared.place.Place.TheVariants as place
use Rattle.asl_class_reasons.specs.declared.place.Cause.TheVariants as cause
use Rattle.asl_class_reasons.specs.declared.place.Step.{Step}
use Rattle.asl_class_reasons.specs.declared.flow.Flow.{Flow}
use Rattle.asl_class_reasons.specs.declared.flow.Flow.TheVariants as flow
use Rattle.asl_class_reasons.specs.declared.flow.Owed.{Owed}
use Rattle.asl_class_reasons.specs.declared.draft.Draft.{Draft}
use Rattle.asl_class_reasons.specs.Reasons.{IsOwed, IsDue}
use Rattle.asl_class_reasons.specs.Without.{left_out, without}
use Rattle.asl_class_reasons.specs.Draft.{HasFlow, MakesDue, IsPlain, AreOf, AreOwed, IsOwedAll, IsElsewhere, IsLike, IsSettled, label, drafted}
use Rattle.asl_class_reasons.proofs.Drafted.{member_at}
use Rattle.asl_class_reasons.proofs.Linking.{slice_get_more, slice_get_last}
use Rattle.asl_class_reasons.proofs.Sound.{chain_shares}

-- one more that is owed: elsewhere, and here
pub elsewhere_more : (owed left : List Owed) (pc : ℕ) (o : Owed) → o.pc ≢ pc → IsElsewhere owed pc left → IsElsewhere (owed ++ o ∷ []) pc (left ++ o ∷ [])
elsewhere_more owed left pc o ne h =
    let at : (xs : List Owed) → slice_get (xs ++ o ∷ []) (length xs) ≡ Some o = λ xs. slice_get-get_or (xs ++ o ∷ []) (length xs) o (omega (arith, length-append xs (o ∷ []))) ∙ ap Some (get_or-append_seam xs o [] o) in
    record {
      from = λ n p e. elim (slice_get_last left o n p e) [
        | inl was ↦ (let f = h.from n p was in (f.0, slice_get_more owed (o ∷ []) f.0 p f.1, f.2))
        | inr new ↦ (length owed, at owed ∙ ap Some (sym new.1), λ q. ne (ap (λ (x : Owed). x.pc) (sym new.1) ∙ q))
      ];
      all = λ k p e other. elim (slice_get_last owed o k p e) [
        | inl was ↦ (let f = h.all k p was other in (f.0, slice_get_more left (o ∷ []) f.0 p f.1))
        | inr new ↦ (length left, at left ∙ ap Some (sym new.1))
      ];
    }

pub elsewhere_here : (owed left : List Owed) (pc : ℕ) (o : Owed) → o.pc ≡ pc → IsElsewhere owed pc left → IsElsewhere (owed ++ o ∷ []) pc left
elsewhere_here owed left pc o same h = record {
  from = λ n p e. (let f = h.from n p e in (f.0, slice_get_more owed (o ∷ []) f.0 p f.1, f.2));
  all = λ k p e other. elim (slice_get_last owed o k p e) [
    | inl was ↦ h.all k p was other
    | inr new ↦ absurd (other (ap (λ (x : Owed). x.pc) new.1 ∙ same))
  ];
}

pub elsewhere_none : (pc : ℕ) → IsElsewhere [] pc []
elsewhere_none pc = record {
  from = λ n p e. absurd (let no : None ≡ Some p = e in cc);
  all = λ k p e other. absurd (let no : None ≡ Some p = e in cc);
}

-- these are owed to the program, too
pub elsewhere_of : (l : Lowered) (owed left : List Owed) (pc : ℕ) → AreOf l owed → IsElsewhere owed pc left → AreOf l left
elsewhere_of l owed left pc each h = λ n o e. (let f = h.from n o e in each f.0 o f.1)

pub like_self : (l : Lowered) → IsLike l l
like_self l = record { globals = refl; sites = refl; functions = refl }

pub like_without : (l : Lowered) (pc : ℕ) → IsLike l (without l pc)
like_without l pc = record { globals = refl; sites = refl; functions = refl }

-- the instructions of the program without one
there_other : (xs : List Instr) (n m : ℕ) (y i : Instr) → m ≢ n → slice_get (set xs n y) m ≡ Some i → slice_get xs m ≡ Some i
there_other xs n m y i ne e =
    let lt = slice_get_within (set xs n y) m i e in
    slice_get-get_or xs m i (omega (arith, length-set xs n y)) ∙ ap Some (sym (get_or-set_other xs n m y i ne) ∙ get_or_from_slice_get (set xs n y) m i i e)

other_there : (xs : List Instr) (n m : ℕ) (y i : Instr) → m ≢ n → slice_get xs m ≡ Some i → slice_get (set xs n y) m ≡ Some i
other_there xs n m y i ne e =
    let lt = slice_get_within xs m i e in
    slice_get-get_or (set xs n y) m i (omega (arith, length-set xs n y)) ∙ ap Some (get_or-set_other xs n m y i ne ∙ get_or_from_slice_get xs m i i e)

own_there : (xs : List Instr) (n : ℕ) (y i : Instr) → slice_get (set xs n y) n ≡ Some i → i ≡ y
own_there xs n y i e =
    let lt = slice_get_within (set xs n y) n i e in
    sym (get_or_from_slice_get (set xs n y) n i i e) ∙ get_or-set_same xs n y i (omega (arith, length-set xs n y))

was_return : (pc r : ℕ) (j : Instr) → left_out pc j ≡ instr.Return r → j ≡ instr.Return r
was_return pc r (instr.Return s) e = e
was_return pc r j e = absurd (let no : instr.Jump (pc + 1) ≡ instr.Return r = e in cc)

return_before : (l : Lowered) (pc q r : ℕ) → slice_get (without l pc).code q ≡ Some (instr.Return r) → slice_get l.code q ≡ Some (instr.Return r)
return_before l pc q r e =
    let none : Instr = instr.Jump 0 in
    let j : Instr = get_or l.code pc none in
    elim (cases_eq q pc) [
      | inl same ↦ (
          let At : ℕ → Type 0 = λ n. slice_get (set l.code pc (left_out pc j)) n ≡ Some (instr.Return r) in
          let lt = slice_get_within (set l.code pc (left_out pc j)) q (instr.Return r) e in
          let is : j ≡ instr.Return r = was_return pc r j (sym (own_there l.code pc (left_out pc j) (instr.Return r) (subst At same e))) in
          ap (slice_get l.code) same ∙ slice_get-get_or l.code pc none (omega (arith, length-set l.code pc (left_out pc j))) ∙ ap Some is)
      | inr ne ↦ there_other l.code pc q (left_out pc j) (instr.Return r) ne e
    ]

return_after : (l : Lowered) (pc q r : ℕ) → slice_get l.code q ≡ Some (instr.Return r) → slice_get (without l pc).code q ≡ Some (instr.Return r)
return_after l pc q r e =
    let none : Instr = instr.Jump 0 in
    let j : Instr = get_or l.code pc none in
    elim (cases_eq q pc) [
      | inl same ↦ (
          let lt = slice_get_within l.code q (instr.Return r) e in
          let low : pc < length l.code = omega arith in
          let is : j ≡ instr.Return r = get_or_from_slice_get l.code pc (instr.Return r) none (ap (slice_get l.code) (sym same) ∙ e) in
          ap (slice_get (set l.code pc (left_out pc j))) same
          ∙ slice_get-get_or (set l.code pc (left_out pc j)) pc none (omega (arith, length-set l.code pc (left_out pc j)))
          ∙ ap Some (get_or-set_same l.code pc (left_out pc j) none low ∙ ap (left_out pc) is))
      | inr ne ↦ other_there l.code pc q (left_out pc j) (instr.Return r) ne e
    ]

body_after : (l : Lowered) (pc f q : ℕ) → InBody l f q → InBody (without l pc) f q
body_after l pc f q b = record { function = b.function; in_table = b.in_table; start = b.start; before_end = b.before_end }

body_before : (l : Lowered) (pc f q : ℕ) → InBody (without l pc) f q → InBody l f q
body_before l pc f q b = record { function = b.function; in_table = b.in_table; start = b.start; before_end = b.before_end }

-- what is owed to it elsewhere is so without it
owed_after : (l : Lowered) (pc : ℕ) (es : List Step) (f : ℕ) (i : Instr) (a b : Place) → IsOwed l es f i a b → IsOwed (without l pc) es f i a b
owed_after l pc es f (instr.Call u first g) a b o = elim o [
  | inl p ↦ inl p
  | inr r ↦ inr (r.0, r.1, body_after l pc g r.0 r.2, return_after l pc r.0 r.1 r.3, r.4, r.5)
]
owed_after l pc es f i a b o = o

due_step : (l : Lowered) (pc q : ℕ) (es : List Step) (a b : Place) → q ≢ pc → IsDue l es (cause.Instruction q) a b → IsDue (without l pc) es (cause.Instruction q) a b
due_step l pc q es a b ne d =
    let none : Instr = instr.Jump 0 in
    (d.0, d.1, body_after l pc d.0 q d.2, other_there l.code pc q (left_out pc (get_or l.code pc none)) d.1 ne d.3, owed_after l pc es d.0 d.1 a b d.4)

due_after : (l : Lowered) (pc q : ℕ) (w : Flow) → q ≢ pc → MakesDue l q w → MakesDue (without l pc) q w
due_after l pc q (flow.Copy a b) ne k = λ es. due_step l pc q es a b ne (k es)
due_after l pc q (flow.Load a b) ne k = λ es m low j. due_step l pc q es (place.Cells m) b ne (k es m low j)
due_after l pc q (flow.Store a b) ne k = λ es m low j. due_step l pc q es b (place.Cells m) ne (k es m low j)

plain_after : (l : Lowered) (pc : ℕ) (p : Place) → IsPlain l p → IsPlain (without l pc) p
plain_after l pc (place.Member m) h = h
plain_after l pc (place.Cells m) h = h
plain_after l pc (place.Register f r) h = h

has_after : (l : Lowered) (pc : ℕ) (w : Flow) → HasFlow l w → HasFlow (without l pc) w
has_after l pc (flow.Copy a b) h = (plain_after l pc a h.0, plain_after l pc b h.1)
has_after l pc (flow.Load a b) h = (plain_after l pc a h.0, plain_after l pc b h.1)
has_after l pc (flow.Store a b) h = (plain_after l pc a h.0, plain_after l pc b h.1)

-- classes that have it are legal
idle_legal : (l : Lowered) (c : Classed) (f pc : ℕ) (j : Instr) → IsLegalAt l c f (left_out pc j)
idle_legal l c f pc (instr.Return r) = tt
idle_legal l c f pc j = tt

legal_after : (l : Lowered) (c : Classed) (f pc : ℕ) (i : Instr) → IsLegalAt l c f i → IsLegalAt (without l pc) c f i
legal_after l c f pc (instr.Call a first g) k = record {
  passed = k.passed;
  returned = λ q r b e. k.returned q r (body_before l pc g q b) (return_before l pc q r e);
}
legal_after l c f pc i k = k

pub owed_without : (l : Lowered) (pc : ℕ) (owed left : List Owed) → HasLayout l → AreOwed l (length l.code) owed → IsElsewhere owed pc left → IsOwedAll (without l pc) left
owed_without l pc owed left h was w =
    let none : Instr = instr.Jump 0 in
    let j : Instr = get_or l.code pc none in
    record {
      each = λ n o e. (
          let f = w.from n o e in
          let of = was.each f.0 o f.1 in
          record { there = has_after l pc o.flow of.there; due = due_after l pc o.pc o.flow f.2 of.due });
      all = λ c globals sites held. record {
        globals = globals;
        sites = sites;
        instrs = λ f q i b e. elim (cases_eq q pc) [
          | inl same ↦ (
              let At : ℕ → Type 0 = λ n. slice_get (set l.code pc (left_out pc j)) n ≡ Some i in
              let is : i ≡ left_out pc j = own_there l.code pc (left_out pc j) i (subst At same e) in
              subst (λ (x : Instr). IsLegalAt (without l pc) c f x) (sym is) (idle_legal (without l pc) c f pc j))
          | inr ne ↦ (
              let bl = body_before l pc f q b in
              legal_after l c f pc i (was.all f q i (h.parted.in_code q f bl) bl (there_other l.code pc q (left_out pc j) i ne e) c globals (λ n o at here. (
              let r = w.all n o at (λ p. ne (sym here ∙ p)) in
              held r.0 o r.1))))
        ];
      };
    }

-- who is apart in a settled draft, and who is not
share_goes : (c d : Classed) (m n : ℕ) → GoInto c d → Share c m n → Share d m n
share_goes c d m n g s = (g.into s.0, g.members_go m s.0 s.1, g.members_go n s.0 s.2)

apart_drafted : (l : Lowered) (s : Draft) (m n : ℕ) → IsSettled l s → (m < s.members → n < s.members → label s (place.Member m) ≢ label s (place.Member n)) → Share (drafted l s) m n → ⊥
apart_drafted l s m n h apart share =
    let c : Classed = drafted l s in
    let len : length (members c) ≡ s.members = omega (arith, length-append c.globals c.sites, h.legal.globals, h.legal.sites, h.founded.members) in
    let lm : m < s.members = omega (arith, slice_get_within (members c) m share.0 share.1) in
    let ln : n < s.members = omega (arith, slice_get_within (members c) n share.0 share.2) in
    let em : Some (label s (place.Member m)) ≡ Some share.0 = sym (member_at l s h.sized h.founded m lm) ∙ share.1 in
    let en : Some (label s (place.Member n)) ≡ Some share.0 = sym (member_at l s h.sized h.founded n ln) ∙ share.2 in
    apart lm ln (let e : label s (place.Member m) ≡ label s (place.Member n) = cc in e)

-- what `are_apart` says of a settled draft
pub record IsTold (s : Draft) (m n : ℕ) (b : Bool) : Type 0 where
  pub apart : b ≡ true → m < s.members → n < s.members → label s (place.Member m) ≢ label s (place.Member n)
  pub one : b ≡ false → (m < s.members) × (n < s.members) × (label s (place.Member m) ≡ label s (place.Member n))

pub told_apart : (l : Lowered) (s : Draft) (m n : ℕ) (b : Bool) → IsSettled l s → IsTold s m n b → b ≡ true → (c : Classed) × IsLegal l c × (Share c m n → ⊥)
told_apart l s m n b h t e = (drafted l s, h.legal, apart_drafted l s m n h (t.apart e))

pub told_together : (l : Lowered) (s : Draft) (m n : ℕ) (b : Bool) → IsSettled l s → IsTold s m n b → b ≡ false → (c : Classed) → IsLegal l c → Share c m n
told_together l s m n b h t e c k =
    let o = t.one e in
    chain_shares l s.steps.items c h.founded.reasons k m n (omega (arith, o.0, h.founded.members)) (h.founded.joined (place.Member m) (place.Member n) o.0 o.1 o.2)

pub told_classes : (l : Lowered) (s : Draft) (m n : ℕ) (b : Bool) → IsSettled l s → IsTold s m n b → (c : Classed) → AreClasses l c → (b ≡ true) ↔ (Share c m n → ⊥)
told_classes l s m n b h t c k =
    let one : b ≡ true → Share c m n → ⊥ = λ e share. apart_drafted l s m n h (t.apart e) (share_goes c (drafted l s) m n (k.least.least (drafted l s) h.legal) share) in
    let cases : (x : Bool) → b ≡ x → (Share c m n → ⊥) → b ≡ true = λ x. elim x as (λ (y : Bool). b ≡ y → (Share c m n → ⊥) → b ≡ true) [
      | true ↦ λ e no. e
      | false ↦ λ e no. absurd (no (told_together l s m n b h t e c k.least.legal))
    ] in
    (one, cases b refl)

-- one more of a list
pub elsewhere_on : (owed left : List Owed) (pc index : ℕ) (d : Owed) → index < length owed → (get_or owed index d).pc ≢ pc → IsElsewhere (take index owed) pc left → IsElsewhere (take (index + 1) owed) pc (left ++ get_or owed index d ∷ [])
elsewhere_on owed left pc index d lt ne h =
    let more : take (index + 1) owed ≡ take index owed ++ get_or owed index d ∷ [] = take_more owed index d lt in
    subst (λ (xs : List Owed). IsElsewhere xs pc (left ++ get_or owed index d ∷ [])) (sym more) (elsewhere_more (take index owed) left pc (get_or owed index d) ne h)

pub elsewhere_off : (owed left : List Owed) (pc index : ℕ) (d : Owed) → index < length owed → (get_or owed index d).pc ≡ pc → IsElsewhere (take index owed) pc left → IsElsewhere (take (index + 1) owed) pc left
elsewhere_off owed left pc index d lt same h =
    let more : take (index + 1) owed ≡ take index owed ++ get_or owed index d ∷ [] = take_more owed index d lt in
    subst (λ (xs : List Owed). IsElsewhere xs pc left) (sym more) (elsewhere_here (take index owed) left pc (get_or owed index d) same h)
