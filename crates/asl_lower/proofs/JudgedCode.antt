-- What code from a pc up to another has of accesses and calls outside all sections: where it is empty, where two parts are joined,
-- and where it is one instruction.
use Rattle.std.proofs.Common.{◌≡◌, ℕ, suc, ◌<◌, ◌≤◌, ◌⊎◌, inl, inr, Bool, true, false, ◌||◌, ◌==◌, IsTrue, List, [], ◌∷◌, ◌++◌, length, Option, Some, None, MatchOption, slice_get, refl, sym, ap, ◌∙◌, subst, arith}
use Rattle.std.proofs.lemmas.Bool.{cases_lt, or_left, or_right, eq-eqb, eqb-true, false≢true}
use Rattle.asl_code.specs.declared.instr.Instr.{Instr}
use Rattle.asl_code.specs.declared.instr.Instr.TheVariants as instr
use Rattle.asl_lower.specs.Lowered.{Lowered}
use Rattle.asl_lower.specs.OpenSections.{open_at, is_access, is_among}
use Rattle.asl_lower.specs.Reach.{Outside, IsCalled, IsOutsideAccess, IsFirstOutsideAccess}
use Rattle.asl_lower.specs.Outside.{or_else}

-- no access outside all sections stands from a pc up to another
abbrev Clear : Lowered → ℕ → ℕ → Type 0
Clear l from end = (pc : ℕ) → from ≤ pc → pc < end → ¬ IsOutsideAccess l.code pc

-- the first access and the callees outside all sections from a pc up to another
pub record Judged (l : Lowered) (from end : ℕ) (access : Option ℕ) (callees : List ℕ) : Type 0 where
  pub access_is : MatchOption access (Clear l from end) (λ pc. IsFirstOutsideAccess l.code from end pc)
  pub calls : (callee : ℕ) → IsCalled l Outside from end callee → IsTrue (is_among callees callee)
  pub called : (callee : ℕ) → IsTrue (is_among callees callee) → IsCalled l Outside from end callee

-- nothing
pub judged_none : (l : Lowered) (from : ℕ) → Judged l from from None []
judged_none l from =
    record { access_is = λ pc low high. absurd (omega arith); calls = λ g k. absurd (omega (arith, k.low, k.high)); called = λ g t. absurd (false≢true t) }

-- one part and the next
pub among_left : (xs ys : List ℕ) (n : ℕ) → IsTrue (is_among xs n) → IsTrue (is_among (xs ++ ys) n)
among_left [] ys n t = absurd (false≢true t)
among_left (x ∷ xs) ys n t =
    elim (x == n) as (λ b. IsTrue (b || is_among xs n) → IsTrue (b || is_among (xs ++ ys) n)) [ true ↦ λ k. refl | false ↦ λ k. among_left xs ys n k ] t

pub among_right : (xs ys : List ℕ) (n : ℕ) → IsTrue (is_among ys n) → IsTrue (is_among (xs ++ ys) n)
among_right [] ys n t = t
among_right (x ∷ xs) ys n t = or_right (x == n) (is_among (xs ++ ys) n) (among_right xs ys n t)

pub among_parts : (xs ys : List ℕ) (n : ℕ) → IsTrue (is_among (xs ++ ys) n) → IsTrue (is_among xs n) ⊎ IsTrue (is_among ys n)
among_parts [] ys n t = inr t
among_parts (x ∷ xs) ys n t =
    elim (x == n) as (λ b. IsTrue (b || is_among (xs ++ ys) n) → IsTrue (b || is_among xs n) ⊎ IsTrue (is_among ys n)) [ true ↦ λ k. inl refl | false ↦ λ k. among_parts xs ys n k ] t

pub among_alone : (x n : ℕ) → IsTrue (is_among (x ∷ []) n) → x ≡ n
among_alone x n t =
    elim (x == n) as (λ b. (x == n) ≡ b → IsTrue (b || false) → x ≡ n) [ true ↦ λ is k. eqb-true x n is | false ↦ λ is k. absurd (false≢true k) ] refl t

called_wider : (l : Lowered) (a b c d g : ℕ) → a ≤ b → c ≤ d → IsCalled l Outside b c g → IsCalled l Outside a d g
called_wider l a b c d g low high k =
    record { pc = k.pc; low = omega (arith, k.low); high = omega (arith, k.high); call = k.call }

pub judged_join : (l : Lowered) (a b c : ℕ) (p q : Option ℕ) (xs ys : List ℕ) → a ≤ b → b ≤ c → Judged l a b p xs → Judged l b c q ys → Judged l a c (or_else p q) (xs ++ ys)
judged_join l a b c p q xs ys low high x y =
    record {
      access_is = accesses p q x.access_is y.access_is;
      calls = λ g k. elim (cases_lt k.pc b) [
        | inl before ↦ among_left xs ys g (x.calls g (record { pc = k.pc; low = k.low; high = before; call = k.call }))
        | inr past ↦ among_right xs ys g (y.calls g (record { pc = k.pc; low = past; high = k.high; call = k.call }))
      ];
      called = λ g t. elim (among_parts xs ys g t) [
        | inl first ↦ called_wider l a a b c g (omega arith) high (x.called g first)
        | inr second ↦ called_wider l a b c c g low (omega arith) (y.called g second)
      ];
    }
  where
    accesses : (p q : Option ℕ) → MatchOption p (Clear l a b) (λ pc. IsFirstOutsideAccess l.code a b pc) → MatchOption q (Clear l b c) (λ pc. IsFirstOutsideAccess l.code b c pc) → MatchOption (or_else p q) (Clear l a c) (λ pc. IsFirstOutsideAccess l.code a c pc)
    accesses (Some n) q u v = record { low = u.low; high = omega (arith, u.high, high); access = u.access; first = u.first }
    accesses None None u v = λ n from to. elim (cases_lt n b) [ inl before ↦ u n from before | inr past ↦ v n past to ]
    accesses None (Some n) u v =
        record {
          low = omega (arith, v.low, low);
          high = v.high;
          access = v.access;
          first = λ m from to. elim (cases_lt m b) [ inl before ↦ u m from before | inr past ↦ v.first m past to ];
        }

-- one instruction
only_here : (l : Lowered) (pc n : ℕ) (i : Instr) → slice_get l.code pc ≡ Some i → pc ≤ n → n < suc pc → slice_get l.code n ≡ Some i
only_here l pc n i h low high = let e : n ≡ pc = omega arith in ap (slice_get l.code) e ∙ h

-- one that neither reads nor writes a cell, nor calls
abbrev pub is_other : Instr → Bool
is_other (instr.Load to address) = false
is_other (instr.Store address from) = false
is_other (instr.Call to first function) = false
is_other i = true

other_no_access : (i : Instr) → IsTrue (is_other i) → IsTrue (is_access i) → ⊥
other_no_access (instr.Load to address) t a = false≢true t
other_no_access (instr.Store address from) t a = false≢true t
other_no_access i t a = false≢true a

other_no_call : (i : Instr) (to first g : ℕ) → IsTrue (is_other i) → i ≡ instr.Call to first g → ⊥
other_no_call i to first g t e = let P : Instr → Type 0 = λ j. IsTrue (is_other j) in false≢true (subst P e t)

clear_here : (l : Lowered) (pc : ℕ) (i : Instr) → slice_get l.code pc ≡ Some i → (IsTrue (is_access i) → ⊥) → Clear l pc (suc pc)
clear_here l pc i h none n low high a =
    let q : Some a.instruction ≡ Some i = sym a.stands ∙ only_here l pc n i h low high in
    let same : a.instruction ≡ i = cc in
    let P : Instr → Type 0 = λ j. IsTrue (is_access j) in
    none (subst P same a.access)

pub judged_other : (l : Lowered) (pc : ℕ) (i : Instr) → slice_get l.code pc ≡ Some i → IsTrue (is_other i) → Judged l pc (suc pc) None []
judged_other l pc i h t =
    record {
      access_is = clear_here l pc i h (other_no_access i t);
      calls = λ g k. absurd (
          let c = k.call.stands in
          let q : Some i ≡ Some (instr.Call c.0 c.1 g) = sym (only_here l pc k.pc i h k.low k.high) ∙ c.2 in
          let e : i ≡ instr.Call c.0 c.1 g = cc in
          other_no_call i c.0 c.1 g t e);
      called = λ g t. absurd (false≢true t);
    }

-- an access
no_call_access : (i : Instr) (to first g : ℕ) → IsTrue (is_access i) → i ≡ instr.Call to first g → ⊥
no_call_access i to first g t e = let P : Instr → Type 0 = λ j. IsTrue (is_access j) in false≢true (subst P e t)

pub judged_access : (l : Lowered) (pc : ℕ) (i : Instr) → slice_get l.code pc ≡ Some i → IsTrue (is_access i) → open_at l.code pc ≡ [] → Judged l pc (suc pc) (Some pc) []
judged_access l pc i h t none =
    record {
      access_is = record { low = omega arith; high = omega arith; access = record { instruction = i; stands = h; access = t; outside = none }; first = λ n low high. absurd (omega arith) };
      calls = λ g k. absurd (
          let c = k.call.stands in
          let q : Some i ≡ Some (instr.Call c.0 c.1 g) = sym (only_here l pc k.pc i h k.low k.high) ∙ c.2 in
          let e : i ≡ instr.Call c.0 c.1 g = cc in
          no_call_access i c.0 c.1 g t e);
      called = λ g t. absurd (false≢true t);
    }

-- a call
pub judged_call : (l : Lowered) (pc to first f : ℕ) → slice_get l.code pc ≡ Some (instr.Call to first f) → open_at l.code pc ≡ [] → Judged l pc (suc pc) None (f ∷ [])
judged_call l pc to first f h none =
    record {
      access_is = clear_here l pc (instr.Call to first f) h (λ t. false≢true t);
      calls = λ g k.
          let c = k.call.stands in
          let q : Some (instr.Call to first f) ≡ Some (instr.Call c.0 c.1 g) = sym (only_here l pc k.pc (instr.Call to first f) h k.low k.high) ∙ c.2 in
          let e : f ≡ g = cc in
          or_left (f == g) false (eq-eqb f g e);
      called = λ g t.
          let e : f ≡ g = among_alone f g t in
          let P : ℕ → Type 0 = λ n. IsCalled l Outside pc (suc pc) n in
          subst P e (record { pc = pc; low = omega arith; high = omega arith; call = record { stands = (to, first, h); depth = ap (length {A = ℕ}) none } });
    }
