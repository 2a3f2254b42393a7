-- The lowest access of a bare function outside its sections, found body by body.
use Rattle.std.proofs.Common.{◌≡◌, ℕ, ◌+◌, ◌<◌, ◌≤◌, inl, inr, length, Some, slice_get, ap, subst, sum_by, arith}
use Rattle.std.proofs.lemmas.Bool.{cases_lt}
use Rattle.std.proofs.lemmas.List.{take_all}
use Rattle.asl_code.specs.declared.image.Function as entry
use Rattle.asl_lower.specs.Lowered.{Lowered}
use Rattle.asl_lower.specs.OpenSections.{start_of, InBody, IsBare, IsBareAccess, IsFirstBareAccess}
use Rattle.asl_lower.specs.Facts.{HasLayout}
use Rattle.asl_lower.specs.Reach.{IsOutsideAccess, IsFirstOutsideAccess}

-- the body of a function, as a pc up to another
pub record Spans (l : Lowered) (number start end : ℕ) : Type 0 where
  pub body : entry.Function
  pub in_table : slice_get l.functions number ≡ Some body
  pub start_is : start ≡ start_of l.functions number
  pub end_is : end ≡ start + body.len

-- no access of a bare function outside its sections stands before the pc
abbrev pub NoneBefore : Lowered → ℕ → Type 0
NoneBefore l start = (function pc : ℕ) → IsBareAccess l function pc → start ≤ pc

span_body : (l : Lowered) (number start end pc : ℕ) → Spans l number start end → start ≤ pc → pc < end → InBody l number pc
span_body l number start end pc s low high =
    record { function = s.body; in_table = s.in_table; start = omega (arith, s.start_is, low); before_end = omega (arith, s.start_is, s.end_is, high) }

outside_of : (l : Lowered) (function pc : ℕ) → IsBareAccess l function pc → IsOutsideAccess l.code pc
outside_of l function pc a =
    record { instruction = a.instruction; stands = a.stands; access = a.access; outside = a.outside }

pub first_found : (l : Lowered) (number start end pc : ℕ) → Spans l number start end → IsBare l number → NoneBefore l start → IsFirstOutsideAccess l.code start end pc → IsFirstBareAccess l number pc
first_found l number start end pc s bare none f =
    record {
      access = record { bare = bare; inside = span_body l number start end pc s f.low f.high; instruction = f.access.instruction; stands = f.access.stands; access = f.access.access; outside = f.access.outside };
      first = λ other at a. elim (cases_lt at pc) [
        | inl before ↦ absurd (f.first at (none other at a) before (outside_of l other at a))
        | inr past ↦ past
      ];
    }

-- one body more
pub none_after : (l : Lowered) → HasLayout l → (number start end : ℕ) → Spans l number start end → ((pc : ℕ) → IsBare l number → start ≤ pc → pc < end → ¬ IsOutsideAccess l.code pc) → NoneBefore l start → NoneBefore l end
none_after l lay number start end s clear none function pc a =
    elim (cases_lt pc end) [
      | inr past ↦ past
      | inl inside ↦ (let low = none function pc a in
          let same : function ≡ number = lay.parted.one_body pc function number a.inside (span_body l number start end pc s low inside) in
          let P : ℕ → Type 0 = λ n. IsBare l n in
          absurd (clear pc (subst P same a.bare) low inside (outside_of l function pc a)))
    ]

-- all bodies
pub none_at_all : (l : Lowered) → HasLayout l → (number start : ℕ) → start ≡ start_of l.functions number → length l.functions ≤ number → NoneBefore l start → (function pc : ℕ) → ¬ IsBareAccess l function pc
none_at_all l lay number start e past none function pc a =
    let len : entry.Function → ℕ = λ f. f.len in
    let all : start_of l.functions number ≡ sum_by len l.functions = ap (sum_by len) (take_all number l.functions past) in
    omega (arith, none function pc a, e, all, lay.parted.total, lay.parted.in_code pc function a.inside)
