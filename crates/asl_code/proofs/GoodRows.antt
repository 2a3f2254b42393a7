-- Each row of the table of instructions makes of fields that it takes an instruction which the eight bytes of its op and these fields
-- spell.
use Rattle.std.proofs.Common.{◌≡◌, ℕ, zero, suc, ◌+◌, ◌<◌, ◌≤◌, ◌^◌, true, List, [], ◌∷◌, Option, Some, None, Result, Ok, Err, refl, sym, ap, subst, arith, w32, add-zero}
use Rattle.std.specs.Prelude.{slice_get, ◌==◌}
use Rattle.std.specs.Option.{option_map}
use Rattle.std.specs.Int.{cast_unsigned, cast_signed}
use Rattle.std.proofs.lemmas.Bool.{eqb-true}
use Rattle.std.proofs.lemmas.Int.{of_z-to_z}
use Rattle.std.proofs.Math.Facts.{sfits_to_z}
use Rattle.asl_code.specs.declared.instr.Instr.{Instr}
use Rattle.asl_code.specs.declared.instr.Instr.TheVariants.{SetInt, SetNull, Move, Add, Subtract, LessThan, Equals, GlobalAddress, FieldAddress, Load, Store, New, Jump, JumpIfZero, Call, Return, Output, Acquire, Release}
use Rattle.asl_code.specs.Spelling.{eight_bytes, SpellsInstr}
use Rattle.asl_code.specs.Reading.{Row, rows, row_of, fields_of, takes, bad_field, unless_bad, instr_of_some, made_by}

abbrev pub refused : ℕ → Result Instr ℕ
refused place = Err place

abbrev pub accepted : Instr → Result Instr ℕ
accepted i = Ok i

-- what the code makes of a row that takes the fields
pub made_is : (row : Option Row) (used greatest a b c d : ℕ) (made : Instr) → Some (used, greatest) ≡ option_map fields_of row → None ≡ bad_field used greatest a b c d → made_by row a b c d ≡ Some made → accepted made ≡ instr_of_some row a b c d
made_is None used greatest a b c d made e f g = absurd cc
made_is (Some r) used greatest a b c d made e f g =
    let pair : (used, greatest) ≡ fields_of r = cc in
    let u : used ≡ r.used = ap (λ (p : ℕ × ℕ). p.0) pair in
    let v : greatest ≡ r.greatest = ap (λ (p : ℕ × ℕ). p.1) pair in
    let h : None ≡ bad_field r.used r.greatest a b c d = subst (λ (n : ℕ). None ≡ bad_field n r.greatest a b c d) u (subst (λ (n : ℕ). None ≡ bad_field used n a b c d) v f) in
    let m : made ≡ r.made a b c d = cc in
    subst (λ (o : Option ℕ). accepted made ≡ unless_bad o (r.made a b c d)) h (ap accepted m)

-- the fields fit their bytes
pub record AreFields (op a b c d : ℕ) : Type 0 where
  pub op_fits : op < 256
  pub a_fits : a < 256
  pub b_fits : b < 256
  pub c_fits : c < 256
  pub d_fits : d < 2 ^ 32

-- a row takes the fields
pub record Takes (r : Row) (a b c d : ℕ) : Type 0 where
  pub first : takes r.used 0 a ≡ true
  pub second : takes r.used 1 b ≡ true
  pub third : takes r.used 2 c ≡ true
  pub last : d ≤ r.greatest

-- the row of this op makes of the fields that it takes an instruction that they spell
abbrev IsGoodRow : ℕ → Row → Type 0
IsGoodRow op r = (a b c d : ℕ) → a < 256 → b < 256 → c < 256 → d < 2 ^ 32 → Takes r a b c d → SpellsInstr (r.made a b c d) (eight_bytes op a b c d)

-- all rows from this op on
abbrev AreGoodRows : ℕ → List Row → Type 0
AreGoodRows op [] = Unit {0}
AreGoodRows op (r ∷ rs) = IsGoodRow op r × AreGoodRows (suc op) rs

-- the eight bytes of the same fields are the same
same_fields : (op a b c d a' b' c' d' : ℕ) → a ≡ a' → b ≡ b' → c ≡ c' → d ≡ d' → eight_bytes op a b c d ≡ eight_bytes op a' b' c' d'
same_fields op a b c d a' b' c' d' p q r s = cc

-- a field that is not used holds 0
unused : (n : ℕ) → (n == 0) ≡ true → n ≡ 0
unused n e = eqb-true n 0 e

none : (d : ℕ) → d ≤ 0 → d ≡ 0
none d le = omega arith

-- the rows of the table, one by one
row_1 : IsGoodRow 1 (record { used = 1; greatest = 4294967295; made = λ a b c d. SetInt a (cast_signed w32 d) })
row_1 a b c d fa fb fc fd t = record { fits = (fa, (sfits_to_z (record { fits = fd }), tt)); spelled = same_fields 1 a b c d a 0 0 (cast_unsigned w32 (cast_signed w32 d)) refl (unused b t.second) (unused c t.third) (sym (of_z-to_z w32 d fd)) }

row_2 : IsGoodRow 2 (record { used = 1; greatest = 0; made = λ a b c d. SetNull a })
row_2 a b c d fa fb fc fd t = record { fits = (fa, tt); spelled = same_fields 2 a b c d a 0 0 0 refl (unused b t.second) (unused c t.third) (none d t.last) }

row_3 : IsGoodRow 3 (record { used = 2; greatest = 0; made = λ a b c d. Move a b })
row_3 a b c d fa fb fc fd t = record { fits = (fa, (fb, tt)); spelled = same_fields 3 a b c d a b 0 0 refl refl (unused c t.third) (none d t.last) }

row_4 : IsGoodRow 4 (record { used = 3; greatest = 0; made = λ a b c d. Add a b c })
row_4 a b c d fa fb fc fd t = record { fits = (fa, (fb, (fc, tt))); spelled = same_fields 4 a b c d a b c 0 refl refl refl (none d t.last) }

row_5 : IsGoodRow 5 (record { used = 3; greatest = 0; made = λ a b c d. Subtract a b c })
row_5 a b c d fa fb fc fd t = record { fits = (fa, (fb, (fc, tt))); spelled = same_fields 5 a b c d a b c 0 refl refl refl (none d t.last) }

row_6 : IsGoodRow 6 (record { used = 3; greatest = 0; made = λ a b c d. LessThan a b c })
row_6 a b c d fa fb fc fd t = record { fits = (fa, (fb, (fc, tt))); spelled = same_fields 6 a b c d a b c 0 refl refl refl (none d t.last) }

row_7 : IsGoodRow 7 (record { used = 3; greatest = 0; made = λ a b c d. Equals a b c })
row_7 a b c d fa fb fc fd t = record { fits = (fa, (fb, (fc, tt))); spelled = same_fields 7 a b c d a b c 0 refl refl refl (none d t.last) }

row_8 : IsGoodRow 8 (record { used = 1; greatest = 65535; made = λ a b c d. GlobalAddress a d })
row_8 a b c d fa fb fc fd t = record { fits = (fa, (omega (arith, t.last), tt)); spelled = same_fields 8 a b c d a 0 0 d refl (unused b t.second) (unused c t.third) refl }

row_9 : IsGoodRow 9 (record { used = 2; greatest = 255; made = λ a b c d. FieldAddress a b d })
row_9 a b c d fa fb fc fd t = record { fits = (fa, (fb, (omega (arith, t.last), tt))); spelled = same_fields 9 a b c d a b 0 d refl refl (unused c t.third) refl }

row_10 : IsGoodRow 10 (record { used = 2; greatest = 0; made = λ a b c d. Load a b })
row_10 a b c d fa fb fc fd t = record { fits = (fa, (fb, tt)); spelled = same_fields 10 a b c d a b 0 0 refl refl (unused c t.third) (none d t.last) }

row_11 : IsGoodRow 11 (record { used = 2; greatest = 0; made = λ a b c d. Store a b })
row_11 a b c d fa fb fc fd t = record { fits = (fa, (fb, tt)); spelled = same_fields 11 a b c d a b 0 0 refl refl (unused c t.third) (none d t.last) }

row_12 : IsGoodRow 12 (record { used = 2; greatest = 65535; made = λ a b c d. New a b d })
row_12 a b c d fa fb fc fd t = record { fits = (fa, (fb, (omega (arith, t.last), tt))); spelled = same_fields 12 a b c d a b 0 d refl refl (unused c t.third) refl }

row_13 : IsGoodRow 13 (record { used = 0; greatest = 65535; made = λ a b c d. Jump d })
row_13 a b c d fa fb fc fd t = record { fits = (omega (arith, t.last), tt); spelled = same_fields 13 a b c d 0 0 0 d (unused a t.first) (unused b t.second) (unused c t.third) refl }

row_14 : IsGoodRow 14 (record { used = 1; greatest = 65535; made = λ a b c d. JumpIfZero a d })
row_14 a b c d fa fb fc fd t = record { fits = (fa, (omega (arith, t.last), tt)); spelled = same_fields 14 a b c d a 0 0 d refl (unused b t.second) (unused c t.third) refl }

row_15 : IsGoodRow 15 (record { used = 2; greatest = 65535; made = λ a b c d. Call a b d })
row_15 a b c d fa fb fc fd t = record { fits = (fa, ((fb, omega (arith, t.last)), tt)); spelled = same_fields 15 a b c d a b 0 d refl refl (unused c t.third) refl }

row_16 : IsGoodRow 16 (record { used = 1; greatest = 0; made = λ a b c d. Return a })
row_16 a b c d fa fb fc fd t = record { fits = (fa, tt); spelled = same_fields 16 a b c d a 0 0 0 refl (unused b t.second) (unused c t.third) (none d t.last) }

row_17 : IsGoodRow 17 (record { used = 1; greatest = 0; made = λ a b c d. Output a })
row_17 a b c d fa fb fc fd t = record { fits = (fa, tt); spelled = same_fields 17 a b c d a 0 0 0 refl (unused b t.second) (unused c t.third) (none d t.last) }

row_18 : IsGoodRow 18 (record { used = 0; greatest = 65535; made = λ a b c d. Acquire d })
row_18 a b c d fa fb fc fd t = record { fits = (omega (arith, t.last), tt); spelled = same_fields 18 a b c d 0 0 0 d (unused a t.first) (unused b t.second) (unused c t.third) refl }

row_19 : IsGoodRow 19 (record { used = 0; greatest = 0; made = λ a b c d. Release })
row_19 a b c d fa fb fc fd t = record { fits = tt; spelled = same_fields 19 a b c d 0 0 0 0 (unused a t.first) (unused b t.second) (unused c t.third) (none d t.last) }

good_rows : AreGoodRows 1 rows
good_rows = (row_1, (row_2, (row_3, (row_4, (row_5, (row_6, (row_7, (row_8, (row_9, (row_10, (row_11, (row_12, (row_13, (row_14, (row_15, (row_16, (row_17, (row_18, (row_19, tt)))))))))))))))))))

good_row_from : (op n : ℕ) (rs : List Row) (r : Row) → AreGoodRows op rs → slice_get rs n ≡ Some r → IsGoodRow (op + n) r
good_row_from op n [] r good e = absurd cc
good_row_from op zero (s ∷ rs) r good e = let same : s ≡ r = cc in rw add-zero (subst (IsGoodRow op) same good.0)
good_row_from op (suc n) (s ∷ rs) r good e = let k : suc op + n ≡ op + suc n = omega arith in subst (λ (m : ℕ). IsGoodRow m r) k (good_row_from (suc op) n rs r good.1 e)

pub good_row : (op : ℕ) (r : Row) → row_of op ≡ Some r → IsGoodRow op r
good_row zero r e = absurd cc
good_row (suc n) r e = let k : 1 + n ≡ suc n = omega arith in subst (λ (m : ℕ). IsGoodRow m r) k (good_row_from 1 n rows r good_rows e)
