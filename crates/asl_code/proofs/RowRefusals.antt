-- A row takes the fields, or refuses them at the first that it does not take. So what is read is spelled by the bytes, and a refusal
-- names the first bad field.
use Rattle.std.proofs.Common.{◌≡◌, ℕ, ◌<◌, ◌≤◌, Bool, true, false, ltb, [], ◌∷◌, take, Option, Some, None, Result, Ok, Err, refl, sym, ap, subst, ◌∙◌, arith, lit<, lit≤}
use Rattle.std.proofs.lemmas.Bool.{ltb-false, ltb-true}
use Rattle.std.proofs.Math.Bool.{or-true}
use Rattle.asl_code.specs.declared.instr.Instr.{Instr}
use Rattle.asl_code.specs.declared.instr.Instr.TheVariants.{Release}
use Rattle.asl_code.specs.Spelling.{eight_bytes, instr_bytes, IsInstr, SpellsInstr, IsFirstBadField}
use Rattle.asl_code.specs.Reading.{Row, row_of, takes, instr_of_row, instr_of_some, instr_of_fields}
use Rattle.asl_code.proofs.GoodRows.{refused, accepted, AreFields, Takes, good_row}
use Rattle.asl_code.proofs.RowReadings.{Read, read_of, d_from_bytes, d_part}

-- a row takes the fields, or refuses them at the first that it does not take
data Judged (r : Row) (a b c d : ℕ) (answer : Result Instr ℕ) : Type 0 where
  all_taken : Takes r a b c d → answer ≡ Ok (r.made a b c d) → Judged r a b c d answer
  first_refused : takes r.used 0 a ≡ false → answer ≡ Err 1 → Judged r a b c d answer
  second_refused : takes r.used 0 a ≡ true → takes r.used 1 b ≡ false → answer ≡ Err 2 → Judged r a b c d answer
  third_refused : takes r.used 0 a ≡ true → takes r.used 1 b ≡ true → takes r.used 2 c ≡ false → answer ≡ Err 3 → Judged r a b c d answer
  last_refused : takes r.used 0 a ≡ true → takes r.used 1 b ≡ true → takes r.used 2 c ≡ true → r.greatest < d → answer ≡ Err 4 → Judged r a b c d answer

-- by what the tests of the fields answer
judged_by : (r : Row) (a b c d : ℕ) (p q s t : Bool) → takes r.used 0 a ≡ p → takes r.used 1 b ≡ q → takes r.used 2 c ≡ s → ltb r.greatest d ≡ t → Judged r a b c d (instr_of_row r a b c d)
judged_by r a b c d false q s t e f g h = first_refused e (rw e refl)
judged_by r a b c d true false s t e f g h = second_refused e f (rw (e, f) refl)
judged_by r a b c d true true false t e f g h = third_refused e f g (rw (e, f, g) refl)
judged_by r a b c d true true true true e f g h = last_refused e f g (ltb-true r.greatest d h) (rw (e, f, g, h) refl)
judged_by r a b c d true true true false e f g h = all_taken (record { first = e; second = f; third = g; last = ltb-false r.greatest d h }) (rw (e, f, g, h) refl)

judged : (r : Row) (a b c d : ℕ) → Judged r a b c d (instr_of_row r a b c d)
judged r a b c d = judged_by r a b c d _ _ _ _ refl refl refl refl

-- 0 is taken as any field
zero_taken : (used index : ℕ) → takes used index 0 ≡ true
zero_taken used index = or-true (ltb index used)

-- what an instruction shows whose first bytes these are
row_is : (i : Instr) (q : Read i) (op : ℕ) (row : Row) → q.op ≡ op → row_of op ≡ Some row → q.row ≡ row
row_is i q op row o e = let there : row_of op ≡ Some q.row = rw o at q.is_there in let both : Some q.row ≡ Some row = sym there ∙ e in cc

-- what a row answers, if there is one, and the row of the op
found_in_row : (op : ℕ) (r : Row) (a b c d : ℕ) (i : Instr) → AreFields op a b c d → row_of op ≡ Some r → instr_of_row r a b c d ≡ Ok i → Judged r a b c d (instr_of_row r a b c d) → SpellsInstr i (eight_bytes op a b c d)
found_in_row op r a b c d i fields there e (all_taken t f) =
    let same : r.made a b c d ≡ i = let both : accepted (r.made a b c d) ≡ accepted i = sym f ∙ e in cc in
    subst (λ (j : Instr). SpellsInstr j (eight_bytes op a b c d)) same (good_row op r there a b c d fields.a_fits fields.b_fits fields.c_fits fields.d_fits t)
found_in_row op r a b c d i fields there e (first_refused t f) = absurd cc
found_in_row op r a b c d i fields there e (second_refused t u f) = absurd cc
found_in_row op r a b c d i fields there e (third_refused t u v f) = absurd cc
found_in_row op r a b c d i fields there e (last_refused t u v w f) = absurd cc

found_in_some : (op : ℕ) (o : Option Row) (a b c d : ℕ) (i : Instr) → AreFields op a b c d → row_of op ≡ o → instr_of_some o a b c d ≡ Ok i → SpellsInstr i (eight_bytes op a b c d)
found_in_some op None a b c d i fields there e = absurd cc
found_in_some op (Some r) a b c d i fields there e = found_in_row op r a b c d i fields there e (judged r a b c d)

-- what is read is spelled so
pub instr_found : (i : Instr) (op a b c d : ℕ) → AreFields op a b c d → instr_of_fields op a b c d ≡ Ok i → SpellsInstr i (eight_bytes op a b c d)
instr_found i op a b c d fields e = found_in_some op (row_of op) a b c d i fields refl e

-- an instruction of the op and of these fields, which the row takes
made_with : (op : ℕ) (r : Row) (a b c d : ℕ) → AreFields op a b c d → row_of op ≡ Some r → Takes r a b c d → IsInstr (r.made a b c d) × (instr_bytes (r.made a b c d) ≡ eight_bytes op a b c d)
made_with op r a b c d fields there t =
    let s = good_row op r there a b c d fields.a_fits fields.b_fits fields.c_fits fields.d_fits t in
    (s.fits, sym s.spelled)

-- the same of a refusal
refused_in_row : (op : ℕ) (r : Row) (a b c d place : ℕ) → AreFields op a b c d → row_of op ≡ Some r → instr_of_row r a b c d ≡ Err place → Judged r a b c d (instr_of_row r a b c d) → IsFirstBadField (eight_bytes op a b c d) place
refused_in_row op r a b c d place fields there e (all_taken t f) = absurd cc
refused_in_row op r a b c d place fields there e (first_refused t f) =
    let at : place ≡ 1 = let both : refused place ≡ refused 1 = sym e ∙ f in cc in
    let m = made_with op r 0 0 0 0 (record { op_fits = fields.op_fits; a_fits = lit< tt; b_fits = lit< tt; c_fits = lit< tt; d_fits = lit< tt }) there (record { first = zero_taken r.used 0; second = zero_taken r.used 1; third = zero_taken r.used 2; last = omega arith }) in
    rw at (record {
      is_field = lit≤ tt;
      before = (r.made 0 0 0 0, m.0, ap (take 1) m.1);
      here = λ i fits same.
          let q = read_of i fits in
          let shown : take 2 (eight_bytes q.op q.a q.b q.c q.d) ≡ op ∷ a ∷ [] = sym (ap (take 2) q.bytes) ∙ same in
          let o : q.op ≡ op = cc in
          let pa : q.a ≡ a = cc in
          let w = row_is i q op r o there in
          let taken : takes r.used 0 a ≡ true = rw (← w, ← pa) q.taken.first in
          absurd cc;
    })
refused_in_row op r a b c d place fields there e (second_refused t u f) =
    let at : place ≡ 2 = let both : refused place ≡ refused 2 = sym e ∙ f in cc in
    let m = made_with op r a 0 0 0 (record { op_fits = fields.op_fits; a_fits = fields.a_fits; b_fits = lit< tt; c_fits = lit< tt; d_fits = lit< tt }) there (record { first = t; second = zero_taken r.used 1; third = zero_taken r.used 2; last = omega arith }) in
    rw at (record {
      is_field = lit≤ tt;
      before = (r.made a 0 0 0, m.0, ap (take 2) m.1);
      here = λ i fits same.
          let q = read_of i fits in
          let shown : take 3 (eight_bytes q.op q.a q.b q.c q.d) ≡ op ∷ a ∷ b ∷ [] = sym (ap (take 3) q.bytes) ∙ same in
          let o : q.op ≡ op = cc in
          let pb : q.b ≡ b = cc in
          let w' = row_is i q op r o there in
          let taken : takes r.used 1 b ≡ true = rw (← w', ← pb) q.taken.second in
          absurd cc;
    })
refused_in_row op r a b c d place fields there e (third_refused t u v f) =
    let at : place ≡ 3 = let both : refused place ≡ refused 3 = sym e ∙ f in cc in
    let m = made_with op r a b 0 0 (record { op_fits = fields.op_fits; a_fits = fields.a_fits; b_fits = fields.b_fits; c_fits = lit< tt; d_fits = lit< tt }) there (record { first = t; second = u; third = zero_taken r.used 2; last = omega arith }) in
    rw at (record {
      is_field = lit≤ tt;
      before = (r.made a b 0 0, m.0, ap (take 3) m.1);
      here = λ i fits same.
          let q = read_of i fits in
          let shown : take 4 (eight_bytes q.op q.a q.b q.c q.d) ≡ op ∷ a ∷ b ∷ c ∷ [] = sym (ap (take 4) q.bytes) ∙ same in
          let o : q.op ≡ op = cc in
          let pc : q.c ≡ c = cc in
          let w' = row_is i q op r o there in
          let taken : takes r.used 2 c ≡ true = rw (← w', ← pc) q.taken.third in
          absurd cc;
    })
refused_in_row op r a b c d place fields there e (last_refused t u v w f) =
    let at : place ≡ 4 = let both : refused place ≡ refused 4 = sym e ∙ f in cc in
    let m = made_with op r a b c 0 (record { op_fits = fields.op_fits; a_fits = fields.a_fits; b_fits = fields.b_fits; c_fits = fields.c_fits; d_fits = lit< tt }) there (record { first = t; second = u; third = v; last = omega arith }) in
    rw at (record {
      is_field = lit≤ tt;
      before = (r.made a b c 0, m.0, ap (take 4) m.1);
      here = λ i fits same.
          let q = read_of i fits in
          let shown : eight_bytes q.op q.a q.b q.c q.d ≡ eight_bytes op a b c d = sym (ap (take 8) q.bytes) ∙ same in
          let o : q.op ≡ op = cc in
          let pd : q.d ≡ d = d_from_bytes q.d d q.fields.d_fits fields.d_fits (d_part q.op q.a q.b q.c q.d op a b c d shown) in
          let w' = row_is i q op r o there in
          let low : d ≤ r.greatest = rw (← w', ← pd) q.taken.last in
          absurd (omega arith);
    })

refused_in_some : (op : ℕ) (o : Option Row) (a b c d place : ℕ) → AreFields op a b c d → row_of op ≡ o → instr_of_some o a b c d ≡ Err place → IsFirstBadField (eight_bytes op a b c d) place
refused_in_some op None a b c d place fields there e =
    let at : place ≡ 0 = let both : refused place ≡ refused 0 = sym e in cc in
    rw at (record {
      is_field = lit≤ tt;
      before = (Release, tt, refl);
      here = λ i fits same.
          let q = read_of i fits in
          let shown : take 1 (eight_bytes q.op q.a q.b q.c q.d) ≡ op ∷ [] = sym (ap (take 1) q.bytes) ∙ same in
          let o : q.op ≡ op = cc in
          let is_there : row_of op ≡ Some q.row = rw (← o) q.is_there in
          absurd cc;
    })
refused_in_some op (Some r) a b c d place fields there e = refused_in_row op r a b c d place fields there e (judged r a b c d)

-- a refusal names the first bad field
pub instr_refused : (op a b c d place : ℕ) → AreFields op a b c d → instr_of_fields op a b c d ≡ Err place → IsFirstBadField (eight_bytes op a b c d) place
instr_refused op a b c d place fields e = refused_in_some op (row_of op) a b c d place fields refl e
