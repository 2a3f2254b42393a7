-- The sites that were found up to a pc.
use Rattle.std.proofs.Common.{◌≡◌, ℕ, zero, suc, ◌+◌, ◌<◌, Bool, true, false, List, [], ◌∷◌, ◌++◌, length, get_or, Some, slice_get, inl, inr, refl, sym, ap, ◌∙◌, subst, arith, length-append}
use Rattle.std.proofs.lemmas.Bool.{cases_lt, false≢true}
use Rattle.std.proofs.lemmas.Option.{get_or_from_slice_get}
use Rattle.std.proofs.lemmas.List.Sums.{count_by_more_no, count_by_more_yes}
use Rattle.asl_code.specs.declared.instr.Instr.{Instr}
use Rattle.asl_code.specs.declared.instr.Instr.TheVariants as instr
use Rattle.asl_lower.specs.Lowered.{Lowered}
use Rattle.asl_lower.specs.OpenSections.{is_new, sites_before}
use Rattle.asl_lower.specs.Facts.{IsNumbered}
use Rattle.asl_map.specs.declared.text_piece.Area.{Area}
use Rattle.asl_map.specs.declared.text_piece.Piece.{Piece}
use Rattle.asl_map.specs.Areas.{area_at}

pub record Found (l : Lowered) (pieces : List Piece) (pc : ℕ) (areas : List Area) : Type 0 where
  pub count : length areas ≡ sites_before l.code pc
  pub stand : (at to cells site : ℕ) → at < pc → slice_get l.code at ≡ Some (instr.New to cells site) → slice_get areas site ≡ Some (area_at l pieces at)

get_front : {A : Type 0} (xs ys : List A) (n : ℕ) (x : A) → slice_get xs n ≡ Some x → slice_get (xs ++ ys) n ≡ Some x
get_front [] ys n x e = absurd cc
get_front (y ∷ xs) ys zero x e = e
get_front (y ∷ xs) ys (suc n) x e = get_front xs ys n x e

get_last : {A : Type 0} (xs : List A) (x : A) → slice_get (xs ++ x ∷ []) (length xs) ≡ Some x
get_last [] x = refl
get_last (y ∷ xs) x = get_last xs x

pub none_found : (l : Lowered) (pieces : List Piece) → Found l pieces 0 []
none_found l pieces = record { count = refl; stand = λ at to cells site low e. absurd (omega arith) }

pub more_found : (l : Lowered) (pieces : List Piece) (pc : ℕ) (read : List Instr) (d : Instr) (b : Bool) (x : Area) (areas new : List Area) → IsNumbered l → read ≡ l.code → pc < length read
    → b ≡ is_new (get_or read pc d) → b ≡ true → x ≡ area_at l pieces pc → new ≡ areas ++ x ∷ [] → Found l pieces pc areas → Found l pieces (pc + 1) new
more_found l pieces pc read d b x areas new numbered same low is made_here here grows f =
    let there : pc < length l.code = omega (arith, low, ap length same) in
    let made : is_new (get_or l.code pc d) ≡ true = ap (λ (xs : List Instr). is_new (get_or xs pc d)) (sym same) ∙ sym is ∙ made_here in
    record {
      count = ap length grows ∙ omega (arith, length-append areas (x ∷ []), f.count, count_by_more_yes is_new l.code pc d there made);
      stand = λ at to cells site lower e.
          (let P : List Area → Type 0 = λ xs. slice_get xs site ≡ Some (area_at l pieces at) in
          subst P (sym grows) (elim (cases_lt at pc) [
            | inl before ↦ get_front areas (x ∷ []) site (area_at l pieces at) (f.stand at to cells site before e)
            | inr past ↦ (let at_pc : at ≡ pc = omega (arith, lower, past) in
                let last : length areas ≡ site = f.count ∙ ap (sites_before l.code) (sym at_pc) ∙ sym (numbered.sites at to cells site e) in
                let Q : ℕ → Type 0 = λ n. slice_get (areas ++ x ∷ []) n ≡ Some (area_at l pieces at) in
                subst Q last (get_last areas x ∙ ap Some here ∙ ap (λ (n : ℕ). Some (area_at l pieces n)) (sym at_pc)))
          ]));
    }

pub same_found : (l : Lowered) (pieces : List Piece) (pc : ℕ) (read : List Instr) (d : Instr) (b : Bool) (areas new : List Area) → read ≡ l.code → pc < length read
    → b ≡ is_new (get_or read pc d) → b ≡ false → new ≡ areas → Found l pieces pc areas → Found l pieces (pc + 1) new
same_found l pieces pc read d b areas new same low is not_made keeps f =
    let there : pc < length l.code = omega (arith, low, ap length same) in
    let none : is_new (get_or l.code pc d) ≡ false = ap (λ (xs : List Instr). is_new (get_or xs pc d)) (sym same) ∙ sym is ∙ not_made in
    record {
      count = ap length keeps ∙ f.count ∙ sym (count_by_more_no is_new l.code pc d there none);
      stand = λ at to cells site lower e.
          (let P : List Area → Type 0 = λ xs. slice_get xs site ≡ Some (area_at l pieces at) in
          subst P (sym keeps) (elim (cases_lt at pc) [
            | inl before ↦ f.stand at to cells site before e
            | inr past ↦ (let at_pc : at ≡ pc = omega (arith, lower, past) in
                let here : slice_get l.code pc ≡ Some (instr.New to cells site) = ap (slice_get l.code) (sym at_pc) ∙ e in
                absurd (false≢true (sym none ∙ ap is_new (get_or_from_slice_get l.code pc (instr.New to cells site) d here))))
          ]));
    }

-- an area by its parts
abbrev pub area : ℕ → ℕ → ℕ → Area
area f a b = record { function = f; from = a; to = b }

pub area_is : (f g a b x y : ℕ) → f ≡ g → a ≡ b → x ≡ y → area f a x ≡ area g b y
area_is f g a b x y p q r =
    ap (λ (n : ℕ). area n a x) p ∙ ap (λ (n : ℕ). area g n x) q ∙ ap (λ (n : ℕ). area g b n) r
