-- Where the body of each function lies, and what stands at each pc of a program.
use Rattle.std.proofs.Common.{◌≡◌, ℕ, suc, ◌+◌, ◌-◌, ◌<◌, ◌≤◌, inl, inr, List, [], ◌∷◌, length, Some, refl, sym, ap, ◌∙◌, subst, arith}
use Rattle.std.proofs.lemmas.Bool.{cases_lt}
use Rattle.std.proofs.lemmas.Option.{slice_get_within}
use Rattle.asl_code.specs.declared.image.Function as entry
use Rattle.asl_syntax.specs.Tree.{Function, Item, functions_of}
use Rattle.asl_lower.specs.Place.{Place, origin, past_function, past_functions}
use Rattle.asl_lower.specs.Lowered.{Lowered, IsLoweredFunction, AreLoweredFunctions, IsLowering, entry_of, end_of}
use Rattle.asl_lower.specs.OpenSections.{start_of, InBody}
use Rattle.asl_lower.proofs.Grows.{Precedes, itself, joined, by_function, by_functions}
use Rattle.asl_lower.proofs.Counts.{Counted, sum_more, function_counted}
use Rattle.asl_lower.proofs.Balance.{opened, function_balance}

-- the function of a number, with the place where its body begins
pub record Placed (is : List Item) (l : Lowered) (lo hi : Place) (number : ℕ) : Type 0 where
  pub function : Function
  pub place : Place
  pub lowered : IsLoweredFunction is l number function place
  pub start : start_of l.functions number ≡ place.pc
  pub before : Precedes lo place
  pub after : Precedes (past_function function place) hi
  pub none_open : opened l place ≡ []
  pub counted : Counted l place

-- what is known where functions from a number on begin
pub record Begins (l : Lowered) (number : ℕ) (p : Place) : Type 0 where
  pub start : start_of l.functions number ≡ p.pc
  pub none_open : opened l p ≡ []
  pub counted : Counted l p

-- the body of the next function begins where the one before ends
pub next_begins : (is : List Item) (l : Lowered) (n : ℕ) (f : Function) (p : Place) → IsLoweredFunction is l n f p → Begins l n p → Begins l (suc n) (past_function f p)
next_begins is l n f p h b =
    let g : Precedes p (past_function f p) = by_function f p in
    let e : start_of l.functions (suc n) ≡ start_of l.functions n + (entry_of f p).len = sum_more (λ (x : entry.Function). x.len) l.functions n (entry_of f p) h.in_table in
    record { start = omega (arith, g.pc, b.start); none_open = function_balance is l n f p h ∙ b.none_open; counted = function_counted is l n f p h b.counted }

-- each function of the list has its place
pub placed : (is : List Item) (l : Lowered) (n : ℕ) (fs : List Function) (p : Place) → AreLoweredFunctions is l n fs p → Begins l n p → (k : ℕ) → n ≤ k → k < n + length fs → Placed is l p (past_functions fs p) k
placed is l n [] p h b k low high = absurd (omega arith)
placed is l n (f ∷ fs) p h b k low high =
    elim (cases_lt n k) [
      | inl more ↦ (let w : Placed is l (past_function f p) (past_functions fs (past_function f p)) k = placed is l (suc n) fs (past_function f p) h.1 (next_begins is l n f p h.0 b) k more (omega arith) in
          record { function = w.function; place = w.place; lowered = w.lowered; start = w.start; before = joined (by_function f p) w.before; after = w.after; none_open = w.none_open; counted = w.counted })
      | inr less ↦ (let e : n ≡ k = omega arith in
          let P : ℕ → Type 0 = λ m. Placed is l p (past_functions fs (past_function f p)) m in
          subst P e (record { function = f; place = p; lowered = h.0; start = b.start; before = itself p; after = by_functions fs (past_function f p); none_open = b.none_open; counted = b.counted }))
    ]

-- the pc lies in the body of one of the functions
pub record Inhabits (is : List Item) (l : Lowered) (lo hi : Place) (pc : ℕ) : Type 0 where
  pub number : ℕ
  pub placed : Placed is l lo hi number
  pub low : placed.place.pc ≤ pc
  pub high : pc < (past_function placed.function placed.place).pc

pub inhabited : (is : List Item) (l : Lowered) (n : ℕ) (fs : List Function) (p : Place) → AreLoweredFunctions is l n fs p → Begins l n p → (pc : ℕ) → p.pc ≤ pc → pc < (past_functions fs p).pc → Inhabits is l p (past_functions fs p) pc
inhabited is l n [] p h b pc low high = absurd (omega arith)
inhabited is l n (f ∷ fs) p h b pc low high =
    elim (cases_lt pc (past_function f p).pc) [
      | inl inside ↦ record { number = n; placed = record { function = f; place = p; lowered = h.0; start = b.start; before = itself p; after = by_functions fs (past_function f p); none_open = b.none_open; counted = b.counted }; low = low; high = inside }
      | inr past ↦ (let w : Inhabits is l (past_function f p) (past_functions fs (past_function f p)) pc = inhabited is l (suc n) fs (past_function f p) h.1 (next_begins is l n f p h.0 b) pc past high in
          record { number = w.number; placed = record { function = w.placed.function; place = w.placed.place; lowered = w.placed.lowered; start = w.placed.start; before = joined (by_function f p) w.placed.before; after = w.placed.after; none_open = w.placed.none_open; counted = w.placed.counted }; low = w.low; high = w.high })
    ]

-- where the first function begins
pub begins : (l : Lowered) → Begins l 0 origin
begins l = record { start = refl; none_open = refl; counted = record { sites = refl; sections = refl } }

-- the functions of a program
pub number_placed : (is : List Item) (l : Lowered) → IsLowering is l → (k : ℕ) → k < length l.functions → Placed is l origin (end_of is) k
number_placed is l h k low =
    placed is l 0 (functions_of is) origin h.bodies (begins l) k (omega arith) (omega (arith, h.functions))

pub pc_inhabited : (is : List Item) (l : Lowered) → IsLowering is l → (pc : ℕ) → pc < length l.code → Inhabits is l origin (end_of is) pc
pc_inhabited is l h pc low =
    inhabited is l 0 (functions_of is) origin h.bodies (begins l) pc (omega arith) (omega (arith, h.code))

-- what a placed function's body is
pub record Body (is : List Item) (l : Lowered) (number pc : ℕ) : Type 0 where
  pub placed : Placed is l origin (end_of is) number
  pub low : placed.place.pc ≤ pc
  pub high : pc < (past_function placed.function placed.place).pc

-- of the body that a table says, the function
pub body_of : (is : List Item) (l : Lowered) → IsLowering is l → (number pc : ℕ) → InBody l number pc → Body is l number pc
body_of is l h number pc b =
    let w : Placed is l origin (end_of is) number = number_placed is l h number (slice_get_within l.functions number b.function b.in_table) in
    let g : Precedes w.place (past_function w.function w.place) = by_function w.function w.place in
    let e : Some b.function ≡ Some (entry_of w.function w.place) = sym b.in_table ∙ w.lowered.in_table in
    let f : b.function ≡ entry_of w.function w.place = cc in
    let n : b.function.len ≡ (past_function w.function w.place).pc - w.place.pc = ap (λ (x : entry.Function). x.len) f in
    record { placed = w; low = omega (arith, w.start, b.start); high = omega (arith, w.start, b.before_end, n, g.pc) }

-- and back
pub in_body : (is : List Item) (l : Lowered) (number pc : ℕ) → Body is l number pc → InBody l number pc
in_body is l number pc b =
    let w : Placed is l origin (end_of is) number = b.placed in
    let g : Precedes w.place (past_function w.function w.place) = by_function w.function w.place in
    record { function = entry_of w.function w.place; in_table = w.lowered.in_table; start = omega (arith, w.start, b.low); before_end = omega (arith, w.start, b.high, g.pc) }
